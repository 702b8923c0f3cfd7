-- No listing before has a waker.
use Rattle.std.proofs.Common.{◌≡◌, ◌<◌, ◌≤◌, ◌-◌, ℕ, false, vec_len, HoldsAt}
use Rattle.once_machine.specs.Kept.{is_open}
use Rattle.once_machine.proofs.slots.Slots.first_open.Given as goal

abbrev pub invariant-loop-first : goal.invariant-loop-first
invariant-loop-first g l = (l.first ≤ vec_len l.self.slots) × ((n : ℕ) → n < l.first → HoldsAt (λ x. is_open x ≡ false) l.self.slots.items n)

abbrev pub decreases-loop-first : goal.decreases-loop-first
decreases-loop-first g l = vec_len l.self.slots - l.first
