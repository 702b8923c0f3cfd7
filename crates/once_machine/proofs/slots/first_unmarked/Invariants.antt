-- Each number before has a mark.
use Rattle.std.proofs.Common.{◌≡◌, ◌<◌, ◌-◌, ℕ, true, length}
use Rattle.once_machine.specs.Marks.{is_marked}
use Rattle.once_machine.proofs.slots.first_unmarked.Given as goal

abbrev pub invariant-loop-free : goal.invariant-loop-free
invariant-loop-free l = (n : ℕ) → n < l.free → is_marked n l.marks ≡ true

abbrev pub decreases-loop-free : goal.decreases-loop-free
decreases-loop-free l = length l.marks - l.free
