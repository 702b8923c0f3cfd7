-- The wakers so far are distinct and open, and stand among those seen.
use Rattle.std.proofs.Common.{◌≡◌, ◌<◌, ℕ, true, take, nat_cmp}
use Rattle.std.specs.BTreeSet.{contains}
use Rattle.once_machine.specs.Numbers.{member, is_distinct}
use Rattle.once_judge.specs.Shown.{seen_of}
use Rattle.once_judge.proofs.seen.Seen.hands_out.Given as goal

abbrev pub invariant-loop-waker : goal.invariant-loop-waker
invariant-loop-waker l =
    ((q : ℕ) → contains nat_cmp l.among q ≡ member q (take l.waker-index l.wakers))
    × (is_distinct (take l.waker-index l.wakers) ≡ true)
    × ((q : ℕ) → member q (take l.waker-index l.wakers) ≡ true → 0 < (seen_of l.self).times q)
