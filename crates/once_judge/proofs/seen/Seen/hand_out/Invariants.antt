-- The wakers so far are handed out.
use Rattle.std.proofs.Common.{◌≡◌, ◌-◌, ℕ, cond, take}
use Rattle.once_machine.specs.Numbers.{member, times_in}
use Rattle.once_judge.specs.Shown.{count_at}
use Rattle.once_judge.proofs.seen.Seen.hand_out.Given as goal

abbrev pub invariant-loop-waker : goal.invariant-loop-waker
invariant-loop-waker l =
    ((w : ℕ) → count_at l.self.times w ≡ count_at l.initial.self.times w - times_in w (take l.waker-index l.wakers))
    × ((w : ℕ) → count_at l.self.tasks.handed w ≡ cond (member w (take l.waker-index l.wakers)) l.number (count_at l.initial.self.tasks.handed w))
    × (l.self.tasks.all ≡ l.initial.self.tasks.all)
    × (l.self ≡ record l.initial.self { times = l.self.times; tasks = l.self.tasks; called = l.self.called })
