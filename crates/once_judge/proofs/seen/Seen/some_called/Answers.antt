-- One of the two that are looked at first was woken.
use Rattle.std.proofs.Common.{refl}
use Rattle.once_judge.proofs.seen.Seen.some_called.Goals as goal

pub returns-then-was_called : goal.returns-then-was_called
returns-then-was_called c = (λ e. (c.args.likely, c.was_called.ensures.0 c.if-was_called.true), λ w. refl)

pub returns-then-was_called-2 : goal.returns-then-was_called-2
returns-then-was_called-2 c = (λ e. (c.args.self.now.called, c.was_called-2.ensures.0 c.if-was_called-2.true), λ w. refl)
