-- The reason is true of each entry that hands these out.
use Rattle.std.proofs.Common.{refl}
use Rattle.once_machine.specs.Record.{Free}
use Rattle.once_judge.proofs.seen.Seen.may_free.Goals as goal

pub returns-in-All-clause-reason : goal.returns-in-All-clause-reason
returns-in-All-clause-reason c = c.hands_out.ensures.reason (Free c.args.t c.args.wakers.now) refl
