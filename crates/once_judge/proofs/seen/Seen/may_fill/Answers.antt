-- The reason is true of each entry that hands these out.
use Rattle.std.proofs.Common.{refl}
use Rattle.once_machine.specs.Record.{Fill}
use Rattle.once_judge.proofs.seen.Seen.may_fill.Goals as goal

pub returns-clause-reason : goal.returns-clause-reason
returns-clause-reason c = c.hands_out.ensures.reason (Fill c.args.t c.args.v c.args.wakers.now) refl
