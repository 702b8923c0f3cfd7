-- A waker is found by its number.
use Rattle.std.proofs.Common.{ap, ◌∙◌}
use Rattle.once_machine.specs.Numbers.{member}
use Rattle.once_drained.proofs.Records.{any_member}
use Rattle.once_drained.proofs.record.hands_out.Goals as goal

pub returns : goal.returns
returns c = c.contains.ensures.value ∙ any_member c.args.waker c.handed_by.result.now ∙ ap (member c.args.waker) c.handed_by.ensures
