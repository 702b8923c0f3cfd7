use Rattle.std.proofs.Common.{refl, sym, ◌∙◌}
use Rattle.once_machine.proofs.History.Cells.{same_holder}
use Rattle.once_machine.proofs.Law.Rights.{holding_holds, one_holder, runner_holds}
use Rattle.once_machine.proofs.laws.one_task_holds.Goals as goal

pub returns : goal.returns
returns c = record {
  holder = λ kind t u h a b. same_holder t u (sym a ∙ b);
  rests = holding_holds;
  claims = λ kind limit t h r. (r.0.0, refl);
  one = one_holder;
  runner = runner_holds;
}
