-- The record so far is a run.
use Rattle.std.proofs.Common.{◌≡◌, sym, ap, subst, rules}
use Rattle.once_machine.specs.Run.{IsRun}
use Rattle.once_machine.specs.Shown.{history_in}
use Rattle.once_machine.proofs.Input.Headline.{every_run}
use Rattle.once_script.proofs.world.play.World.entries.Goals as goal

pub returns-clause-run : goal.returns-clause-run
returns-clause-run c = λ kind limit inputs a.
    let same : c.deref.result.now ≡ c.args.self.now.entries.items = search rules in
    let run = subst (IsRun kind limit) (sym (ap (λ w. w.history) a.world)) (every_run kind limit inputs a.some) in
    subst (λ entries. IsRun kind limit (history_in entries)) (sym same) run
