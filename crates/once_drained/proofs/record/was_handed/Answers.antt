-- One more entry, and the wakers that it hands out.
use Rattle.std.proofs.Common.{◌≡◌, ◌∷◌, ◌+◌, false, cond, sym, ap, ◌∙◌, arith, take}
use Rattle.std.specs.Prelude.{◌||◌}
use Rattle.std.proofs.lemmas.Grind.{common_steps}
use Rattle.once_machine.specs.Numbers.{member}
use Rattle.once_machine.specs.Record.{handed_by}
use Rattle.once_machine.specs.Shown.{entry_of, history_in}
use Rattle.once_machine.specs.Wakers.{is_end_of}
use Rattle.once_drained.proofs.Records.{handed_more}
use Rattle.once_drained.proofs.record.was_handed.Goals as goal

pub loop-entry-preserved : goal.loop-entry-preserved
loop-entry-preserved c =
    let before = history_in (take c.loop-entry.entry-index c.args.entries.now) in
    let e = entry_of c.entry-item.result in
    let same : history_in (take (c.loop-entry.entry-index + 1) c.args.entries.now) ≡ e ∷ before = grind (arith, common_steps, c.entry-item.is) in
    rw same (c.handed_after-handed.ensures ∙ ap (λ b. cond (is_end_of c.args.task e) false (b || member c.args.waker (handed_by e))) c.loop-entry.invariant
    ∙ sym (handed_more c.args.waker c.args.task e before))
