-- One more entry, and the task that it makes.
use Rattle.std.proofs.Common.{◌≡◌, ◌∷◌, ◌+◌, arith, take}
use Rattle.std.proofs.lemmas.Grind.{common_steps}
use Rattle.once_machine.specs.Shown.{entry_of, history_in}
use Rattle.once_drained.proofs.record.made.Goals as goal

pub loop-entry-preserved : goal.loop-entry-preserved
loop-entry-preserved c =
    let before = history_in (take c.loop-entry.entry-index c.args.entries.now) in
    let same : history_in (take (c.loop-entry.entry-index + 1) c.args.entries.now) ≡ entry_of c.entry-item.result ∷ before = grind (arith, common_steps, c.entry-item.is) in
    rw same (λ t m. c.in_ok-push_made.ensures t before (c.loop-entry.invariant t) m)
