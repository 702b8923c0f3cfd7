-- Each task that was made so far is in the list.
use Rattle.std.proofs.Common.{◌≡◌, ℕ, false, take}
use Rattle.once_machine.specs.Numbers.{member}
use Rattle.once_machine.specs.Record.{made_in}
use Rattle.once_machine.specs.Shown.{history_in}
use Rattle.once_drained.proofs.record.made.Given as goal

abbrev pub invariant-loop-entry : goal.invariant-loop-entry
invariant-loop-entry l = (t : ℕ) → member t l.tasks.items ≡ false → member t (made_in (history_in (take l.entry-index l.entries))) ≡ false
