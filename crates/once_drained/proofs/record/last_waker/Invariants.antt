-- The waker is that of the task's last poll so far.
use Rattle.std.proofs.Common.{◌≡◌, take}
use Rattle.once_machine.specs.Record.{Kind}
use Rattle.once_machine.specs.Shown.{history_in}
use Rattle.once_machine.specs.Tasks.{last_call}
use Rattle.once_drained.proofs.record.last_waker.Given as goal

abbrev pub invariant-loop-entry : goal.invariant-loop-entry
invariant-loop-entry l = (kind : Kind) → l.waker ≡ (last_call kind l.task (history_in (take l.entry-index l.entries))).waker
