-- Whether the waker was handed out is known of the entries so far.
use Rattle.std.proofs.Common.{◌≡◌, take}
use Rattle.once_machine.specs.Numbers.{member}
use Rattle.once_machine.specs.Shown.{history_in}
use Rattle.once_machine.specs.Wakers.{handed_since}
use Rattle.once_drained.proofs.record.was_handed.Given as goal

abbrev pub invariant-loop-entry : goal.invariant-loop-entry
invariant-loop-entry l = l.handed ≡ member l.waker (handed_since l.task (history_in (take l.entry-index l.entries)))
