-- Only the mark of the number changes.
use Rattle.std.proofs.Common.{arith, false}
use Rattle.once_machine.proofs.Listing.Marked.{marked_set, unmarked}
use Rattle.once_machine.proofs.slots.unmark.Goals as goal

pub returns-in-Some-clause-marks : goal.returns-in-Some-clause-marks
returns-in-Some-clause-marks c = λ n. marked_set n c.args.number false c.args.marks.now.items (grind arith)

pub returns-in_default-clause-marks : goal.returns-in_default-clause-marks
returns-in_default-clause-marks c = λ n. unmarked n c.args.number c.args.marks.now.items (grind arith)
