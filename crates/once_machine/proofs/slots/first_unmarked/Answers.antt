-- A number at which the search goes on has a mark.
use Rattle.std.proofs.Common.{false, ◌∙◌, arith, ⊎_elim}
use Rattle.std.proofs.lemmas.Bool.{cases_eq}
use Rattle.once_machine.proofs.Listing.Marked.{marked_at, marked_past}
use Rattle.once_machine.proofs.slots.first_unmarked.Goals as goal

pub loop-free-preserved : goal.loop-free-preserved
loop-free-preserved c = λ n l.
    let i = c.loop-free.free in
    let marked = marked_at i c.args.marks.now false (omega arith) ∙ c.if-marks-free.true in
    ⊎_elim (λ e. rw e marked) (λ e. c.loop-free.invariant n (omega arith)) (cases_eq n i)

pub returns-else-marks-free-clause-first : goal.returns-else-marks-free-clause-first
returns-else-marks-free-clause-first c = marked_at c.loop-free.free c.args.marks.now false (omega arith) ∙ c.if-marks-free.false

pub returns-after-loop-free-clause-first : goal.returns-after-loop-free-clause-first
returns-after-loop-free-clause-first c = marked_past c.loop-free.free c.args.marks.now (omega arith)
