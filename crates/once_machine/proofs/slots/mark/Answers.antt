-- Only the mark of the number changes.
use Rattle.std.proofs.Common.{◌≡◌, ◌++◌, ◌∷◌, [], true, length, arith}
use Rattle.once_machine.proofs.Listing.Marked.{marked_set, marked_push}
use Rattle.once_machine.proofs.slots.mark.Goals as goal

pub returns-in-Some : goal.returns-in-Some
returns-in-Some c = λ n. marked_set n c.args.number true c.args.marks.now.items (grind arith)

pub returns-in-None : goal.returns-in-None
returns-in-None c = λ n.
    let bs = c.args.marks.now.items in
    let pushed : c.push.new.self.items ≡ bs ++ true ∷ [] = grind arith in
    let end : c.args.number ≡ length bs = grind arith in
    rw (pushed, end) (marked_push n true bs)
