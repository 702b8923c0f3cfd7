use Rattle.std.proofs.Common.{◌≡◌, ap, sym, ◌∙◌, ◌++◌}
use Rattle.pagebook_uses.specs.Tickets.{numbers_in}
use Rattle.pagebook_uses.proofs.Draw.Steps.{compares, apart_as}
use Rattle.pagebook_uses.proofs.tickets.compare.Goals as goal

-- the first hand's pen comes before the other's
pub note-requires-clause-notes : goal.note-requires-clause-notes
note-requires-clause-notes c =
    let first = c.first in
    let one = first.invariant.1 in
    let two = c.second.invariant.1 in
    compares first.inside.seen.log c.append.new.self.held one.0 two.0 one.1 two.1
    (sym (c.append.ensures.own.1 ∙ λ j. one.2 j ++ two.2 j))

pub returns : goal.returns
returns c =
    let one = c.first.invariant.1 in
    let two = c.second.invariant.1 in
    let mine : c.args.first.1 ≡ one.1.numbers = sym (ap (λ v. v.1) c.first.view_is) ∙ ap numbers_in one.2 in
    let others : c.args.second.1 ≡ two.1.numbers = sym (ap (λ v. v.1) c.second.view_is) ∙ ap numbers_in two.2 in
    apart_as c.append.new.self.held one.0 two.0 one.1 two.1 c.args.first.1 c.args.second.1
    (c.append.ensures.own.1 ∙ λ j. one.2 j ++ two.2 j) mine others c.note.ensures.then
