use Rattle.std.proofs.Common.{◌≡◌, sym, ◌∙◌, ap, ◌++◌, ◌∷◌, [], false}
use Rattle.pagebook_uses.specs.declared.hall.Page.TheVariants.{AtDesk, OfVisitor}
use Rattle.pagebook_uses.proofs.Visits.Steps.{enters}
use Rattle.pagebook_uses.proofs.hall.Visitor.enter.Goals as goal

-- the visitor's pen comes first in the hand, and the desk's behind it
pub fetch_add-requires-clause-moves : goal.fetch_add-requires-clause-moves
fetch_add-requires-clause-moves c =
    let visitor = c.self.inside in
    let page = c.self.invariant.1 in
    let desk = c.args.desk.now in
    let hand = c.append.new.self.held in
    let out : visitor.inside ≡ false = ap (λ v. v.0) c.self.view_is ∙ c.requires.out in
    let mine : visitor.pens.held ≡ (page.0, OfVisitor false) ∷ [] = page.1 ∙ ap (λ b. (page.0, OfVisitor b) ∷ []) out in
    let both : hand ≡ (page.0, OfVisitor false) ∷ (0, AtDesk desk.entered) ∷ [] =
    c.append.ensures.own.1 ∙ λ j. mine j ++ desk.held_is j in
    rw (c.args.hall.now.word_is) (enters visitor.seen.log hand page.0 (record { number = desk.entered }) (sym both))
