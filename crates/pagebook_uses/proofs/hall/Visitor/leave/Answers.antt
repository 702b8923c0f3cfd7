use Rattle.std.proofs.Common.{◌≡◌, sym, ◌∙◌, ap, ◌∷◌, [], true}
use Rattle.pagebook_uses.specs.declared.hall.Page.TheVariants.{OfVisitor}
use Rattle.pagebook_uses.proofs.Visits.Steps.{leaves}
use Rattle.pagebook_uses.proofs.hall.Visitor.leave.Goals as goal

pub fetch_sub-requires-clause-moves : goal.fetch_sub-requires-clause-moves
fetch_sub-requires-clause-moves c =
    let visitor = c.self.inside in
    let page = c.self.invariant.1 in
    let inside : visitor.inside ≡ true = ap (λ v. v.0) c.self.view_is ∙ c.requires.inside in
    rw (c.args.hall.now.word_is)
    (leaves visitor.seen.log visitor.pens.held page.0 (sym (page.1 ∙ ap (λ b. (page.0, OfVisitor b) ∷ []) inside)))
