use Rattle.std.proofs.Common.{◌≡◌, sym, ◌∙◌, ap, ◌∷◌, [], refl, rules}
use Rattle.pagebook.specs.Pages.{rewritten}
use Rattle.pagebook_uses.specs.Shelf.{filled}
use Rattle.pagebook_uses.specs.declared.shelf.Stage.TheVariants.{Empty, Writing, Full, Open}
use Rattle.pagebook_uses.proofs.Fill.Steps.{comes_to, comes_from}
use Rattle.pagebook_uses.proofs.shelf.Shelf.fill.Goals as goal

pub put-written-requires-clause-begins : goal.put-written-requires-clause-begins
put-written-requires-clause-begins g c =
    let filler = c.args.filler in
    rw c.args.self.now.slot_is.0
    (comes_from filler.seen.log filler.pens.held Empty Writing 1 [] (sym filler.held_is) refl refl)

pub put-written-requires-clause-fills : goal.put-written-requires-clause-fills
put-written-requires-clause-fills g c = λ w came.
    let is : w.1 ≡ (0, Writing) ∷ [] = came.0 ∙ ap (rewritten (Writing ∷ [])) c.args.filler.held_is in
    rw c.args.self.now.slot_is.0 (comes_to w.0 w.1 Writing Full 1 2 (filled ∷ []) (sym is) refl refl)

pub store-requires-clause-moves : goal.store-requires-clause-moves
store-requires-clause-moves g c =
    let put = c.put-written in
    let then = put.ensures.then in
    let was : then.0.1 ≡ (0, Writing) ∷ [] = then.1.0 ∙ ap (rewritten (Writing ∷ [])) c.args.filler.held_is in
    let is : put.new.pens.held ≡ (0, Full) ∷ [] = then.2.0 ∙ ap (rewritten (Full ∷ [])) was in
    rw c.args.self.now.ready_is
    (comes_to put.new.seen.log put.new.pens.held Full Open 0 1 [] (sym is) refl refl)

pub put-written-requires-clause-fits : goal.put-written-requires-clause-fits
put-written-requires-clause-fits g c = search rules
