use Rattle.std.proofs.Common.{List, [], ◌∷◌, ℕ, subst}
use Rattle.pagebook_uses.specs.Tickets.{NoCommon}
use Rattle.pagebook_uses.proofs.tickets.all_four.Goals as goal

-- the numbers are those that the two drew
pub returns : goal.returns
returns c =
    let one = c.args.one in
    let two = c.args.two in
    subst (λ (zs : List ℕ). NoCommon zs (two.second ∷ two.first ∷ [])) one.numbers
    (subst (λ (zs : List ℕ). NoCommon one.drawer.1 zs) two.numbers c.compare.ensures)
