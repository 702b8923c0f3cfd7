use Rattle.std.proofs.Common.{◌≡◌, ◌==◌, ◌&&◌, sym, ◌∙◌, refl}
use Rattle.std.proofs.lemmas.Bool.{not-false, not-true}
use Rattle.std.proofs.lemmas.Bool.Decides.{Decides-and, Decides-eqb, Decides-like, not_from_Decides}
use Rattle.std.proofs.lemmas.Slice.Eq.{slice_eq-Decides}
use Rattle.std.specs.Bool.{Decides}
use Rattle.memo_table.specs.declared.ask.Answer.{Answer}
use Rattle.memo_table.proofs.ask.agreed.Goals as goal

-- `==` of two answers
same_answer : (a b : Answer) → Decides (a.key == b.key && a.value == b.value) (a ≡ b)
same_answer a b =
    Decides-like _ (λ p i. record { key = p.0 i; value = p.1 i }) (λ e. (λ i. (e i).key, λ i. (e i).value))
    (Decides-and _ _ (Decides-eqb a.key b.key) (Decides-eqb a.value b.value))

pub returns-then-ne-clause-other : goal.returns-then-ne-clause-other
returns-then-ne-clause-other c =
    not_from_Decides _ (slice_eq-Decides same_answer _ _ _ refl) (not-true _ (sym c.ne.ensures ∙ c.if-ne.true))

pub returns-clause-same : goal.returns-clause-same
returns-clause-same c =
    (refl, (slice_eq-Decides same_answer _ _ _ refl).0 (not-false _ (sym c.ne.ensures ∙ c.if-ne.false)))
