-- Coming to the line keeps its rule, and no two came first.
use Rattle.std.proofs.Common.{◌≡◌, ℕ, zero, suc, List, [], ◌∷◌, ◌++◌, length, set, slice_get, Some, refl, sym, ap, ◌∙◌, subst, arith, length-append}
use Rattle.pagebook.specs.Pages.{Held, Keeps, Moves, Notes}
use Rattle.pagebook.proofs.Rows.{same_there}
use Rattle.pagebook_uses.specs.declared.first.Medal.{Medal}
use Rattle.pagebook_uses.specs.First.{medal, IsGiven, Came}

-- the number found says how many medals there are
found_is : (ns : List ℕ) (n : ℕ) (ps : List Medal) → IsGiven ns ps → slice_get ns 0 ≡ Some n → n ≡ length ps
found_is ns n ps kept at = same_there n (length ps) (sym at ∙ ap (λ (ms : List ℕ). slice_get ms 0) kept.words)

module _ {E : Type 0} where
  -- the rule, which says nothing of the log
  abbrev pub Given : List ℕ → List Medal → List E → Type 0
  Given ns ps log = IsGiven ns ps

  pub comes : (seen : List E) (h : Held Medal) → Moves Given (seen, h) 0 (λ _. 1) (Came (seen, h))
  comes seen h = record { goes = λ ns n ps log kept at pre ag. by ns n ps log kept (found_is ns n ps kept at) }
    where
      -- the first adds a page, and no other does
      by : (ns : List ℕ) (n : ℕ) (ps : List Medal) (log : List E) (kept : IsGiven ns ps) → n ≡ length ps
          → Keeps Given (seen, h) (set ns 0 1) (Came (seen, h) n) ps log
      by ns zero ps log kept is =
          let long : length (ps ++ medal ∷ []) ≡ 1 = omega (arith, length-append ps (medal ∷ []), is) in
          let words = ap (λ (ms : List ℕ). set ms 0 1) kept.words ∙ ap (λ (m : ℕ). m ∷ []) (sym long) in (
            [],
            medal ∷ [],
            [],
            record { words = words; one = omega (arith, long) },
            λ none. ap (λ (k : ℕ). (k, medal) ∷ h) (sym is),
          )
      by ns (suc n) ps log kept is =
          let long : length ps ≡ 1 = omega (arith, is, kept.one) in
          let words = ap (λ (ms : List ℕ). set ms 0 1) kept.words ∙ ap (λ (m : ℕ). m ∷ []) (sym long) in
          ([], [], [], record { words = words; one = kept.one }, λ none. absurd (omega (arith, none)))

  clashes_at : (seen : List E) → Notes Given (seen, (0, medal) ∷ (0, medal) ∷ []) (λ w. ⊥)
  clashes_at seen = record { goes = λ ns ps log kept pre ag. absurd (ag.1.0.0 refl) }

  -- no hand has two pens of one page
  pub clashes : (seen : List E) (h : Held Medal) → (0, medal) ∷ (0, medal) ∷ [] ≡ h → Notes Given (seen, h) (λ w. ⊥)
  clashes seen h is = subst (λ (i : Held Medal). Notes Given (seen, i) (λ w. ⊥)) is (clashes_at seen)
