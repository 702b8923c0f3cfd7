-- Each step of the shelf keeps its rule, and a thread that has seen the entry is sure of the value.
use Rattle.std.proofs.Common.{◌≡◌, ℕ, List, [], ◌∷◌, ◌++◌, set, slice_get, refl, sym, ap, ◌∙◌, subst, arith, append-nil, Some}
use Rattle.pagebook.specs.Pages.{Held, Moves, Agrees}
use Rattle.pagebook.proofs.Rows.{same_there}
use Rattle.pagebook_uses.specs.declared.shelf.Filled.{Filled}
use Rattle.pagebook_uses.specs.declared.shelf.Stage.{Stage}
use Rattle.pagebook_uses.specs.declared.shelf.Stage.TheVariants.{Empty, Writing, Full, Open}
use Rattle.pagebook_uses.specs.Shelf.{bit_of, state_of, filled, log_of, IsShelf, Came, Looked}

-- the page in the hand is the stage
stage_is : (ns : List ℕ) (ps : List Stage) (log : List Filled) (kept : IsShelf ns ps log) (s : Stage)
    → slice_get ps 0 ≡ Some s → kept.stage ≡ s
stage_is ns ps log kept s at = same_there kept.stage s (sym (ap (λ (qs : List Stage). slice_get qs 0) kept.page) ∙ at)

-- what is found in the bit
bit_found : (ns : List ℕ) (ps : List Stage) (log : List Filled) (kept : IsShelf ns ps log) (n : ℕ)
    → slice_get ns 0 ≡ Some n → n ≡ bit_of kept.stage
bit_found ns ps log kept n at = same_there n (bit_of kept.stage)
    (sym at ∙ ap (λ (ms : List ℕ). slice_get ms 0) kept.words)

-- what is found in the state
state_found : (ns : List ℕ) (ps : List Stage) (log : List Filled) (kept : IsShelf ns ps log) (n : ℕ)
    → slice_get ns 1 ≡ Some n → n ≡ state_of kept.stage
state_found ns ps log kept n at = same_there n (state_of kept.stage)
    (sym at ∙ ap (λ (ms : List ℕ). slice_get ms 1) kept.words)

-- a step of the thread that fills, from one stage to the next: the word k becomes m, and the log gets `more`
pub comes_to : (seen : List Filled) (h : Held Stage) (from to : Stage) (k m : ℕ) (more : List Filled) → (0, from)
    ∷ [] ≡ h → log_of from ++ more ≡ log_of to
    → set (bit_of from ∷ state_of from ∷ []) k m ≡ bit_of to ∷ state_of to ∷ []
    → Moves IsShelf (seen, h) k (λ _. m) (Came to (seen, h))
comes_to seen h from to k m more is logs sets = subst
    (λ (i : Held Stage). Moves IsShelf (seen, i) k (λ _. m) (Came to (seen, i))) is record {
      goes = λ ns n ps log kept at pre ag.
          let s : kept.stage ≡ from = stage_is ns ps log kept from ag.0 in
          let words : set ns k m ≡ bit_of to ∷ state_of to
          ∷ [] = ap (λ (ms : List ℕ). set ms k m) (kept.words ∙ ap (λ (t : Stage). bit_of t ∷ state_of t ∷ []) s) ∙ sets in
          let page : set ps 0 to ≡ to ∷ [] = ap (λ (qs : List Stage). set qs 0 to) kept.page in
          let log_is : log ++ more ≡ log_of to = ap (λ (l : List Filled). l ++ more) (kept.entries ∙ ap log_of s) ∙ logs in
          (to ∷ [], [], more, record { stage = to; words = words; page = page; entries = log_is }, (refl, log_is));
    }

-- the same, and the number found is told
pub comes_from : (seen : List Filled) (h : Held Stage) (from to : Stage) (m : ℕ) (more : List Filled) → (0, from)
    ∷ [] ≡ h → log_of from ++ more ≡ log_of to
    → set (bit_of from ∷ state_of from ∷ []) 1 m ≡ bit_of to ∷ state_of to ∷ []
    → Moves IsShelf (seen, h) 1 (λ _. m) (λ n w. (n ≡ state_of from) × Came to (seen, h) n w)
comes_from seen h from to m more is logs sets = let base = comes_to seen h from to 1 m more is logs sets in record {
  goes = λ ns n ps log kept at pre ag.
      let go = base.goes ns n ps log kept at pre ag in
      let held : Agrees ((0, from) ∷ []) ps = subst (λ (i : Held Stage). Agrees i ps) (sym is) ag in
      let found : n ≡ state_of from = state_found ns ps log kept n at ∙ ap state_of
      (stage_is ns ps log kept from held.0) in
      (go.0, go.1, go.2, go.3, (found, go.4));
}

-- a look at the bit
pub looks : (seen : List Filled) (h : Held Stage) → [] ≡ h → Moves IsShelf (seen, h) 0 (λ n. n) (Looked (seen, h))
looks seen h is = subst (λ (i : Held Stage). Moves IsShelf (seen, i) 0 (λ n. n) (Looked (seen, i))) is record {
  goes = λ ns n ps log kept at pre ag.
      let same : log ≡ log ++ [] = sym (append-nil log) in
      let found : n ≡ bit_of kept.stage = bit_found ns ps log kept n at in
      let words : set ns 0 n ≡ bit_of kept.stage ∷ state_of kept.stage
      ∷ [] = ap (λ (ms : List ℕ). set ms 0 n) kept.words ∙ ap (λ (b : ℕ). b ∷ state_of kept.stage ∷ []) found in
      ([], [], [], record { stage = kept.stage; words = words; page = kept.page; entries = sym same ∙ kept.entries }, (refl, λ one. sym same ∙ (kept.entries ∙ set_bit kept.stage (sym found ∙ one))));
}
  where
    set_bit : (s : Stage) → bit_of s ≡ 1 → log_of s ≡ filled ∷ []
    set_bit Empty e = absurd (omega (arith, e))
    set_bit Writing e = absurd (omega (arith, e))
    set_bit Full e = refl
    set_bit Open e = refl

abbrev IsEmptyLog : List Filled → Type 0
IsEmptyLog [] = Unit {0}
IsEmptyLog (x ∷ xs) = ⊥
