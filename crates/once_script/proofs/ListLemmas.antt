-- One more answer of a list, and one more field.
use Rattle.std.proofs.Common.{◌≡◌, ◌==◌, ◌<◌, ◌∷◌, ◌++◌, ℕ, List, [], length, get_or, zero, suc, arith, sym, subst}
use Rattle.std.specs.Prelude.{Option}
use Rattle.std.specs.List.{slice_split}
use Rattle.std.proofs.lemmas.List.Splits.{length-slice_split}
use Rattle.once_script.specs.Answer.{IsListed, AreListed, AreAnswers}
use Rattle.once_script.specs.Text.{IsListAfter}

-- one more answer and one more field
pub AreListed-push : (answers : List (Option ℕ)) (fields : List (List ℕ)) (answer : Option ℕ) (field : List ℕ) → AreListed answers fields
    → IsListed answer field → AreListed (answers ++ (answer ∷ [])) (fields ++ (field ∷ []))
AreListed-push [] [] answer field h l = (l, tt)
AreListed-push [] (f ∷ fs) answer field h l = absurd h
AreListed-push (a ∷ more) [] answer field h l = absurd h
AreListed-push (a ∷ more) (f ∷ fs) answer field h l = (h.0, AreListed-push more fs answer field h.1 l)

listed_at : (answers : List (Option ℕ)) (fields : List (List ℕ)) (k : ℕ) (d : List ℕ) → AreListed answers fields → k < length fields → (a : Option ℕ) × IsListed a (get_or fields k d)
listed_at [] [] k d h i = absurd (omega arith)
listed_at [] (f ∷ fs) k d h i = absurd h
listed_at (a ∷ more) [] k d h i = absurd h
listed_at (a ∷ more) (f ∷ fs) zero d h i = (a, h.0)
listed_at (a ∷ more) (f ∷ fs) (suc k) d h i = listed_at more fs k d h.1 (omega arith)

-- the field at a place is an answer
pub listed_field : (answers : List (Option ℕ)) (fields : List (List ℕ)) (k : ℕ) (field : List ℕ) → AreListed answers fields → k < length fields
    → field ≡ get_or fields k field → (a : Option ℕ) × IsListed a field
listed_field answers fields k field h i e =
    let l = listed_at answers fields k field h i in (l.0, subst (λ (f : List ℕ). IsListed l.0 f) (sym e) l.1)

no_fields : (fields : List (List ℕ)) → 0 < length fields → AreListed [] fields → ⊥
no_fields [] i h = omega arith
no_fields (f ∷ fs) i h = h

-- answers after a beginning, one space before each
pub list_after : (begin given text : List ℕ) (answers : List (Option ℕ)) → text ≡ begin ++ (32 ∷ given) → AreAnswers answers given → IsListAfter begin answers text
list_after begin given text [] e h =
    absurd (no_fields (slice_split (λ c. c == 32) given) (omega (arith, length-slice_split (λ c. c == 32) given)) h)
list_after begin given text (a ∷ more) e h = (given, e, h)
