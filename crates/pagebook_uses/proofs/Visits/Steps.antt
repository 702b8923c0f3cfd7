-- Each step of the hall keeps its rule.
use Rattle.std.proofs.Common.{◌≡◌, ℕ, suc, ◌+◌, ◌-◌, ◌%◌, ◌^◌, Bool, true, false, List, [], ◌∷◌, ◌++◌, length, set, slice_get, refl, sym, ap, ◌∙◌, subst, arith, length-append, append-nil, Some}
use Rattle.pagebook.specs.Pages.{View, Held, Moves, Notes}
use Rattle.pagebook.proofs.Rows.{same_there, get_set, get_set_other, get_longer}
use Rattle.pagebook_uses.specs.declared.hall.Arrival.{Arrival}
use Rattle.pagebook_uses.specs.declared.hall.Page.{Page}
use Rattle.pagebook_uses.specs.declared.hall.Page.TheVariants.{AtDesk, OfVisitor}
use Rattle.pagebook_uses.specs.Hall.{inside, IsKept, Arrived, Entered, Left, Audited}
use Rattle.pagebook_uses.proofs.Visits.Counts.{inside_set, inside_added}

abbrev number_of : Page → ℕ
number_of (AtDesk n) = n
number_of (OfVisitor b) = 0

abbrev IsVisitor : Page → Type 0
IsVisitor (AtDesk n) = ⊥
IsVisitor (OfVisitor b) = Unit {0}

-- the number found is what the rule says
found_is : (ns : List ℕ) (n m : ℕ) → ns ≡ m ∷ [] → slice_get ns 0 ≡ Some n → n ≡ m
found_is ns n m is at = same_there n m (sym at ∙ ap (λ (ms : List ℕ). slice_get ms 0) is)

-- if the one word is as it should be, it is so after the step
word_after : (ns : List ℕ) (n m n' m' : ℕ) → ns ≡ m ∷ [] → slice_get ns 0 ≡ Some n → (n ≡ m → n' ≡ m')
    → set ns 0 n' ≡ m' ∷ []
word_after ns n m n' m' is at so = ap (λ (ms : List ℕ). set ms 0 n') is
    ∙ ap (λ (x : ℕ). x ∷ []) (so (found_is ns n m is at))

-- an entry is added, so the desk counts one more
counted : (log : List Arrival) (a : Arrival) (ps : List Page) → slice_get ps 0 ≡ Some (AtDesk (length log))
    → slice_get ps 0 ≡ Some (AtDesk a.number) → suc a.number ≡ length (log ++ a ∷ [])
counted log a ps desk held = let same : length log ≡ a.number =
    ap number_of (same_there (AtDesk (length log)) (AtDesk a.number) (sym desk ∙ held)) in
    omega (arith, length-append log (a ∷ []), same)

-- a visitor's page is not the desk's
not_desk : (log : List Arrival) (ps : List Page) (k : ℕ) (b : Bool) → slice_get ps 0 ≡ Some (AtDesk (length log))
    → slice_get ps k ≡ Some (OfVisitor b) → k ≡ 0 → ⊥
not_desk log ps k b desk at e = subst IsVisitor (same_there (OfVisitor b) (AtDesk (length log))
    (sym at ∙ (ap (slice_get ps) e ∙ desk))) tt

-- with no entry more the desk's page is what it was
still_desk : (log : List Arrival) → Some (AtDesk (length log)) ≡ Some (AtDesk (length (log ++ [])))
still_desk log = ap (λ (l : List Arrival). Some (AtDesk (length l))) (sym (append-nil log))

pub arrives : (seen : List Arrival) (h : Held Page) → Notes IsKept (seen, h) (Arrived (seen, h) 0)
arrives seen h = record {
  goes = λ ns ps log kept pre ag.
      let same : inside (ps ++ OfVisitor false ∷ []) ≡ inside ps = omega (arith, inside_added ps (OfVisitor false)) in
      let words = kept.words ∙ ap (λ (m : ℕ). m % 2 ^ 64 ∷ []) (sym same) in
      let desk = get_longer ps (OfVisitor false ∷ []) 0 (AtDesk (length log)) kept.desk ∙ still_desk log in
      ([], OfVisitor false ∷ [], [], record { words = words; desk = desk }, (length ps, refl));
}

enters_at : (seen : List Arrival) (k : ℕ) (a : Arrival)
    → let v : View Arrival Page = (seen, (k, OfVisitor false) ∷ (0, AtDesk a.number) ∷ []) in
    Moves IsKept v 0 (λ n. (n + 1) % 2 ^ 64) (Entered a v)
enters_at seen k a = record {
  goes = λ ns n ps log kept at pre ag.
      let qs : List Page = set ps k (OfVisitor true) in
      let rs : List Page = set qs 0 (AtDesk (suc a.number)) in
      let desk : slice_get qs 0 ≡ Some (AtDesk a.number) = get_set_other ps k 0 (OfVisitor true) ag.1.0.0 ∙ ag.1.1.0 in
      let more : inside rs ≡ inside ps + 1 = omega (
        arith,
        inside_set ps k (OfVisitor false) (OfVisitor true) ag.0,
        inside_set qs 0 (AtDesk a.number) (AtDesk (suc a.number)) desk,
      ) in
      let words = word_after ns n (inside ps % 2 ^ 64) ((n + 1) % 2 ^ 64) (inside rs % 2 ^ 64) kept.words at
      (λ is. omega (arith, more, is)) in
      let at_desk = get_set qs 0 (AtDesk a.number) (AtDesk (suc a.number)) desk
      ∙ ap (λ (m : ℕ). Some (AtDesk m)) (counted log a ps kept.desk ag.1.1.0) in
      (OfVisitor true ∷ AtDesk (suc a.number) ∷ [], [], a ∷ [], record { words = words; desk = at_desk }, refl);
}

pub enters : (seen : List Arrival) (h : Held Page) (k : ℕ) (a : Arrival)
    → (k, OfVisitor false) ∷ (0, AtDesk a.number) ∷ [] ≡ h
    → Moves IsKept (seen, h) 0 (λ n. (n + 1) % 2 ^ 64) (Entered a (seen, h))
enters seen h k a is = subst (λ (i : Held Page). Moves IsKept (seen, i) 0 (λ n. (n + 1) % 2 ^ 64) (Entered a (seen, i)))
    is (enters_at seen k a)

leaves_at : (seen : List Arrival) (k : ℕ) → let v : View Arrival Page = (seen, (k, OfVisitor true) ∷ []) in
    Moves IsKept v 0 (λ n. (n + (2 ^ 64 - 1)) % 2 ^ 64) (Left v)
leaves_at seen k = record {
  goes = λ ns n ps log kept at pre ag.
      let rs : List Page = set ps k (OfVisitor false) in
      let less : inside rs + 1 ≡ inside ps = omega (arith, inside_set ps k (OfVisitor true) (OfVisitor false) ag.0) in
      let words = word_after ns n (inside ps % 2 ^ 64) ((n + (2 ^ 64 - 1)) % 2 ^ 64) (inside rs % 2 ^ 64) kept.words at
      (λ is. omega (arith, less, is)) in
      let desk = get_set_other ps k 0 (OfVisitor false) (not_desk log ps k true kept.desk ag.0)
      ∙ (kept.desk ∙ still_desk log) in
      (OfVisitor false ∷ [], [], [], record { words = words; desk = desk }, refl);
}

pub leaves : (seen : List Arrival) (h : Held Page) (k : ℕ) → (k, OfVisitor true) ∷ [] ≡ h
    → Moves IsKept (seen, h) 0 (λ n. (n + (2 ^ 64 - 1)) % 2 ^ 64) (Left (seen, h))
leaves seen h k is =
    subst (λ (i : Held Page). Moves IsKept (seen, i) 0 (λ n. (n + (2 ^ 64 - 1)) % 2 ^ 64) (Left (seen, i))) is
    (leaves_at seen k)

audits_at : (seen : List Arrival) (x : ℕ) → let v : View Arrival Page = (seen, (0, AtDesk x) ∷ []) in
    Moves IsKept v 0 (λ n. n) (Audited x v)
audits_at seen x = record {
  goes = λ ns n ps log kept at pre ag.
      let same : log ≡ log ++ [] = sym (append-nil log) in
      let long : length log ≡ x = ap number_of (same_there (AtDesk (length log)) (AtDesk x) (sym kept.desk ∙ ag.0)) in
      let found : n ≡ inside ps % 2 ^ 64 = found_is ns n (inside ps % 2 ^ 64) kept.words at in
      let desk = kept.desk ∙ still_desk log in
      let words : n ∷ [] ≡ inside ps % 2 ^ 64 ∷ [] = ap (λ (m : ℕ). m ∷ []) found in
      let after : set ns 0 n ≡ inside ps % 2 ^ 64 ∷ [] = word_after ns n (inside ps % 2 ^ 64) n (inside ps % 2 ^ 64) kept.words at (λ is. is) in (
        [],
        [],
        [],
        record { words = after; desk = desk },
        (refl, ap length (sym same) ∙ long, (ps, record { words = words; desk = desk })),
      );
}

pub audits : (seen : List Arrival) (h : Held Page) (x : ℕ) → (0, AtDesk x) ∷ [] ≡ h
    → Moves IsKept (seen, h) 0 (λ n. n) (Audited x (seen, h))
audits seen h x is = subst (λ (i : Held Page). Moves IsKept (seen, i) 0 (λ n. n) (Audited x (seen, i))) is
    (audits_at seen x)
