-- Each step of the counter keeps its rule.
use Rattle.std.proofs.Common.{◌≡◌, ℕ, suc, ◌==◌, Bool, true, false, cond, List, [], ◌∷◌, ◌++◌, length, set, slice_get, Some, refl, sym, ap, ◌∙◌, subst}
use Rattle.std.proofs.lemmas.Bool.{eqb-true}
use mathlib.Core.Logic.{◌⊎◌, inl, inr}
use native.Mathlib.Decide.{ℕ_discrete}
use prog.Atomic.{either}
use Rattle.pagebook.specs.Pages.{View, Held, Keeps, Moves, Notes}
use Rattle.pagebook.proofs.Rows.{same_there, nothing_there, get_set, get_set_other, set_found}
use Rattle.pagebook_uses.specs.declared.tickets.page.Drawn.{Drawn}
use Rattle.pagebook_uses.specs.Tickets.{drawn, Owned, IsDealt, NoCommon, TwoApart, with_number, Joined, Looked, Drew, Compared}
use Rattle.pagebook_uses.proofs.Draw.Owners.{given, still_owned, owned_more, has_owner, get_added}

-- the number found is the next
found_next : (ns : List ℕ) (n next : ℕ) → ns ≡ next ∷ [] → slice_get ns 0 ≡ Some n → n ≡ next
found_next ns n next is at = same_there n next (sym at ∙ ap (λ (ms : List ℕ). slice_get ms 0) is)

-- a word that is set to what it is keeps the rule
unchanged : (ns : List ℕ) (n : ℕ) (ps : List Drawn) → IsDealt ns ps → slice_get ns 0 ≡ Some n → IsDealt (set ns 0 n) ps
unchanged ns n ps kept at = record {
  next = kept.next;
  owner = kept.owner;
  words = set_found ns 0 n at ∙ kept.words;
  pages = kept.pages;
}

-- at first there is no page
pub none_yet : IsDealt (0 ∷ []) []
none_yet = record { next = 0; owner = λ x. x; words = refl; pages = λ k p at. absurd (nothing_there k p at) }

-- what the two pages in a hand say, in the words of the two that drew
pub apart_as : (h : Held Drawn) (j k : ℕ) (p q : Drawn) (xs ys : List ℕ) → h ≡ (j, p) ∷ (k, q) ∷ [] → xs ≡ p.numbers
    → ys ≡ q.numbers → TwoApart h → NoCommon xs ys
apart_as h j k p q xs ys is one two apart = subst (λ (zs : List ℕ). NoCommon xs zs) (sym two)
    (subst (λ (zs : List ℕ). NoCommon zs q.numbers) (sym one) (subst TwoApart is apart))

-- a page that was added has no number, or stood there
owned_added : (ns : List ℕ) (ps : List Drawn) (kept : IsDealt ns ps) (k : ℕ) (q : Drawn)
    → (slice_get ps k ≡ Some q) ⊎ (q ≡ drawn []) → Owned kept.owner kept.next k q.numbers
owned_added ns ps kept k q (inl at) = kept.pages k q at
owned_added ns ps kept k q (inr is) = subst (λ (p : Drawn). Owned kept.owner kept.next k p.numbers) (sym is) tt

-- so the rule holds once a page was added
added : (ns : List ℕ) (ps : List Drawn) → IsDealt ns ps → IsDealt ns (ps ++ drawn [] ∷ [])
added ns ps kept = record {
  next = kept.next;
  owner = kept.owner;
  words = kept.words;
  pages = λ k q at. owned_added ns ps kept k q (get_added ps (drawn []) q k at);
}

-- the number x goes to the page k
goes_to : (ns : List ℕ) (n x y k : ℕ) (p : Drawn) (ps : List Drawn) (kept : IsDealt ns ps) → slice_get ns 0 ≡ Some n
    → n ≡ x → y ≡ suc x → slice_get ps k ≡ Some p → IsDealt (set ns 0 y) (set ps k (drawn (x ∷ p.numbers)))
goes_to ns n x y k p ps kept at is one here = record {
  next = y;
  owner = given kept.owner x k;
  words = ap (λ (ms : List ℕ). set ms 0 y) kept.words;
  pages = λ j q there. subst (λ (m : ℕ). Owned (given kept.owner x k) m j q.numbers) (sym one)
      (owned j q there (ℕ_discrete k j));
}
  where
    next : kept.next ≡ x
    next = sym (found_next ns n kept.next kept.words at) ∙ is

    before : (j : ℕ) (q : Drawn) → slice_get ps j ≡ Some q → Owned kept.owner x j q.numbers
    before j q there = subst (λ (m : ℕ). Owned kept.owner m j q.numbers) next (kept.pages j q there)

    q_is : (j : ℕ) (q : Drawn) → slice_get (set ps k (drawn (x ∷ p.numbers))) j ≡ Some q → k ≡ j → q ≡ drawn (x ∷ p.numbers)
    q_is j q there e = same_there q (drawn (x ∷ p.numbers)) (sym there
        ∙ (ap (slice_get (set ps k (drawn (x ∷ p.numbers)))) (sym e) ∙ get_set ps k p (drawn (x ∷ p.numbers)) here))

    owned : (j : ℕ) (q : Drawn) → slice_get (set ps k (drawn (x ∷ p.numbers))) j ≡ Some q → Dec (k ≡ j)
        → Owned (given kept.owner x k) (suc x) j q.numbers
    owned j q there (yes e) = subst (λ (i : ℕ). Owned (given kept.owner x k) (suc x) i q.numbers) e
        (subst (λ (r : Drawn). Owned (given kept.owner x k) (suc x) k r.numbers) (sym (q_is j q there e))
        (owned_more kept.owner x k p.numbers (before k p here)))
    owned j q there (no un) = still_owned kept.owner x k j q.numbers
        (before j q (sym (get_set_other ps k j (drawn (x ∷ p.numbers)) un) ∙ there))

module _ {E : Type 0} where
  -- the rule, which says nothing of the log
  abbrev pub Dealt : List ℕ → List Drawn → List E → Type 0
  Dealt ns ps log = IsDealt ns ps

  pub joins : (seen : List E) (h : Held Drawn) → Notes Dealt (seen, h) (Joined (seen, h) 0)
  joins seen h = record { goes = λ ns ps log kept pre ag. ([], drawn [] ∷ [], [], added ns ps kept, (length ps, refl)) }

  pub looks : (seen : List E) (h : Held Drawn) → Moves Dealt (seen, h) 0 (λ n. n) (Looked (seen, h))
  looks seen h = record { goes = λ ns n ps log kept at pre ag. ([], [], [], unchanged ns n ps kept at, refl) }

  draws_at : (seen : List E) (k x y : ℕ) (p : Drawn) → y ≡ suc x → let v : View E Drawn = (seen, (k, p) ∷ []) in
      Moves Dealt v 0 (λ n. either (n == x) y n) (Drew x v)
  draws_at seen k x y p one = record { goes = λ ns n ps log kept at pre ag. by ns n ps log kept at ag.0 (n == x) refl }
    where
      by : (ns : List ℕ) (n : ℕ) (ps : List Drawn) (log : List E) (kept : IsDealt ns ps) → slice_get ns 0 ≡ Some n
          → slice_get ps k ≡ Some p → (b : Bool) → (n == x) ≡ b
          → Keeps Dealt (seen, (k, p) ∷ []) (set ns 0 (either b y n))
          (λ w. w.1 ≡ cond b (with_number x ((k, p) ∷ [])) ((k, p) ∷ [])) ps log
      by ns n ps log kept at here true e = (
        drawn (x ∷ p.numbers) ∷ [],
        [],
        [],
        goes_to ns n x y k p ps kept at (eqb-true n x e) one here,
        refl,
      )
      by ns n ps log kept at here false e = ([], [], [], unchanged ns n ps kept at, refl)

  pub draws : (seen : List E) (h : Held Drawn) (k x y : ℕ) (p : Drawn) → y ≡ suc x → (k, p) ∷ [] ≡ h
      → Moves Dealt (seen, h) 0 (λ n. either (n == x) y n) (Drew x (seen, h))
  draws seen h k x y p one is = subst
      (λ (i : Held Drawn). Moves Dealt (seen, i) 0 (λ n. either (n == x) y n) (Drew x (seen, i))) is
      (draws_at seen k x y p one)

  compares_at : (seen : List E) (j k : ℕ) (p q : Drawn) → let v : View E Drawn = (seen, (j, p) ∷ (k, q) ∷ []) in
      Notes Dealt v (Compared v 0)
  compares_at seen j k p q = record {
    goes = λ ns ps log kept pre ag. (
      [],
      [],
      [],
      kept,
      λ x on_p on_q. ag.1.0.0 (sym (has_owner kept.owner kept.next j x p.numbers (kept.pages j p ag.0) on_p)
          ∙ has_owner kept.owner kept.next k x q.numbers (kept.pages k q ag.1.1.0) on_q),
    );
  }

  pub compares : (seen : List E) (h : Held Drawn) (j k : ℕ) (p q : Drawn) → (j, p) ∷ (k, q) ∷ [] ≡ h
      → Notes Dealt (seen, h) (Compared (seen, h) 0)
  compares seen h j k p q is = subst (λ (i : Held Drawn). Notes Dealt (seen, i) (Compared (seen, i) 0)) is
      (compares_at seen j k p q)
