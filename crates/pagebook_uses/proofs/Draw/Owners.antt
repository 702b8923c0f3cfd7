-- Which page a number belongs to, and that this stays so once the next number is given.
use Rattle.std.proofs.Common.{◌≡◌, ℕ, zero, suc, ◌<◌, ◌==◌, Bool, true, false, cond, List, [], ◌∷◌, ◌++◌, slice_get, Some, refl, sym, ap, ◌∙◌, arith}
use Rattle.std.proofs.lemmas.Bool.{eq-eqb, eqb-true}
use mathlib.Core.Logic.{◌⊎◌, inl, inr}
use Rattle.pagebook.proofs.Rows.{same_there, nothing_there}
use Rattle.pagebook_uses.specs.declared.tickets.page.Drawn.{Drawn}
use Rattle.pagebook_uses.specs.Tickets.{Owned, Has}

-- the owners after the number `next` was given to the page k
abbrev pub given : (ℕ → ℕ) → ℕ → ℕ → ℕ → ℕ
given owner next k x = cond (x == next) k (owner x)

-- a number before it stays with its page
earlier : (owner : ℕ → ℕ) (next k x : ℕ) (b : Bool) → (x == next) ≡ b → x < next → cond b k (owner x) ≡ owner x
earlier owner next k x true e before = absurd (omega (arith, eqb-true x next e, before))
earlier owner next k x false e before = refl

-- and it belongs to the page that it was given to
itself : (owner : ℕ → ℕ) (next k : ℕ) → given owner next k next ≡ k
itself owner next k = ap (λ (b : Bool). cond b k (owner next)) (eq-eqb next next refl)

-- the numbers of a page stay its own
pub still_owned : (owner : ℕ → ℕ) (next k j : ℕ) (xs : List ℕ) → Owned owner next j xs → Owned (given owner next k) (suc next) j xs
still_owned owner next k j [] o = tt
still_owned owner next k j (x ∷ xs) o = (
  omega (arith, o.0),
  (earlier owner next k x (x == next) refl o.0 ∙ o.1.0, still_owned owner next k j xs o.1.1),
)

-- the page that it was given to has one more
pub owned_more : (owner : ℕ → ℕ) (next k : ℕ) (xs : List ℕ) → Owned owner next k xs
    → Owned (given owner next k) (suc next) k (next ∷ xs)
owned_more owner next k xs o = (omega arith, (itself owner next k, still_owned owner next k k xs o))

-- a number on a page belongs to that page
pub has_owner : (owner : ℕ → ℕ) (next k x : ℕ) (xs : List ℕ) → Owned owner next k xs → Has x xs → owner x ≡ k
has_owner owner next k x [] o h = absurd h
has_owner owner next k x (y ∷ ys) o (inl e) = ap owner e ∙ o.1.0
has_owner owner next k x (y ∷ ys) o (inr h) = has_owner owner next k x ys o.1.1 h

-- what stands in a row to which a page was added stood there, or is that page
pub get_added : (ps : List Drawn) (p q : Drawn) (k : ℕ) → slice_get (ps ++ p ∷ []) k ≡ Some q → (slice_get ps k ≡ Some q) ⊎ (q ≡ p)
get_added [] p q zero at = inr (sym (same_there p q at))
get_added [] p q (suc k) at = absurd (nothing_there k q at)
get_added (r ∷ rs) p q zero at = inl at
get_added (r ∷ rs) p q (suc k) at = get_added rs p q k at
