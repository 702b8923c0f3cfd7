-- Which lists of wakers a release, or one that leaves, may hand out, by how many they are.
use Rattle.std.proofs.Common.{◌≡◌, ◌≢◌, ◌≤◌, ◌<◌, ℕ, zero, suc, true, false, ◌==◌, List, [], ◌∷◌, length, get_or, refl, sym, ap, ◌∙◌, subst, arith, nat_cmp}
use Rattle.std.specs.BTreeSet.{BTreeSet, contains}
use Rattle.std.proofs.lemmas.Bool.{false≢true, eqb-true}
use Rattle.once_machine.specs.Numbers.{member, is_distinct}
use Rattle.once_judge.specs.Seen.{Seen}
use Rattle.once_judge.specs.Legal.{IsDueFor, IsDueIn, HandsOutIn, CallsOneIn}
use Rattle.once_judge.proofs.Lists.{member_get}

none_list : (X : List ℕ) → length X < 1 → X ≡ []
none_list [] a = refl
none_list (x ∷ X) a = absurd (omega arith)

one_list : (X : List ℕ) → 1 ≤ length X → length X < 2 → X ≡ get_or X 0 0 ∷ []
one_list [] a b = absurd (omega arith)
one_list (x ∷ []) a b = refl
one_list (x ∷ y ∷ X) a b = absurd (omega arith)

-- an empty list has no member
pub none_member : (X : List ℕ) (w : ℕ) → length X < 1 → member w X ≡ false
none_member X w a = ap (member w) (none_list X a)

-- no waker need be handed out if none is due
none_calls : (S : Seen) → ((w : ℕ) → IsDueIn w S → ⊥) → CallsOneIn [] S
none_calls S n = record { one = omega arith; due = λ w d. absurd (n w d); open_alone = λ w m. absurd (false≢true m) }

pub empty_calls : (S : Seen) (X : List ℕ) → length X < 1 → ((w : ℕ) → IsDueIn w S → ⊥) → CallsOneIn X S
empty_calls S X a n = subst (λ Y. CallsOneIn Y S) (sym (none_list X a)) (none_calls S n)

pub empty_not : (S : Seen) (X : List ℕ) (t w : ℕ) → length X < 1 → IsDueFor t w S → CallsOneIn X S → ⊥
empty_not S X t w a d c = c.due w (t, d) (none_list X a)

-- one that is open may be
only : (k w : ℕ) → member w (k ∷ []) ≡ true → (k == w) ≡ true
only k w m = grind arith

cons_not_none : (x : ℕ) (X : List ℕ) → x ∷ X ≢ []
cons_not_none x X e = cc

open_calls : (S : Seen) (k : ℕ) → 0 < S.times k → CallsOneIn (k ∷ []) S
open_calls S k o = record {
  one = omega arith;
  due = λ w d. cons_not_none k [];
  open_alone = λ w m. subst (λ x. 0 < S.times x) (eqb-true k w (only k w m)) o;
}

pub one_calls : (S : Seen) (X : List ℕ) → 1 ≤ length X → length X < 2 → 0 < S.times (get_or X 0 0) → CallsOneIn X S
one_calls S X a b o = subst (λ Y. CallsOneIn Y S) (sym (one_list X a b)) (open_calls S (get_or X 0 0) o)

pub one_not : (S : Seen) (X : List ℕ) → 1 ≤ length X → (0 < S.times (get_or X 0 0) → ⊥) → CallsOneIn X S → ⊥
one_not S X a n c = n (c.open_alone (get_or X 0 0) (member_get X 0 (omega arith)))

-- two may not be
pub many_not : (S : Seen) (X : List ℕ) → 2 ≤ length X → CallsOneIn X S → ⊥
many_not S X a c = let l = c.one in omega arith

-- a turn is passed on to one that is open
abbrev pub PassesTo : List ℕ → Seen → Type 0
PassesTo X S = (w : ℕ) × (X ≡ w ∷ []) × (0 < S.times w)

pub one_passes : (S : Seen) (X : List ℕ) → 1 ≤ length X → length X < 2 → 0 < S.times (get_or X 0 0) → PassesTo X S
one_passes S X a b o = (get_or X 0 0, one_list X a b, o)

pub passes_not : (S : Seen) (X : List ℕ) → (0 < S.times (get_or X 0 0) → ⊥) → PassesTo X S → ⊥
passes_not S X n p = n (subst (λ w. 0 < S.times w) (ap (λ Y. get_or Y 0 0) (sym p.1)) p.2)

pub length_passes : (S : Seen) (X : List ℕ) → PassesTo X S → length X ≡ 1
length_passes S X p = ap length p.1

-- what is not positive is 0
pub shut : (n : ℕ) → (0 < n → ⊥) → n ≡ 0
shut zero o = refl
shut (suc n) o = absurd (o (omega arith))

-- all that are due stand in the list, each once, and each is open
pub all_hands : (S : Seen) (X : List ℕ) (s : BTreeSet ℕ) → ((q : ℕ) → contains nat_cmp s q ≡ member q X) → is_distinct X ≡ true
    → ((q : ℕ) → member q X ≡ true → 0 < S.times q) → ((w : ℕ) → IsDueIn w S → contains nat_cmp s w ≡ true) → HandsOutIn X S
all_hands S X s same d o due = record { once = d; due = λ w k. sym (same w) ∙ due w k; open_alone = o }

-- one that is due stands outside
pub hands_not : (S : Seen) (X : List ℕ) (t w : ℕ) → IsDueFor t w S → member w X ≡ false → HandsOutIn X S → ⊥
hands_not S X t w d m h = false≢true (sym m ∙ h.due w (t, d))
