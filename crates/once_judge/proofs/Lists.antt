-- Lists of numbers, and a walk along one.
use Rattle.std.proofs.Common.{◌≡◌, ◌≤◌, ◌<◌, ◌+◌, ℕ, zero, suc, true, false, cond, ◌==◌, List, [], ◌∷◌, ◌++◌, Option, Some, None, length, take, get_or, refl, sym, ap, ◌∙◌, arith, Decides, eqb}
use Rattle.std.proofs.lemmas.Bool.{false≢true}
use Rattle.std.proofs.lemmas.Bool.Decides.{nat_tests, Decides-eqb}
use Rattle.std.proofs.lemmas.Grind.{take_at_read}
use Rattle.std.specs.Option.{option_eq}
use Rattle.once_machine.specs.Numbers.{member, is_distinct, bit, times_in}
use Rattle.once_machine.proofs.Listing.Members.{eqb_self, member-push, is_distinct-push}

member_take : (n x : ℕ) (X : List ℕ) → member x X ≡ false → member x (take n X) ≡ false
member_take zero x X m = refl
member_take (suc n) x [] m = refl
member_take (suc n) x (y ∷ X) m = let ih = member_take n x X in grind arith

distinct_take : (n : ℕ) (X : List ℕ) → is_distinct X ≡ true → is_distinct (take n X) ≡ true
distinct_take zero X d = refl
distinct_take (suc n) [] d = refl
distinct_take (suc n) (x ∷ X) d = let ih = distinct_take n X in let m = member_take n x X in grind arith

repeated : (n : ℕ) (xs : List ℕ) → member n xs ≡ true → is_distinct (xs ++ n ∷ []) ≡ false
repeated n [] m = absurd (false≢true m)
repeated n (x ∷ xs) m = let ih = repeated n xs in grind (arith, nat_tests, member-push)

-- a number that stands before its place stands twice
pub twice : (X : List ℕ) (i : ℕ) → i < length X → member (get_or X i 0) (take i X) ≡ true → is_distinct X ≡ true → ⊥
twice X i l m d =
    let split = (take_at_read X i 0 l).1 in
    let whole = distinct_take (i + 1) X d in
    let no = repeated (get_or X i 0) (take i X) m in
    false≢true (sym no ∙ ap is_distinct (sym split) ∙ whole)

-- how often a number stands in a list with one more, and in the beginning of one
pub times_push : (w k : ℕ) (X : List ℕ) → times_in w (X ++ k ∷ []) ≡ times_in w X + bit (k == w)
times_push w k [] = omega arith
times_push w k (x ∷ X) = let ih = times_push w k X in omega arith

times_take : (n w : ℕ) (X : List ℕ) → times_in w (take n X) ≤ times_in w X
times_take zero w X = omega arith
times_take (suc n) w [] = omega arith
times_take (suc n) w (x ∷ X) = let ih = times_take n w X in omega arith

-- once, if they are distinct
pub times_once : (w : ℕ) (X : List ℕ) → is_distinct X ≡ true → times_in w X ≤ bit (member w X)
times_once w [] d = omega arith
times_once w (x ∷ X) d = grind (arith, nat_tests, times_once w X)

member_times : (w : ℕ) (X : List ℕ) → member w X ≡ true → 1 ≤ times_in w X
member_times w [] m = absurd (false≢true m)
member_times w (x ∷ X) m = let ih = member_times w X in grind (arith, nat_tests)

pub twice_in : (X : List ℕ) (i : ℕ) → i < length X → member (get_or X i 0) (take i X) ≡ true → 2 ≤ times_in (get_or X i 0) X
twice_in X i l m =
    let x = get_or X i 0 in
    let one = member_times x (take i X) m in
    let more = times_push x x (take i X) in
    let self = ap bit (eqb_self x) in
    let split = ap (times_in x) ((take_at_read X i 0 l).1) in
    let whole = times_take (i + 1) x X in
    omega arith

pub member_get : (X : List ℕ) (i : ℕ) → i < length X → member (get_or X i 0) X ≡ true
member_get [] i l = absurd (omega arith)
member_get (x ∷ X) zero l = rw (eqb_self x) refl
member_get (x ∷ X) (suc i) l = let ih = member_get X i (omega arith) in grind arith

-- one more that is new
pub distinct_step : (X : List ℕ) (i : ℕ) → i < length X → member (get_or X i 0) (take i X) ≡ false → is_distinct (take i X) ≡ true → is_distinct (take (i + 1) X) ≡ true
distinct_step X i l m d = rw ((take_at_read X i 0 l).1) (is_distinct-push (get_or X i 0) (take i X) m d)

pub member_more : (X : List ℕ) (i q : ℕ) → i < length X → member q (take (i + 1) X) ≡ cond (member q (take i X)) true (get_or X i 0 == q)
member_more X i q l = rw ((take_at_read X i 0 l).1) (member-push q (get_or X i 0) (take i X))

-- whether two answers of an init are one
pub answers_decide : (a b : Option ℕ) → Decides (option_eq eqb a b) (a ≡ b)
answers_decide None None = (λ e. refl, λ e. refl)
answers_decide None (Some y) = (λ e. absurd (false≢true e), λ e. absurd (let z : ⊥ = cc in z))
answers_decide (Some x) None = (λ e. absurd (false≢true e), λ e. absurd (let z : ⊥ = cc in z))
answers_decide (Some x) (Some y) = let d = Decides-eqb x y in (λ e. ap Some (d.0 e), λ e. d.1 (let z : x ≡ y = cc in z))
