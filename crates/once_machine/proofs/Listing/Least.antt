-- The least number that is not in a list: it is not there, and no other is the least.
use Rattle.std.proofs.Common.{◌≡◌, ◌<◌, ◌≤◌, ◌+◌, ℕ, zero, suc, Bool, true, false, cond, ◌==◌, List, [], ◌∷◌, refl, sym, ◌∙◌, subst, arith, ⊎_elim}
use Rattle.std.proofs.lemmas.Bool.{false≢true, ne_eqb, cases_eq, cases_order}
use Rattle.once_machine.specs.Numbers.{member}
use Rattle.once_machine.specs.Listings.{above_each, least_from}

-- a number above all is not in the list
above_all : (n : ℕ) (ns : List ℕ) → above_each ns ≤ n → member n ns ≡ false
above_all n [] l = refl
above_all n (x ∷ ns) l = let ih = above_all n ns in let d : (x == n) ≡ false = ne_eqb x n (λ e. omega arith) in rw d (ih (omega arith))

-- nor is the least from a number on, while each smaller one from there on is
least_by : (f n : ℕ) (ns : List ℕ) (b : Bool) → member n ns ≡ b → member (least_from f (suc n) ns) ns ≡ false
    → member (cond b (least_from f (suc n) ns) n) ns ≡ false
least_by f n ns true m ih = ih
least_by f n ns false m ih = m

least_fresh : (f n : ℕ) (ns : List ℕ) → above_each ns ≤ n + f → member (least_from f n ns) ns ≡ false
least_fresh zero n ns l = above_all n ns (omega arith)
least_fresh (suc f) n ns l = least_by f n ns (member n ns) refl (least_fresh f (suc n) ns (omega arith))

low_by : (f n m : ℕ) (ns : List ℕ) (b : Bool) → member n ns ≡ b → n ≤ m → m < cond b (least_from f (suc n) ns) n
    → (suc n ≤ m → m < least_from f (suc n) ns → member m ns ≡ true) → member m ns ≡ true
low_by f n m ns true is a l ih = ⊎_elim (λ e. subst (λ v. member v ns ≡ true) e is) (λ d. ih (omega arith) l) (cases_eq n m)
low_by f n m ns false is a l ih = absurd (omega arith)

least_low : (f n m : ℕ) (ns : List ℕ) → n ≤ m → m < least_from f n ns → member m ns ≡ true
least_low zero n m ns a l = absurd (omega arith)
least_low (suc f) n m ns a l = low_by f n m ns (member n ns) refl a l (least_low f (suc n) m ns)

-- the least number is not in the list
pub least_new : (ns : List ℕ) → member (least_from (above_each ns) 0 ns) ns ≡ false
least_new ns = least_fresh (above_each ns) 0 ns (omega arith)

-- a number that is not in the list, while each smaller one is, is the least
pub least_alone : (n : ℕ) (ns : List ℕ) → member n ns ≡ false → ((m : ℕ) → m < n → member m ns ≡ true) → n ≡ least_from (above_each ns) 0 ns
least_alone n ns fresh low =
    let k = least_from (above_each ns) 0 ns in
    let f = least_new ns in
    ⊎_elim (λ e. e) (λ d. absurd (false≢true (⊎_elim
    (λ l. sym fresh ∙ least_low (above_each ns) 0 n ns (omega arith) l)
    (λ l. sym f ∙ low k l)
    d))) (cases_order n k)
