-- What a step owes of the listings that takes its own out, or lists it anew.
use Rattle.std.proofs.Common.{◌≡◌, ◌≢◌, ◌≤◌, ◌+◌, ℕ, true, false, ◌==◌, ◌⊎◌, inl, inr, ⊎_elim, List, Option, Some, None, refl, sym, ap, ◌∙◌, subst, arith}
use Rattle.std.proofs.lemmas.Bool.{cases_eq}
use Rattle.std.proofs.lemmas.Bool.Decides.{nat_tests}
use Rattle.once_machine.specs.Numbers.{bit}
use Rattle.once_machine.specs.Record.{Entry, Kind}
use Rattle.once_machine.specs.Tasks.{last_call}
use Rattle.once_machine.specs.declared.waiters.Listing.{Listing}
use Rattle.once_machine.specs.Listings.{find_listing, is_waker, list_with, take_out, ticket_for, list_without}
use Rattle.once_machine.specs.Machine.{SharedState}
use Rattle.once_machine.proofs.Listing.Listings.{asks, asks_push, asks_take, find_push_other, find_push_same, find_take_other, find_take_same, new_fresh}
use Rattle.once_machine.proofs.Listing.Tickets.{find_none, found_ticket}
use Rattle.once_machine.proofs.Invariant.Facts.{HasTicket}
use Rattle.once_machine.proofs.Invariant.Listed.{none_not_some, same_some}
use Rattle.once_machine.proofs.Invariant.Turns.{ListMoves}
use Rattle.once_machine.proofs.Place.Outcomes.{listing_shared}

pub no_listing : (o : Option ℕ) → ◌≡◌ {A = Option (Option ℕ)} None (Some o) → ⊥
no_listing o e = cc

without_find : (n : ℕ) (o : Option ℕ) (k : Option ℕ) (xs : List (Listing ℕ)) → (k ≡ Some n → ⊥)
    → find_listing n xs ≡ Some o → find_listing n (list_without k xs) ≡ Some o
without_find n o None xs x f = f
without_find n o (Some m) xs x f = find_take_other n m xs (λ e. x (ap (λ (v : ℕ). Some v) e)) ∙ f

-- what is found after a listing was taken out was found before, and is another
pub take_back : (n m : ℕ) (o : Option ℕ) (xs : List (Listing ℕ)) → (m ≡ n) ⊎ (m ≢ n)
    → find_listing n (take_out m xs) ≡ Some o → (m ≢ n) × (find_listing n xs ≡ Some o)
take_back n m o xs (inl e) f = absurd (no_listing o (sym (subst (λ v. find_listing n (take_out v xs) ≡ None) (sym e) (find_take_same n xs)) ∙ f))
take_back n m o xs (inr d) f = (d, sym (find_take_other n m xs d) ∙ f)

without_back : (n : ℕ) (o : Option ℕ) (k : Option ℕ) (xs : List (Listing ℕ))
    → find_listing n (list_without k xs) ≡ Some o
    → (k ≡ Some n → ⊥) × ((o' : Option ℕ) × (find_listing n xs ≡ Some o'))
without_back n o None xs f = (none_not_some n, (o, f))
without_back n o (Some m) xs f = let b = take_back n m o xs (cases_eq m n) f in ((λ e. b.0 (same_some m n e)), (o, b.1))

pub without_asks : (w : ℕ) (k : Option ℕ) (xs : List (Listing ℕ)) → asks w (list_without k xs) ≤ asks w xs
without_asks w None xs = omega arith
without_asks w (Some n) xs = asks_take w n xs

-- the own listing is taken out, and the ticket given up
pub without_lists : (t : ℕ) (k : Option ℕ) (c c' : SharedState) (h' : List Entry)
    → c'.listings ≡ list_without k c.listings → (c.ready ≡ true → c'.ready ≡ true) → ListMoves t k None c c' h'
without_lists t k c c' h' same up = record {
  up = up;
  lists = λ u n o d x r f. inl (rw same (without_find n o k c.listings x f));
  fresh = λ n e. absurd (none_not_some n e);
  owner = λ r n o f. inr (without_back n o k c.listings (rw same at f));
}

-- the ticket by which t is listed: its own, or one that finds nothing
abbrev pub ListsBy : Option ℕ → ℕ → SharedState → Type 0
ListsBy k n c = (k ≡ Some n) ⊎ ((k ≡ None) × (c.ready ≡ false) × (find_listing n c.listings ≡ None))

kept_in : (n : ℕ) (o : Option ℕ) (xs : List (Listing ℕ)) → find_listing n xs ≡ Some o → ◌≡◌ {A = Option ℕ} (Some n) (Some (ticket_for (Some n) xs))
kept_in n o xs f = rw (found_ticket n o xs f) refl

-- so it is with the ticket of a waiter that lists its waker
pub lists_by : (K : Kind) (t : ℕ) (k : Option ℕ) (c : SharedState) (h : List Entry) → c.ready ≡ false
    → HasTicket K t c h k → ListsBy k (ticket_for k c.listings) c
lists_by K t None c h r a = inr (refl, r, find_none (ticket_for None c.listings) c.listings (new_fresh c.listings))
lists_by K t (Some n) c h r a = ⊎_elim (λ f. inl (kept_in n (Some (last_call K t h).listed) c.listings f)) (λ f. inl (kept_in n None c.listings f.0)) (a.1 r)

new_apart : (m i : ℕ) (o : Option ℕ) (xs : List (Listing ℕ)) → find_listing m xs ≡ None → find_listing i xs ≡ Some o → m ≢ i
new_apart m i o xs none f e = no_listing o (sym none ∙ subst (λ v. find_listing v xs ≡ Some o) (sym e) f)

-- another listing that was found has another ticket
other_ticket : (k : Option ℕ) (n i : ℕ) (o : Option ℕ) (c : SharedState) → ListsBy k n c → (k ≡ Some i → ⊥) → find_listing i c.listings ≡ Some o → n ≢ i
other_ticket k n i o c (inl e) x f = λ s. x (e ∙ ap (λ (v : ℕ). Some v) s)
other_ticket k n i o c (inr e) x f = new_apart n i o c.listings e.2 f

not_own : (k : Option ℕ) (n i : ℕ) (c : SharedState) → ListsBy k n c → n ≢ i → k ≡ Some i → ⊥
not_own k n i c (inl e) d x = d (same_some n i (sym e ∙ x))
not_own k n i c (inr e) d x = none_not_some i (sym e.0 ∙ x)

fresh_by : (k : Option ℕ) (n i : ℕ) (c : SharedState) → ListsBy k n c → n ≡ i → (k ≡ Some i) ⊎ ((c.ready ≡ false) × (find_listing i c.listings ≡ None))
fresh_by k n i c (inl e) s = inl (e ∙ ap (λ (v : ℕ). Some v) s)
fresh_by k n i c (inr e) s = inr (e.1, subst (λ v. find_listing v c.listings ≡ None) s e.2)

-- what is found after t was listed with the ticket n
find_anew : (i n w : ℕ) (xs : List (Listing ℕ)) → n ≢ i → find_listing i (list_with n w xs) ≡ find_listing i xs
find_anew i n w xs d = find_push_other i n (Some w) (take_out n xs) d ∙ find_take_other i n xs d

pub find_own : (n w : ℕ) (xs : List (Listing ℕ)) → find_listing n (list_with n w xs) ≡ Some (Some w)
find_own n w xs = find_push_same n (Some w) (take_out n xs) (find_take_same n xs)

pub anew_asks : (v n w : ℕ) (xs : List (Listing ℕ)) → asks v (list_with n w xs) ≤ asks v xs + bit (w == v)
anew_asks v n w xs = let a = asks_push v (record { ticket = n; waker = Some w }) (take_out n xs) in let b = asks_take v n xs in omega arith

-- the waker is listed at the end
pub anew_lists : (t n w : ℕ) (k : Option ℕ) (c : SharedState) (h' : List Entry) → ListsBy k n c → ListMoves t k (Some n) c (listing_shared c n w) h'
anew_lists t n w k c h' by = record {
  up = λ r. r;
  lists = λ u i o d x r f. inl (find_anew i n w c.listings (other_ticket k n i o c by x f) ∙ f);
  fresh = λ i e. fresh_by k n i c by (same_some n i e);
  owner = λ r i o f. ⊎_elim (λ e. inl (ap (λ (v : ℕ). Some v) e)) (λ d. inr (not_own k n i c by d, (o, sym (find_anew i n w c.listings d) ∙ f))) (cases_eq n i);
}

-- a listing that is told to have the waker has it
pub is_waker_found : (w : ℕ) (o : Option (Option ℕ)) → is_waker w o ≡ true → o ≡ Some (Some w)
is_waker_found w None e = grind arith
is_waker_found w (Some None) e = grind arith
is_waker_found w (Some (Some k)) e = grind (arith, nat_tests)
