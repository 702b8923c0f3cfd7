-- If each waker tells the ticket of its listing, no waker is listed twice, and a fill hands out all of them.
use Rattle.std.proofs.Common.{◌≡◌, ℕ, Bool, true, false, ◌==◌, List, [], ◌∷◌, Option, Some, None, refl, sym, ap, ◌∙◌, subst, arith}
use Rattle.std.specs.List.{cons_option}
use Rattle.std.proofs.lemmas.Bool.{false≢true, eqb-true}
use Rattle.std.proofs.lemmas.Bool.Decides.{nat_tests}
use Rattle.once_machine.specs.Numbers.{is_distinct, member}
use Rattle.once_machine.specs.declared.waiters.Listing.{Listing}
use Rattle.once_machine.specs.Listings.{all_out, find_listing, out_by, tickets, wakers_of}
use Rattle.once_machine.proofs.Listing.Members.{eqb_self}
use Rattle.once_machine.proofs.Listing.Tickets.{found_ticket}
use Rattle.once_machine.proofs.Invariant.Listed.{same_some}

-- a number of a list is in a longer one
later : (w n : ℕ) (ws : List ℕ) → member n ws ≡ true → member n (w ∷ ws) ≡ true
later w n ws m = grind arith

-- one that stands after w is not w, nor was it seen before
not_seen : (w n : ℕ) (ws seen : List ℕ) → member w ws ≡ false → member n ws ≡ true → member n seen ≡ false → member n (w ∷ seen) ≡ false
not_seen w n ws seen other m fresh = grind (arith, nat_tests)

-- the first listing hands its waker out, if that was not seen
out_apart : (o : Option ℕ) (xs : List (Listing ℕ)) (seen : List ℕ) → is_distinct (cons_option o (wakers_of xs)) ≡ true
    → ((n : ℕ) → member n (cons_option o (wakers_of xs)) ≡ true → member n seen ≡ false)
    → ((s : List ℕ) → is_distinct (wakers_of xs) ≡ true → ((n : ℕ) → member n (wakers_of xs) ≡ true → member n s ≡ false) → all_out xs s ≡ wakers_of xs)
    → out_by o (all_out xs) seen ≡ cons_option o (wakers_of xs)
out_apart None xs seen d apart rest = rest seen d apart
out_apart (Some w) xs seen d apart rest =
    let ws : List ℕ = wakers_of xs in
    let fresh : member w seen ≡ false = apart w (rw (eqb_self w) refl) in
    let other : member w ws ≡ false = grind arith in
    let distinct : is_distinct ws ≡ true = grind arith in
    rw fresh (ap (λ (ns : List ℕ). w ∷ ns) (rest (w ∷ seen) distinct (λ n m. not_seen w n ws seen other m (apart n (later w n ws m)))))

-- if no waker stands twice, and none was seen, all are handed out
pub all_apart : (xs : List (Listing ℕ)) (seen : List ℕ) → is_distinct (wakers_of xs) ≡ true
    → ((n : ℕ) → member n (wakers_of xs) ≡ true → member n seen ≡ false) → all_out xs seen ≡ wakers_of xs
all_apart [] seen d apart = refl
all_apart (x ∷ xs) seen d apart = out_apart x.waker xs seen d apart (λ s. all_apart xs s)

-- a listing that is found among the later ones is found
found_later : (x : Listing ℕ) (n : ℕ) (o : Option ℕ) (xs : List (Listing ℕ)) → member x.ticket (tickets xs) ≡ false → find_listing n xs ≡ Some o → find_listing n (x ∷ xs) ≡ Some o
found_later x n o xs new found = let m = found_ticket n o xs found in grind (arith, nat_tests)

-- of tickets none of which stands twice, the first is not among the later ones
first_new : (x : Listing ℕ) (xs : List (Listing ℕ)) → is_distinct (tickets (x ∷ xs)) ≡ true → member x.ticket (tickets xs) ≡ false
first_new x xs d = grind arith

-- and of the later ones none stands twice
rest_once : (x : Listing ℕ) (xs : List (Listing ℕ)) → is_distinct (tickets (x ∷ xs)) ≡ true → is_distinct (tickets xs) ≡ true
rest_once x xs d = grind arith

-- the listing of a waker, by the first one's waker
listing_by : (x : Listing ℕ) (o : Option ℕ) (v : ℕ) (xs : List (Listing ℕ)) → x.waker ≡ o → is_distinct (tickets (x ∷ xs)) ≡ true
    → member v (cons_option o (wakers_of xs)) ≡ true → (member v (wakers_of xs) ≡ true → (n : ℕ) × (find_listing n xs ≡ Some (Some v)))
    → (n : ℕ) × (find_listing n (x ∷ xs) ≡ Some (Some v))
listing_by x None v xs is d m rest = let r = rest m in (r.0, found_later x r.0 (Some v) xs (first_new x xs d) r.1)
listing_by x (Some w) v xs is d m rest = here (w == v) refl
  where
    here : (b : Bool) → (w == v) ≡ b → (n : ℕ) × (find_listing n (x ∷ xs) ≡ Some (Some v))
    here true e = (x.ticket, rw (eqb_self x.ticket) (ap (λ (o : Option ℕ). Some o) (is ∙ ap (λ (n : ℕ). Some n) (eqb-true w v e))))
    here false e = let r = rest (rw e at m) in (r.0, found_later x r.0 (Some v) xs (first_new x xs d) r.1)

-- each waker has a listing
listing_of : (v : ℕ) (xs : List (Listing ℕ)) → is_distinct (tickets xs) ≡ true → member v (wakers_of xs) ≡ true → (n : ℕ) × (find_listing n xs ≡ Some (Some v))
listing_of v [] d m = absurd (false≢true m)
listing_of v (x ∷ xs) d m = listing_by x x.waker v xs refl d m (listing_of v xs (rest_once x xs d))

-- the first waker is not among the later ones, if each waker tells the ticket of its listing
apart_by : (T : ℕ → Option ℕ) (x : Listing ℕ) (o : Option ℕ) (xs : List (Listing ℕ)) → x.waker ≡ o → is_distinct (tickets (x ∷ xs)) ≡ true
    → ((n v : ℕ) → find_listing n (x ∷ xs) ≡ Some (Some v) → T v ≡ Some n) → is_distinct (wakers_of xs) ≡ true → is_distinct (cons_option o (wakers_of xs)) ≡ true
apart_by T x None xs is d own rest = rest
apart_by T x (Some w) xs is d own rest = here (member w (wakers_of xs)) refl
  where
    here : (b : Bool) → member w (wakers_of xs) ≡ b → is_distinct (w ∷ wakers_of xs) ≡ true
    here false e = rw e rest
    here true e =
        let f = listing_of w xs (rest_once x xs d) e in
        let new = first_new x xs d in
        let mine : T w ≡ Some x.ticket = own x.ticket w (rw (eqb_self x.ticket, is) refl) in
        let same : f.0 ≡ x.ticket = same_some f.0 x.ticket (sym (own f.0 w (found_later x f.0 (Some w) xs new f.1)) ∙ mine) in
        absurd (false≢true (sym new ∙ subst (λ n. member n (tickets xs) ≡ true) same (found_ticket f.0 (Some w) xs f.1)))

-- so none stands twice
pub wakers_apart : (T : ℕ → Option ℕ) (xs : List (Listing ℕ)) → is_distinct (tickets xs) ≡ true → ((n v : ℕ) → find_listing n xs ≡ Some (Some v) → T v ≡ Some n)
    → is_distinct (wakers_of xs) ≡ true
wakers_apart T [] d own = refl
wakers_apart T (x ∷ xs) d own =
    apart_by T x x.waker xs refl d own (wakers_apart T xs (rest_once x xs d) (λ n v f. own n v (found_later x n (Some v) xs (first_new x xs d) f)))
