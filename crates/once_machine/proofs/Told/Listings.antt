-- A listing that was not woken is that of the task whose number is its waker. So each task is listed once, and a fill hands out all that were not woken.
use Rattle.std.proofs.Common.{◌≡◌, ◌<◌, ℕ, Bool, true, false, ⊎_elim, List, [], Some, None, slice_get, refl, sym, ap, ◌∙◌, subst}
use Rattle.once_machine.specs.Numbers.{is_distinct}
use Rattle.once_machine.specs.Word.{Flags, flags_of}
use Rattle.once_machine.specs.declared.waiters.Listing.{Listing}
use Rattle.once_machine.specs.Listings.{find_listing, tickets, wakers_of}
use Rattle.once_machine.specs.Record.{Entry, Once}
use Rattle.once_machine.specs.Book.{IsBook, Page, Queue}
use Rattle.once_machine.specs.Tasks.{last_call}
use Rattle.once_machine.specs.Machine.{World, release_wakers, step_of}
use Rattle.once_machine.proofs.Invariant.Facts.{ticket_of}
use Rattle.once_machine.proofs.Invariant.Turns.{ticketed}
use Rattle.once_machine.proofs.Listing.Apart.{all_apart, wakers_apart}
use Rattle.once_machine.proofs.Moment.Pages.{queue_of}
use Rattle.once_machine.proofs.Shared.Reached.{fits_of, unowned_of}
use Rattle.once_machine.proofs.Told.Wakers.{own_wakers}

-- a woken listing has no waker
called_not : (n v : ℕ) (xs : List (Listing ℕ)) → find_listing n xs ≡ Some None → find_listing n xs ≡ Some (Some v) → ⊥
called_not n v xs a b = cc

-- a listing has one waker
same_waker : (u v n : ℕ) (xs : List (Listing ℕ)) → find_listing n xs ≡ Some (Some u) → find_listing n xs ≡ Some (Some v) → u ≡ v
same_waker u v n xs a b = cc

module _ (limit n put : ℕ) (slot : Bool) (pages : List Page) (log : List Entry) (some : 0 < limit) (book : IsBook limit n put slot pages log)
    (head : Bool) (xs : List (Listing ℕ)) (queue : slice_get pages 1 ≡ Some (Queue head xs)) (unset : (flags_of n).ready ≡ false) where
  -- the task whose number is the waker has the ticket
  pub listing_owner : (k v : ℕ) → find_listing k xs ≡ Some (Some v) → ticket_of (step_of (book.0.tasks v)) ≡ Some k
  listing_owner k v found =
      let w : World = book.0 in
      let h : List Entry = w.history in
      let f = fits_of limit some w book.1.reached in
      let same = (queue_of w.shared.head head w.shared.listings xs (sym book.1.queue_is ∙ queue)).1 in
      let r : w.shared.ready ≡ false = ap (λ (f : Flags). f.ready) (sym book.1.word_is) ∙ unset in
      let there : find_listing k w.shared.listings ≡ Some (Some v) = ap (find_listing k) same ∙ found in
      let u = f.owned r k (Some v) there in
      let a = ticketed f u.0 u.1 in
      let own = own_wakers limit u.0 h f.run (unowned_of limit some w book.1.reached).plain in
      let listed : (last_call Once u.0 h).listed ≡ u.0 = ⊎_elim own.waits (λ t. own.began t.began) a.acts in
      let is : u.0 ≡ v = ⊎_elim (λ e. sym listed ∙ same_waker (last_call Once u.0 h).listed v k w.shared.listings e there) (λ e. absurd (called_not k v w.shared.listings e.0 there)) (a.listed r) in
      subst (λ i. ticket_of (step_of (w.tasks i)) ≡ Some k) is u.1

  -- no waker is listed twice
  pub listed_apart : is_distinct (tickets xs) ≡ true → is_distinct (wakers_of xs) ≡ true
  listed_apart d = wakers_apart (λ v. ticket_of (step_of (book.0.tasks v))) xs d listing_owner

  -- a fill hands out all wakers
  pub fill_hands_all : is_distinct (tickets xs) ≡ true → release_wakers true xs ≡ wakers_of xs
  fill_hands_all d = all_apart xs [] (listed_apart d) (λ k e. refl)
