-- The waker by which a task is listed has its number: a look need not compare wakers, but see whether the own listing was woken.
use Rattle.std.proofs.Common.{◌≡◌, ◌<◌, ℕ, suc, Bool, true, false, cond, ◌==◌, ◌⊎◌, inl, inr, ⊎_elim, List, [], ◌∷◌, Option, Some, None, slice_get, refl, sym, ap, ◌∙◌, subst, arith}
use Rattle.std.proofs.lemmas.Bool.Decides.{nat_tests}
use Rattle.std.proofs.lemmas.Grind.{common_steps}
use Rattle.std.specs.Option.{is_some, option_flatten}
use Rattle.std.proofs.lemmas.Bool.{eqb-true}
use Rattle.once_machine.specs.Word.{Flags, flags_of}
use Rattle.once_machine.specs.declared.waiters.Listing.{Listing}
use Rattle.once_machine.specs.Listings.{find_listing, is_waker, own_listing}
use Rattle.once_machine.proofs.Listing.Members.{eqb_self}
use Rattle.once_machine.specs.Record.{End, Entry, Once, Pending, is_of}
use Rattle.once_machine.specs.Cell.{Cell, Empty, Held, SetTo, cell}
use Rattle.once_machine.specs.Tasks.{LastCall, Polling, Status, Waiting, last_call, last_call_after, pending_status, status, status_after}
use Rattle.once_machine.specs.Run.{IsLegal, IsRun}
use Rattle.once_machine.specs.Book.{At, IsBook, Page, Queue}
use Rattle.once_machine.specs.Machine.{AtLook, Task, UnderWay}
use Rattle.once_machine.proofs.Input.Headline.{task_fits}
use Rattle.once_machine.proofs.Moment.Pages.{queue_of}
use Rattle.once_machine.proofs.Moment.Step.{Moment, moment, stands}
use Rattle.once_machine.proofs.Shared.Worlds.{ArePlain, IsPlain}

-- the wakers of a task have its number: of its poll, and of the one by which it is listed
pub record OwnBy (t : ℕ) (s : Status) (l : LastCall) : Type 0 where
  pub polls : s ≡ Polling → l.waker ≡ t
  pub waits : s ≡ Waiting → l.listed ≡ t
  pub began : l.began ≡ Waiting → l.listed ≡ t

-- a task that ended a poll Pending does not poll
pending_polls : (t : ℕ) (c : Cell) → pending_status t c ≡ Polling → ⊥
pending_polls t Empty e = grind (arith, e)
pending_polls t (SetTo v) e = grind (arith, e)
pending_polls t (Held u) e = grind (arith, e)

module _ (limit t : ℕ) (h : List Entry) (o : OwnBy t (status Once t h) (last_call Once t h)) where
  -- an entry of t keeps it
  own_entry : (e : Entry) → is_of t e ≡ true → IsLegal Once limit e h → IsPlain e
      → OwnBy t (status_after e (cell Once h) (status Once t h)) (last_call_after e (cell Once h) (status Once t h) (last_call Once t h))
  own_entry (End u Pending) i l p =
      let own : (last_call Once t h).waker ≡ t = o.polls (subst (λ v. status Once v h ≡ Polling) (eqb-true u t i) l.0) in
      record { polls = λ e. absurd (pending_polls u (cell Once h) e); waits = λ _. own; began = λ _. own }
  own_entry e i l p =
      let polls = o.polls in
      let waits = o.waits in
      let began = o.began in
      record {
        polls = λ s. grind (arith, nat_tests, common_steps, polls);
        waits = λ s. grind (arith, nat_tests, common_steps, waits);
        began = λ s. grind (arith, nat_tests, common_steps, began, waits);
      }

  -- any entry does, by whether it is one of t
  own_by : (e : Entry) (b : Bool) → is_of t e ≡ b → IsLegal Once limit e h → IsPlain e
      → OwnBy t (cond b (status_after e (cell Once h) (status Once t h)) (status Once t h))
      (cond b (last_call_after e (cell Once h) (status Once t h) (last_call Once t h)) (last_call Once t h))
  own_by e true i l p = own_entry e i l p
  own_by e false i l p = o

-- so it holds after every entry
pub own_wakers : (limit t : ℕ) (h : List Entry) → IsRun Once limit h → ArePlain h → OwnBy t (status Once t h) (last_call Once t h)
own_wakers limit t [] r p = record { polls = λ e. grind (arith, e); waits = λ e. grind (arith, e); began = λ e. grind (arith, e) }
own_wakers limit t (e ∷ h) r p = own_by limit t h (own_wakers limit t h r.1 p.1) e (is_of t e) refl r.0 p.0

-- a listing that has the own waker, or none, has the own one if it was not woken
own_uncalled : (t k : ℕ) (o : Option (Option ℕ)) → k ≡ t → (o ≡ Some (Some t)) ⊎ (o ≡ Some None) → is_waker k o ≡ is_some (option_flatten o)
own_uncalled t k o e f = ⊎_elim
    (λ x. ap (is_waker k) x ∙ (ap (λ v. t == v) e ∙ eqb_self t) ∙ sym (ap (λ v. is_some (option_flatten v)) x))
    (λ x. ap (is_waker k) x ∙ sym (ap (λ v. is_some (option_flatten v)) x)) f

-- a look by a task before the value is set: its own listing has its waker if it was not woken
pub look_own : (limit n put : ℕ) (slot : Bool) (pages : List Page) (log : List Entry) (t : ℕ) (x : Task) (some : 0 < limit) (book : IsBook limit n put slot pages log)
    → slice_get pages (suc (suc t)) ≡ Some (At x) → (head : Bool) (xs : List (Listing ℕ)) → slice_get pages 1 ≡ Some (Queue head xs)
    → (q : ℕ) (k : Option ℕ) → x.step ≡ UnderWay (AtLook q k) → (flags_of n).ready ≡ false
    → is_waker x.waker (own_listing k xs) ≡ is_some (option_flatten (own_listing k xs))
look_own limit n put slot pages log t x some book pen head xs queue q None at r = refl
look_own limit n put slot pages log t x some book pen head xs queue q (Some j) at r =
    let m : Moment limit n put slot pages log t x = moment t some book pen in
    let own = own_wakers limit t m.w.history m.fits.run m.unowned.plain in
    let a = stands t some book pen (AtLook q (Some j)) at in
    let same = (queue_of m.w.shared.head head m.w.shared.listings xs (sym book.1.queue_is ∙ queue)).1 in
    let u : m.w.shared.ready ≡ false = ap (λ (f : Flags). f.ready) (sym book.1.word_is) ∙ r in
    let listed : (last_call Once t m.w.history).listed ≡ t = own.began a.2.0 in
    let waker : x.waker ≡ t = sym (task_fits Once limit t m.w x m.fits m.found).waker_is ∙ own.polls a.0.entered.poll.status_is in
    own_uncalled t x.waker (find_listing j xs) waker
    (⊎_elim (λ e. inl (ap (find_listing j) (sym same) ∙ e ∙ ap (λ v. Some (Some v)) listed)) (λ e. inr (ap (find_listing j) (sym same) ∙ e.0)) (a.2.1 u))
