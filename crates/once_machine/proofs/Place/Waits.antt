-- The places up to the count: one lemma for each place.
use Rattle.std.proofs.Common.{◌≡◌, ◌≢◌, ◌≤◌, ◌<◌, ℕ, suc, Bool, true, false, ◌==◌, ◌⊎◌, inl, inr, ⊎_elim, List, [], ◌∷◌, Option, Some, None, refl, sym, ap, ◌∙◌, subst, arith}
use Rattle.std.specs.Prelude.{◌||◌, nat_lt}
use Rattle.std.proofs.lemmas.Bool.{false≢true, cases_Bool, or_from, ltb-true, ltb-false}
use Rattle.std.proofs.lemmas.Bool.Decides.{nat_tests}
use Rattle.once_machine.specs.Record.{Answer, End, Entry, Full, Kind}
use Rattle.once_machine.specs.Cell.{cell, is_set}
use Rattle.once_machine.specs.Tasks.{Fresh, Polling, last_call, status}
use Rattle.once_machine.specs.Refusals.{IsCrowded, OtherHolds, Since, crowd}
use Rattle.once_machine.specs.Run.{IsLegal}
use Rattle.once_machine.specs.Machine.{AtCountIn, AtCountOut, AtDoorGet, AtDoorPut, AtStart, AtTryQuick, AtWaitLoad, EndFull, EndMemory, EndPending}
use Rattle.once_machine.specs.Machine.{EndValue, SharedState, word_of}
use Rattle.once_machine.specs.Table.{after_count_in, after_door_get, after_quick, after_start}
use Rattle.once_machine.specs.Machine.{claim_entries, in_shared, outcome_of, quick_shared}
use Rattle.once_machine.proofs.Steps.{put_step}
use Rattle.once_machine.proofs.Listing.Members.{eqb_self}
use Rattle.once_machine.proofs.History.Others.{Met, SomeoneWaits, holds, since_now}
use Rattle.once_machine.proofs.History.Cells.{empty_cell, holder_of, is_held, value_of_set}
use Rattle.once_machine.proofs.Invariant.Facts.{AtPlace, Entered, FreshIn, Owes, refused_in}
use Rattle.once_machine.proofs.Invariant.Fits.{SharedFits}
use Rattle.once_machine.proofs.Invariant.Around.{Around}
use Rattle.once_machine.proofs.Invariant.AroundLists.{AroundList}
use Rattle.once_machine.proofs.Invariant.Turns.{ListMoves, lists_stay}
use Rattle.once_machine.proofs.Place.Relisted.{no_listing}
use Rattle.once_machine.proofs.Place.Builders.{Before, Goes, claims_so, ends_by, ends_plain, moves_on, same_shared, stays}
use Rattle.once_machine.proofs.Place.FitsAfter.{claim_fits, count_fits, headless, nobody, put_fits, put_keeps}
use Rattle.once_machine.specs.Word.{is_zero}

-- a poll that did not claim owes the value, if the cell is set
pub owes_value : (K : Kind) (t : ℕ) (h : List Entry) → Entered K t h → is_set (cell K h) ≡ true → Owes K t h EndValue
owes_value K t h e s = let v = value_of_set (cell K h) s in (e.poll.status_is, (v.0, v.1, inl e.poll.ran_is), e.poll.unpassed)

-- another task holds, if a flag stands and t does not hold
pub other_holds : (K : Kind) (t : ℕ) (c : SharedState) (h : List Entry) → is_held (cell K h) ≡ (c.quick || c.head)
    → holds t (cell K h) ≡ false → (c.quick || c.head) ≡ true → OtherHolds K t h
other_holds K t c h f n e =
    let u = holder_of (cell K h) (f ∙ e) in
    (u.0, (λ k. false≢true (sym n ∙ ap (holds t) u.1 ∙ subst (λ v. (v == t) ≡ true) k (eqb_self t))), u.1)

-- P holds now, in a poll of t
since_here : (K : Kind) (t : ℕ) (P : List Entry → Type 0) (h : List Entry) → status K t h ≡ Polling → P h → Since t P h
since_here K t P [] s p = grind arith
since_here K t P (e ∷ h) s p = inl p

-- a first poll that finds the cell unset
fresh_from : (K : Kind) (t : ℕ) (h : List Entry) → Entered K t h → (last_call K t h).began ≡ Fresh
    → ((last_call K t h).set_then ≡ true → is_set (cell K h) ≡ true) → is_set (cell K h) ≡ false → FreshIn K t h
fresh_from K t h e b f n = record { entered = e; began_is = b; unset = ⊎_elim (λ k. absurd (false≢true (sym n ∙ f k))) (λ k. k) (cases_Bool (last_call K t h).set_then) }

-- a word that is not NEW has a count or the quick bit
busy : (c : SharedState) → c.ready ≡ false → is_zero (word_of c) ≡ false → (0 < c.count) ⊎ (c.quick ≡ true)
busy c r n = grind (arith, nat_tests)

-- a word that is NEW has neither, and not the ready bit
idle : (c : SharedState) → is_zero (word_of c) ≡ true → (c.count ≡ 0) × (c.quick ≡ false) × (c.ready ≡ false)
idle c n = grind (arith, nat_tests)

-- if the word is not NEW, some task acts or waits
met_busy : {K : Kind} {limit t : ℕ} {c : SharedState} {h : List Entry} → SharedFits K limit c h
    → Around K t false false c h → holds t (cell K h) ≡ false → c.ready ≡ false → is_zero (word_of c) ≡ false
    → Met K t h ⊎ SomeoneWaits K h
met_busy {K} {t} {c} {h} shared ar n r f = ⊎_elim (λ l. ar.acts refl l)
    (λ q. let o = other_holds K t c h shared.held_is n (rw q refl) in inl (since_now K t o.0 h o.1 o.2)) (busy c r f)

-- nobody holds under the lock if the count is 0
no_head : {K : Kind} {t : ℕ} {counted take : Bool} {c : SharedState} {h : List Entry} → Around K t counted take c h → c.count ≡ 0 → c.head ≡ false
no_head {c} ar z = ⊎_elim (λ e. let l = ar.head_counts e in absurd (omega arith)) (λ e. e) (cases_Bool c.head)

-- if the cell is not set, the door has the queue that was found
in_door : (c : SharedState) (q : ℕ) → c.ready ≡ false → (c.door ≡ Some q) ⊎ (c.ready ≡ true) → c.door ≡ Some q
in_door c q r (inl d) = d
in_door c q r (inr e) = absurd (false≢true (sym r ∙ e))

-- a new queue has no listings, and without a queue there were none
put_lists : (K : Kind) (t : ℕ) (c : SharedState) (q : ℕ) (h : List Entry) → c.door ≡ None → AroundList K t None c h
    → ListMoves t None None c (record c { door = Some q; head = false; listings = []; queues = q }) h
put_lists K t c q h d al = record {
  up = λ r. r;
  lists = λ u n o x k r f. absurd (al.empty r d n o f);
  fresh = λ n e. inl e;
  owner = λ r n o f. absurd (no_listing o f);
}

-- Full is legal if the crowd has limit tasks
crowd_legal : (K : Kind) (limit t : ℕ) (h : List Entry) → FreshIn K t h → is_set (cell K h) ≡ false → limit ≤ crowd K t h → IsLegal K limit (End t Full) h
crowd_legal K limit t h a n le =
    (a.entered.poll.status_is, rw a.entered.poll.ran_is (a.began_is, a.entered.unclaimed, since_here K t (IsCrowded K limit t) h a.entered.poll.status_is le, n), inl a.entered.poll.unpassed)

-- Full is not Pending
full_lasts : EndFull ≢ EndPending
full_lasts e = cc

module _ {K : Kind} {limit t w : ℕ} {k : Answer} {c : SharedState} {h : List Entry} (before : Before K limit t w k c h) where
  -- the start
  pub start_goes : (ready new : Bool) → c.ready ≡ ready → is_zero (word_of c) ≡ new → Around K t false false c h
      → AtPlace K limit t c h AtStart → Goes K limit t w AtStart c h (outcome_of c t k [] (after_start ready new))
  start_goes true new r f ar a = ends_plain before AtStart EndValue (owes_value K t h a.0 (sym before.shared.ready_is ∙ r)) refl refl
  start_goes false true r f ar a =
      stays before AtStart AtTryQuick
      (fresh_from K t h a.0 a.1 a.2 (sym before.shared.ready_is ∙ r), inl (sym before.shared.ready_is ∙ r)) refl refl
      (λ e. absurd (false≢true e)) (inl refl)
  start_goes false false r f ar a =
      stays before AtStart AtDoorGet
      (fresh_from K t h a.0 a.1 a.2 (sym before.shared.ready_is ∙ r), met_busy before.shared ar a.0.poll.holds_is r f) refl refl
      (λ e. absurd (false≢true e)) (inl refl)

  -- the quick claim
  pub quick_goes : (won : Bool) → is_zero (word_of c) ≡ won → Around K t false false c h
      → AtPlace K limit t c h AtTryQuick → Goes K limit t w AtTryQuick c h (outcome_of (quick_shared won c) t k (claim_entries won t) (after_quick won))
  quick_goes true f ar a =
      let z = idle c f in
      let r = z.2 in
      let n = no_head ar z.0 in
      let empty = empty_cell (cell K h) (sym before.shared.ready_is ∙ r) (before.shared.held_is ∙ or_from c.quick c.head z.1 n) in
      claims_so before AtTryQuick (record c { quick = true }) None empty a.0.entered
      (claim_fits before.shared r refl refl refl r before.shared.head_door refl) (λ n. omega arith)
      (record { quick_is = refl; head_is = n }, omega arith) refl refl refl refl (lists_stay refl (λ r. r) (inl refl))
  quick_goes false f ar a =
      let unset : c.ready ≡ false → Met K t h ⊎ SomeoneWaits K h = λ r. met_busy before.shared ar a.0.entered.poll.holds_is r f in
      let set : c.ready ≡ true → Met K t h ⊎ SomeoneWaits K h = λ r. ⊎_elim (λ n. absurd (false≢true (sym n ∙ sym before.shared.ready_is ∙ r))) (λ m. inl m) a.1 in
      stays before AtTryQuick AtDoorGet (a.0, ⊎_elim set unset (cases_Bool c.ready)) refl refl (λ e. absurd (false≢true e)) (inl refl)

  -- a look at the door
  pub door_get_goes : (door : Option ℕ) → c.door ≡ door → Around K t false false c h
      → AtPlace K limit t c h AtDoorGet → Goes K limit t w AtDoorGet c h (outcome_of c t k [] (after_door_get door))
  door_get_goes (Some q) d ar a = stays before AtDoorGet (AtCountIn q) (a.0, inl d) refl refl (λ e. absurd (false≢true e)) (inl refl)
  door_get_goes None d ar a =
      stays before AtDoorGet AtDoorPut
      (a.0, ⊎_elim (λ m. m) (λ x. absurd (ar.door_waits d x.0 x.1)) a.1) refl refl (λ e. absurd (false≢true e))
      (inl refl)

  -- a queue is put to the door
  pub door_put_goes : (granted : Bool) (door : Option ℕ) → c.door ≡ door → Around K t false false c h
      → AroundList K t None c h → AtPlace K limit t c h AtDoorPut
      → Goes K limit t w AtDoorPut c h (put_step granted door c t k)
  door_put_goes false door d ar al a = ends_plain before AtDoorPut EndMemory (refused_in K t h a.0.entered, rw a.0.began_is (a.0.unset, a.1)) refl refl
  door_put_goes true (Some q) d ar al a = stays before AtDoorPut (AtCountIn q) (a.0, inl d) refl refl (λ e. absurd (false≢true e)) (inl refl)
  door_put_goes true None d ar al a =
      let n = headless K limit c h before.shared d in
      moves_on before AtDoorPut (record c { door = Some (suc c.queues); head = false; listings = []; queues = suc c.queues }) (AtCountIn (suc c.queues))
      (put_fits K limit c h before.shared n (suc c.queues)) (nobody K c.listings h before.queue (ar.door_waits d)) (a.0, inl refl)
      (λ u x b i. put_keeps d n (suc c.queues)) refl (λ e. absurd (false≢true e))
      (λ e. absurd (false≢true e)) (put_lists K t c (suc c.queues) h d al)

  -- the counting in
  pub in_goes : (below ready : Bool) (q : ℕ) → nat_lt c.count limit ≡ below → c.ready ≡ ready → 0 < limit
      → Around K t false false c h → AtPlace K limit t c h (AtCountIn q)
      → Goes K limit t w (AtCountIn q) c h (outcome_of (in_shared below c) t k [] (after_count_in below ready q))
  in_goes true true q b r some ar a =
      let l = ltb-true c.count limit b in
      moves_on before (AtCountIn q) (record c { count = suc c.count })
      (AtCountOut EndValue) (count_fits before.shared (omega arith)
      (λ n. absurd (false≢true (sym n ∙ r)))) before.queue (owes_value K t h a.0.entered (sym before.shared.ready_is ∙ r))
      (λ u n d i. same_shared refl refl refl refl refl
      (λ _. ltb-true c.count limit b)) (omega arith) (λ e. absurd (false≢true e)) (λ e. absurd (false≢true e))
      (lists_stay refl (λ r. r) (inl refl))
  in_goes true false q b r some ar a =
      let l = ltb-true c.count limit b in
      moves_on before (AtCountIn q) (record c { count = suc c.count })
      (AtWaitLoad q None) (count_fits before.shared (omega arith)
      (λ _ _. (q, in_door c q r a.1))) before.queue (
        record {
          entered = a.0.entered;
          from = inl
              (a.0.began_is, a.0.unset);
        },
        in_door c q r a.1,
        tt,
      )
      (λ u n d i. same_shared refl refl refl refl refl
      (λ _. ltb-true c.count limit b)) (omega arith) (λ e. absurd (false≢true e)) (λ e. inr r)
      (lists_stay refl (λ r. r) (inl refl))
  in_goes false true q b r some ar a = ends_plain before (AtCountIn q) EndValue (owes_value K t h a.0.entered (sym before.shared.ready_is ∙ r)) refl refl
  in_goes false false q b r some ar a = ends_by before (AtCountIn q) c EndFull full_lasts
      (crowd_legal K limit t h a.0 (sym before.shared.ready_is ∙ r)
      (let l = ltb-false c.count limit b in let m = ar.crowded refl in omega arith)) a.0.entered.poll.holds_is before.shared before.queue
      (λ u d b i. same_shared refl refl refl refl refl (λ x. x)) (omega arith) (lists_stay refl (λ r. r) (inl refl))
