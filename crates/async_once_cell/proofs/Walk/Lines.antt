-- Each line of the table, where the task stands: what the step makes of the record, and where the task stands after it.
use Rattle.std.proofs.Common.{◌≡◌, ℕ, Bool, true, false, List, [], ◌∷◌, ◌++◌, Option, Some, None, refl, sym, ap, ◌∙◌, subst, arith}
use Rattle.std.specs.Prelude.{◌||◌, ⊤}
use Rattle.std.proofs.lemmas.Bool.{false≢true}
use Rattle.std.proofs.lemmas.Grind.{common_steps}
use Rattle.std.proofs.lemmas.List.{append-nil}
use Rattle.std.specs.Option.{option_map}
use Rattle.pagebook.specs.Slot.{Placed}
use Rattle.once_machine.specs.Word.{is_ready_bit, is_zero}
use Rattle.once_machine.specs.Ops.{ticket_in}
use Rattle.once_machine.specs.declared.waiters.Op.{Op}
use Rattle.once_machine.specs.declared.waiters.Op.TheVariants.{Look, List as ListOwn, Release, Leave}
use Rattle.once_machine.specs.declared.waiters.Answer.{Answer}
use Rattle.once_machine.specs.declared.waiters.Answer.TheVariants.{Ready, Claimed, Listed, Released, Left}
use Rattle.once_machine.specs.declared.step.Polled.{Polled}
use Rattle.once_machine.specs.declared.step.Polled.TheVariants.{Pending, Value, Error}
use Rattle.once_machine.specs.Steps.{MayClose, SideTells, Wakes, out_of, is_value}
use Rattle.once_machine.specs.Table.{Follows, Line, Looked, MayRefuse, Next, Refused, Told, wants_copy}
use Rattle.once_machine.specs.Table.{Added, CountedIn, CountedOut, Got, Loaded, PutQueue, PutValue, Ran as PolledInit, Taken, TriedFast, TriedQuick, Was}
use Rattle.once_machine.specs.Table.{after, after_copy, after_run, next_at}
use Rattle.once_machine.specs.declared.step.Ending.{Ending}
use Rattle.once_machine.specs.declared.step.Progress.TheVariants.{More}
use Rattle.once_machine.specs.declared.step.Progress.{Progress}
use Rattle.once_machine.specs.declared.step.Step.{Step}
use Rattle.once_machine.specs.declared.step.Step.TheVariants.{UnderWay}
use Rattle.once_machine.specs.declared.step.Place.{Place}
use Rattle.once_machine.specs.declared.step.Place.TheVariants.{Start as AtStart, TryQuick as AtTryQuick, DoorGet as AtDoorGet, DoorPut as AtDoorPut}
use Rattle.once_machine.specs.declared.step.Place.TheVariants.{CountIn as AtCountIn, WaitLoad as AtWaitLoad, Look as AtLook, List as AtList}
use Rattle.once_machine.specs.declared.step.Place.TheVariants.{Run as AtRun, Put as AtPut, Fast as AtFast, AddOne as AtAddOne, DoorAgain as AtDoorAgain}
use Rattle.once_machine.specs.declared.step.Place.TheVariants.{Release as AtRelease, Leave as AtLeave, CountOut as AtCountOut, DoorTake as AtDoorTake}
use Rattle.once_machine.specs.declared.record.Ran.{Ran as InitAnswer}
use Rattle.once_machine.specs.declared.record.Ran.TheVariants.{Error as RanError}
use Rattle.once_machine.specs.Record.{Entry, Ran}
use Rattle.once_machine.specs.Book.{TaskState}
use Rattle.once_machine.specs.Machine.{keeps, kept_after, records}
use Rattle.async_once_cell.specs.Kept.{entries_of}
use Rattle.async_once_cell.specs.Inner.Named.{handed_in}
use Rattle.async_once_cell.specs.Inner.Own.{Own, Turned, told}
use Rattle.async_once_cell.specs.Inner.Page.{call_in, given_in, next_of, queue_of, task_after}
use Rattle.async_once_cell.specs.Inner.Parts.{parts_did}
use Rattle.async_once_cell.specs.Inner.Places.{unnamed}
use Rattle.async_once_cell.specs.Record.{gave_since}
use Rattle.async_once_cell.specs.Inner.Sides.{IsTold, Sided, has_given}
use Rattle.async_once_cell.specs.Inner.Steps.{answer_as, left_as, next_as, place_as, step_as, told_as}
use Rattle.async_once_cell.specs.Walks.{Fits, MayEnd, Stands, StandsOn, the_queue}
use Rattle.async_once_cell.proofs.Desks.{prefix_on}
use Rattle.async_once_cell.proofs.Moments.Steps.{after_as, copy_as, stands_after}
use Rattle.async_once_cell.proofs.Walk.Alike.{Names, did_went, gave_by, handed_by, page_goes, records_named, told_twice}
use Rattle.async_once_cell.proofs.Walk.Fits.{Leaves, Same, Still, again_fits, begun, copy_fits, count_in_fits, ending, ending_held, fast_fits, fill_fits, get_fits}
use Rattle.async_once_cell.proofs.Walk.Fits.{list_fits, load_fits, look_fits, may_end_on, onward, out_fits, put_fits, quick_fits, run_fits, start_fits}
use Rattle.async_once_cell.proofs.Walk.Logs.{grew_on, walked_by}
use Rattle.async_once_cell.proofs.Walk.Parts.{Went, quiet}

-- what the init gave, if it gave an error
error_kept : (a : Polled) (k : InitAnswer) → a ≡ Error → kept_after (unnamed a) k ≡ RanError 0
error_kept a k e = grind (arith, common_steps)

-- an init that is pending is not dropped
pending_stays : (W : Type 0) (a : Polled) (by : Option ⊤) → a ≡ Pending → (after_run {W = W} a by).closes ≡ false
pending_stays W a by e = rw e refl

-- a task that is about to look
about_to_look : (s : Step ℕ ℕ) (k : Option ℕ) → step_as (λ w. w) the_queue s ≡ UnderWay (AtLook tt k) → (q : ℕ) × (s ≡ UnderWay (AtLook q k))
about_to_look (UnderWay (AtLook q j)) k is = (q, cc)
about_to_look _ k is = let no : ⊥ = cc in absurd no

-- the task's page went on from the step s
abbrev WentFrom : Step ℕ ℕ → Own → Told ℕ ℕ → Own → Type 0
WentFrom s v e w =
    Turned v (record v.task { step = (next_of s v.task.waker e).step; kept = keeps e (given_in e) v.task.kept })
    (told v.number (keeps e (given_in e) v.task.kept) (next_of s v.task.waker e) (records e (given_in e) v.number v.task.kept [])) w

-- what the init gave is so after a call that told this
abbrev KeptBy : {W : Type 0} → (W → ℕ) → ℕ → Told W ⊤ → Own → Own → Type 0
KeptBy whose n e v w = let d : Told ℕ ℕ = told_as whose (λ (u : ⊤). n) e in w.task.kept ≡ keeps d (given_in d) v.task.kept

-- what the side has of its init's value, after a poll of the init that the record tells so
given_after : (t : ℕ) (a : Polled) (x y : Sided) → (a ≡ Value → y.has_value ≡ true) → ((a ≡ Value → ⊥) → y.has_value ≡ x.has_value) → y.has_shown ≡ x.has_shown
    → has_given y ≡ gave_since (has_given x) (Ran t (unnamed a) ∷ [])
given_after t Value x y value none shown = ap (λ b. b || y.has_shown) (value refl)
given_after t Pending x y value none shown = ap (λ b. b || y.has_shown) (none (λ e. cc)) ∙ ap (λ b. x.has_value || b) shown
given_after t Error x y value none shown = ap (λ b. b || y.has_shown) (none (λ e. cc)) ∙ ap (λ b. x.has_value || b) shown

-- what a side has of its init's value, if it has what another has
same_given : (x y : Sided) → y.has_value ≡ x.has_value → y.has_shown ≡ x.has_shown → has_given y ≡ has_given x
same_given x y value shown = ap (λ b. b || y.has_shown) value ∙ ap (λ b. x.has_value || b) shown

-- a side that put the value which its init gave has what shows it
abbrev pub ShownAt : {W : Type 0} → Place W ⊤ → Sided → Type 0
ShownAt (AtPut by) y = y.has_shown ≡ true
ShownAt at y = Unit {0}

-- by what became of its init
still : (b i : Bool) (x y : Sided) → y ≡ record x { has_init = i } → (b ≡ false → i ≡ x.has_init) → Still b x y
still b i x y is init = record {
  number = ap (λ (x : Sided). x.number) is;
  init = λ e. ap (λ (x : Sided). x.has_init) is ∙ init e;
  value = ap (λ (x : Sided). x.has_value) is;
  error = ap (λ (x : Sided). x.has_error) is;
  shown = ap (λ (x : Sided). x.has_shown) is;
  woke = ap (λ (x : Sided). x.woke) is;
}

module _ {P S W : Type 0} (cell : P → Placed) (own : P → Own) {whose : W → ℕ} {state : S → Sided} {side : SideTells S W} (tells : IsTold whose state side) (drops : Bool) where
  -- what the calls of the parts tell
  abbrev Did : P → Told W ⊤ → P → Type 0
  Did = parts_did cell own whose

  -- a task of the call stands at a place
  abbrev StandsAt : P → S → Progress → Place W ⊤ → Type 0
  StandsAt p s r at = Stands whose drops (state s) (own p) r (UnderWay at)

  -- an init that is dropped or not
  closed : (b : Bool) (s s' : S) → MayClose side.close b s s' → Still b (state s) (state s')
  closed true s s' c = still true false (state s) (state s') (tells.close s s' c) (λ e. absurd (false≢true (sym e)))
  closed false s s' c = still false (state s).has_init (state s) (state s') (ap state c) (λ e. refl)

  -- the same after a copy, which leaves the side as it was
  closed_after : (b : Bool) (s m s' : S) → state m ≡ state s → MayClose side.close b m s' → Still b (state s) (state s')
  closed_after b s m s' same c = subst (λ x. Still b x (state s')) same (closed b m s' c)

  -- the tasks that were handed out are woken
  woken : (s s' : S) (a : Answer W) → Wakes side.wake (out_of a) s s' → (state s).woke ≡ [] → state s' ≡ record (state s) { woke = handed_in whose a }
  woken s s' (Released out) w none = tells.wake s out s' w none
  woken s s' (Left o) w none = tells.wake s _ s' w none
  woken s s' _ w none = ap state w ∙ (λ i. record (state s) { woke = none i })

  -- after a look the page went on from where it stood, at some queue
  look_from : (p n : P) (k : Option ℕ) (a : Answer W) (o : Op W) → StandsOn whose (own p) (UnderWay (AtLook tt k)) → Did p (Was tt (Look k) a o) n
      → (q : ℕ) × WentFrom (UnderWay (AtLook q k)) (own p) (Was (queue_of (call_in (own p).task.step)) (Look k) (answer_as a) (left_as o)) (own n)
  look_from p n k a o stands did =
      let at = about_to_look (own p).task.step k (sym stands) in
      (at.0, subst (λ x. WentFrom x (own p) (Was (queue_of (call_in (own p).task.step)) (Look k) (answer_as a) (left_as o)) (own n)) at.1 did.1.0)

  module _ (p p' : P) (s s' : S) (r r0 : Progress) (t : Step W ⊤) where
    -- the call made its step
    abbrev HasGone : Type 0
    HasGone = Went cell own whose state drops p s r p' s' t

    -- what a step that hands nobody out leaves
    abbrev LeavesBoth : Bool → Type 0
    LeavesBoth closes = Leaves closes (state s) (state s') (own p) (own p')

    -- nobody was handed out, and the task is the same
    same_as : (state s').woke ≡ (state s).woke → (own p').number ≡ (own p).number → (own p').task.waker ≡ (own p).task.waker → Same (state s) (state s') (own p) (own p')
    same_as woke number waker = record { woke = woke; number = number; waker = waker }

    -- what holds where the task goes on
    abbrev FitsThere : Next W ⊤ → Type 0
    FitsThere n = Fits drops (state s') (own p') n.progress n.step

    -- a copy of the waker, which the page would have, is not asked for
    abbrev NoCopy : Place W ⊤ → Told W ⊤ → Type 0
    NoCopy at e = ◌≡◌ {A = Next ℕ ⊤} (after None (place_as whose (λ u. u) at) (told_as whose (λ u. u) e))
        (after (Some (own p).task.waker) (place_as whose (λ u. u) at) (told_as whose (λ u. u) e))

    -- no copy is asked for, these are handed out, and no init answers
    abbrev Plain : List ℕ → Place W ⊤ → Told W ⊤ → Type 0
    Plain X at e = NoCopy at e × (handed_by whose e ≡ X)
        × ((n : ℕ) → let d : Told ℕ ℕ = told_as whose (λ (u : ⊤). n) e in keeps d (given_in d) (own p).task.kept ≡ (own p).task.kept)
        × ((k : InitAnswer) (t : ℕ) (gave : Bool) → gave_by whose e k t gave ≡ gave)

    -- the code goes on by a, and the page by b: both are the same line of the table
    went_by : (a : Next W ⊤) (b : Next ℕ ℕ) (c : Next ℕ ⊤) (z : TaskState) (did : List Entry) (X : List ℕ)
        → cell p' ≡ cell p → Turned (own p) z (told (own p).number z.kept b did) (own p') × (z.step ≡ b.step)
        → (next_as whose (λ q. q) a ≡ c) × (next_as (λ w. w) the_queue b ≡ c)
        → (g : Bool → Bool) × Names did X g × ((state s').woke ≡ (state s).woke ++ X) × ((state s').number ≡ (own p).number) × (has_given (state s') ≡ g (has_given (state s)))
        → (r ≡ a.progress) × (t ≡ a.step) → FitsThere a → HasGone
    went_by a b c z did X same (d, at) (left, right) (g, named, woke, number, gave) (more, leads) fits =
        let both = stands_after whose (λ (q : ⊤). q) the_queue a b c left right in
        record {
          cell_is = same;
          walked = walked_by (state s) (state s') (own p) (own p') z b did r X d (more ∙ both.1) named.0 named.1 woke (gave ∙ sym (named.2 (has_given (state s))));
          stands = record {
            step = subst (λ y. StandsOn whose (own p') y) (sym leads) (both.2 ∙ ap (λ y. step_as (λ w. w) the_queue y) (sym (ap (λ (k : TaskState). k.step) d.task ∙ at)));
            number = number ∙ sym d.number;
            fits = subst (λ q. Fits drops (state s') (own p') q t) (sym more) (subst (λ y. Fits drops (state s') (own p') a.progress y) (sym leads) fits);
          };
        }

    -- the code goes on by the table, and so does the page
    goes : (at : Place W ⊤) (e : Told W ⊤) → StandsOn whose (own p) (UnderWay at) → Did p e p' → NoCopy at e
        → ((state s').woke ≡ (state s).woke ++ handed_by whose e) × ((state s').number ≡ (own p).number)
        × ((n : ℕ) → has_given (state s') ≡ gave_by whose e (given_in (told_as whose (λ (u : ⊤). n) e)) (own p).number (has_given (state s)))
        → (r ≡ (after None at e).progress) × (t ≡ (after None at e).step)
        → ((n : ℕ) → (own p').number ≡ (own p).number → (own p').task.waker ≡ (own p).task.waker → KeptBy whose n e (own p) (own p') → FitsThere (after None at e)) → HasGone
    goes at e stands (same, did) copy (woke, number, gave) on fits =
        let v : Own = own p in
        let went = did_went whose v (own p') e did in
        let d : Told ℕ ℕ = told_as whose (λ (u : ⊤). went.0) e in
        let named = records_named whose went.0 e (given_in d) v.number v.task.kept in
        let b : Next ℕ ℕ = next_of v.task.step v.task.waker d in
        let at' : Place ℕ ⊤ = place_as whose (λ u. u) at in
        let right : next_as (λ w. w) the_queue b ≡ after (None) at' (told_as whose (λ u. u) e) =
        page_goes v.task.step at' v.task.waker d (sym stands) ∙ ap (after (Some v.task.waker) at') (told_twice whose went.0 e) ∙ sym copy in
        went_by (after None at e) b (after (None) at' (told_as whose (λ u. u) e)) (task_after v.task d)
        (records d (given_in d) v.number v.task.kept (handed_by whose e)) (handed_by whose e) same (went.1, refl) (after_as whose (λ (u : ⊤). u) None at e, right)
        (gave_by whose e (given_in d) v.number, named, woke, number, gave went.0) on
        (fits went.0 went.1.number (ap (λ (x : TaskState). x.waker) went.1.task) (ap (λ (x : TaskState). x.kept) went.1.task))

    -- if nobody is handed out, and the side at most closes its init
    plain : (at : Place W ⊤) (e : Told W ⊤) → StandsAt p s r0 at → Did p e p' → Plain [] at e
        → Follows side.close (after None at e) s s' r t → (LeavesBoth (after None at e).closes → FitsThere (after None at e)) → HasGone
    plain at e is did (copy, none, kept, calm) (close, more, leads) fits =
        let still = closed (after None at e).closes s s' close in
        goes at e is.step did copy (
          quiet (state s) (state s') still.woke ∙ ap (λ X. (state s).woke ++ X) (sym none),
          still.number ∙ is.number,
          λ n. same_given (state s) (state s') still.value still.shown ∙ sym (calm _ _ _),
        ) (more, leads)
        (λ n i w k. fits (record { side_is = still; number = i; waker = w; kept = k ∙ kept n }))

    -- a section that hands out the wakers in its answer, after which the task counts itself out
    wakes : (at : Place W ⊤) (e : Told W ⊤) (a : Answer W) (end : Ending) → StandsAt p s r0 at → Did p e p' → Plain (handed_in whose a) at e × (after None at e ≡ next_at (AtCountOut end))
        → Wakes side.wake (out_of a) s s' × (r ≡ More) × (t ≡ UnderWay (AtCountOut end)) × ((state s).woke ≡ []) × MayEnd drops (state s) (own p) end → HasGone
    wakes at e a end is did ((copy, hands, kept, calm), leads) (wake, more, step, none, m) =
        let now = woken s s' a wake none in
        goes at e is.step did copy (
          ap (λ (x : Sided). x.woke) now ∙ sym hands ∙ ap (λ X. X ++ handed_by whose e) (sym none),
          ap (λ (x : Sided). x.number) now ∙ is.number,
          λ n. same_given (state s) (state s') (ap (λ (x : Sided). x.has_value) now) (ap (λ (x : Sided). x.has_shown) now) ∙ sym (calm _ _ _),
        )
        (more ∙ sym (ap (λ (n : Next W ⊤). n.progress) leads), step ∙ sym (ap (λ (n : Next W ⊤). n.step) leads))
        (λ n i w k. subst (λ (n : Next W ⊤). FitsThere n) (sym leads)
        (refl, may_end_on drops (state s) (state s') (own p) (own p') end (ap (λ (x : Sided). x.has_error) now, k ∙ kept n, ap (λ (x : Sided). x.has_value) now) m))

    -- a look
    module _ (n : P) (k : Option ℕ) (is : StandsAt p s r0 (AtLook tt k)) where
      -- the task is about to list itself at the queue q, if its waker was copied, and else to leave it
      abbrev copying : ℕ → Option ℕ → Option ℕ → TaskState
      copying q j c = record (own p).task { step = (after_copy c q j).step }

      -- the waker c was copied, and c' on the page, or it was refused on both
      copy_went : (q : ℕ) (j : Option ℕ) (c : Option W) (c' : Option ℕ) → option_map whose c ≡ option_map (λ w. w) c'
          → cell p' ≡ cell p → Turned (own p) (copying q j c') (told (own p).number (own p).task.kept (after_copy c' q j) []) (own p')
          → Still (after_copy {W = W} {Q = ⊤} c tt j).closes (state s) (state s') × (r ≡ (after_copy {W = W} {Q = ⊤} c tt j).progress)
          × (t ≡ (after_copy {W = W} {Q = ⊤} c tt j).step) → HasGone
      copy_went q j c c' mine same d (now, more, leads) =
          let leaves : LeavesBoth (after_copy {W = W} {Q = ⊤} c tt j).closes =
          record { side_is = now; number = d.number; waker = ap (λ (x : TaskState). x.waker) d.task; kept = ap (λ (x : TaskState). x.kept) d.task } in
          went_by (after_copy c tt j) (after_copy c' q j) (after_copy (option_map (λ w. w) c') tt j) (copying q j c') [] [] same (d, refl)
          (copy_as whose (λ (q : ⊤). q) c tt j ∙ ap (λ c. after_copy c tt j) mine, copy_as (λ w. w) the_queue c' q j)
          ((λ gave. gave), (tt, refl, λ gave. refl), quiet (state s) (state s') now.woke, now.number ∙ is.number, same_given (state s) (state s') now.value now.shown) (more, leads)
          (copy_fits W drops (state s') (own p') c tt j (onward drops leaves is.fits.1))

      -- if it found a holder and left this ticket: the copy is made, or its refusal is told
      copied : (q : ℕ) (j : Option ℕ) (c : Option W) (m : S) → cell n ≡ cell p → Turned (own p) (copying q j (Some (own p).task.waker)) [] (own n)
          → side.copy s c m × MayRefuse (λ p t. Did p Refused t) c n p' → Follows side.close (after_copy c tt j) m s' r t → HasGone
      copied q j (Some w) m same d (copy, back) (close, more, leads) =
          let told = tells.copy s (Some w) m copy in
          let mine : whose w ≡ (own p).task.waker = told.1 ∙ is.number ∙ sym is.fits.1.0.2 in
          copy_went q j (Some w) (Some (own p).task.waker) (ap Some mine) (ap cell back ∙ same)
          (subst (λ o. Turned (own p) (copying q j (Some (own p).task.waker)) [] (own o)) (sym back) d) (closed_after false s m s' told.0 close, more, leads)
      copied q j None m same d (copy, refused) (close, more, leads) =
          let y : TaskState = copying q j None in
          let back : Turned (own n) y [] (own p') = subst
          (λ (x : TaskState). Turned (own n) (task_after x Refused) (told (own n).number (task_after x Refused).kept (next_of x.step x.waker Refused) []) (own p')) d.task refused.1 in
          let after : Turned (own p) y [] (own p') = record {
            number = back.number ∙ d.number;
            task = back.task;
            log = (back.log.0, prefix_on (own p).log (own n).log back.log.0 (grew_on [] (own p).log (own n).log d.log) back.log.1, back.log.2);
            mine = subst (λ (m : ℕ). entries_of m (own p').log ≡ entries_of m (own n).log) d.number (back.mine ∙ append-nil (entries_of (own n).number (own n).log)) ∙ d.mine;
          } in
          copy_went q j None None refl (refused.0 ∙ same) after (closed_after true s m s' (tells.copy s None m copy).0 close, more, leads)

      -- if it wants no copy
      seen : (a : Answer W) (o : Op W) → Did p (Was tt (Look k) a o) n → NoCopy (AtLook tt k) (Was tt (Look k) a o)
          → p' ≡ n → Follows side.close (after None (AtLook tt k) (Was tt (Look k) a o)) s s' r t → HasGone
      seen a o did copy same f = plain (AtLook tt k) (Was tt (Look k) a o) is (subst (Did p (Was tt (Look k) a o)) (sym same) did) (copy, refl, λ n. refl, λ k t gave. refl) f
          (λ l. look_fits W drops (state s') (own p') a tt (ticket_in o) (onward drops l is.fits.1))

      -- if it wants one
      held : (a : Answer W) (o : Op W) (did : Did p (Was tt (Look k) a o) n)
          → (c : Option W) × (m : S) × side.copy s c m × MayRefuse (λ p t. Did p Refused t) c n p' × Follows side.close (after_copy c tt (ticket_in o)) m s' r t
          → Turned (own p) (copying (look_from p n k a o is.step did).0 (ticket_in o) (Some (own p).task.waker)) [] (own n) → HasGone
      held a o did (c, m, copy, may, f) d = copied (look_from p n k a o is.step did).0 (ticket_in o) c m did.0 d (copy, may) f

      -- by its answer
      looked : (a : Answer W) (o : Op W) → Did p (Was tt (Look k) a o) n
          → Looked Did side (wants_copy (Look k) a) (AtLook tt k) (Was tt (Look k) a o) n s r t p' s' → HasGone
      looked Ready o did (same, f) = seen Ready o did refl same f
      looked Claimed o did (same, f) = seen Claimed o did refl same f
      looked Listed o did (same, f) = seen Listed o did refl same f
      looked a o did l = held a o did l (look_from p n k a o is.step did).1

    -- each line, by its place
    by_line : (at : Place W ⊤) → ShownAt at (state s') → StandsAt p s r0 at → Line Did side at p s r t p' s' → HasGone
    by_line AtStart shown is (w, (d, f)) = plain AtStart (Loaded w) is d (refl, refl, λ n. refl, λ k t gave. refl) f
        (λ l. start_fits W drops (state s') (own p') w.ready (is_zero w) (onward drops l is.fits.1))
    by_line AtTryQuick shown is (won, (d, f)) = plain AtTryQuick (TriedQuick won) is d (refl, refl, λ n. refl, λ k t gave. refl) f
        (λ l. quick_fits W drops (state s') (own p') won (onward drops l is.fits.1))
    by_line AtDoorGet shown is (q, (d, f)) = plain AtDoorGet (Got q) is d (refl, refl, λ n. refl, λ k t gave. refl) f
        (λ l. get_fits W drops (state s') (own p') q (onward drops l is.fits.1))
    by_line AtDoorPut shown is (q, (d, f)) = plain AtDoorPut (PutQueue q) is d (refl, refl, λ n. refl, λ k t gave. refl) f
        (λ l. put_fits W drops (state s') (own p') q (onward drops l is.fits.1))
    by_line (AtCountIn q) shown is (b, c, (d, f)) = plain (AtCountIn q) (CountedIn b c) is d (refl, refl, λ n. refl, λ k t gave. refl) f
        (λ l. count_in_fits W drops (state s') (own p') b c q (onward drops l is.fits.1))
    by_line (AtWaitLoad q k) shown is (w, (d, f)) = plain (AtWaitLoad q k) (Loaded w) is d (refl, refl, λ n. refl, λ k t gave. refl) f
        (λ l. load_fits W drops (state s') (own p') w.ready q k (onward drops l is.fits.1))
    by_line (AtLook q k) shown is (a, o, n, d, f) = looked n k is a o d f
    by_line (AtList q k w) shown is (a, o, (d, f)) = plain (AtList q k w) (Was q (ListOwn k (Some w)) a o) is d (refl, refl, λ n. refl, λ k t gave. refl) f
        (λ l. list_fits W drops (state s') (own p') a q (ticket_in o) (onward drops l is.fits.1))
    by_line (AtRun by) shown is (a, (d, ((m, ran, close), more, leads))) =
        let told = tells.run s a m ran in
        let now = closed (after_run {W = W} a by).closes m s' close in
        let woke : (state s').woke ≡ (state s).woke = now.woke ∙ told.woke in
        goes (AtRun by) (PolledInit a) is.step d refl (
          quiet (state s) (state s') woke,
          now.number ∙ told.number ∙ is.number,
          λ n. given_after (own p).number a (state s) (state s') (λ e. now.value ∙ told.value e) (λ no. now.value ∙ told.none no) (now.shown ∙ told.shown),
        ) (more, leads)
        (λ n i w k. run_fits W drops (state s') (own p') a by (begun drops (same_as woke i w) is.fits.1.0) (record {
          init = λ e. let before = is.fits.1.1 in (
            now.init (pending_stays W a by e) ∙ told.init e ∙ before.0,
            now.value ∙ told.none (λ v. let no : Pending ≡ Value = sym e ∙ v in cc) ∙ before.1,
            now.shown ∙ told.shown ∙ before.2,
          );
          value = λ e. now.value ∙ told.value e;
          error = λ e. (now.error ∙ told.error e, k ∙ error_kept a (own p).task.kept e);
        }))
    by_line (AtPut by) shown is (d, (put, more, leads)) =
        let told = tells.put s s' put in
        let gave : has_given (state s') ≡ has_given (state s) =
        ap (λ b. b || (state s').has_shown) told.value ∙ shown ∙ sym (ap (λ b. b || (state s).has_shown) is.fits.1.1) in
        goes (AtPut by) PutValue is.step d refl (quiet (state s) (state s') told.woke, told.number ∙ is.number, λ n. gave) (more, leads)
        (λ n i w k. fill_fits W drops (state s') (own p') by (begun drops (same_as told.woke i w) is.fits.1.0) told.value)
    by_line (AtFast e) shown is (won, (d, f)) = plain (AtFast e) (TriedFast (is_value e) won) is d (refl, refl, λ n. refl, λ k t gave. refl) f
        (λ l. fast_fits W drops (state s') (own p') won (is_value e) e (ending_held drops e l is.fits.1))
    by_line (AtAddOne e) shown is (d, f) = plain (AtAddOne e) Added is d (refl, refl, λ n. refl, λ k t gave. refl) f (λ l. (refl, ending_held drops e l is.fits.1))
    by_line (AtDoorAgain e) shown is (q, (d, f)) = plain (AtDoorAgain e) (Got q) is d (refl, refl, λ n. refl, λ k t gave. refl) f
        (λ l. again_fits W drops (state s') (own p') q e (ending_held drops e l is.fits.1))
    by_line (AtRelease q e) shown is (a, o, (d, f)) = wakes (AtRelease q e) (Was q (Release (is_value e)) a o) a e is d
        ((refl, refl, λ n. refl, λ k t gave. refl), refl) (f.0, f.1, f.2, is.fits.1.0, is.fits.1.1)
    by_line (AtLeave q k e) shown is (a, o, (d, f)) = wakes (AtLeave q k e) (Was q (Leave k) a o) a e is d ((refl, refl, λ n. refl, λ k t gave. refl), refl) (f.0, f.1, f.2, is.fits.1.0, is.fits.1.1)
    by_line (AtCountOut e) shown is (w, (d, f)) = plain (AtCountOut e) (CountedOut w) is d (refl, refl, λ n. refl, λ k t gave. refl) f
        (λ l. out_fits W drops (state s') (own p') (is_ready_bit w) e (ending drops e l is.fits.1))
    by_line (AtDoorTake e) shown is (b, (d, f)) = plain (AtDoorTake e) (Taken b) is d (refl, refl, λ n. refl, λ k t gave. refl) f (λ l. (e, refl, ending drops e l is.fits.1))

  -- each line
  pub line_went : {p p' : P} {s s' : S} {r r0 : Progress} {t : Step W ⊤} (at : Place W ⊤) → ShownAt at (state s') → StandsAt p s r0 at → Line Did side at p s r t p' s'
      → Went cell own whose state drops p s r p' s' t
  line_went {p = p} {p' = p'} {s = s} {s' = s'} {r = r} {r0 = r0} {t = t} at shown is line = by_line p p' s s' r r0 t at shown is line
