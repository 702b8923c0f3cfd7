-- What stands for a task keeps standing through the step of another.
use Rattle.std.proofs.Common.{◌≡◌, ◌≤◌, ℕ, Bool, true, false, ◌⊎◌, inl, inr, ⊎_elim, List, Option, Some, None, refl, sym, ap, ◌∙◌, arith}
use Rattle.std.proofs.lemmas.Bool.Decides.{nat_tests}
use Rattle.std.proofs.lemmas.Grind.{common_steps}
use Rattle.std.proofs.lemmas.Bool.{false≢true}
use Rattle.once_machine.specs.Record.{Answer, Entry, Kind, RanValue}
use Rattle.once_machine.specs.Cell.{Cell, SetTo, cell, is_set}
use Rattle.once_machine.specs.Tasks.{Fresh, Gone, Holding, LastCall, Status, Waiting}
use Rattle.once_machine.specs.Refusals.{MemoryFrom}
use Rattle.once_machine.specs.Machine.{AtAddOne, AtCountIn, AtCountOut, AtDoorAgain, AtDoorGet, AtDoorPut, AtDoorTake, AtFast, AtList, AtLook, AtPut}
use Rattle.once_machine.specs.Machine.{AtLeave, AtRelease, AtRun, AtStart, AtTryQuick, AtWaitLoad, Ending, Finished, SharedState, Place, Rest, RestRun}
use Rattle.once_machine.specs.Machine.{RestStart, RestWait, Resting, Step, UnderWay}
use Rattle.once_machine.proofs.History.Others.{Keeps, holds}
use Rattle.once_machine.proofs.History.Cells.{holder_unset}
use Rattle.once_machine.proofs.Invariant.Facts.{AnyIn, AtPlace, AtRest, AtStep, Entered, FreshIn, GaveNothing, HeadFlag, HoldsBy, InPoll, InStatus}
use Rattle.once_machine.proofs.Invariant.Facts.{MayLeave, Owes, QuickFlag, RefusedIn, Releasing, is_inside, is_inside_at, ticket_at, ticket_of}
use Rattle.once_machine.proofs.Invariant.Listed.{ListKept, listed_kept, rests_kept, ticket_kept}

-- what a step of another task leaves for u of what all tasks share
pub record SharedKeeps (K : Kind) (limit : ℕ) (c c' : SharedState) (u : ℕ) (h : List Entry) (inside : Bool) : Type 0 where
  pub ready : c.ready ≡ true → c'.ready ≡ true
  pub door : (q : ℕ) → c.door ≡ Some q → (c'.door ≡ Some q) ⊎ ((c.ready ≡ true) × (inside ≡ false))
  pub flags : ((c'.quick ≡ c.quick) × (c'.head ≡ c.head) × (c'.value ≡ c.value)) ⊎ (holds u (cell K h) ≡ false)
  pub within : (c.count ≤ limit → c'.count ≤ limit) ⊎ (holds u (cell K h) ≡ false)

-- the facts of the history, one after the other
in_poll_kept : {K : Kind} {u : ℕ} {h h' : List Entry} (a : Option Answer) (b : Bool) → Keeps K u h h' → InPoll K u h a b → InPoll K u h' a b
in_poll_kept a b k p = grind (arith, nat_tests, common_steps)

pub in_status_kept : {K : Kind} {u : ℕ} {h h' : List Entry} (s : Status) (b : Bool) → Keeps K u h h' → InStatus K u h s b → InStatus K u h' s b
in_status_kept s b k p = grind (arith, nat_tests, common_steps)

nothing_kept : {K : Kind} {u : ℕ} {h h' : List Entry} → Keeps K u h h' → GaveNothing K u h → GaveNothing K u h'
nothing_kept k p = rw k.call_is p

entered_kept : {K : Kind} {u : ℕ} {h h' : List Entry} → Keeps K u h h' → Entered K u h → Entered K u h'
entered_kept k p = grind (arith, nat_tests, common_steps)

fresh_kept : {K : Kind} {u : ℕ} {h h' : List Entry} → Keeps K u h h' → FreshIn K u h → FreshIn K u h'
fresh_kept k p = grind (arith, nat_tests, common_steps)

any_kept : {K : Kind} {u : ℕ} {h h' : List Entry} → Keeps K u h h' → AnyIn K u h → AnyIn K u h'
any_kept k p = grind (arith, nat_tests, common_steps)

memory_kept : {K : Kind} (s : Status) {u : ℕ} {h h' : List Entry} → Keeps K u h h' → MemoryFrom K s u h → MemoryFrom K s u h'
memory_kept s k m = let met = k.met in let met_holder = k.met_holder in grind (arith, nat_tests, common_steps, met, met_holder)

refused_kept : {K : Kind} {u : ℕ} {h h' : List Entry} → Keeps K u h h' → RefusedIn K u h → RefusedIn K u h'
refused_kept k p = grind (arith, nat_tests, common_steps)

leaves_kept : {K : Kind} {u : ℕ} {h h' : List Entry} (e : Ending) → Keeps K u h h' → MayLeave K u h e → MayLeave K u h' e
leaves_kept e k o = let met = k.met in let met_holder = k.met_holder in grind (arith, nat_tests, common_steps, met, met_holder)

-- what a call still owes
owes_kept : {K : Kind} {u : ℕ} {h h' : List Entry} (e : Ending) → Keeps K u h h' → Owes K u h e → Owes K u h' e
owes_kept e k o = let met = k.met in let met_holder = k.met_holder in let stays = k.set_stays in grind (arith, nat_tests, common_steps, met, met_holder, stays)

-- what a holder that releases keeps
releasing_kept : {K : Kind} {u : ℕ} (c c' : SharedState) {h h' : List Entry} (e : Ending) → Keeps K u h h'
    → c'.value ≡ c.value → Releasing K u h c e → Releasing K u h' c' e
releasing_kept c c' e k s r = grind (arith, nat_tests, common_steps)

-- a task that releases holds
pub releasing_holds : (K : Kind) (u : ℕ) (c : SharedState) (h : List Entry) (e : Ending) → Releasing K u h c e → holds u (cell K h) ≡ true
releasing_holds K u c h e r = grind (arith, nat_tests, common_steps)

-- what a holder keeps through the step of another task
record HolderKeeps (limit : ℕ) (c c' : SharedState) : Type 0 where
  quick_is : c'.quick ≡ c.quick
  head_is : c'.head ≡ c.head
  value_is : c'.value ≡ c.value
  within : c.count ≤ limit → c'.count ≤ limit
  door : (q : ℕ) → c.door ≡ Some q → c'.door ≡ Some q

-- a holder keeps the flags, the value, the bound and the door
holder_keeps : {K : Kind} {limit u : ℕ} {c c' : SharedState} {h : List Entry} {inside : Bool}
    → c.ready ≡ is_set (cell K h) → holds u (cell K h) ≡ true → SharedKeeps K limit c c' u h inside
    → HolderKeeps limit c c'
holder_keeps {K} {u} {c} {h} r hold k =
    let unset : c.ready ≡ false = r ∙ holder_unset u (cell K h) hold in
    record {
      quick_is = ⊎_elim (λ s. s.0) (λ n. absurd (false≢true (sym n ∙ hold))) k.flags;
      head_is = ⊎_elim (λ s. s.1) (λ n. absurd (false≢true (sym n ∙ hold))) k.flags;
      value_is = ⊎_elim (λ s. s.2) (λ n. absurd (false≢true (sym n ∙ hold))) k.flags;
      within = ⊎_elim (λ s. s) (λ n. absurd (false≢true (sym n ∙ hold))) k.within;
      door = λ q d. ⊎_elim (λ s. s) (λ n. absurd (false≢true (sym unset ∙ n.0))) (k.door q d);
    }

-- a waiter keeps its queue at the door
inside_door : {K : Kind} {limit u q : ℕ} {c c' : SharedState} {h : List Entry} → SharedKeeps K limit c c' u h true → c.door ≡ Some q → c'.door ≡ Some q
inside_door k d = let door = k.door in grind (arith, nat_tests, common_steps, door)

quick_kept : {limit : ℕ} {c c' : SharedState} → HolderKeeps limit c c' → QuickFlag c → QuickFlag c'
quick_kept k f = grind (arith, nat_tests, common_steps)

head_kept : {limit : ℕ} {c c' : SharedState} → HolderKeeps limit c c' → HeadFlag c → HeadFlag c'
head_kept k f = grind (arith, nat_tests, common_steps)

-- a holder keeps how it holds
holds_by_kept : {limit : ℕ} {c c' : SharedState} (by : Option ℕ) → HolderKeeps limit c c' → HoldsBy limit c by → HoldsBy limit c' by
holds_by_kept by k f = let within = k.within in let door = k.door in grind (arith, nat_tests, common_steps, within, door)

-- a set cell stays set
stays_set : (c c' : Cell) → ((v : ℕ) → c ≡ SetTo v → c' ≡ SetTo v) → is_set c ≡ true → is_set c' ≡ true
stays_set c c' f e = grind (arith, common_steps, f)

module _ {K : Kind} {limit u : ℕ} {c c' : SharedState} {h h' : List Entry} (r : c.ready ≡ is_set (cell K h)) (k : Keeps K u h h') where
  -- a task at rest
  rest_kept : (x : Rest ℕ) → SharedKeeps K limit c c' u h (is_inside (Resting x))
      → ListKept u (ticket_of (Resting x)) c c' h' → AtRest K limit u c h x → AtRest K limit u c' h' x
  rest_kept RestStart s l a = in_status_kept Fresh false k a
  rest_kept (RestWait q n) s l a = (in_status_kept Waiting false k a.0, inside_door s a.1, rests_kept c c' n s.ready k l a.2)
  rest_kept (RestRun by) s l a = (in_status_kept Holding true k a.0, holds_by_kept by (holder_keeps r a.0.holds_is s) a.1)

  -- a task with a call under way
  place_kept : (p : Place ℕ ℕ) → SharedKeeps K limit c c' u h (is_inside_at p) → ListKept u (ticket_at p) c c' h'
      → AtPlace K limit u c h p → AtPlace K limit u c' h' p
  place_kept AtStart s l a = (entered_kept k a.0, rw k.call_is a.1, λ e. stays_set (cell K h) (cell K h') k.set_stays (a.2 (sym (ap (λ (x : LastCall). x.set_then) k.call_is) ∙ e)))
  place_kept AtTryQuick s l a = (fresh_kept k a.0, ⊎_elim (λ n. k.became_set n) (λ m. inr (k.met m)) a.1)
  place_kept AtDoorGet s l a = (fresh_kept k a.0, ⊎_elim (λ m. inl (k.met m)) (λ w. k.waits w) a.1)
  place_kept AtDoorPut s l a = (fresh_kept k a.0, k.met a.1)
  place_kept (AtCountIn q) s l a = (fresh_kept k a.0, ⊎_elim (λ d. ⊎_elim (λ x. inl x) (λ n. inr (s.ready n.0)) (s.door q d)) (λ n. inr (s.ready n)) a.1)
  place_kept (AtWaitLoad q n) s l a = (any_kept k a.0, inside_door s a.1, ticket_kept c c' n s.ready k l a.2)
  place_kept (AtLook q n) s l a = (any_kept k a.0, inside_door s a.1, ticket_kept c c' n s.ready k l a.2)
  place_kept (AtList q n w) s l a = (any_kept k a.0, inside_door s a.1, ticket_kept c c' n s.ready k l a.2, k.met_holder a.3, rw k.call_is a.4)
  place_kept (AtLeave q n e) s l a =
      (leaves_kept e k a.0, inside_door s a.1, ap (λ (x : LastCall). x.began) k.call_is ∙ a.2, listed_kept c c' n (Some n) refl s.ready k l a.3)
  place_kept (AtRun by) s l a = let x = holder_keeps r a.0.holds_is s in (in_poll_kept None true k a.0, holds_by_kept by x a.1)
  place_kept (AtPut by) s l a = let x = holder_keeps r a.1.holds_is s in (a.0, in_poll_kept (Some (RanValue a.0)) true k a.1, holds_by_kept by x a.2)
  place_kept (AtFast e) s l a = let x = holder_keeps r (releasing_holds K u c h e a.0) s in
      (releasing_kept c c' e k x.value_is a.0, quick_kept x a.1, x.within a.2)
  place_kept (AtAddOne e) s l a = let x = holder_keeps r (releasing_holds K u c h e a.0) s in (
    releasing_kept c c' e k x.value_is a.0,
    quick_kept x a.1,
    x.within a.2,
    (a.3.0, x.door a.3.0 a.3.1),
  )
  place_kept (AtDoorAgain e) s l a = let x = holder_keeps r
      (releasing_holds K u c h e a.0) s in
      (releasing_kept c c' e k x.value_is a.0, quick_kept x a.1, (a.2.0, x.door a.2.0 a.2.1))
  place_kept (AtRelease q e) s l a = let x = holder_keeps r
      (releasing_holds K u c h e a.0) s in (
        releasing_kept c c' e k x.value_is a.0,
        ⊎_elim
            (λ f. inl (quick_kept x f)) (λ f. inr (head_kept x f)) a.1,
        x.door q a.2,
      )
  place_kept (AtCountOut e) s l a = owes_kept e k a
  place_kept (AtDoorTake e) s l a = (owes_kept e k a.0, s.ready a.1)

  -- a task keeps what stands for it through the step of another
  pub step_kept : (x : Step ℕ ℕ) → SharedKeeps K limit c c' u h (is_inside x) → ListKept u (ticket_of x) c c' h'
      → AtStep K limit u c h x → AtStep K limit u c' h' x
  step_kept (Resting x) s l a = (rest_kept x s l a.0, nothing_kept k a.1)
  step_kept (UnderWay p) s l a = place_kept p s l a
  step_kept Finished s l a = in_status_kept Gone false k a
