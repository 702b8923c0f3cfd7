-- Each step of a straight way is its line of the table, whether it is made under the lock or not.
use Rattle.std.proofs.Common.{◌≡◌, ℕ, Bool, true, false, [], Option, None, Some, refl, sym, ap, subst}
use Rattle.std.specs.Prelude.{⊤}
use Rattle.std.proofs.lemmas.Bool.{false≢true}
use Rattle.pagebook.specs.Slot.{Placed}
use Rattle.once_machine.specs.Ops.{ticket_in}
use Rattle.once_machine.specs.declared.waiters.Answer.{Answer}
use Rattle.once_machine.specs.declared.waiters.Answer.TheVariants.{Ready, Claimed, Listed, Memory, Released}
use Rattle.once_machine.specs.declared.waiters.Op.{Op}
use Rattle.once_machine.specs.declared.step.Out.{Out}
use Rattle.once_machine.specs.declared.waiters.Op.TheVariants.{Look, List as ListOwn, Release, Leave}
use Rattle.once_machine.specs.declared.step.Polled.{Polled}
use Rattle.once_machine.specs.Steps.{MayClose, is_value, release_place, step_of_poll}
use Rattle.once_machine.specs.Table.{Call, Load, Quick, Fast, CountIn, AddOne, CountOut, DoorGet, DoorPut, DoorTake, Section, Refuse, Run, Put}
use Rattle.once_machine.specs.Table.{Told, Loaded, TriedQuick, TriedFast, CountedIn, Added, CountedOut, Got, PutQueue, Taken, Was, Refused, Ran, PutValue}
use Rattle.once_machine.specs.Table.{GoesOn, Line, Looked, MayRefuse, Next, SideDid, Tells, after, after_copy, after_count_out, after_fast, after_list, after_load, after_quick, after_run, after_start}
use Rattle.once_machine.specs.Table.{call_at, next_at, next_rest, wants_copy}
use Rattle.once_machine.specs.declared.step.Ending.TheVariants.{Value as EndValue}
use Rattle.once_machine.specs.declared.step.Ending.{Ending}
use Rattle.once_machine.specs.declared.step.Progress.TheVariants.{More}
use Rattle.once_machine.specs.declared.step.Progress.{Progress}
use Rattle.once_machine.specs.declared.step.Rest.TheVariants.{Wait as RestWait}
use Rattle.once_machine.specs.declared.step.Step.{Step}
use Rattle.once_machine.specs.declared.step.Step.TheVariants.{UnderWay}
use Rattle.once_machine.specs.declared.step.Place.{Place}
use Rattle.once_machine.specs.Word.{Flags, is_ready_bit, is_zero}
use Rattle.once_machine.specs.declared.step.Place.TheVariants.{List as AtList, Look as AtLook, Start as AtStart, TryQuick as AtTryQuick, WaitLoad as AtWaitLoad}
use Rattle.once_machine.specs.declared.step.Place.TheVariants.{Run as AtRun, Put as AtPut, Fast as AtFast, AddOne as AtAddOne, DoorAgain as AtDoorAgain, Release as AtRelease, CountOut as AtCountOut}
use Rattle.async_once_cell.specs.declared.inner.task.Idle.{Idle}
use Rattle.async_once_cell.specs.Inner.Idle.{step_of}
use Rattle.async_once_cell.specs.Inner.Own.{Own}
use Rattle.async_once_cell.specs.Inner.Parts.{DidCall, parts_did}
use Rattle.async_once_cell.specs.Inner.Sides.{HasClosed, HasCopied, HasPut, HasRun, HasWoken, Sided, sided_tells}
use Rattle.async_once_cell.specs.Walks.{Stands}
use Rattle.async_once_cell.specs.Inner.Ways.{Leads, closed_if}
use Rattle.async_once_cell.proofs.Sides.{sided_told}
use Rattle.async_once_cell.proofs.Walk.Logs.{walked_on}
use Rattle.async_once_cell.proofs.Walk.Lines.{ShownAt, line_went}

-- more is asked of a side: a look may call it in the middle of its step, and a put shows it the value
abbrev pub asks_more : {W : Type 0} → Place W ⊤ → Bool
asks_more (AtLook q k) = true
asks_more (AtPut by) = true
asks_more at = false

-- if no more is asked, it is shown nothing
nothing_shown : {W : Type 0} (at : Place W ⊤) (y : Sided) → asks_more at ≡ false → ShownAt at y
nothing_shown (AtPut by) y plain = absurd (false≢true (sym plain))
nothing_shown at y plain = tt

-- neither is an init polled, nor a value put, nor is anybody handed out
abbrev pub is_quiet : {W : Type 0} → Told W ⊤ → Bool
is_quiet (Ran a) = false
is_quiet PutValue = false
is_quiet (Was q (Release fills) a o) = false
is_quiet (Was q (Leave n) a o) = false
is_quiet e = true

-- the answer of a call, of which more is said
told_more : {W : Type 0} (c : Call W ⊤) (P Q : Told W ⊤ → Type 0) → ((e : Told W ⊤) → P e → Q e) → Tells c P → Tells c Q
told_more Load P Q f (w, p) = (w, f (Loaded w) p)
told_more Quick P Q f (won, p) = (won, f (TriedQuick won) p)
told_more (Fast fills) P Q f (won, p) = (won, f (TriedFast fills won) p)
told_more CountIn P Q f (i, r, p) = (i, r, f (CountedIn i r) p)
told_more AddOne P Q f p = f Added p
told_more CountOut P Q f (w, p) = (w, f (CountedOut w) p)
told_more DoorGet P Q f (q, p) = (q, f (Got q) p)
told_more DoorPut P Q f (q, p) = (q, f (PutQueue q) p)
told_more DoorTake P Q f (b, p) = (b, f (Taken b) p)
told_more (Section q op) P Q f (a, o, p) = (a, o, f (Was q op a o) p)
told_more Refuse P Q f p = f Refused p
told_more Run P Q f (a, p) = (a, f (Ran a) p)
told_more Put P Q f p = f PutValue p

-- an init that is dropped or not
closes : (b : Bool) (x y : Sided) → y ≡ closed_if b x → MayClose HasClosed b x y
closes true x y is = is
closes false x y is = is

-- which cell it is does not matter
abbrev pub any_cell : Placed
any_cell = record { book = record { number = 0; words_name = 0; pages_name = 0; log_name = 0 }; key = 0; id = 0; about = [] }

module _ {W : Type 0} (whose : W → ℕ) where
  -- what the calls of the parts tell of a task, if the parts are what it knows
  abbrev pub Tell : Own → Told W ⊤ → Own → Type 0
  Tell = parts_did (λ (v : Own). any_cell) (λ (v : Own). v) whose

  -- the side did no more than to close its init or not
  quiet_side : (e : Told W ⊤) → is_quiet e ≡ true → (b : Bool) (x y : Sided) → y ≡ closed_if b x → SideDid (sided_tells whose (λ (z : Sided). z)) e b x y
  quiet_side (Was q (Look k) a o) quiet b x y is = closes b x y is
  quiet_side (Was q (ListOwn k w) a o) quiet b x y is = closes b x y is
  quiet_side (Was q op a o) quiet b x y is = absurd (false≢true quiet)
  quiet_side (Ran a) quiet b x y is = absurd (false≢true quiet)
  quiet_side PutValue quiet b x y is = absurd (false≢true quiet)
  quiet_side e quiet b x y is = closes b x y is

  module _ (x y : Sided) (v w : Own) where
    -- a line of the table leads on
    led_by : (at : Place W ⊤) (n : Next W ⊤) → ShownAt at y → Stands whose false x v More (UnderWay at)
        → Line Tell (sided_tells whose (λ (z : Sided). z)) at v x n.progress n.step w y → Leads whose x v n.progress n.step y w
    led_by at n shown is line =
        let went = line_went (λ (v : Own). any_cell) (λ (v : Own). v) (sided_told whose (λ (z : Sided). z)) false at shown is line in
        record { walked = went.walked; stands = went.stands }

    -- if no more is asked, a line says of what the call told that the task goes on by it
    lone : (at : Place W ⊤) (r : Progress) (s : Step W ⊤) → asks_more at ≡ false
        → Tells (call_at at) (λ e. Tell v e w × GoesOn Tell (sided_tells whose (λ (z : Sided). z)) (after None at e) e x y r s)
        → Line Tell (sided_tells whose (λ (z : Sided). z)) at v x r s w y
    lone (AtLook q k) r s plain t = absurd (false≢true (sym plain))
    lone (AtPut by) r s plain t = t
    lone at r s plain t = t

  module _ {x y : Sided} {v w : Own} where
    -- a step at which the side's init is dropped or not, and nothing else is asked of the side
    pub led : (at : Place W ⊤) (e : Told W ⊤) (n : Next W ⊤) → asks_more at ≡ false → is_quiet e ≡ true → Tells (call_at at) (λ d. d ≡ e)
        → Stands whose false x v More (UnderWay at) → DidCall whose v e w → after None at e ≡ n → y ≡ closed_if n.closes x → Leads whose x v n.progress n.step y w
    led at e n plain quiet tells is did leads closed =
        let goes : GoesOn Tell (sided_tells whose (λ (z : Sided). z)) (after None at e) e x y n.progress n.step =
        subst (λ (m : Next W ⊤). GoesOn Tell (sided_tells whose (λ (z : Sided). z)) m e x y n.progress n.step) (sym leads) (quiet_side e quiet n.closes x y closed, refl, refl) in
        led_by x y v w at n (nothing_shown at y plain) is (lone x y v w at n.progress n.step plain
        (told_more (call_at at) (λ d. d ≡ e) (λ d. Tell v d w × GoesOn Tell (sided_tells whose (λ (z : Sided). z)) (after None at d) d x y n.progress n.step)
        (λ d same. subst (λ d. Tell v d w × GoesOn Tell (sided_tells whose (λ (z : Sided). z)) (after None at d) d x y n.progress n.step) (sym same) ((refl, did), goes)) tells))

    -- the first load, by what the word says
    pub started : (word : Flags) (n : Next W ⊤) → Stands whose false x v More (UnderWay AtStart) → DidCall whose v (Loaded word) w
        → after_start word.ready (is_zero word) ≡ n → y ≡ closed_if n.closes x → Leads whose x v n.progress n.step y w
    started word n is did leads closed = led AtStart (Loaded word) n refl refl (_, refl) is did leads closed

    -- a load of a task that waited, by whether the cell is set
    pub loaded : (k : Option ℕ) (word : Flags) (n : Next W ⊤) → Stands whose false x v More (UnderWay (AtWaitLoad tt k)) → DidCall whose v (Loaded word) w
        → after_load word.ready tt k ≡ n → y ≡ closed_if n.closes x → Leads whose x v n.progress n.step y w
    loaded k word n is did leads closed = led (AtWaitLoad tt k) (Loaded word) n refl refl (_, refl) is did leads closed

    -- the quick claim, by whether it was won
    pub claimed : (won : Bool) (n : Next W ⊤) → Stands whose false x v More (UnderWay AtTryQuick) → DidCall whose v (TriedQuick won) w
        → after_quick won ≡ n → y ≡ closed_if n.closes x → Leads whose x v n.progress n.step y w
    claimed won n is did leads closed = led AtTryQuick (TriedQuick won) n refl refl (_, refl) is did leads closed

    -- a holder that met others counts itself in
    pub added : (e : Ending) → Stands whose false x v More (UnderWay (AtAddOne e)) → DidCall whose v Added w → y ≡ x → Leads whose x v More (UnderWay (AtDoorAgain e)) y w
    added e is did same = led (AtAddOne e) Added (next_at (AtDoorAgain e)) refl refl refl is did refl same

    -- counting out, by whether the cell is set and nobody else is counted
    pub counted_out : (e : Ending) (word : Flags) (n : Next W ⊤) → Stands whose false x v More (UnderWay (AtCountOut e)) → DidCall whose v (CountedOut word) w
        → after_count_out (is_ready_bit word) e ≡ n → y ≡ closed_if n.closes x → Leads whose x v n.progress n.step y w
    counted_out e word n is did leads closed = led (AtCountOut e) (CountedOut word) n refl refl (_, refl) is did leads closed

    -- the fast release, by whether it was won and whether it fills
    pub freed : (e : Ending) (fills won : Bool) (n : Next W ⊤) → Stands whose false x v More (UnderWay (AtFast e)) → DidCall whose v (TriedFast fills won) w
        → fills ≡ is_value e → after_fast won (is_value e) e ≡ n → y ≡ closed_if n.closes x → Leads whose x v n.progress n.step y w
    freed e fills won n is did same leads closed = led (AtFast e) (TriedFast fills won) n refl refl (won, ap (λ b. TriedFast b won) (sym same)) is did leads closed

    -- a look that finds no holder, or the own listing
    pub looked : (k : Option ℕ) (a : Answer W) (o : Op W) (n : Next W ⊤) → wants_copy (Look k) a ≡ false → Stands whose false x v More (UnderWay (AtLook tt k))
        → DidCall whose v (Was tt (Look k) a o) w → after None (AtLook tt k) (Was tt (Look k) a o) ≡ n → y ≡ closed_if n.closes x → Leads whose x v n.progress n.step y w
    looked k a o n calm is did leads closed =
        let e : Told W ⊤ = Was tt (Look k) a o in
        let goes : GoesOn Tell (sided_tells whose (λ (z : Sided). z)) (after None (AtLook tt k) e) e x y n.progress n.step =
        subst (λ (m : Next W ⊤). GoesOn Tell (sided_tells whose (λ (z : Sided). z)) m e x y n.progress n.step) (sym leads) (closes n.closes x y closed, refl, refl) in
        led_by x y v w (AtLook tt k) n tt is (
          a,
          o,
          w,
          (refl, did),
          subst (λ b. Looked Tell (sided_tells whose (λ (z : Sided). z)) b (AtLook tt k) e w x n.progress n.step w y) (sym calm) (refl, goes),
        )

    -- a listing
    pub listed : (k k' : Option ℕ) (u : W) (a : Answer W) (o : Option W) (n : Next W ⊤) → Stands whose false x v More (UnderWay (AtList tt k u))
        → DidCall whose v (Was tt (ListOwn k (Some u)) a (ListOwn k' o)) w → after_list a tt k' ≡ n → y ≡ closed_if n.closes x → Leads whose x v n.progress n.step y w
    listed k k' u a o n is did leads closed = led (AtList tt k u) (Was tt (ListOwn k (Some u)) a (ListOwn k' o)) n refl refl (a, ListOwn k' o, refl) is did leads closed

    -- the init is polled, and answers so
    pub ran : (by : Option ⊤) (a : Polled) (m : Sided) → Stands whose false x v More (UnderWay (AtRun by)) → DidCall whose v (Ran a) w
        → HasRun x a m → y ≡ closed_if (after_run {W = W} a by).closes m → Leads whose x v (after_run {W = W} a by).progress (after_run a by).step y w
    ran by a m is did run closed = led_by x y v w (AtRun by) (after_run a by) tt is
        (a, ((refl, did), ((m, run, closes (after_run {W = W} a by).closes m y closed), refl, refl)))

    -- the value is put
    pub put : (by : Option ⊤) → Stands whose false x v More (UnderWay (AtPut by)) → DidCall whose v PutValue w → HasPut x y × (y.has_shown ≡ true)
        → Leads whose x v More (UnderWay (release_place by EndValue)) y w
    put by is did (has, shown) = led_by x y v w (AtPut by) (next_at (release_place by EndValue)) shown is ((refl, did), (has, refl, refl))

    -- a release under the lock, and the tasks that it hands out are woken
    pub released : (e : Ending) (out : Out W) (o : Op W) → Stands whose false x v More (UnderWay (AtRelease tt e))
        → DidCall whose v (Was tt (Release (is_value e)) (Released out) o) w → HasWoken whose x out y → Leads whose x v More (UnderWay (AtCountOut e)) y w
    released e out o is did woken = led_by x y v w (AtRelease tt e) (next_at (AtCountOut e)) tt is (Released out, o, ((refl, did), (woken, refl, refl)))

  module _ {x m y : Sided} {v n w : Own} where
    -- a look that finds a holder, and the copy of the waker, or its refusal
    pub copied : (k : Option ℕ) (a : Answer W) (o : Op W) (c : Option W) → (a ≡ Ready → ⊥) → (a ≡ Claimed → ⊥) → (a ≡ Listed → ⊥)
        → Stands whose false x v More (UnderWay (AtLook tt k)) → DidCall whose v (Was tt (Look k) a o) n → HasCopied whose x c m
        → MayRefuse (λ p t. Tell p Refused t) c n w → y ≡ closed_if (after_copy {W = W} {Q = ⊤} c tt (ticket_in o)).closes m
        → Leads whose x v (after_copy {W = W} {Q = ⊤} c tt (ticket_in o)).progress (after_copy c tt (ticket_in o)).step y w
    copied k Ready o c r l i is did copy may closed = absurd (r refl)
    copied k Claimed o c r l i is did copy may closed = absurd (l refl)
    copied k Listed o c r l i is did copy may closed = absurd (i refl)
    copied k a o c r l i is did copy may closed = led_by x y v w (AtLook tt k) (after_copy c tt (ticket_in o)) tt is
        (a, o, n, (refl, did), (c, m, copy, may, (closes (after_copy {W = W} c tt (ticket_in o)).closes m y closed, refl, refl)))

  -- a poll begins at the place of the rest that was found
  pub begun : {x : Sided} {v : Own} {i j : Idle} → i ≡ j → Stands whose false x v More (step_of_poll (step_of i)) → Stands whose false x v More (step_of_poll (step_of j))
  begun {x} {v} is stands = subst (λ (i : Idle). Stands whose false x v More (step_of_poll (step_of i))) is stands

  -- one step, or some, after others
  pub onward : {x y z : Sided} {u v w : Own} {at s : Step W ⊤} {r : Progress} → Leads whose x u More at y v → Leads whose y v r s z w → Leads whose x u r s z w
  onward a b = record { walked = walked_on refl a.walked b.walked; stands = b.stands }

-- a listing that answers otherwise leaves the task waiting
pub rests : {W : Type 0} (a : Answer W) (k : Option ℕ) → (a ≡ Ready → ⊥) → (a ≡ Claimed → ⊥) → (a ≡ Memory → ⊥)
    → ◌≡◌ {A = Next W ⊤} (after_list a tt k) (next_rest (RestWait tt k))
rests Ready k r c m = absurd (r refl)
rests Claimed k r c m = absurd (c refl)
rests Memory k r c m = absurd (m refl)
rests _ k r c m = refl
