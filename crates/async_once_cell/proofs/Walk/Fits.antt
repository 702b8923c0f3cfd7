-- What is known of a call holds at the place to which each line of the table leads.
use Rattle.std.proofs.Common.{◌≡◌, ℕ, Bool, true, false, [], Option, Some, None, refl, sym, ◌∙◌, subst}
use Rattle.std.specs.Prelude.{⊤}
use Rattle.once_machine.specs.declared.waiters.Answer.{Answer}
use Rattle.once_machine.specs.declared.waiters.Answer.TheVariants.{Ready, Claimed, Listed, Memory}
use Rattle.once_machine.specs.declared.step.Polled.{Polled}
use Rattle.once_machine.specs.declared.step.Polled.TheVariants.{Pending, Value, Error}
use Rattle.once_machine.specs.Table.{Next, after_copy, after_count_in, after_count_out, after_door_again, after_door_get, after_door_put, after_fast}
use Rattle.once_machine.specs.declared.step.Ending.{Ending}
use Rattle.once_machine.specs.declared.step.Ending.TheVariants.{Pending as EndPending, Value as EndValue, Error as EndError, Memory as EndMemory, Full as EndFull, Dropped as EndDropped}
use Rattle.once_machine.specs.Steps.{leave_place, release_place}
use Rattle.once_machine.specs.Table.{after_list, after_load, after_look, after_quick, after_run, after_start, next_at}
use Rattle.once_machine.specs.declared.record.Ran.TheVariants.{Error as RanError}
use Rattle.async_once_cell.specs.Inner.Own.{Own}
use Rattle.async_once_cell.specs.Inner.Sides.{IsReady, Sided}
use Rattle.async_once_cell.specs.Walks.{Fits, FitsAt, GoesOn, HasBegun, MayEnd}

-- how a call may end stays so, whichever wakers were handed out since
pub may_end_on : (drops : Bool) (x y : Sided) (v w : Own) (e : Ending)
    → (y.has_error ≡ x.has_error) × (w.task.kept ≡ v.task.kept) × (y.has_value ≡ x.has_value)
    → MayEnd drops x v e → MayEnd drops y w e
may_end_on true x y v w EndDropped same m = tt
may_end_on true x y v w _ same m = absurd m
may_end_on false x y v w EndDropped same m = absurd m
may_end_on false x y v w EndPending same m = absurd m
may_end_on false x y v w EndError same m = (same.0 ∙ m.0, same.1 ∙ m.1)
may_end_on false x y v w EndValue same m = same.2 ∙ m
may_end_on false x y v w _ same m = tt

-- a poll goes on, whether it closes its init or not, and its init gave no value yet
abbrev pub Onward : Bool → Bool → Sided → Own → Type 0
Onward drops closes x v = HasBegun drops x v × (closes ≡ false → IsReady x) × (x.has_value ≡ false)

-- a side is as it was, but that its init may have been dropped
pub record Still (closes : Bool) (x y : Sided) : Type 0 where
  pub number : y.number ≡ x.number
  pub init : closes ≡ false → y.has_init ≡ x.has_init
  pub value : y.has_value ≡ x.has_value
  pub error : y.has_error ≡ x.has_error
  pub shown : y.has_shown ≡ x.has_shown
  pub woke : y.woke ≡ x.woke

-- nobody was handed out, and the task is the same
pub record Same (x y : Sided) (v w : Own) : Type 0 where
  pub woke : y.woke ≡ x.woke
  pub number : w.number ≡ v.number
  pub waker : w.task.waker ≡ v.task.waker

-- what a step that hands nobody out leaves of what was known
pub record Leaves (closes : Bool) (x y : Sided) (v w : Own) : Type 0 where
  pub side_is : Still closes x y
  pub number : w.number ≡ v.number
  pub waker : w.task.waker ≡ v.task.waker
  pub kept : w.task.kept ≡ v.task.kept

module _ (drops : Bool) {x y : Sided} {v w : Own} where
  -- a poll has begun still
  pub begun : Same x y v w → HasBegun drops x v → HasBegun drops y w
  begun s b = (b.0, s.woke ∙ b.1, s.waker ∙ b.2 ∙ sym s.number)

  -- and its init is there if it was not dropped
  pub onward : {b : Bool} → Leaves b x y v w → GoesOn drops x v → Onward drops b y w
  onward l h = (
    begun (record { woke = l.side_is.woke; number = l.number; waker = l.waker }) h.0,
    λ e. (l.side_is.init e ∙ h.1.0, l.side_is.value ∙ h.1.1, l.side_is.shown ∙ h.1.2),
    l.side_is.value ∙ h.1.1,
  )

  -- the call may end so
  pub ending : {b : Bool} (e : Ending) → Leaves b x y v w → MayEnd drops x v e → MayEnd drops y w e
  ending e l m = may_end_on drops x y v w e (l.side_is.error, l.kept, l.side_is.value) m

  -- and nobody was handed out, if the right is to be given back
  pub ending_held : {b : Bool} (e : Ending) → Leaves b x y v w → (x.woke ≡ []) × MayEnd drops x v e → (y.woke ≡ []) × MayEnd drops y w e
  ending_held e l m = (l.side_is.woke ∙ m.0, ending e l m.1)

module _ (W : Type 0) (drops : Bool) (x : Sided) (v : Own) where
  -- it holds of what follows
  abbrev pub FitsNext : Next W ⊤ → Type 0
  FitsNext n = Fits drops x v n.progress n.step

  -- a poll that goes on so
  abbrev pub Goes : Next W ⊤ → Type 0
  Goes n = Onward drops n.closes x v

  -- a poll may end with the value, or be refused, or with an error that its init gave
  ends_by : (e : Ending) → HasBegun drops x v → MayEnd false x v e → MayEnd drops x v e
  ends_by e b m = subst (λ d. MayEnd d x v e) (sym b.0) m

  -- where the right is given back
  pub release_fits : (by : Option ⊤) (e : Ending) → (x.woke ≡ []) × MayEnd drops x v e → FitsAt drops x v (release_place {W = W} by e)
  release_fits None e m = m
  release_fits (Some q) e m = m

  -- where a task leaves
  pub leave_fits : (q : ⊤) (k : Option ℕ) (e : Ending) → (x.woke ≡ []) × MayEnd drops x v e → FitsAt drops x v (leave_place {W = W} q k e)
  leave_fits q None e m = m.1
  leave_fits q (Some n) e m = m

  -- where a task leaves to which memory was refused
  refused_fits : (q : ⊤) (k : Option ℕ) → HasBegun drops x v → FitsAt drops x v (leave_place {W = W} q k EndMemory)
  refused_fits q k b = leave_fits q k EndMemory (b.1, ends_by EndMemory b tt)

  pub start_fits : (ready new : Bool) → Goes (after_start ready new) → FitsNext (after_start ready new)
  start_fits true new b = (EndValue, refl, ends_by EndValue b.0 b.2)
  start_fits false true b = (refl, (b.0, b.1 refl))
  start_fits false false b = (refl, (b.0, b.1 refl))

  pub quick_fits : (won : Bool) → Goes (after_quick won) → FitsNext (after_quick won)
  quick_fits true b = (refl, (b.0, b.1 refl))
  quick_fits false b = (refl, (b.0, b.1 refl))

  pub get_fits : (door : Option ⊤) → Goes (after_door_get door) → FitsNext (after_door_get door)
  get_fits (Some q) b = (refl, (b.0, b.1 refl))
  get_fits None b = (refl, (b.0, b.1 refl))

  pub put_fits : (door : Option ⊤) → Goes (after_door_put door) → FitsNext (after_door_put door)
  put_fits (Some q) b = (refl, (b.0, b.1 refl))
  put_fits None b = (EndMemory, refl, ends_by EndMemory b.0 tt)

  pub count_in_fits : (is_in ready : Bool) (q : ⊤) → Goes (after_count_in is_in ready q) → FitsNext (after_count_in is_in ready q)
  count_in_fits true true q b = (refl, ends_by EndValue b.0 b.2)
  count_in_fits true false q b = (refl, (b.0, b.1 refl))
  count_in_fits false true q b = (EndValue, refl, ends_by EndValue b.0 b.2)
  count_in_fits false false q b = (EndFull, refl, ends_by EndFull b.0 tt)

  pub load_fits : (ready : Bool) (q : ⊤) (k : Option ℕ) → Goes (after_load ready q k) → FitsNext (after_load ready q k)
  load_fits true q k b = (refl, ends_by EndValue b.0 b.2)
  load_fits false q k b = (refl, (b.0, b.1 refl))

  pub copy_fits : (w : Option W) (q : ⊤) (k : Option ℕ) → Goes (after_copy w q k) → FitsNext (after_copy w q k)
  copy_fits (Some w) q k b = (refl, (b.0, b.1 refl))
  copy_fits None q k b = (refl, refused_fits q k b.0)

  pub look_fits : (a : Answer W) (q : ⊤) (k : Option ℕ) → Goes (after_look a None q k) → FitsNext (after_look a None q k)
  look_fits Ready q k b = (refl, ends_by EndValue b.0 b.2)
  look_fits Claimed q k b = (refl, (b.0, b.1 refl))
  look_fits Listed q k b = (refl, (b.0, b.1 refl))
  look_fits _ q k b = copy_fits None q k b

  pub list_fits : (a : Answer W) (q : ⊤) (k : Option ℕ) → Goes (after_list a q k) → FitsNext (after_list a q k)
  list_fits Ready q k b = (refl, ends_by EndValue b.0 b.2)
  list_fits Memory q k b = (refl, refused_fits q k b.0)
  list_fits _ q k b = (refl, (b.0, b.1 refl))

  -- what is there once the init was polled
  pub record Gave (a : Polled) : Type 0 where
    pub init : a ≡ Pending → IsReady x
    pub value : a ≡ Value → x.has_value ≡ true
    pub error : a ≡ Error → (x.has_error ≡ true) × (v.task.kept ≡ RanError 0)

  pub run_fits : (a : Polled) (by : Option ⊤) → HasBegun drops x v → Gave a → FitsNext (after_run a by)
  run_fits Pending by b g = (refl, (b, g.init refl))
  run_fits Value by b g = (refl, (b, g.value refl))
  run_fits Error by b g = (refl, release_fits by EndError (b.1, ends_by EndError b (g.error refl)))

  pub fill_fits : (by : Option ⊤) → HasBegun drops x v → x.has_value ≡ false → FitsNext (next_at (release_place by EndValue))
  fill_fits by b none = (refl, release_fits by EndValue (b.1, ends_by EndValue b none))

  pub fast_fits : (won fills : Bool) (e : Ending) → (x.woke ≡ []) × MayEnd drops x v e → FitsNext (after_fast won fills e)
  fast_fits true true e m = (refl, m.1)
  fast_fits true false e m = (e, refl, m.1)
  fast_fits false fills e m = (refl, m)

  pub again_fits : (door : Option ⊤) (e : Ending) → (x.woke ≡ []) × MayEnd drops x v e → FitsNext (after_door_again door e)
  again_fits (Some q) e m = (refl, m)
  again_fits None e m = (refl, m.1)

  pub out_fits : (last : Bool) (e : Ending) → MayEnd drops x v e → FitsNext (after_count_out last e)
  out_fits true e m = (refl, m)
  out_fits false e m = (e, refl, m)
