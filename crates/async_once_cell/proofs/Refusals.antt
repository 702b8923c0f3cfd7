-- After a look that wants a copy of the waker the task is about to list itself, and the refusal of that copy may be told.
use Rattle.std.proofs.Common.{◌≡◌, ℕ, true, sym, ap, subst}
use Rattle.std.proofs.lemmas.Bool.{false≢true}
use Rattle.once_machine.specs.declared.waiters.Answer.{Answer}
use Rattle.once_machine.specs.declared.waiters.Answer.TheVariants.{Ready, Claimed, Listed}
use Rattle.once_machine.specs.declared.waiters.Op.{Op}
use Rattle.once_machine.specs.declared.waiters.Op.TheVariants.{Look, List as ListOwn, Release, Leave}
use Rattle.std.specs.Prelude.{Option}
use Rattle.once_machine.specs.Table.{Section, Was, wants_copy}
use Rattle.once_machine.specs.Book.{TaskState}
use Rattle.once_machine.specs.declared.step.Place.TheVariants.{Look as AtLook}
use Rattle.once_machine.specs.declared.step.Step.{Step}
use Rattle.once_machine.specs.declared.step.Step.TheVariants.{UnderWay}
use Rattle.async_once_cell.specs.Inner.Steps.{answer_as, left_as}
use Rattle.async_once_cell.specs.Inner.Own.{Own}
use Rattle.async_once_cell.specs.Inner.Page.{call_in, next_of}
use Rattle.async_once_cell.specs.Inner.Parts.{CanCall, DidCall}
use Rattle.async_once_cell.specs.Inner.Places.{CanRefuse}

module _ {W : Type 0} where
  -- the step after such a look
  look_refusable : (a : Answer W) (k : Option ℕ) (o : Op W) (v p q : ℕ) (s : Step ℕ ℕ) → call_in s ≡ Section q (Look k) → wants_copy (Look k) a ≡ true
      → CanRefuse (next_of s v (Was p (Look k) (answer_as a) (left_as o))).step
  look_refusable Ready k o v p q (UnderWay (AtLook u n)) can wants = absurd (false≢true wants)
  look_refusable Claimed k o v p q (UnderWay (AtLook u n)) can wants = absurd (false≢true wants)
  look_refusable Listed k o v p q (UnderWay (AtLook u n)) can wants = absurd (false≢true wants)
  look_refusable _ k o v p q (UnderWay (AtLook u n)) can wants = tt
  look_refusable a k o v p q _ can wants = let no : ⊥ = cc in absurd no

  -- the same of a section
  pub refusable : (whose : W → ℕ) (op : Op W) (a : Answer W) (o : Op W) (v w : Own) → CanCall whose v.task.step (Section tt op) → DidCall whose v (Was tt op a o) w
      → wants_copy op a ≡ true → CanRefuse w.task.step
  refusable whose (Look k) a o v w can did wants =
      subst CanRefuse (sym (ap (λ (t : TaskState). t.step) did.0.task)) (look_refusable a k o v.task.waker _ _ v.task.step can wants)
  refusable whose (ListOwn k x) a o v w can did wants = absurd (false≢true wants)
  refusable whose (Release r) a o v w can did wants = absurd (false≢true wants)
  refusable whose (Leave n) a o v w can did wants = absurd (false≢true wants)
