-- What a task knows by the hand that it has, and what becomes of that when its init is polled.
use Rattle.std.specs.Prelude.{◌≡◌, []}
use Rattle.once_machine.specs.declared.step.Polled.{Polled}
use Rattle.once_machine.specs.Table.{Ran, Run}
use Rattle.async_once_cell.specs.declared.inner.hand.Hand.{Hand}
use Rattle.async_once_cell.specs.Inner.Own.{Own, own_in}
use Rattle.async_once_cell.specs.Inner.Page.{Went, call_in}

-- by what it has seen, and by its page
abbrev pub own_of : Hand → Own
own_of h = own_in (h.seen.log, h.pens.held)

-- its task has the right, and stands where it polls its init
abbrev pub HasRight : Hand → Type 0
HasRight h = call_in (own_of h).task.step ≡ Run

-- the init was polled and answered so, and the record says it
abbrev pub HasRun : Hand → Polled → Hand → Type 0
HasRun h a k = (k.seen.book ≡ h.seen.book) × Went (own_of h) (Ran a) [] (own_of k)
