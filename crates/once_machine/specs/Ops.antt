-- What an operation on the queue carries.
use Rattle.std.specs.Prelude.{ℕ, Option, None}
use Rattle.once_machine.specs.declared.waiters.Op.{Op}
use Rattle.once_machine.specs.declared.waiters.Op.TheVariants.{Look as LookOp, List as ListOp}

-- a List brings its waker
abbrev pub HasWaker : {W : Type 0} → Op W → Type 0
HasWaker (ListOp k None) = ⊥
HasWaker _ = Unit {0}

-- the ticket that a Look or a List carries
abbrev pub ticket_in : {W : Type 0} → Op W → Option ℕ
ticket_in (LookOp k) = k
ticket_in (ListOp k w) = k
ticket_in _ = None

-- the operation without its ticket
abbrev pub without_ticket : {W : Type 0} → Op W → Op W
without_ticket (LookOp k) = LookOp None
without_ticket (ListOp k w) = ListOp None w
without_ticket op = op
