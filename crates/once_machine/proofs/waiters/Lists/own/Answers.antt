-- The own listing is the one that is found.
use Rattle.std.proofs.Common.{refl, sym}
use Rattle.once_machine.proofs.waiters.Lists.own.Goals as goal

pub returns-in_err-find : goal.returns-in_err-find
returns-in_err-find g c = rw (c.from_residual-in_err-find.ensures, c.in_ok-ticket.was, sym c.in_err-find.ensures) refl

pub returns : goal.returns
returns g c = rw (c.in_ok-ticket.was, sym c.in_ok-find.ensures) c.as_ref.ensures.value
