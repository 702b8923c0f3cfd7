-- A task that found no queue left it where it was, so what it takes under the lock is all of its step.
use Rattle.std.proofs.Common.{rules, []}
use Rattle.once_machine.specs.Table.{Taken}
use Rattle.async_once_cell.proofs.Desks.{went_after}
use Rattle.async_once_cell.proofs.inner.shared.SharedParts.door_take.Goals as goal

pub returns : goal.returns
returns g c =
    let stayed = c.finds_none_put.ensures.some c.if-finds_none_put.false in
    (search rules, went_after (Taken c.is_some.result) [] _ _ _ stayed (c.lock_and_take.ensures.did c.is_some.result))
