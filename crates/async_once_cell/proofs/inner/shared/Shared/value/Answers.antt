use Rattle.async_once_cell.proofs.Values.{ended_sure}
use Rattle.async_once_cell.proofs.inner.shared.Shared.value.Goals as goal

pub get-requires-clause-sure : goal.get-requires-clause-sure
get-requires-clause-sure g c = rw c.args.self.now.inner.now.slot_is.1 (ended_sure _ _ c.requires.ended)
