use Rattle.async_once_cell.proofs.Values.{opens_kept}
use Rattle.async_once_cell.proofs.inner.shared.Inner.promised.Goals as goal

pub open-blanks-requires : goal.open-blanks-requires
open-blanks-requires g c = opens_kept
