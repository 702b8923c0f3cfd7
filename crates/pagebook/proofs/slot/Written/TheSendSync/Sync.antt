-- Threads may share a `Written`.
use denote.RattleType.{RattleType}
use denote.Param.Send.{IsSync}
use Rattle.pagebook.proofs.Share.Slots as sent
use Rattle.pagebook.specs.contracts.slot.Written.{the_row}

pub sync : (T : RattleType) → IsSync (the_row T)
sync = sent.written_sync
