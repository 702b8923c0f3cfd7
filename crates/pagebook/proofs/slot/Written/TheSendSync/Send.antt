-- A `Written` may go to another thread.
use denote.RattleType.{RattleType}
use denote.Param.Send.{IsSend}
use Rattle.pagebook.proofs.Share.Slots as sent
use Rattle.pagebook.specs.contracts.slot.Written.{the_row}

pub send : (T : RattleType) → IsSend (the_row T)
send = sent.written_send
