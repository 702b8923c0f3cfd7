-- A `Slot` may go to another thread if its value may.
use denote.RattleType.{RattleType}
use denote.Param.Send.{IsSend}
use Rattle.pagebook.specs.declared.rule.Rule.{Ghosts}
use Rattle.pagebook.specs.declared.rule.Fits as Fits
use Rattle.pagebook.specs.contracts.slot.Slot.{the_row}
use Rattle.pagebook.proofs.Share.Slots as sent

pub send : (T E P R V : RattleType) (g : Ghosts R.Denot E.Denot P.Denot)
    (h : Fits.Ghosts V.Denot T.Denot) → IsSend T → IsSend (the_row T E P R V g h)
send = sent.slot_send
