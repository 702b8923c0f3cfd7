-- Threads may share a `Slot` if its value may be sent and shared.
use denote.RattleType.{RattleType}
use denote.Param.Send.{IsSend, IsSync}
use Rattle.pagebook.specs.declared.rule.Rule.{Ghosts}
use Rattle.pagebook.specs.declared.rule.Fits as Fits
use Rattle.pagebook.specs.contracts.slot.Slot.{the_row}
use Rattle.pagebook.proofs.Share.Slots as sent

pub sync : (T E P R V : RattleType) (g : Ghosts R.Denot E.Denot P.Denot)
    (h : Fits.Ghosts V.Denot T.Denot) → IsSend T → IsSync T
    → IsSync (the_row T E P R V g h)
sync = sent.slot_sync
