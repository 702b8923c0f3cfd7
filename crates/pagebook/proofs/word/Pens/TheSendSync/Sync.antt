-- Threads may share a hand: no step takes a `&` to it.
use denote.RattleType.{RattleType}
use denote.Param.Send.{IsSync, part_keyless}
use Rattle.pagebook.specs.contracts.word.Pens.{the_row}
use Rattle.pagebook.proofs.word.Pens.TheSendSync.Send.{send}

pub sync : (P : RattleType) → IsSync (the_row P)
sync P = record { shared = λ d b o ν q. part_keyless (the_row P) (send P) q d b o }
