-- Threads may share a `KeyedMutex` if its content may go to another thread.
use denote.RattleType.{RattleType}
use denote.Param.Send.{IsSend, IsSync}
use Rattle.std.specs.contracts.marker.Brand as Brand
use Rattle.pagebook.specs.declared.tied.Keyed.{Ghosts}
use Rattle.pagebook.specs.contracts.lock.KeyedMutex.{the_row}
use Rattle.pagebook.proofs.Locks.Sent.{lock_sync}

pub sync : (T : RattleType) (g : Ghosts T.Denot) → IsSend T → IsSync (the_row T g)
sync T g s = record {
  shared = λ d b o κ. (lock_sync T Brand.the_row g (record { key = d }) s).shared
      (record { lock = tt }) b o κ;
}
