-- A `KeyedMutex` may go to another thread if its content may.
use denote.RattleType.{RattleType}
use denote.Param.Send.{IsSend}
use Rattle.std.specs.contracts.marker.Brand as Brand
use Rattle.pagebook.specs.declared.tied.Keyed.{Ghosts}
use Rattle.pagebook.specs.contracts.lock.KeyedMutex.{the_row}
use Rattle.pagebook.proofs.Locks.Sent.{lock_send}

pub send : (T : RattleType) (g : Ghosts T.Denot) → IsSend T → IsSend (the_row T g)
send T g s = record {
  owned = λ d vs.
      ((λ _. tt), (lock_send T Brand.the_row g (record { key = d }) s).owned (record { lock = tt }) vs);
  leaving =
      λ k d w. tt;
}
