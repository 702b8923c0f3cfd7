-- A lock whose type names its key is `Send` and `Sync` if its content is `Send`.
use Rattle.pagebook.specs.contracts.tied.LockOf
use Rattle.pagebook.specs.contracts.tied.Tied
use Rattle.pagebook.specs.declared.tied.Key
use Rattle.pagebook.specs.declared.tied.Keyed
use Rattle.std.proofs.sync.Mutex.TheSendSync as mutex
use Rattle.std.proofs.marker.PhantomData.TheSendSync as marker
use denote.Param.Send.{IsSend, IsSync, struct_send, struct_sync, recorded_send, recorded_sync}
use denote.RattleType.{RattleType}
use denote.Struct.Declared.{shape}

module _ (T J : RattleType) (g : Keyed.Ghosts T.Denot) (h : Key.Ghosts J.Denot) (s : IsSend T) where
  -- the content
  pub tied_send : IsSend (Tied.the_row T J g h)
  tied_send = recorded_send (Tied.the_field T J g h).row _ _ (Tied.the_type T J g h).to_one
      (struct_send (shape (Tied.the_type T J g h)) (s, (marker.the_field_send J, tt)))

  -- the lock is sent
  pub lock_send : IsSend (LockOf.the_row T J g h)
  lock_send = recorded_send (LockOf.the_field T J g h).row _ _ (LockOf.the_type T J g h).to_one
      (struct_send (shape (LockOf.the_type T J g h)) (mutex.the_send (Tied.the_row T J g h) tied_send, tt))

  -- and shared
  pub lock_sync : IsSync (LockOf.the_row T J g h)
  lock_sync = recorded_sync (LockOf.the_field T J g h).row _ _ (LockOf.the_type T J g h).to_one
      (struct_sync (shape (LockOf.the_type T J g h)) (mutex.the_sync (Tied.the_row T J g h) tied_send, tt))
