-- What a `KeyedMutex` owns and shares: the same as a lock whose type names its key.
use mathlib.Core.List.{List}
use mir.Val.{Val}
use base.Fml.{Lft, Fml, ffalse}
use denote.RattleType.{RattleType}
use denote.RawPtr.{Ptr, block_ptr, null_ptr}
use Rattle.std.specs.contracts.marker.Brand as Brand
use Rattle.pagebook.specs.Pages.{LockKey}
use Rattle.pagebook.specs.contracts.tied.LockOf as LockOf

module _ (R : RattleType) (key_of : R.Denot → LockKey) (k : LockKey) where
  -- the lock that names k
  abbrev pub lock_of : RattleType
  lock_of = LockOf.the_row R Brand.the_row (record { key_of = key_of }) (record { key = k })

  -- what a `&` to the lock is
  abbrev pub lock_shares : Ptr → Lft → Fml
  lock_shares (block_ptr b o) κ = lock_of.shr_at (record { lock = tt }) b o κ
  lock_shares null_ptr κ = ffalse

  -- what the lock owns
  abbrev pub lock_owns : List Val → Fml
  lock_owns = lock_of.own_val (record { lock = tt })
