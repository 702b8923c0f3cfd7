-- A `&` to a `KeyedMutex` is made as one to the lock that names its key.
use denote.RattleType.{RattleType}
use denote.Param.Laws.{Laws}
use contract.BorrowLft.{⊑_static}
use denote.Memory.{part_of}
use Rattle.std.specs.contracts.marker.Brand as Brand
use Rattle.std.proofs.marker.Brand.TheLaws as brand
use Rattle.pagebook.specs.declared.tied.Keyed.{Ghosts}
use Rattle.pagebook.proofs.tied.LockOf.TheLaws as lock_of
use Rattle.pagebook.proofs.lock.KeyedMutex.TheInside.TheLaws as inside
use Rattle.pagebook.proofs.lock.KeyedMutex.TheLaw.Statement.{statement}

pub shares : (T : RattleType) (g : Ghosts T.Denot) (L : Laws T) → statement T g L
unfolding part_of
shares T g L = record {
  shares = λ M 𝓤 𝓛 d κ ts b o inc sp.
      (lock_of.the_row_laws T Brand.the_row g (record { key = d }) L brand.the_row_laws).shares 𝓛
      (record { lock = tt }) κ ts b o
      (lock_of.the_within T Brand.the_row g (record { key = d }) _ (inside.the_holds T g _ inc).0 (⊑_static _)) sp;
  shr_laws = λ d b o. (lock_of.the_row_laws T Brand.the_row g (record { key = d }) L brand.the_row_laws).shr_laws
      (record { lock = tt }) b o;
}
