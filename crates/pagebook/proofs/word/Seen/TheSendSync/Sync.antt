-- Threads may share a `Seen`.
use denote.RattleType.{RattleType}
use denote.Param.Send.{IsSync, sendable}
use denote.Struct.Struct.{Struct}
use denote.Struct.Owning.{shape}
use Rattle.pagebook.specs.declared.rule.Rule.{Ghosts}
use Rattle.pagebook.specs.contracts.word.Seen.{the_row, the_type}
use Rattle.pagebook.proofs.Share.Keyless.{seen_keyless}

pub sync : (E P R : RattleType) (g : Ghosts R.Denot E.Denot P.Denot) → IsSync (the_row E P R g)
sync E P R g = let fields : IsSync (Struct (shape (the_type E P R g))) = search sendable depth 20 in
    record { shared = λ d b o ν. (fields.shared (tt, tt) b o ν, seen_keyless P.coded.code E.coded.code g.holds d.book d.log) }
