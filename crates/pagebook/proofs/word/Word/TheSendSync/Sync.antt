-- Threads may share a `Word`.
use denote.RattleType.{RattleType}
use denote.Param.Send.{IsSync}
use Rattle.pagebook.specs.declared.rule.Rule.{Ghosts}
use Rattle.pagebook.specs.contracts.word.Word.{the_row}
use Rattle.core.proofs.atomic.Sent.{chain-Keyless}
use Rattle.pagebook.proofs.Share.Keyless.{word_pen_keyless}

pub sync : (E P R : RattleType) (g : Ghosts R.Denot E.Denot P.Denot) → IsSync (the_row E P R g)
sync E P R g = record {
  shared = λ d b o κ t.
      ((λ νs. chain-Keyless νs κ t.0), ((λ _. tt), λ n. (tt, word_pen_keyless d n)));
}
