-- A `Word` may go to another thread.
use denote.RattleType.{RattleType}
use denote.Param.Send.{IsSend}
use Rattle.pagebook.specs.declared.rule.Rule.{Ghosts}
use Rattle.pagebook.specs.contracts.word.Word.{the_row}
use Rattle.pagebook.proofs.Share.Keyless.{word_pen_keyless}

pub send : (E P R : RattleType) (g : Ghosts R.Denot E.Denot P.Denot) → IsSend (the_row E P R g)
send E P R g = record {
  owned = λ d vs.
      ((λ _. tt), λ n. ((λ vss. (tt, ((tt, tt), ((λ uss. (tt, tt)), tt)))), word_pen_keyless d n));
  leaving =
      λ k d w. tt;
}
