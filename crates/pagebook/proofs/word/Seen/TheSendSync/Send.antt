-- A `Seen` may go to another thread.
use denote.RattleType.{RattleType}
use denote.Param.Send.{IsSend}
use Rattle.pagebook.specs.declared.rule.Rule.{Ghosts}
use Rattle.pagebook.specs.contracts.word.Seen.{the_row}
use Rattle.pagebook.proofs.Share.Keyless.{seen_keyless}

pub send : (E P R : RattleType) (g : Ghosts R.Denot E.Denot P.Denot) → IsSend (the_row E P R g)
send E P R g = record {
  owned = λ d vs.
      ((λ vss. (tt, ((λ uss. (tt, tt)), tt))), seen_keyless P.coded.code E.coded.code g.holds d.book d.log);
  leaving =
      λ k f vs. tt;
}
