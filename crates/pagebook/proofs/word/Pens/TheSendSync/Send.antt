-- A hand may go to another thread.
use denote.RattleType.{RattleType}
use denote.Param.Send.{IsSend}
use Rattle.pagebook.specs.contracts.word.Pens.{the_row}
use Rattle.pagebook.proofs.Share.Keyless.{pens_keyless}

pub send : (P : RattleType) → IsSend (the_row P)
send P = record { owned = λ d vs. ((λ vss. (tt, ((λ uss. (tt, tt)), tt))), pens_keyless P.coded.code d.book.pages_name d.held); leaving = λ k f vs. tt }
