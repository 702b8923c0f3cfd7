-- `Blanks` may go to another thread.
use Rattle.std.proofs.Common.{[]}
use denote.Param.Send.{IsSend}
use base.Stored.{gnum}
use Rattle.pagebook.specs.Pages.{dealt}
use Rattle.pagebook.proofs.Share.Keyless.{pens_keyless}
use Rattle.pagebook.specs.contracts.word.Blanks.{the_row}

pub send : IsSend the_row
send = record { owned = λ d vs. ((λ vss. (tt, ((λ uss. (tt, tt)), tt))), pens_keyless gnum d.book.words_name (dealt d.first d.numbers [])); leaving = λ k f vs. tt }
