use Rattle.std.proofs.Common.{subst}
use mathlib.Core.List.{IsPrefix}
use Rattle.pagebook.proofs.Book.Prefixes.{one_begins}
use Rattle.pagebook.proofs.word.Seen.agrees.Goals as goal

-- both begin the log that is learnt
pub returns : goal.returns
returns g c =
    let learnt = c.learn.new.self.log in
    let mine = subst (λ s. IsPrefix s.log learnt) c.again-both.ensures c.learn.ensures.log.0 in
    one_begins c.args.self.now.log c.args.other.now.log learnt mine c.learn.ensures.log.1
