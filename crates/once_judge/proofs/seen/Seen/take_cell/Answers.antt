-- A poll of the init takes the first answer off.
use Rattle.std.proofs.Common.{ℕ, List, Option, sym, ap, arith}
use Rattle.once_judge.specs.Shown.{seen_of}
use Rattle.once_judge.proofs.Taking.{drop_more, drop_none}
use Rattle.once_judge.proofs.seen.Seen.take_cell.Goals as goal

pub returns-then-self-len-clause-seen : goal.returns-then-self-len-clause-seen
returns-then-self-len-clause-seen c =
    rw c.in-Ran.is (ap {A = List (Option ℕ)} (λ l. record (seen_of c.args.self.now) { answers = l }) (sym (drop_more c.args.self.now.used c.args.self.now.answers.items)))

pub returns-else-self-len-clause-seen : goal.returns-else-self-len-clause-seen
returns-else-self-len-clause-seen c =
    rw c.in-Ran.is (ap {A = List (Option ℕ)} (λ l. record (seen_of c.args.self.now) { answers = l }) (sym (drop_none c.args.self.now.used c.args.self.now.answers.items
    (let e = c.len.ensures in let o = c.args.self.now.answers.ok.0 in omega arith))))
