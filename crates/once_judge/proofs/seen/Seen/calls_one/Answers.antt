-- An empty list may be handed out exactly if no waker is due.
use Rattle.std.proofs.Common.{◌≡◌, ℕ, false, sym, ◌∙◌, rules, nat_cmp}
use Rattle.std.specs.BTreeSet.{contains}
use Rattle.std.proofs.lemmas.Bool.{false≢true}
use Rattle.once_judge.specs.Shown.{seen_of}
use Rattle.once_judge.proofs.Handing.{empty_calls, empty_not}
use Rattle.once_judge.proofs.seen.Seen.calls_one.Goals as goal

pub returns-in-Some-clause-rule : goal.returns-in-Some-clause-rule
returns-in-Some-clause-rule c =
    empty_not (seen_of c.args.self.now) c.args.wakers.now c.in-Some.task c.in-Some.waker c.in-empty.len_below c.in-Some.ensures.0

pub returns-in-empty-clause-rule : goal.returns-in-empty-clause-rule
returns-in-empty-clause-rule c =
    let none : (q : ℕ) → contains nat_cmp c.new.result q ≡ false = λ q. let e = c.new.ensures.empty in search rules in
    empty_calls (seen_of c.args.self.now) c.args.wakers.now c.in-empty.len_below (λ w d. false≢true (sym (none w) ∙ c.in-None.ensures w d))
