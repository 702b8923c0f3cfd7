use Rattle.std.proofs.Common.{false, reverse, subst}
use Rattle.std.proofs.lemmas.List.{reverse-reverse}
use Rattle.async_once_cell.specs.Kept.{entries_of}
use Rattle.async_once_cell.specs.Record.{AreOnce}
use Rattle.async_once_cell.proofs.PollsOnce.{are_once}
use Rattle.async_once_cell.proofs.Seen.{seen_called, seen_filled, seen_run}
use Rattle.async_once_cell.proofs.inner.hand.is_run.Goals as goal

pub returns-clause-run : goal.returns-clause-run
returns-clause-run c = seen_run c.args.seen.now.log c.learn.ensures.rule.2 c.learn.ensures.log.1

pub returns-clause-called : goal.returns-clause-called
returns-clause-called c = seen_called c.args.seen.now.log c.learn.ensures.rule.2 c.learn.ensures.log.1

pub returns-clause-filled : goal.returns-clause-filled
returns-clause-filled c = seen_filled c.args.seen.now.log c.learn.ensures.rule.2 c.learn.ensures.log.1

pub returns-clause-once : goal.returns-clause-once
returns-clause-once c = λ t. subst (λ l. AreOnce false (entries_of t l)) (reverse-reverse c.args.seen.now.log)
    (are_once t (reverse c.args.seen.now.log)
    (seen_run c.args.seen.now.log c.learn.ensures.rule.2 c.learn.ensures.log.1))
