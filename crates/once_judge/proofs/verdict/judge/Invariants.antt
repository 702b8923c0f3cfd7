-- The entries so far are a run, of which the right things are kept; and the moments so far were watched.
use Rattle.std.proofs.Common.{◌≡◌, take}
use Rattle.once_machine.specs.Shown.{kind_of, history_in}
use Rattle.once_judge.specs.Shown.{seen_of, rules_of}
use Rattle.once_judge.proofs.Verdicts.{Judged, Watched}
use Rattle.once_judge.proofs.verdict.judge.Given as goal

abbrev pub invariant-loop-number : goal.invariant-loop-number
invariant-loop-number l =
    Judged l.fn.calls (kind_of l.kind) l.limit (history_in (take l.number l.entries)) (seen_of l.seen)
    × (l.seen.rules ≡ rules_of l.fn.calls (kind_of l.kind) l.limit)
    × Watched (kind_of l.kind) l.entries l.number l.forgotten
