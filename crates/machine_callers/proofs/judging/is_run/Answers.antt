-- A record that stops to be a run is none, since what follows the fault cannot make it one.
use Rattle.std.proofs.Common.{sym, subst, suc, List, ◌≡◌, true, false, MatchOption}
use Rattle.std.specs.Prelude.{drop, ℕ}
use Rattle.std.proofs.lemmas.List.{take-append-drop}
use Rattle.once_machine.specs.declared.record.Entry.{Entry}
use Rattle.once_machine.specs.Record.{Kind}
use Rattle.once_machine.specs.Shown.{history_in, kind_of}
use Rattle.once_judge.specs.declared.calls.Calls.{Calls}
use Rattle.once_judge.specs.Calls.{IsRunBy}
use Rattle.once_judge.specs.Verdict.{StopsAt}
use Rattle.machine_callers.proofs.judging.is_run.Goals as goal

stopped : (calls : Calls) (kind : Kind) (limit : ℕ) (entries : List Entry) (n : ℕ) → StopsAt calls kind limit entries n
    → IsRunBy calls kind limit (history_in entries) → false ≡ true
stopped calls kind limit entries n stops run = absurd (stops.no_run (drop (suc n) entries)
    (subst (λ all. IsRunBy calls kind limit (history_in all)) (sym (take-append-drop (suc n) entries)) run))

pub returns-in-Some : goal.returns-in-Some
returns-in-Some c = let a = c.args in let kind = kind_of a.kind.now in let entries = a.entries.now in (
  (λ no. cc),
  stopped a.calls kind a.limit entries c.in-Some.field-0.entry (subst
      (λ fault. MatchOption fault (IsRunBy a.calls kind a.limit (history_in entries)) (λ f. StopsAt a.calls kind a.limit entries f.entry))
      c.in-Some.is (c.in_ok-judge.ensures).run),
)
