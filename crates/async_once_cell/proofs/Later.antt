-- A poll or a leave that came after what was learned came after what was seen before that.
use Rattle.std.specs.Prelude.{IfErr, Result, Ok, Err}
use Rattle.std.proofs.Common.{◌≡◌, ℕ, List, [], ◌∷◌, ◌++◌, true, false, Option, Some, None, ap, ◌∙◌, refl, subst, sym}
use Rattle.std.proofs.lemmas.Bool.{false≢true}
use Rattle.std.specs.Option.{is_some}
use mathlib.Core.List.{IsPrefix, cons-ne-nil}
use Rattle.futures.specs.declared.task.context.Context.{Context}
use Rattle.futures.specs.Task.{Keeps}
use Rattle.once_machine.specs.Record.{Begin, DropBegin, DropEnd, Entry}
use Rattle.async_once_cell.specs.Kept.{entries_of}
use Rattle.once_machine.specs.declared.step.Ending.TheVariants.{Dropped as EndDropped}
use Rattle.once_machine.specs.declared.step.Ending.{Ending}
use Rattle.async_once_cell.specs.Walks.{end_of}
use Rattle.async_once_cell.proofs.Desks.{prefix_on}
use Rattle.futures.specs.declared.task.Poll.TheVariants.{Ready}
use Rattle.async_once_cell.specs.Polls.{CallIn, DidPoll, Ends, HasLeft, IfFailure, PollsAs, SawEnd, SpansIn, ending_by}
use Rattle.async_once_cell.specs.Views.{CellView, FutureView, Owned, Shared}

-- what begins nothing is nothing
nil_before : (old rest : List Entry) → old ++ rest ≡ [] → old ≡ []
nil_before [] rest none = refl
nil_before (e ∷ old) rest none = absurd (cons-ne-nil e (old ++ rest) none)

module _ {T : Type 0} where
  -- an end is the newest entry since longer ago
  ends_later : (c : CellView T) (e : Entry) (old mid new : List Entry) → IsPrefix old mid → Ends c e mid new → Ends c e old new
  ends_later (Owned x) e old mid new p g = (nil_before old p.0 (p.1 ∙ g.0), g.1)
  ends_later (Shared s) e old mid new p g = (g.0, prefix_on old mid g.0 p g.1, g.2)

  -- and the call began since then
  spans_later : (c : CellView T) (t : ℕ) (e : Entry) (old mid new : List Entry) → IsPrefix old mid → SpansIn c t e mid new → SpansIn c t e old new
  spans_later (Owned x) t e old mid new p g = g
  spans_later (Shared s) t e old mid new p g = record { before = g.before; since = g.since; after = prefix_on old mid g.before p g.after; is = g.is }

  -- a call is the same since longer ago, if the task made no entry meanwhile
  call_later : (c : CellView T) (t : ℕ) (b e : Entry) (old mid new : List Entry) → entries_of t mid ≡ entries_of t old → CallIn c t b e mid new → CallIn c t b e old new
  call_later (Owned x) t b e old mid new m g = g
  call_later (Shared s) t b e old mid new m g = record {
    mid = g.mid;
    is = record { own = g.is.own ∙ ap (λ l. l ++ (b ∷ (g.mid ++ e ∷ []))) m; between = g.is.between };
  }

  -- a future's poll, since all that it learned
  pub spans_after : {F : Type 0} (old mid new : FutureView T F) (before after : Context) (e : Ending) (seen : List Entry) → mid.cell ≡ old.cell → mid.task ≡ old.task → IsPrefix seen mid.log
      → DidPoll mid new before after e → SpansIn old.cell old.task (end_of old.task e) seen new.log
  spans_after old mid new before after e seen cell task grown did =
      spans_later old.cell old.task (end_of old.task e) seen mid.log new.log grown
      (subst (λ (c : CellView T). SpansIn c old.task (end_of old.task e) mid.log new.log) cell
      (subst (λ (t : ℕ). SpansIn mid.cell t (end_of t e) mid.log new.log) task did.spans))

  -- the same of a future's poll
  pub did_later : {F : Type 0} (old mid new : FutureView T F) (before after : Context) (e : Ending) → mid.cell ≡ old.cell → mid.task ≡ old.task → IsPrefix old.log mid.log
      → entries_of old.task mid.log ≡ entries_of old.task old.log → DidPoll mid new before after e → DidPoll old new before after e
  did_later old mid new before after e cell task grown mine did = record {
    cell = did.cell ∙ cell;
    task = did.task ∙ task;
    ends = ends_later old.cell (end_of old.task e) old.log mid.log new.log grown
        (subst (λ (c : CellView T). Ends c (end_of old.task e) mid.log new.log) cell (subst (λ (t : ℕ). Ends mid.cell (end_of t e) mid.log new.log) task did.ends));
    spans = spans_after old mid new before after e old.log cell task grown did;
    call = call_later old.cell old.task (Begin old.task old.task) (end_of old.task e) old.log mid.log new.log mine
        (subst (λ (c : CellView T). CallIn c old.task (Begin old.task old.task) (end_of old.task e) mid.log new.log) cell
        (subst (λ (t : ℕ). CallIn mid.cell t (Begin t t) (end_of t e) mid.log new.log) task did.call));
    set = did.set;
    finished = did.finished;
    armed = did.armed;
    kept = did.kept;
  }

  -- what a future does by leaving is the same since longer ago
  pub left_later : {F : Type 0} (old mid new : FutureView T F) → mid.cell ≡ old.cell → mid.task ≡ old.task → IsPrefix old.log mid.log
      → entries_of old.task mid.log ≡ entries_of old.task old.log → HasLeft mid new → HasLeft old new
  left_later old mid new cell task grown mine left = record {
    cell = left.cell ∙ cell;
    task = left.task ∙ task;
    gone = ends_later old.cell (end_of old.task EndDropped) old.log mid.log new.log grown
        (subst (λ (c : CellView T). Ends c (end_of old.task EndDropped) mid.log new.log) cell (subst (λ (t : ℕ). Ends mid.cell (end_of t EndDropped) mid.log new.log) task left.gone));
    call = call_later old.cell old.task (DropBegin old.task) (DropEnd old.task) old.log mid.log new.log mine
        (subst (λ (c : CellView T). CallIn c old.task (DropBegin old.task) (DropEnd old.task) mid.log new.log) cell
        (subst (λ (t : ℕ). CallIn mid.cell t (DropBegin t) (DropEnd t) mid.log new.log) task left.call));
    finished = left.finished;
  }

  -- with a token that knows a value a future leaves, and with another one it is polled
  pub polls_known : {F : Type 0} (k : Option T) (old new : FutureView T F) (before after : Context) (e : Ending) → is_some k ≡ true
      → HasLeft old new × Keeps before after → PollsAs k old new before after e
  polls_known (Some x) old new before after e known left = left
  polls_known None old new before after e known left = absurd (false≢true known)

  pub polls_unknown : {F : Type 0} (k : Option T) (old new : FutureView T F) (before after : Context) (e : Ending) → is_some k ≡ false
      → DidPoll old new before after e → PollsAs k old new before after e
  polls_unknown None old new before after e unknown did = did
  polls_unknown (Some x) old new before after e unknown did = absurd (false≢true (sym unknown))

-- of a failure more may be said
if_failure : {A X Y : Type 0} {P Q : X → Type 0} (r : Result (Result A X) Y) → ((x : X) → P x → Q x) → IfFailure r P → IfFailure r Q
if_failure (Ok (Ok y)) f p = tt
if_failure (Ok (Err x)) f p = f x p
if_failure (Err y) f p = tt

module _ {T : Type 0} where
  -- a poll that ended was seen by whoever saw its record
  pub saw_end : (c : CellView T) (t : ℕ) (e : Entry) (old mid log new : List Entry) → IsPrefix old mid → SpansIn c t e mid log → IsPrefix log new → SawEnd c t e old new
  saw_end (Owned x) t e old mid log new p g q = tt
  saw_end (Shared s) t e old mid log new p g q = (log, record { before = g.before; since = g.since; after = prefix_on old mid g.before p g.after; is = g.is }, q)

  -- an answer without a value tells how the poll ended
  pub saw_error : {A X : Type 0} (ending : X → Ending) (r : Result A X) (c : CellView T) (t : ℕ) (old new : List Entry)
      → SawEnd c t (end_of t (ending_by ending (Ready r))) old new → IfErr r (λ x. SawEnd c t (end_of t (ending x)) old new)
  saw_error ending (Ok y) c t old new s = tt
  saw_error ending (Err x) c t old new s = s

  -- the same since longer ago
  saw_later : (c : CellView T) (t : ℕ) (e : Entry) (old mid new : List Entry) → IsPrefix old mid → SawEnd c t e mid new → SawEnd c t e old new
  saw_later (Owned x) t e old mid new p s = tt
  saw_later (Shared s) t e old mid new p (log, g, q) = (log, record { before = g.before; since = g.since; after = prefix_on old mid g.before p g.after; is = g.is }, q)

  pub saw_on : {A X Y : Type 0} (ending : X → Ending) (r : Result (Result A X) Y) (c : CellView T) (t : ℕ) (old mid new : List Entry) → IsPrefix old mid
      → IfFailure r (λ x. SawEnd c t (end_of t (ending x)) mid new) → IfFailure r (λ x. SawEnd c t (end_of t (ending x)) old new)
  saw_on ending r c t old mid new p s = if_failure r (λ x k. saw_later c t (end_of t (ending x)) old mid new p k) s
