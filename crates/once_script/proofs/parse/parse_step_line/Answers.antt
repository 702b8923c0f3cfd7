-- A text that is such a line has its task and what it is given behind the first space.
use Rattle.std.proofs.Common.{◌≡◌, ◌++◌, ◌∷◌, ◌∙◌, ap, arith, List, ℕ, false, true}
use Rattle.std.proofs.lemmas.Str.Pattern.{split_parts}
use Rattle.once_script.proofs.parse.parse_step_line.Goals as goal

pub returns-in_err-task-in-poll-clause-poll : goal.returns-in_err-task-in-poll-clause-poll
returns-in_err-task-in-poll-clause-poll c = λ task waker h.
    let parts = rw c.in_ok-word.was at (split_parts 32 c.args.text.now c.split_once.result c.split_once.ensures.cases (omega arith)) in
    let whole = parts.0 ∙ ap (λ (w : List ℕ). w ++ (32 ∷ c.in_ok-word.rest.now)) c.in-poll.is in
    let same : c.in_ok-word.rest.now ≡ h.0 = cc (whole, h.1) in
    let none : false ≡ true = c.in_err-task-in-poll.ensures.all task waker (rw same h.2) in
    cc none

pub returns-in_err-task-in-go-clause-go : goal.returns-in_err-task-in-go-clause-go
returns-in_err-task-in-go-clause-go c = λ task answer memory h.
    let parts = rw c.in_ok-word.was at (split_parts 32 c.args.text.now c.split_once.result c.split_once.ensures.cases (omega arith)) in
    let whole = parts.0 ∙ ap (λ (w : List ℕ). w ++ (32 ∷ c.in_ok-word.rest.now)) c.in-go.is in
    let same : c.in_ok-word.rest.now ≡ h.0 = cc (whole, h.1) in
    let none : false ≡ true = c.in_err-task-in-go.ensures.all task answer memory (rw same h.2) in
    cc none

pub returns-in_err-task-in-run-clause-run : goal.returns-in_err-task-in-run-clause-run
returns-in_err-task-in-run-clause-run c = λ task answer memory h.
    let parts = rw c.in_ok-word.was at (split_parts 32 c.args.text.now c.split_once.result c.split_once.ensures.cases (omega arith)) in
    let whole = parts.0 ∙ ap (λ (w : List ℕ). w ++ (32 ∷ c.in_ok-word.rest.now)) c.in-run.is in
    let same : c.in_ok-word.rest.now ≡ h.0 = cc (whole, h.1) in
    let none : false ≡ true = c.in_err-task-in-run.ensures.all task answer memory (rw same h.2) in
    cc none

pub returns-in_ok-task-in-poll-clause-read : goal.returns-in_ok-task-in-poll-clause-read
returns-in_ok-task-in-poll-clause-read c =
    let parts = rw c.in_ok-word.was at (split_parts 32 c.args.text.now c.split_once.result c.split_once.ensures.cases (omega arith)) in (
      c.in_ok-word.rest.now,
      parts.0 ∙ ap (λ (w : List ℕ). w ++ (32 ∷ c.in_ok-word.rest.now)) c.in-poll.is,
      c.in_ok-task-in-poll.ensures.read,
    )
