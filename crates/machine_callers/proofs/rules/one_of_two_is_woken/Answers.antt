-- The waker 7 of task 3 is due, and is not handed out.
use Rattle.std.proofs.Common.{rules, ◌≡◌, Bool, true, false, IfOk, Result, Ok, Err}
use Rattle.std.proofs.lemmas.Bool.{false≢true}
use Rattle.std.specs.Bool.{Decides}
use Rattle.machine_callers.proofs.rules.one_of_two_is_woken.Goals as goal

refused : {E P : Type 0} → (r : Result Bool E) → IfOk r (λ is_run. Decides is_run P) → (P → ⊥) → IfOk r (λ is_run. is_run ≡ false)
refused (Ok true) decides never = absurd (never (decides.0 cc))
refused (Ok false) decides never = cc
refused (Err e) decides never = cc

pub returns : goal.returns
returns c = refused c.is_run.result c.is_run.ensures (λ run. let due = (run.0.2).due 7 (3, cc, cc, cc) in false≢true (search rules))
