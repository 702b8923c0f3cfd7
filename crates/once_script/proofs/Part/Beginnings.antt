-- What a making, a poll and a drop add to the record, by the step of their task.
use Rattle.std.proofs.Common.{◌≡◌, ℕ, Bool, true, false, cond, ◌==◌, List, [], ◌∷◌, arith}
use Rattle.std.proofs.lemmas.Bool.Decides.{nat_tests}
use Rattle.std.proofs.lemmas.Grind.{common_steps}
use Rattle.once_machine.specs.Record.{Begin, Entry, Kind}
use Rattle.once_machine.specs.Tasks.{is_under_way, status}
use Rattle.once_machine.specs.Inputs.{begins_call, drop_part, ends_for_memory, make_part, poll_part}
use Rattle.once_machine.specs.Machine.{SharedState, step_of_poll, drop_entries, step_of_drop, in_call, is_resting}
use Rattle.once_machine.specs.declared.step.Step.{Step}
use Rattle.once_machine.proofs.Invariant.Facts.{AtStep}
use Rattle.once_machine.proofs.Invariant.Around.{place_acts}
use Rattle.once_script.proofs.Part.Tells.{is_refused}

-- a test between true and false
pub cond_id : (b : Bool) → cond b true false ≡ b
cond_id b = grind arith

-- a drop begins a call of its task
pub drop_begins_call : (n v : ℕ) (s : Step ℕ ℕ) → begins_call v (drop_entries n s) ≡ (n == v)
drop_begins_call n v s = grind (arith, nat_tests, common_steps)

-- it ends no poll for want of memory
pub drop_memory : (n v : ℕ) (s : Step ℕ ℕ) → ends_for_memory v (drop_entries n s) ≡ false
drop_memory n v s = grind (arith, nat_tests, common_steps)

-- a call that just began is refused nothing
pub dropped_granted : (s : Step ℕ ℕ) → is_resting s ≡ true → is_refused (step_of_drop s) ≡ false
dropped_granted s e = grind (arith, nat_tests, common_steps)

pub begun_granted : (s : Step ℕ ℕ) → is_resting s ≡ true → is_refused (step_of_poll s) ≡ false
begun_granted s e = grind (arith, nat_tests, common_steps)

-- what a poll adds, by whether the task is at rest
abbrev pub begins_if : Bool → ℕ → ℕ → List Entry
begins_if true t k = Begin t k ∷ []
begins_if false t k = []

-- a poll adds what the record asks
pub step_begins_so : (K : Kind) (limit t k : ℕ) (c : SharedState) (h : List Entry) (s : Step ℕ ℕ)
    → AtStep K limit t c h s → begins_if (is_resting s) t k ≡ poll_part (status K t h) t k
step_begins_so K limit t k c h s a = grind (arith, nat_tests, common_steps, place_acts)

-- what a drop adds
abbrev pub drops_if : Bool → ℕ → Step ℕ ℕ → List Entry
drops_if true t s = drop_entries t (step_of_drop s)
drops_if false t s = []

-- so does a drop
pub step_drops_so : (K : Kind) (limit t : ℕ) (c : SharedState) (h : List Entry) (s : Step ℕ ℕ)
    → AtStep K limit t c h s → drops_if (is_resting s) t s ≡ drop_part (status K t h) t
step_drops_so K limit t c h s a = grind (arith, nat_tests, common_steps, place_acts)

-- a task that is there was made
pub step_made : (K : Kind) (limit t : ℕ) (c : SharedState) (h : List Entry) (s : Step ℕ ℕ) → AtStep K limit t c h s → [] ≡ make_part (status K t h) t
step_made K limit t c h s a = grind (arith, nat_tests, common_steps, place_acts)

-- a call is under way exactly if the record says so
pub step_acts : (K : Kind) (limit t : ℕ) (c : SharedState) (h : List Entry) (s : Step ℕ ℕ) → AtStep K limit t c h s → is_under_way (status K t h) ≡ in_call s
step_acts K limit t c h s a = grind (arith, nat_tests, common_steps, place_acts)
