-- One step of the machine at the places where it is long, by what it finds there. Each is what `place_step` computes to
-- at its place, so that a lemma of it is a lemma of that step.
use Rattle.std.proofs.Common.{◌≡◌, arith}
use Rattle.std.proofs.lemmas.Grind.{common_steps}
use Rattle.std.specs.Prelude.{ℕ, Bool, if◌then◌else◌, [], ◌∷◌, Option, Some, None}
use Rattle.std.specs.Option.{option_to_list}
use Rattle.once_machine.specs.declared.word.Sees.{Sees}
use Rattle.once_machine.specs.declared.waiters.Answer.{Answer as SectionAnswer}
use Rattle.once_machine.specs.declared.waiters.Answer.TheVariants.{Left, Gone}
use Rattle.once_machine.specs.Machine.{put_answer}
use Rattle.once_machine.specs.Table.{after_door_put, after_look, after_list, after_run, after_fast, next_at}
use Rattle.once_machine.specs.Record.{Answer, Ran}
use Rattle.once_machine.specs.Machine.{AtCountOut, Ending, Outcome, SharedState, claim_entries, fast_shared, freed_entries, is_claim, is_passing}
use Rattle.once_machine.specs.Machine.{is_value, kept_after, leave_shared, list_answer, list_shared, listed_ticket, look_answer, look_shared}
use Rattle.once_machine.specs.Machine.{looked_ticket, next_waker, outcome_of, pass_entries, polled_of, put_shared, release_entry, release_shared}
use Rattle.once_machine.specs.Machine.{release_wakers, unless_gone}

-- granted, door
abbrev pub put_step : Bool → Option ℕ → SharedState → ℕ → Answer → Outcome
put_step granted door c t k =
    let q = put_answer granted door c.queues in
    outcome_of (put_shared q door c) t k [] (after_door_put q)

-- what a look finds of its queue, whether its own listing has its waker, and whether memory is given
abbrev pub look_step : Option Sees → Bool → Bool → SharedState → ℕ → ℕ → Answer → ℕ → Option ℕ → Outcome
look_step seen listed granted c t w k q n =
    let a = look_answer seen listed in
    outcome_of (look_shared a c n) t k (claim_entries (is_claim a) t)
    (after_look a (if granted then Some w else None) q (looked_ticket a n))

-- what a listing finds of its queue, and whether there is room
abbrev pub list_step : Option Sees → Bool → SharedState → ℕ → ℕ → Answer → ℕ → Option ℕ → Outcome
list_step seen room c t w k q n =
    let a = list_answer seen room in
    outcome_of (list_shared a c n w) t k (claim_entries (is_claim a) t) (after_list a q (listed_ticket a n c.listings))

-- a poll of the init, by its answer
abbrev pub run_step : Answer → SharedState → ℕ → Answer → Option ℕ → Outcome
run_step a c t k by = outcome_of c t (kept_after a k) (Ran t a ∷ []) (after_run (polled_of a) by)

-- whether the release was done, and whether the value is set
abbrev pub fast_step : Bool → Bool → SharedState → ℕ → Answer → Ending → Outcome
fast_step won fills c t k e = outcome_of (fast_shared won fills c) t k (freed_entries won t k) (after_fast won fills e)

-- at the door
abbrev pub release_step : Bool → SharedState → ℕ → Answer → Ending → Outcome
release_step at c t k e =
    let a = if at then Left None else Gone in
    outcome_of (release_shared a (is_value e) c) t k
    (unless_gone a (release_entry k t (release_wakers (is_value e) c.listings) ∷ [])) (next_at (AtCountOut e))

-- at the door
abbrev pub leave_step : Bool → SharedState → ℕ → Answer → ℕ → Ending → Outcome
leave_step at c t k n e =
    let a = if at then Left None else Gone in
    outcome_of (leave_shared a n c) t k
    (unless_gone a (pass_entries t (option_to_list (next_waker (is_passing c n) n c.listings)))) (next_at (AtCountOut e))

-- what follows a claim does not ask for the ticket
pub look_same : (a : SectionAnswer ℕ) (w : Option ℕ) (q : ℕ) (k : Option ℕ) → after_look a w q (looked_ticket a k) ≡ after_look a w q k
look_same a w q k = grind (arith, common_steps)
