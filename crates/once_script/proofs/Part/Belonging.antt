-- The record and the queue log fall into parts, one for each input.
use Rattle.std.proofs.Common.{◌≡◌, ◌≤◌, ◌<◌, ℕ, Bool, true, false, not, List, [], ◌∷◌, ◌++◌, length, Option, Some, None, refl, sym, ap, ◌∙◌, arith}
use Rattle.std.proofs.lemmas.Bool.{false≢true}
use Rattle.once_machine.specs.Record.{Entry, Kind}
use Rattle.once_machine.specs.Tasks.{is_under_way, status}
use Rattle.once_machine.specs.Inputs.{Adds, FallsInto, Input, Part, SixteenEnd, WantsMemoryOnlyUngranted, all_granted, begins_call, entries_of, gos, is_fitting_go}
use Rattle.once_machine.specs.Log.{AddsLines, IsLogOf, NoneKept, WaitingStands, lines_of}
use Rattle.once_machine.specs.Machine.{SharedState, World, world_after, history_of, in_call, log_of, world_of, step_of}
use Rattle.once_machine.specs.declared.step.Step.{Step}
use Rattle.once_machine.specs.declared.task.Task.{Task}
use Rattle.once_machine.proofs.Invariant.Fits.{Fits, StandsFor}
use Rattle.once_machine.proofs.Input.Headline.{world_fits}
use Rattle.once_script.proofs.Door.Logged.{log_stands}
use Rattle.once_script.proofs.Door.Doors.{no_queue_kept, waits_stand}
use Rattle.once_script.proofs.Part.Budget.{Budget, HasPart, gos_length, gos_ungranted}
use Rattle.once_script.proofs.Part.Left.{left_some}
use Rattle.once_script.proofs.Part.Beginnings.{step_acts}
use Rattle.once_script.proofs.Part.Told.{input_part}

-- a call that met sixteen fitting steps has ended
sixteen_called : (n : ℕ) (u : Bool) (s : Step ℕ ℕ) → Budget n u s → 16 ≤ n → (b : Bool) → in_call s ≡ b → in_call s ≡ false
sixteen_called n u s b l true e = let p = left_some s e in let m = b.steps e in absurd (omega arith)
sixteen_called n u s b l false e = e

-- the same for the task of the record
sixteen_now : (K : Kind) (limit t n : ℕ) (u : Bool) (c : SharedState) (h : List Entry) (o : Option Task)
    → StandsFor K limit t c h o → Budget n u (step_of o) → 16 ≤ n → is_under_way (status K t h) ≡ false
sixteen_now K limit t n u c h None s b l = ap is_under_way s.0.status_is
sixteen_now K limit t n u c h (Some x) s b l = step_acts K limit t c h x.step s.step ∙ sixteen_called n u x.step b l (in_call x.step) refl

is_false : (b : Bool) → not b ≡ true → b ≡ false
is_false true e = sym e
is_false false e = refl

-- the parts of these inputs, and what is known of each task after them
record Tale (K : Kind) (limit : ℕ) (inputs : List Input) : Type 0 where
  parts : List Part
  falls : FallsInto K inputs (history_of K limit inputs) parts
  is_log : IsLogOf K (log_of K limit inputs) parts
  budget : (t : ℕ) → Budget (length (gos K t parts)) (not (all_granted (gos K t parts))) (step_of ((world_of K limit inputs).tasks t))

module _ (K : Kind) (limit : ℕ) (some : 0 < limit) where
  -- after these parts
  sixteen_of : (inputs : List Input) (parts : List Part) → entries_of parts ≡ history_of K limit inputs
      → ((t : ℕ) → Budget (length (gos K t parts)) (not (all_granted (gos K t parts))) (step_of ((world_of K limit inputs).tasks t)))
      → SixteenEnd K parts
  sixteen_of inputs parts r b t l =
      rw r (sixteen_now K limit t (length (gos K t parts)) (not (all_granted (gos K t parts)))
      (world_of K limit inputs).shared (history_of K limit inputs) ((world_of K limit inputs).tasks t)
      ((world_fits K limit inputs some).tasks t) (b t) l)

  -- a queue stands while a task waits, in the log of the parts
  waiting_of : (inputs : List Input) (parts : List Part) → entries_of parts ≡ history_of K limit inputs
      → lines_of parts ≡ log_of K limit inputs → WaitingStands K parts
  waiting_of inputs parts r l t s = rw l (waits_stand K limit inputs t some (rw r at s))

  -- none is kept in the log of the parts
  none_of : (inputs : List Input) (parts : List Part) → entries_of parts ≡ history_of K limit inputs → lines_of parts ≡ log_of K limit inputs → NoneKept K parts
  none_of inputs parts r l set idle awake = rw l (no_queue_kept K limit inputs some (rw r at set) (λ t. rw r at (idle t)) (λ t. rw r at (awake t)))

  -- the parts of all inputs, one after the other
  tale : (inputs : List Input) → Tale K limit inputs
  tale [] = record {
    parts = [];
    falls = record { inputs_are = refl; entries_are = refl; added = tt; sixteen_end = λ t l. absurd (omega arith); memory = tt };
    is_log = record { lines_are = refl; logged = tt; waiting_stands = waiting_of [] [] refl refl; none_kept = none_of [] [] refl refl };
    budget = λ t. record { steps = λ e. absurd (false≢true e); refused = λ e. absurd (false≢true e) };
  }
  tale (i ∷ before) =
      let b : Tale K limit before = tale before in
      let d = b.falls in
      let k = b.is_log in
      let w : World = world_of K limit before in
      let f : Fits K limit w = world_fits K limit before some in
      let p : HasPart K w (world_after K limit w i) i = input_part K limit w i f (log_stands K limit before some) in
      let n : Part = record { input = i; entries = p.entries; lines = p.lines } in
      let ps : List Part = n ∷ b.parts in
      let r : entries_of ps ≡ history_of K limit (i ∷ before) = ap (λ h. p.entries ++ h) d.entries_are ∙ sym p.history_is in
      let l : lines_of ps ≡ log_of K limit (i ∷ before) = ap (λ g. p.lines ++ g) k.lines_are ∙ sym p.log_is in
      let adds : Adds K i (entries_of b.parts) p.entries = rw d.entries_are p.adds in
      let adds_lines : AddsLines K i (entries_of b.parts) p.entries (lines_of b.parts) p.lines = rw (d.entries_are, k.lines_are) p.adds_lines in
      let many = λ (t : ℕ). gos_length (begins_call t p.entries) (is_fitting_go K t i (entries_of b.parts)) i (gos K t b.parts) in
      let met = λ (t : ℕ). gos_ungranted (begins_call t p.entries) (is_fitting_go K t i (entries_of b.parts)) i (gos K t b.parts) in
      let wants : WantsMemoryOnlyUngranted K ps = λ t m. is_false (all_granted (gos K t ps))
      (met t ∙ rw d.entries_are (p.memory t (length (gos K t b.parts)) (not (all_granted (gos K t b.parts)))
      (b.budget t) m)) in
      let budget : (t : ℕ) → Budget (length (gos K t ps)) (not (all_granted (gos K t ps)))
      (step_of ((world_of K limit (i ∷ before)).tasks t)) = λ t. rw (many t, met t, d.entries_are)
      (p.budget t (length (gos K t b.parts)) (not (all_granted (gos K t b.parts))) (b.budget t)) in
      record {
        parts = ps;
        falls = record {
          inputs_are = ap
              (λ x. i ∷ x) d.inputs_are;
          entries_are = r;
          added = (adds, d.added);
          sixteen_end = (
            sixteen_of
                (i ∷ before) ps r budget,
            d.sixteen_end,
          );
          memory = (wants, d.memory);
        };
        is_log = record { lines_are = l; logged = (adds_lines, k.logged); waiting_stands = (waiting_of (i ∷ before) ps r l, k.waiting_stands); none_kept = (none_of (i ∷ before) ps r l, k.none_kept) };
        budget = budget;
      }

-- the record and the log of these inputs fall into the same parts, one for each input
pub belongs : (kind : Kind) (limit : ℕ) (inputs : List Input) → 0 < limit
    → (parts : List Part) × FallsInto kind inputs (history_of kind limit inputs) parts × IsLogOf kind (log_of kind limit inputs) parts
belongs kind limit inputs some = let b = tale kind limit some inputs in (b.parts, b.falls, b.is_log)
