-- The laws of every run hold of the log: each clause of src/laws.rt, of the log as it was when an entry came to it.
use Rattle.std.proofs.Common.{◌≡◌, ◌≢◌, ◌≤◌, ◌<◌, ◌⊎◌, ℕ, Bool, true, false, List, [], ◌∷◌, ◌++◌, length, reverse, Some, None, sym, ◌∙◌, subst, refl}
use Rattle.std.proofs.lemmas.List.{reverse-append, append_assoc}
use Rattle.once_machine.specs.Record.{Answer, Claim, DropEnd, End, Entry, Error, Free, Full, Memory, Once, Pass, Pending, Ran, RanError, RanPending, Reply, Value, is_own}
use Rattle.once_machine.specs.Cell.{Empty, Held, SetTo, answers_left, cell}
use Rattle.once_machine.specs.Tasks.{Dropping, Gone, Holding, Waiting, is_under_way, last_call, status}
use Rattle.once_machine.specs.Wakers.{IsDue, IsOpen, times_handed, times_opened}
use Rattle.once_machine.specs.Refusals.{OtherActs, OtherHolds, Since}
use Rattle.once_machine.specs.Crowd.{AreWaiting}
use Rattle.once_machine.specs.Freed.{HasFreed}
use Rattle.once_machine.specs.Fills.{times_filled, times_given}
use Rattle.once_machine.specs.Called.{CanGoOn, SomebodyCalled}
use Rattle.once_machine.specs.Run.{AtEvery, IsRun, NobodyForgotten}
use Rattle.once_machine.specs.Book.{IsBook, Page}
use Rattle.once_machine.proofs.History.Cells.{same_holder}
use Rattle.once_machine.proofs.Law.Crowded.{full_waits, memory_met, value_set}
use Rattle.once_machine.proofs.Law.Answered.{set_answered}
use Rattle.once_machine.proofs.Law.Freed.{error_empties}
use Rattle.once_machine.proofs.Law.Filled.{filled_once}
use Rattle.once_machine.proofs.Law.Given.{given_once}
use Rattle.once_machine.proofs.Law.GoesOn.{at_the_newest, goes_on, pending_reason}
use Rattle.once_machine.proofs.Law.Nobody.{nobody_forgotten}
use Rattle.once_machine.proofs.Law.Passed.{at_most_one, one_called, passed_once, passed_refused, passed_to_one, passed_unclaimed, passer_gone}
use Rattle.once_machine.proofs.Law.Rights.{dropped_holder, holding_holds, one_holder, own_error, runner_holds, value_lasts}
use Rattle.once_machine.proofs.Law.Wakes.{handed_within}
use Rattle.once_machine.proofs.Told.Beginnings.{every_of_beginning, run_of_beginning}
use Rattle.once_machine.proofs.Told.Log.{log_is_run, somebody_called}

module _ (limit n put : ℕ) (slot : Bool) (pages : List Page) (log : List Entry) (some : 0 < limit) (book : IsBook limit n put slot pages log) (seen late : List Entry) where
  -- what was seen, the newest entry first
  abbrev h : List Entry
  h = reverse seen

  -- what was seen is a run
  seen_run : log ≡ seen ++ late → IsRun Once limit h
  seen_run is = run_of_beginning Once limit seen late (subst (λ l. IsRun Once limit (reverse l)) is (log_is_run limit n put slot pages log some book))

  -- and so it is with the next entry
  next_run : (e : Entry) → log ≡ seen ++ e ∷ late → IsRun Once limit (e ∷ h)
  next_run e is =
      let r = subst (λ l. IsRun Once limit (reverse l)) (is ∙ sym (append_assoc seen (e ∷ []) late)) (log_is_run limit n put slot pages log some book) in
      subst (IsRun Once limit) (reverse-append seen (e ∷ [])) (run_of_beginning Once limit (seen ++ e ∷ []) late r)

  -- at most one task holds
  pub one_task_holds_holder : (t u : ℕ) → cell Once h ≡ Held t → cell Once h ≡ Held u → t ≡ u
  one_task_holds_holder t u a b = same_holder t u (sym a ∙ b)

  -- and at most one rests holding
  pub one_task_holds_one : (t u : ℕ) → log ≡ seen ++ late → status Once t h ≡ Holding → status Once u h ≡ Holding → t ≡ u
  one_task_holds_one t u is = one_holder Once limit t u h (seen_run is)

  -- a task that rests holding is the holder
  pub one_task_holds_rests : (t : ℕ) → log ≡ seen ++ late → status Once t h ≡ Holding → cell Once h ≡ Held t
  one_task_holds_rests t is = holding_holds Once limit t h (seen_run is)

  -- a task that claims finds the cell empty, and then holds
  pub one_task_holds_claims : (t : ℕ) → log ≡ seen ++ Claim t ∷ late → (cell Once h ≡ Empty) × (cell Once (Claim t ∷ h) ≡ Held t)
  one_task_holds_claims t is = ((next_run (Claim t) is).0.0, refl)

  -- an init is polled by the task that holds
  pub one_task_holds_runner : (t : ℕ) (a : Answer) → log ≡ seen ++ Ran t a ∷ late → cell Once h ≡ Held t
  one_task_holds_runner t a is = runner_holds Once limit t a h (next_run (Ran t a) is)

  -- the cell is filled once at most
  pub filled_once_filled : log ≡ seen ++ late → times_filled h ≤ 1
  filled_once_filled is = filled_once Once limit h (seen_run is)

  -- and once at most an init gives a value
  pub filled_once_given : log ≡ seen ++ late → times_given h ≤ 1
  filled_once_given is = given_once Once limit h (seen_run is)

  -- a poll that ends with a value answers the one that is set
  pub value_set_is_answered_answered : (t v : ℕ) → log ≡ seen ++ End t (Value v) ∷ late → cell Once h ≡ SetTo v
  value_set_is_answered_answered t v is = value_set Once limit t v h (next_run (End t (Value v)) is)

  -- and that one lasts
  pub value_set_is_answered_lasts : (e : Entry) (v : ℕ) → log ≡ seen ++ e ∷ late → is_own e ≡ false → cell Once h ≡ SetTo v → cell Once (e ∷ h) ≡ SetTo v
  value_set_is_answered_lasts e v is = value_lasts Once limit e h v (next_run e is)

  -- a poll ends Pending because another task holds, or because its own init is
  pub pending_has_a_reason : (t : ℕ) → log ≡ seen ++ End t Pending ∷ late → OtherHolds Once t h ⊎ ((last_call Once t h).ran ≡ Some RanPending)
  pending_has_a_reason t is = pending_reason Once limit t h (next_run (End t Pending) is)

  -- an error is that of the own init, after the right was given back
  pub error_is_ones_own_own : (t e : ℕ) → log ≡ seen ++ End t (Error e) ∷ late → ((last_call Once t h).ran ≡ Some (RanError e)) × ((last_call Once t h).freed ≡ true)
  error_is_ones_own_own t e is = own_error Once limit t e h (next_run (End t (Error e)) is)

  -- which left the cell empty
  pub error_is_ones_own_empty : (t e : ℕ) → log ≡ seen ++ End t (Error e) ∷ late → Since t (HasFreed Once t) h
  error_is_ones_own_empty t e is = error_empties Once limit t e h (next_run (End t (Error e)) is)

  -- a task that was dropped does not hold
  pub dropped_holder_frees_ended : (t : ℕ) → log ≡ seen ++ DropEnd t ∷ late → cell Once (DropEnd t ∷ h) ≢ Held t
  dropped_holder_frees_ended t is = (next_run (DropEnd t) is).0.1

  -- while it is dropped the cell stays held or becomes empty
  pub dropped_holder_frees_during : (t : ℕ) (e : Entry) → log ≡ seen ++ e ∷ late → status Once t h ≡ Dropping → cell Once h ≡ Held t
      → (answers_left Once (e ∷ h) ≡ answers_left Once h) × ((cell Once (e ∷ h) ≡ Held t) ⊎ (cell Once (e ∷ h) ≡ Empty))
  dropped_holder_frees_during t e is = dropped_holder Once limit t e h (next_run e is)

  -- a poll that begins when the value is set answers it, and does not poll its init
  pub set_value_is_answered_at_once : (t : ℕ) (r : Reply) → log ≡ seen ++ End t r ∷ late
      → (last_call Once t h).set_then ≡ true → ((last_call Once t h).ran ≡ None) × ((v : ℕ) × (cell Once h ≡ SetTo v) × (r ≡ Value v))
  set_value_is_answered_at_once t r is = set_answered Once limit t r h (next_run (End t r) is)

  -- while the value is set no waiting task is forgotten
  pub set_value_calls_all : log ≡ seen ++ late → AtEvery (NobodyForgotten Once) h
  set_value_calls_all is = nobody_forgotten Once limit h (seen_run is)

  -- a poll that ended for want of memory met another task
  pub refusals_need_others_memory : (t : ℕ) → log ≡ seen ++ End t Memory ∷ late → Since t (OtherActs Once t) h
  refusals_need_others_memory t is = memory_met Once limit t h (next_run (End t Memory) is)

  -- a poll that met no other task and ended as full found at least limit others waiting
  pub refusals_need_others_full : (t : ℕ) → log ≡ seen ++ End t Full ∷ late → (Since t (OtherActs Once t) h → ⊥) → Since t (AreWaiting Once limit t) h
  refusals_need_others_full t is = full_waits Once limit t h (next_run (End t Full) is)

  -- whenever a task waits, one can go on, if some task was woken then
  pub somebody_goes_on_called : SomebodyCalled Once h → (u : ℕ) → log ≡ seen ++ late → status Once u h ≡ Waiting → (t : ℕ) × CanGoOn Once t h
  somebody_goes_on_called called u is s = goes_on Once limit u h (seen_run is) called s

  -- and so it was at every moment
  pub somebody_goes_on_promised : (u : ℕ) → log ≡ seen ++ late → status Once u h ≡ Waiting → (t : ℕ) × CanGoOn Once t h
  somebody_goes_on_promised u is s =
      let called = every_of_beginning (SomebodyCalled Once) seen late (subst (λ l. AtEvery (SomebodyCalled Once) (reverse l)) is (somebody_called limit n put slot pages log some book)) in
      somebody_goes_on_called (at_the_newest (SomebodyCalled Once) h called) u is s

  -- a release without a value hands out one waker at most
  pub failed_release_calls_one_at_most_one : (t : ℕ) (X : List ℕ) → log ≡ seen ++ Free t X ∷ late → length X ≤ 1
  failed_release_calls_one_at_most_one t X is = at_most_one Once limit t X h (next_run (Free t X) is)

  -- and one that is open, if one is due
  pub failed_release_calls_one_somebody : (t d : ℕ) (X : List ℕ) → log ≡ seen ++ Free t X ∷ late → IsDue Once d h → (w : ℕ) × (X ≡ w ∷ []) × IsOpen Once w h
  failed_release_calls_one_somebody t d X is = one_called Once limit t d X h (next_run (Free t X) is)

  -- a task that passes its turn on finds the cell empty, and hands one waker out that is open
  pub leaver_passes_its_turn_on_to_one : (t : ℕ) (X : List ℕ) → log ≡ seen ++ Pass t X ∷ late → (cell Once h ≡ Empty) × ((w : ℕ) × (X ≡ w ∷ []) × IsOpen Once w h)
  leaver_passes_its_turn_on_to_one t X is = passed_to_one Once limit t X h (next_run (Pass t X) is)

  -- it does so once
  pub leaver_passes_its_turn_on_once : (t : ℕ) (X : List ℕ) → log ≡ seen ++ Pass t X ∷ late → (last_call Once t h).passed ≡ false
  leaver_passes_its_turn_on_once t X is = passed_once Once limit t X h (next_run (Pass t X) is)

  -- claims nothing after it
  pub leaver_passes_its_turn_on_unclaimed : (t : ℕ) → log ≡ seen ++ Claim t ∷ late → (last_call Once t h).passed ≡ false
  leaver_passes_its_turn_on_unclaimed t is = passed_unclaimed Once limit t h (next_run (Claim t) is)

  -- ends a poll for want of memory
  pub leaver_passes_its_turn_on_refused : (t : ℕ) (r : Reply) → log ≡ seen ++ End t r ∷ late → (last_call Once t h).passed ≡ true → r ≡ Memory
  leaver_passes_its_turn_on_refused t r is = passed_refused Once limit t r h (next_run (End t r) is)

  -- and is in its last call
  pub leaver_passes_its_turn_on_leaves : (t : ℕ) → log ≡ seen ++ late → (last_call Once t h).passed ≡ true → (is_under_way (status Once t h) ≡ true) ⊎ (status Once t h ≡ Gone)
  leaver_passes_its_turn_on_leaves t is = passer_gone Once limit t h (seen_run is)

  -- no waker is handed out more often than tasks waited with it
  pub wakes_answer_waits : (w : ℕ) → log ≡ seen ++ late → times_handed w h ≤ times_opened Once w h
  wakes_answer_waits w is = handed_within Once limit w h (seen_run is)
