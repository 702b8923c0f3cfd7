-- The moments that no atomic operation marks: a task is made, a call begins, the init answers, the value is put, the copy of a waker is refused; and a look without a call.
use Rattle.std.proofs.Common.{◌≡◌, ◌<◌, ℕ, suc, Bool, true, false, cond, List, [], ◌∷◌, ◌++◌, length, Option, Some, None, reverse, slice_get, slice_set, refl, sym, ap, ◌∙◌, subst, arith}
use Rattle.std.proofs.lemmas.Bool.Decides.{nat_tests}
use Rattle.std.proofs.lemmas.Grind.{common_steps}
use Rattle.std.proofs.lemmas.List.{append-nil}
use Rattle.std.proofs.lemmas.Bool.{false≢true}
use Rattle.once_machine.specs.Word.{Flags, flags_of}
use Rattle.once_machine.specs.Steps.{release_place, step_of_drop, step_of_poll}
use Rattle.once_machine.specs.Table.{after_run, next_at}
use Rattle.once_machine.specs.Record.{Answer, Begin, Entry, Look, Made, Ran}
use Rattle.once_machine.specs.Inputs.{Drop, Looks, Make, Poll}
use Rattle.once_machine.specs.Book.{At, IsBook, IsUnnamed, Page, TasksReach, has_written, refused_step}
use Rattle.once_machine.specs.Machine.{AtList, AtPut, AtRun, EndMemory, EndValue, Finished, Resting, SharedState, Step, Task, UnderWay, World}
use Rattle.once_machine.specs.Machine.{drop_entries, drop_world, drop_world_by, fresh_task, is_resting, kept_after, leave_place, look_value, make_world}
use Rattle.once_machine.specs.Machine.{poll_world, poll_world_by, polled_of, put_task, put_value, run_shared, step_of}
use Rattle.once_machine.proofs.Moment.Pages.{add_other, add_tasks, no_task, one_task, past_end, set_other, set_tasks, zero_task}
use Rattle.once_machine.proofs.Moment.Step.{Moment, Stepped, grown, moment, stepped, stepped_alone, told}
use Rattle.once_machine.proofs.Shared.Places.{leave_unwritten}
use Rattle.once_machine.proofs.Shared.Reached.{reached_by, reached_refuse, unowned_of}
use Rattle.once_machine.proofs.Shared.Slot.{slot_free, slot_kept, slot_same}

-- a task at rest did not write the slot
resting_unwritten : (s : Step ℕ ℕ) → is_resting s ≡ true → has_written s ≡ false
resting_unwritten (Resting r) e = refl
resting_unwritten (UnderWay p) e = absurd (false≢true e)
resting_unwritten Finished e = refl

-- nor does it by beginning a poll
poll_unwritten : (s : Step ℕ ℕ) → is_resting s ≡ true → has_written (step_of_poll s) ≡ false
poll_unwritten s e = grind (arith, nat_tests, common_steps)

-- nor by beginning a drop
drop_unwritten : (s : Step ℕ ℕ) → is_resting s ≡ true → has_written (step_of_drop s) ≡ false
drop_unwritten s e = grind (arith, nat_tests, common_steps)

module _ (limit n put : ℕ) (slot : Bool) (pages : List Page) (log : List Entry) (some : 0 < limit) (book : IsBook limit n put slot pages log) where
  -- Made: a task is made, with the next number
  pub made : (t : ℕ) → length pages ≡ suc (suc t) → IsBook limit n put slot (pages ++ At fresh_task ∷ []) (log ++ Made t ∷ [])
  made t l =
      let w : World = book.0 in
      let none : w.tasks t ≡ None = no_task (w.tasks t) (sym (book.1.tasks_are t) ∙ ap (slice_get pages) (sym l) ∙ past_end pages) in (
        make_world w t None,
        record {
          reached = reached_by limit w (make_world w t None) (Make t) tt (ap (make_world w t) (sym none)) book.1.reached;
          within = book.1.within;
          word_is = book.1.word_is;
          put_is = book.1.put_is;
          slot_is = slot_kept false slot w (make_world w t None) t fresh_task refl
              (slot_same (sym (ap (λ o. has_written (step_of o)) none)) refl) book.1.slot_is;
          door_is = add_other pages 0 (At fresh_task) (λ e. zero_task t (sym e ∙ l)) ∙ book.1.door_is;
          queue_is = add_other pages 1 (At fresh_task) (λ e. one_task t (sym e ∙ l)) ∙ book.1.queue_is;
          tasks_are = add_tasks w.tasks pages t fresh_task l book.1.tasks_are;
          log_is = grown w.history log (Made t ∷ []) book.1.log_is;
        },
      )

  -- Look: a look for the value
  pub looked : IsBook limit n put slot pages (log ++ Look (cond (flags_of n).ready (Some 0) None) ∷ [])
  looked =
      let w : World = book.0 in
      let found : look_value w.shared ≡ cond (flags_of n).ready (Some 0) None = ap (λ v. cond w.shared.ready (Some v) None) (unowned_of limit some w book.1.reached).value
      ∙ ap (λ (f : Flags). cond f.ready (Some 0) None) (sym book.1.word_is) in (
        record w { history = Look (look_value w.shared) ∷ w.history },
        record {
          reached = reached_by limit w (record w { history = Look (look_value w.shared) ∷ w.history }) Looks tt refl book.1.reached;
          within = book.1.within;
          word_is = book.1.word_is;
          put_is = book.1.put_is;
          slot_is = book.1.slot_is;
          door_is = book.1.door_is;
          queue_is = book.1.queue_is;
          tasks_are = book.1.tasks_are;
          log_is = ap (λ v. Look v ∷ w.history) found ∙ grown w.history log (Look (cond (flags_of n).ready (Some 0) None) ∷ []) book.1.log_is;
        },
      )

  module _ (t : ℕ) (x : Task) (pen : slice_get pages (suc (suc t)) ≡ Some (At x)) where
    -- what holds at the moment
    abbrev m : Moment limit n put slot pages log t x
    m = moment t some book pen

    -- t is y now, which is no step of it: nothing else changes but the log
    turned : (w' : World) (y : Task) (es : List Entry) → TasksReach limit w' → w'.shared ≡ book.0.shared → w'.tasks ≡ put_task t y book.0.tasks
        → w'.history ≡ es ++ book.0.history → has_written x.step ≡ false → has_written y.step ≡ false
        → IsBook limit n put slot (slice_set pages (suc (suc t)) (At y)) (log ++ reverse es)
    turned w' y es reached s ts h unwritten still =
        let was : has_written (step_of (book.0.tasks t)) ≡ false = ap (λ o. has_written (step_of o)) m.found ∙ unwritten in (
          w',
          record {
            reached = reached;
            within = book.1.within;
            word_is = rw s book.1.word_is;
            put_is = rw s book.1.put_is;
            slot_is = slot_kept false slot book.0 w' t y ts (slot_same (still ∙ sym was) (ap (λ (c : SharedState). c.ready) s)) book.1.slot_is;
            door_is = rw s (set_other pages (suc (suc t)) 0 (At y) (λ e. zero_task t (sym e)) ∙ book.1.door_is);
            queue_is = rw s (set_other pages (suc (suc t)) 1 (At y) (λ e. one_task t (sym e)) ∙ book.1.queue_is);
            tasks_are = rw ts (set_tasks book.0.tasks pages t y x m.found book.1.tasks_are);
            log_is = h ∙ grown book.0.history log es book.1.log_is;
          },
        )

    -- Begin: a poll begins
    pub poll_begun : is_resting x.step ≡ true
        → IsBook limit n put slot (slice_set pages (suc (suc t)) (At (record x { waker = t; step = step_of_poll x.step }))) (log ++ Begin t t ∷ [])
    poll_begun r = turned (poll_world_by true book.0 t t x) (record x { waker = t; step = step_of_poll x.step }) (Begin t t ∷ [])
        (reached_by limit book.0 (poll_world_by true book.0 t t x) (Poll t t) refl
        (sym (ap (poll_world book.0 t t) m.found ∙ ap (λ b. poll_world_by b book.0 t t x) r)) book.1.reached)
        refl refl refl (resting_unwritten x.step r) (poll_unwritten x.step r)

    -- DropBegin: a drop begins, and ends at once if the task was never polled
    pub drop_begun : is_resting x.step ≡ true
        → IsBook limit n put slot (slice_set pages (suc (suc t)) (At (record x { step = step_of_drop x.step }))) (log ++ reverse (drop_entries t (step_of_drop x.step)))
    drop_begun r = turned (drop_world_by true book.0 t x) (record x { step = step_of_drop x.step }) (drop_entries t (step_of_drop x.step))
        (reached_by limit book.0 (drop_world_by true book.0 t x) (Drop t) tt
        (sym (ap (drop_world book.0 t) m.found ∙ ap (λ b. drop_world_by b book.0 t x) r)) book.1.reached)
        refl refl refl (resting_unwritten x.step r) (drop_unwritten x.step r)

    -- Refuse: the copy of the waker is refused, and nothing is recorded
    pub copy_refused : (q v : ℕ) (k : Option ℕ) → x.step ≡ UnderWay (AtList q k v)
        → IsBook limit n put slot (slice_set pages (suc (suc t)) (At (record x { step = UnderWay (leave_place q k EndMemory) }))) log
    copy_refused q v k at =
        let y : Task = record x { step = UnderWay (leave_place q k EndMemory) } in
        subst (IsBook limit n put slot (slice_set pages (suc (suc t)) (At y))) (append-nil log)
        (turned (record book.0 { tasks = put_task t y book.0.tasks }) y []
        (reached_refuse limit book.0 t x (UnderWay (leave_place q k EndMemory)) m.found (ap refused_step at) book.1.reached)
        refl refl refl (ap has_written at) (leave_unwritten q k EndMemory))

    -- AtRun: the init answers
    pub init_ran : (by : Option ℕ) (a : Answer) → IsUnnamed a → x.step ≡ UnderWay (AtRun by)
        → let next = after_run (polled_of a) by in
        IsBook limit n put slot (slice_set pages (suc (suc t)) (At (record x { step = next.step; kept = kept_after a x.kept })))
        (log ++ told t (kept_after a x.kept) next (Ran t a ∷ []))
    init_ran by a unnamed at =
        stepped t some book pen n put pages a false (AtRun by) (run_shared book.0.shared) (kept_after a x.kept) (Ran t a ∷ []) (after_run (polled_of a) by)
        unnamed at refl book.1.within book.1.word_is book.1.put_is book.1.door_is book.1.queue_is (λ u. refl)

    -- AtPut: the value is put, and the slot is written, which was not
    pub value_put : (by : Option ℕ) → x.step ≡ UnderWay (AtPut by) → (slot ≡ false) × Stepped limit n put true pages log t x [] (next_at (release_place by EndValue))
    value_put by at = (
      slot_free t m.fits m.is.slot_is m.found at,
      stepped_alone t some book pen n false (AtPut by) (record book.0.shared { value = put_value x.kept book.0.shared.value }) [] (next_at (release_place by EndValue))
          at refl book.1.within book.1.word_is book.1.put_is book.1.door_is book.1.queue_is,
    )
