-- The record of every list of inputs is a run, and at every moment somebody was woken if somebody had to be.
use Rattle.std.proofs.Common.{◌≡◌, ◌<◌, ℕ, Bool, true, false, ◌==◌, List, [], ◌∷◌, Option, Some, None, refl, sym, arith}
use Rattle.std.proofs.lemmas.Bool.{false≢true}
use Rattle.once_machine.specs.Record.{Answer, Kind, Lazy, LazyWith, Once, OnceWith, has_call, is_lazy}
use Rattle.once_machine.specs.Cell.{Cell, Empty, Held, SetTo, cell}
use Rattle.once_machine.specs.Run.{AtEvery, IsRun}
use Rattle.once_machine.specs.Called.{SomebodyCalled}
use Rattle.once_machine.specs.Inputs.{Drop, Go, Input, Looks, Make, Owns, Poll}
use Rattle.once_machine.specs.Machine.{Finished, Outcome, Resting, Step, Task, UnderWay, World, advance, world_after, step_of_poll, poll_world_by, step_of_drop}
use Rattle.once_machine.specs.Machine.{drop_world_by, drop_world, go_world, go_world_by, history_of, in_call, is_finished, is_resting, first_world, poll_world}
use Rattle.once_machine.specs.Machine.{unfinished_after, world_of}
use Rattle.once_machine.proofs.History.Others.{holds}
use Rattle.once_machine.proofs.History.Cells.{empty_not_set, is_held, same_value}
use Rattle.once_machine.proofs.Invariant.Fits.{Fits, SharedFits, TaskFits}
use Rattle.once_machine.proofs.Invariant.Listed.{none_not_some}
use Rattle.once_machine.proofs.Place.Relisted.{no_listing}
use Rattle.once_machine.proofs.Invariant.Moves.{moved_fits, puts}
use Rattle.once_machine.proofs.Invariant.Around.{around}
use Rattle.once_machine.proofs.Invariant.AroundLists.{around_list}
use Rattle.once_machine.proofs.Input.Owner.{owned_fits}
use Rattle.once_machine.proofs.Input.Begins.{begins, drop_begins}
use Rattle.once_machine.proofs.Place.Builders.{Before}
use Rattle.once_machine.proofs.Input.Advances.{advances}
use Rattle.once_machine.proofs.Input.Makes.{look_fits, made_fits}

-- the task x at the number t
pub task_fits : (K : Kind) (limit t : ℕ) (w : World) (x : Task) → Fits K limit w → w.tasks t ≡ Some x → TaskFits K limit t w.shared w.history x
task_fits K limit t w x f found = rw found at (f.tasks t)

-- a task at rest is not finished
resting_live : (s : Step ℕ ℕ) → is_resting s ≡ true → is_finished s ≡ false
resting_live (Resting r) e = refl
resting_live (UnderWay p) e = refl
resting_live Finished e = absurd (false≢true e)

-- nor is one with a call under way
calling_live : (s : Step ℕ ℕ) → in_call s ≡ true → is_finished s ≡ false
calling_live (Resting r) e = refl
calling_live (UnderWay p) e = refl
calling_live Finished e = absurd (false≢true e)

-- a poll that begins finishes no task
begun_live : (s : Step ℕ ℕ) (n : ℕ) → is_resting s ≡ true → n ≡ unfinished_after (step_of_poll s) n
begun_live (Resting r) n e = refl
begun_live (UnderWay p) n e = refl
begun_live Finished n e = absurd (false≢true e)

module _ {K : Kind} {limit : ℕ} {w : World} (f : Fits K limit w) (t : ℕ) where
  -- all that stands before a step of t
  pub task_before : (x : Task) → w.tasks t ≡ Some x → Before K limit t x.waker x.kept w.shared w.history
  task_before x found =
      let own = task_fits K limit t w x f found in
      record { run = f.run; shared = f.shared; queue = f.queue; waker_is = own.waker_is; kept_is = own.kept_is }

  -- the beginning of a poll
  begun_fits : (k : ℕ) (x : Task) → w.tasks t ≡ Some x → (r : Bool) → is_resting x.step ≡ r → Fits K limit (poll_world_by r w t k x)
  begun_fits k x found false r = f
  begun_fits k x found true r =
      let y : Task = record x { waker = k; step = step_of_poll x.step } in
      let own = task_fits K limit t w x f found in
      moved_fits (poll_world_by true w t k x) f found (puts t y w.tasks)
      (begins (task_before x found) k x.step r own.step) (resting_live x.step r) (begun_live x.step w.unfinished r)

  -- the beginning of a drop
  drop_fits : (x : Task) → w.tasks t ≡ Some x → (r : Bool) → is_resting x.step ≡ r → Fits K limit (drop_world_by r w t x)
  drop_fits x found false r = f
  drop_fits x found true r =
      let y : Task = record x { step = step_of_drop x.step } in
      let own = task_fits K limit t w x f found in
      moved_fits (drop_world_by true w t x) f found (puts t y w.tasks)
      (drop_begins (task_before x found) x.step r own.step) (resting_live x.step r) refl

  -- a step
  goes_fits : (a : Answer) (g : Bool) (x : Task) → 0 < limit → w.tasks t ≡ Some x → (r : Bool) → in_call x.step ≡ r
      → Fits K limit (go_world_by r (is_lazy K) limit w t a g x)
  goes_fits a g x some found false r = f
  goes_fits a g x some found true r =
      let o : Outcome = advance (is_lazy K) limit w.shared t x a g in
      let y : Task = record x { step = o.step; kept = o.kept } in
      let own = task_fits K limit t w x f found in
      moved_fits (go_world_by true (is_lazy K) limit w t a g x) f found (puts t y w.tasks)
      (advances (task_before x found) a g some r (around K limit t x w f found) (around_list K limit t x w f found) own.step)
      (calling_live x.step r) refl

  -- the inputs, by whether the task is there
  polled_fits : (k : ℕ) (o : Option Task) → w.tasks t ≡ o → Fits K limit (poll_world w t k o)
  polled_fits k None is = f
  polled_fits k (Some x) is = begun_fits k x is (is_resting x.step) refl

  dropped_fits : (o : Option Task) → w.tasks t ≡ o → Fits K limit (drop_world w t o)
  dropped_fits None is = f
  dropped_fits (Some x) is = drop_fits x is (is_resting x.step) refl

  gone_fits : (a : Answer) (g : Bool) → 0 < limit → (o : Option Task) → w.tasks t ≡ o → Fits K limit (go_world (is_lazy K) limit w t a g o)
  gone_fits a g some None is = f
  gone_fits a g some (Some x) is = goes_fits a g x some is (in_call x.step) refl

-- only a cell that is made with a value has one at the start
value_at_start : (K : Kind) (v : ℕ) → cell K [] ≡ SetTo v → (first_world K).shared.value ≡ v
value_at_start Once v e = absurd (empty_not_set v e)
value_at_start (OnceWith k) v e = same_value k v e
value_at_start (Lazy l) v e = absurd (empty_not_set v e)
value_at_start (LazyWith k) v e = same_value k v e

-- nobody holds at the start
none_held : (K : Kind) → is_held (cell K []) ≡ false
none_held Once = refl
none_held (OnceWith v) = refl
none_held (Lazy l) = refl
none_held (LazyWith v) = refl

unheld_by : (t : ℕ) (c : Cell) → is_held c ≡ false → holds t c ≡ false
unheld_by t Empty e = refl
unheld_by t (SetTo v) e = refl
unheld_by t (Held u) e = absurd (false≢true (sym e))

-- how what is shared starts
starting : (K : Kind) (limit : ℕ) → SharedFits K limit (first_world K).shared []
starting K limit = record {
  ready_is = refl;
  held_is = none_held K;
  value_is = value_at_start K;
  answers_is = refl;
  within = omega arith;
  stands = λ _ l. absurd (omega arith);
  head_door = λ e. absurd (false≢true e);
}

-- all holds at the start
pub opening_fits : (K : Kind) (limit : ℕ) → Fits K limit (first_world K)
opening_fits K limit = record {
  run = tt;
  shared = starting K limit;
  queue = record { counts = λ w. omega arith; called = λ e u s. grind arith };
  tasks = λ t. (record { status_is = refl; holds_is = unheld_by t (cell K []) (none_held K) }, refl, refl);
  count_is = refl;
  unfinished_is = refl;
  made_once = refl;
  made_all = λ t e. refl;
  made_only = λ t e. refl;
  alone = λ t u e. absurd (false≢true e);
  single = λ a b n e. absurd (none_not_some n e);
  owned = λ r n o e. absurd (no_listing o e);
  moments = λ e u s. grind arith;
}

-- each input keeps all that holds
pub after_fits : (K : Kind) (limit : ℕ) (w : World) (i : Input) → 0 < limit → Fits K limit w → Fits K limit (world_after K limit w i)
after_fits K limit w (Make t) some f = made_fits K limit w t f (w.tasks t) refl
after_fits K limit w (Poll t k) some f = polled_fits f t k (w.tasks t) refl
after_fits K limit w (Drop t) some f = dropped_fits f t (w.tasks t) refl
after_fits K limit w (Go t a g) some f = gone_fits f t a g some (w.tasks t) refl
after_fits K limit w (Owns o) some f = owned_fits f o (w.unfinished == 0) (has_call K o) refl refl
after_fits K limit w Looks some f = look_fits K limit w f

-- all holds after every list of inputs
pub world_fits : (K : Kind) (limit : ℕ) (inputs : List Input) → 0 < limit → Fits K limit (world_of K limit inputs)
world_fits K limit [] some = opening_fits K limit
world_fits K limit (i ∷ before) some = after_fits K limit (world_of K limit before) i some (world_fits K limit before some)

-- the record of every list of inputs is a run
pub every_run : (kind : Kind) (limit : ℕ) (inputs : List Input) → 0 < limit → IsRun kind limit (history_of kind limit inputs)
every_run kind limit inputs some = (world_fits kind limit inputs some).run

-- at every moment, if the cell is empty and some task waits, some task was woken
pub one_is_called : (kind : Kind) (limit : ℕ) (inputs : List Input) → 0 < limit → AtEvery (SomebodyCalled kind) (history_of kind limit inputs)
one_is_called kind limit inputs some = (world_fits kind limit inputs some).moments
