-- The queue log is sound, and tells the queue at the door, after all inputs.
use Rattle.std.proofs.Common.{◌≡◌, ◌<◌, ℕ, Bool, true, false, ◌==◌, List, [], ◌∷◌, ◌++◌, Option, Some, None, refl}
use Rattle.once_machine.specs.Record.{Kind, OwnerCall, Parts, ReplaceAnswers, ReplaceValue, Take, Write, has_call, is_lazy, replaces}
use Rattle.once_machine.specs.declared.record.Ran.{Ran as Answer}
use Rattle.once_machine.specs.Inputs.{Drop, Go, Input, Looks, Make, Owns, Poll}
use Rattle.once_machine.specs.Log.{IsSound, standing_queue, take_lines}
use Rattle.once_machine.specs.Machine.{SharedState, World, world_after, poll_world_by, drop_world_by, drop_world, go_world, go_world_by, in_call}
use Rattle.once_machine.specs.declared.log.QueueLine.{QueueLine}
use Rattle.once_machine.specs.declared.task.Task.{Task}
use Rattle.once_machine.specs.Machine.{is_resting, log_of, make_world, own_world_by, owner_shared, owner_lines, poll_world, queue_of, reset_shared, write_shared}
use Rattle.once_machine.specs.Machine.{world_of}
use Rattle.once_machine.proofs.Invariant.Fits.{Fits}
use Rattle.once_machine.proofs.Input.Headline.{task_fits, world_fits}
use Rattle.once_script.proofs.Door.Logs.{LogFits, log_step, log_take}

-- the inputs that log nothing
begun_log : (w : World) (t k : ℕ) (x : Task) (r : Bool) → LogFits w.shared w.log → LogFits (poll_world_by r w t k x).shared (poll_world_by r w t k x).log
begun_log w t k x true f = f
begun_log w t k x false f = f

drop_log : (w : World) (t : ℕ) (x : Task) (r : Bool) → LogFits w.shared w.log → LogFits (drop_world_by r w t x).shared (drop_world_by r w t x).log
drop_log w t x true f = f
drop_log w t x false f = f

made_log : (w : World) (t : ℕ) (o : Option Task) → LogFits w.shared w.log → LogFits (make_world w t o).shared (make_world w t o).log
made_log w t None f = f
made_log w t (Some x) f = f

polled_log : (w : World) (t k : ℕ) (o : Option Task) → LogFits w.shared w.log → LogFits (poll_world w t k o).shared (poll_world w t k o).log
polled_log w t k None f = f
polled_log w t k (Some x) f = begun_log w t k x (is_resting x.step) f

dropped_log : (w : World) (t : ℕ) (o : Option Task) → LogFits w.shared w.log → LogFits (drop_world w t o).shared (drop_world w t o).log
dropped_log w t None f = f
dropped_log w t (Some x) f = drop_log w t x (is_resting x.step) f

-- a step
goes_log : (K : Kind) (limit : ℕ) (w : World) (t : ℕ) (a : Answer) (g : Bool) (x : Task) → Fits K limit w
    → w.tasks t ≡ Some x → LogFits w.shared w.log → (r : Bool)
    → LogFits (go_world_by r (is_lazy K) limit w t a g x).shared (go_world_by r (is_lazy K) limit w t a g x).log
goes_log K limit w t a g x f found l false = l
goes_log K limit w t a g x f found l true = let own = task_fits K limit t w x f found in log_step K limit w.shared t x.waker x.kept a g w.history w.log l x.step own.step

-- a Go
gone_log : (K : Kind) (limit : ℕ) (w : World) (t : ℕ) (a : Answer) (g : Bool) → Fits K limit w
    → LogFits w.shared w.log → (o : Option Task) → w.tasks t ≡ o
    → LogFits (go_world (is_lazy K) limit w t a g o).shared (go_world (is_lazy K) limit w t a g o).log
gone_log K limit w t a g f l None is = l
gone_log K limit w t a g f l (Some x) is = goes_log K limit w t a g x f is l (in_call x.step)

-- the owner takes the queue out
reset_log : (c : SharedState) (v : Option ℕ) (l : List (Option ℕ)) (log : List QueueLine) → LogFits c log
    → LogFits (reset_shared c v l) (take_lines c.door ++ log)
reset_log c v l log f = let k = log_take c c.door log refl f in record { door_is = k.door_is; sound = k.sound; fresh = k.fresh }

-- a writing logs nothing
write_log : (c : SharedState) (v : ℕ) (log : List QueueLine) (r : Bool) → LogFits c log → LogFits (write_shared r v c) log
write_log c v log true f = record { door_is = f.door_is; sound = f.sound; fresh = f.fresh }
write_log c v log false f = f

-- the calls of the owner
owner_log : (c : SharedState) (o : OwnerCall) (log : List QueueLine) → LogFits c log → LogFits (owner_shared o c) (owner_lines (replaces o) c ++ log)
owner_log c Take log f = reset_log c None c.answers log f
owner_log c (Write v) log f = write_log c v log c.ready f
owner_log c Parts log f = reset_log c None [] log f
owner_log c (ReplaceValue v) log f = reset_log c (Some v) [] log f
owner_log c (ReplaceAnswers l) log f = reset_log c None l log f

-- by whether the call fits
owned_log : (w : World) (o : OwnerCall) (d b : Bool) → LogFits w.shared w.log → LogFits (own_world_by d b w o).shared (own_world_by d b w o).log
owned_log w o true true f = owner_log w.shared o w.log f
owned_log w o _ _ f = f

-- each input
after_log : (K : Kind) (limit : ℕ) (w : World) (i : Input) → Fits K limit w → LogFits w.shared w.log
    → LogFits (world_after K limit w i).shared (world_after K limit w i).log
after_log K limit w (Make t) f l = made_log w t (w.tasks t) l
after_log K limit w (Poll t k) f l = polled_log w t k (w.tasks t) l
after_log K limit w (Drop t) f l = dropped_log w t (w.tasks t) l
after_log K limit w (Go t a g) f l = gone_log K limit w t a g f l (w.tasks t) refl
after_log K limit w (Owns o) f l = owned_log w o (w.unfinished == 0) (has_call K o) l
after_log K limit w Looks f l = l

-- the log against what is shared, for every list of inputs
pub logs : (K : Kind) (limit : ℕ) (inputs : List Input) → 0 < limit → LogFits (world_of K limit inputs).shared (world_of K limit inputs).log
logs K limit [] some = record { door_is = refl; sound = tt; fresh = λ q l. refl }
logs K limit (i ∷ before) some = after_log K limit (world_of K limit before) i (world_fits K limit before some) (logs K limit before some)

-- the queue log is sound
pub log_sound : (kind : Kind) (limit : ℕ) (inputs : List Input) → 0 < limit → IsSound (log_of kind limit inputs)
log_sound kind limit inputs some = (logs kind limit inputs some).sound

-- the queue at the door is the one that stands there after the log
pub log_stands : (kind : Kind) (limit : ℕ) (inputs : List Input) → 0 < limit → standing_queue (log_of kind limit inputs) ≡ queue_of kind limit inputs
log_stands kind limit inputs some = (logs kind limit inputs some).door_is
