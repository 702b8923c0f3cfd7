-- What an input of a replay asks of the world. It holds in every world that the machine reaches.
use Rattle.std.specs.Prelude.{◌≡◌, ◌≤◌, ◌<◌, ℕ, false, not, length, Option, Some, None}
use Rattle.once_machine.specs.Inputs.{Input, Go, Make}
use Rattle.once_machine.specs.declared.waiters.Op.TheVariants.{Release}
use Rattle.once_machine.specs.Table.{Call, AddOne, CountOut, Section, call_at}
use Rattle.once_machine.specs.Machine.{Task, Step, UnderWay, Place, SharedState, World}

-- what a call asks of what is shared: a free place in the count, a counted task, or, on the queue at the door, a holder
-- that may release
abbrev pub StateCan : ℕ → SharedState → Call ℕ ℕ → Type 0
StateCan limit c AddOne = c.count ≤ limit
StateCan limit c (Section q (Release fills)) = c.door ≡ Some q → (c.ready ≡ false) × (c.head ≡ not c.quick)
StateCan limit c CountOut = 0 < c.count
StateCan limit c _ = Unit {0}

-- the same by the place
abbrev pub CanStep : ℕ → SharedState → Place ℕ ℕ → Type 0
CanStep limit c p = StateCan limit c (call_at p)

-- the same of a step: nothing if no call is under way
abbrev pub CanAdvance : ℕ → SharedState → Step ℕ ℕ → Type 0
CanAdvance limit c (UnderWay p) = CanStep limit c p
CanAdvance limit c s = Unit {0}

-- the same of a task: nothing if it was not made
abbrev pub TaskCan : ℕ → SharedState → Option Task → Type 0
TaskCan limit c (Some x) = CanAdvance limit c x.step
TaskCan limit c None = Unit {0}

-- the input may be taken: a task that it moves may make its step.
-- If it makes a task, no more tasks are unfinished than there are entries
abbrev pub MayTake : ℕ → World → Input → Type 0
MayTake limit w (Go t a granted) = TaskCan limit w.shared (w.tasks t)
MayTake limit w (Make t) = w.unfinished ≤ length w.history
MayTake limit w i = Unit {0}
