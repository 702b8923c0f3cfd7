-- Whom `drain` polls next, by the step at which each task stands.
use Rattle.std.specs.Prelude.{◌≡◌, ◌≢◌, ℕ, Bool, true, false, List, Option, Some, None}
use Rattle.once_machine.specs.Numbers.{member}
use Rattle.once_machine.specs.Record.{Kind, Entry, Made}
use Rattle.once_machine.specs.Tasks.{last_call}
use Rattle.once_machine.specs.Wakers.{handed_since}
use Rattle.once_machine.specs.declared.step.Rest.TheVariants.{Start as RestStart, Wait as RestWait, Run as RestRun}
use Rattle.once_machine.specs.declared.step.Step.{Step}
use Rattle.once_machine.specs.declared.step.Step.TheVariants.{Resting}
use Rattle.once_machine.specs.Steps.{in_call}
use Rattle.once_machine.specs.Machine.{World, step_of}

-- the task rests with the right
abbrev pub rests_holding : Step ℕ ℕ → Bool
rests_holding (Resting (RestRun by)) = true
rests_holding _ = false

-- it was never polled, or it waits and was woken
abbrev pub is_awake : Step ℕ ℕ → Bool → Bool
is_awake (Resting RestStart) woken = true
is_awake (Resting (RestWait queue ticket)) woken = woken
is_awake _ woken = false

-- the task that the entry makes
abbrev pub made_by : Entry → Option ℕ
made_by (Made t) = Some t
made_by _ = None

-- the waker of t's last poll was handed out since that poll ended
abbrev pub is_woken : Kind → ℕ → List Entry → Bool
is_woken kind t history = member (last_call kind t history).waker (handed_since t history)

-- no call is under way
abbrev pub IsQuiet : World → Type 0
IsQuiet w = (u : ℕ) → in_call (step_of (w.tasks u)) ≡ false

-- no other task than t rests with the right
abbrev pub IsAlone : ℕ → World → Type 0
IsAlone t w = (u : ℕ) → t ≢ u → rests_holding (step_of (w.tasks u)) ≡ false

-- each task of the world is in the list
abbrev pub HasAll : List ℕ → World → Type 0
HasAll tasks w = (u : ℕ) → member u tasks ≡ false → w.tasks u ≡ None
