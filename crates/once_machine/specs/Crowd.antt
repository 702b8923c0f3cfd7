-- How many other tasks wait.
use Rattle.std.specs.Prelude.{◌≤◌, ℕ, Bool, true, false, if◌then◌else◌, ◌==◌, List}
use Rattle.once_machine.specs.Numbers.{how_many}
use Rattle.once_machine.specs.Record.{Kind, Entry, made_in}
use Rattle.once_machine.specs.Tasks.{Status, Waiting, status}

-- the task waits
abbrev pub is_waiting : Status → Bool
is_waiting Waiting = true
is_waiting _ = false

-- how many other tasks than t wait
abbrev pub waiters : Kind → ℕ → List Entry → ℕ
waiters kind t history = how_many (λ u. if u == t then false else is_waiting (status kind u history)) (made_in history)

-- at least limit other tasks than t wait
abbrev pub AreWaiting : Kind → ℕ → ℕ → List Entry → Type 0
AreWaiting kind limit t history = limit ≤ waiters kind t history
