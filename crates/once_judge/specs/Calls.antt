-- What a run is by either rule for a release without a value: it wakes one waiter, as `IsRun` says, or all.
use Rattle.std.specs.Prelude.{◌≡◌, ◌≤◌, ℕ, true, List, [], ◌∷◌, length}
use Rattle.once_machine.specs.Numbers.{member}
use Rattle.once_machine.specs.Record.{Kind, Entry, Free}
use Rattle.once_machine.specs.Cell.{Held, cell}
use Rattle.once_machine.specs.Tasks.{status, last_call}
use Rattle.once_machine.specs.Wakers.{IsDue, HandsOut}
use Rattle.once_machine.specs.Run.{MayFree, IsLegal, IsRun}
use Rattle.once_judge.specs.declared.calls.Calls.{Calls}
use Rattle.once_judge.specs.declared.calls.Calls.TheVariants.{One as ToOne, All as ToAll}

-- the entry may come after those before it: a release without a value hands out as one with a value does
abbrev pub IsLegalToAll : Kind → ℕ → Entry → List Entry → Type 0
IsLegalToAll kind limit (Free t X) before =
    (cell kind before ≡ Held t) × MayFree (status kind t before) (last_call kind t before).ran
    × HandsOut kind X before
IsLegalToAll kind limit e before = IsLegal kind limit e before

-- a run of a cell whose releases without a value wake all
abbrev pub IsRunToAll : Kind → ℕ → List Entry → Type 0
IsRunToAll kind limit [] = Unit {0}
IsRunToAll kind limit (e ∷ before) = IsLegalToAll kind limit e before × IsRunToAll kind limit before

-- a run of a cell whose releases without a value wake one, or all
abbrev pub IsRunBy : Calls → Kind → ℕ → List Entry → Type 0
IsRunBy ToOne kind limit history = IsRun kind limit history
IsRunBy ToAll kind limit history = IsRunToAll kind limit history

-- P of each release without a value: of what it hands out, and of the entries before it
abbrev pub AtEachFree : (List ℕ → List Entry → Type 0) → List Entry → Type 0
AtEachFree P [] = Unit {0}
AtEachFree P (Free t X ∷ before) = P X before × AtEachFree P before
AtEachFree P (e ∷ before) = AtEachFree P before

-- each hands out one waker at most
abbrev pub CalledOne : List Entry → Type 0
CalledOne history = AtEachFree (λ X before. length X ≤ 1) history

-- each hands out every waker that is due
abbrev pub CalledAll : Kind → List Entry → Type 0
CalledAll kind history = AtEachFree (λ X before. (w : ℕ) → IsDue kind w before → member w X ≡ true) history
