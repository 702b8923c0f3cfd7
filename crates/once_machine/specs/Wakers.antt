-- Which wakers a release has to hand out, and which it may hand out.
use Rattle.std.specs.Prelude.{◌≡◌, ◌≢◌, ◌≤◌, ◌<◌, ◌+◌, ℕ, Bool, true, false, if◌then◌else◌, ◌==◌}
use Rattle.std.specs.Prelude.{List, [], ◌∷◌, ◌++◌, length}
use Rattle.once_machine.specs.Numbers.{member, is_distinct, bit, times_in}
use Rattle.once_machine.specs.Record.{Kind, Pending, Entry, End, handed_by, is_replacing}
use Rattle.once_machine.specs.Cell.{Cell, Held, cell}
use Rattle.once_machine.specs.Tasks.{Waiting, status, last_call}

-- the entry ends a poll of t
abbrev pub is_end_of : ℕ → Entry → Bool
is_end_of t (End u r) = u == t
is_end_of t _ = false

-- the wakers handed out since the last End of t
abbrev pub handed_since : ℕ → List Entry → List ℕ
handed_since t [] = []
handed_since t (e ∷ before) = if is_end_of t e then [] else handed_by e ++ handed_since t before

-- w is due: some task waits, w is the waker of its last poll, and w was not handed out since that poll's End
abbrev pub IsDue : Kind → ℕ → List Entry → Type 0
IsDue kind w history =
    (t : ℕ) × (status kind t history ≡ Waiting) × ((last_call kind t history).waker ≡ w)
    × (member w (handed_since t history) ≡ false)

-- another task than t holds
abbrev pub is_held_by_other : ℕ → Cell → Bool
is_held_by_other t (Held u) = if u == t then false else true
is_held_by_other t _ = false

-- the entry ends a poll begun with w, Pending, while another task holds
abbrev pub opens : Kind → ℕ → Entry → List Entry → Bool
opens kind w (End t Pending) before =
    if (last_call kind t before).waker == w then is_held_by_other t (cell kind before) else false
opens kind w _ before = false

-- how many polls begun with w ended Pending while another task held, since the owner last replaced the cell
abbrev pub times_opened : Kind → ℕ → List Entry → ℕ
times_opened kind w [] = 0
times_opened kind w (e ∷ before) =
    if is_replacing e then 0 else bit (opens kind w e before) + times_opened kind w before

-- how often w was handed out since the owner last replaced the cell
abbrev pub times_handed : ℕ → List Entry → ℕ
times_handed w [] = 0
times_handed w (e ∷ before) = if is_replacing e then 0 else times_in w (handed_by e) + times_handed w before

-- w is open: it was handed out less often than polls opened it
abbrev pub IsOpen : Kind → ℕ → List Entry → Type 0
IsOpen kind w history = times_handed w history < times_opened kind w history

-- what a release with a value hands out
pub record HandsOut (kind : Kind) (X : List ℕ) (history : List Entry) : Type 0 where
  pub once : is_distinct X ≡ true  -- no waker twice
  pub due : (w : ℕ) → IsDue kind w history → member w X ≡ true  -- every waker that is due
  pub open_alone : (w : ℕ) → member w X ≡ true → IsOpen kind w history  -- none that is not open

-- what a release without a value hands out
pub record CallsOne (kind : Kind) (X : List ℕ) (history : List Entry) : Type 0 where
  pub one : length X ≤ 1  -- one waker at most
  pub due : (w : ℕ) → IsDue kind w history → X ≢ []  -- some waker if one is due
  pub open_alone : (w : ℕ) → member w X ≡ true → IsOpen kind w history  -- none that is not open
