-- The queue log: which queue stands at the door, and which log belongs to which parts. The newest line stands first.
use Rattle.std.specs.Prelude.{◌≡◌, ◌≢◌, ℕ, Bool, true, false, if◌then◌else◌, ◌==◌}
use Rattle.std.specs.Prelude.{List, [], ◌∷◌, ◌++◌, Option, Some, None}
use Rattle.std.specs.Option.{is_none}
use Rattle.once_machine.specs.declared.log.QueueLine.{QueueLine}
use Rattle.once_machine.specs.declared.log.QueueLine.TheVariants.{Put, Entered, Taken}
use Rattle.once_machine.specs.Record.{Pending, Kind, Entry, Free, Fill, Pass, End, replaces}
use Rattle.once_machine.specs.Cell.{cell, is_set}
use Rattle.once_machine.specs.Tasks.{Waiting, status, is_under_way, last_call}
use Rattle.once_machine.specs.Inputs.{Input, Go, Owns, Part, entries_of, fits_owner, Always}

-- the queue that stands at the door after these lines
abbrev pub standing_queue : List QueueLine → Option ℕ
standing_queue [] = None
standing_queue (Put q ∷ before) = Some q
standing_queue (Entered q ∷ before) = standing_queue before
standing_queue (Taken q ∷ before) = None

-- the queue q was put
abbrev pub was_put : ℕ → List QueueLine → Bool
was_put q [] = false
was_put q (Put n ∷ before) = if n == q then true else was_put q before
was_put q (_ ∷ before) = was_put q before

-- a queue is put, with a new number, if none stands at the door; it is entered and taken out only while it stands there
abbrev pub IsSound : List QueueLine → Type 0
IsSound [] = Unit {0}
IsSound (Put q ∷ before) = (standing_queue before ≡ None) × (was_put q before ≡ false) × IsSound before
IsSound (Entered q ∷ before) = (standing_queue before ≡ Some q) × IsSound before
IsSound (Taken q ∷ before) = (standing_queue before ≡ Some q) × IsSound before

-- the lines that the parts add
abbrev pub lines_of : List Part → List QueueLine
lines_of [] = []
lines_of (p ∷ before) = p.lines ++ lines_of before

-- some waker is handed out
abbrev pub is_some_waker : List ℕ → Bool
is_some_waker [] = false
is_some_waker _ = true

-- the entry hands out a waker, or ends a poll Pending that did not run
abbrev pub needs_queue : Kind → Entry → List Entry → Bool
needs_queue kind (Free t X) before = is_some_waker X
needs_queue kind (Fill t v X) before = is_some_waker X
needs_queue kind (Pass t X) before = is_some_waker X
needs_queue kind (End t Pending) before = is_none (last_call kind t before).ran
needs_queue kind _ before = false

-- some of these entries, which follow those before, needs the queue
abbrev pub need_queue : Kind → List Entry → List Entry → Bool
need_queue kind [] before = false
need_queue kind (e ∷ entries) before =
    if needs_queue kind e (entries ++ before) then true else need_queue kind entries before

-- some queue was entered
abbrev pub has_entered : List QueueLine → Bool
has_entered [] = false
has_entered (Entered q ∷ before) = true
has_entered (_ ∷ before) = has_entered before

-- one line at most
abbrev pub IsAtMostOne : List QueueLine → Type 0
IsAtMostOne (l ∷ k ∷ more) = ⊥
IsAtMostOne _ = Unit {0}

-- the queue at the door is taken out
abbrev pub take_lines : Option ℕ → List QueueLine
take_lines (Some q) = Taken q ∷ []
take_lines None = []

-- the lines of an owner's call, by whether it fits and whether it replaces the cell
abbrev pub owned_lines : Bool → Bool → Option ℕ → List QueueLine
owned_lines true true door = take_lines door
owned_lines _ _ door = []

-- an input whose entries are these adds these lines.
-- A Go adds at most one, and one that enters the queue if its entries need it.
-- An owner's call takes the queue out if it fits and replaces the cell. All others add none
abbrev pub AddsLines : Kind → Input → List Entry → List Entry → List QueueLine → List QueueLine → Type 0
AddsLines kind (Go t a granted) before entries log lines =
    IsAtMostOne lines × (need_queue kind entries before ≡ true → has_entered lines ≡ true)
AddsLines kind (Owns o) before entries log lines =
    lines ≡ owned_lines (fits_owner kind o before) (replaces o) (standing_queue log)
AddsLines kind _ before entries log lines = lines ≡ []

-- each part has the lines that its input adds
abbrev pub AreLogged : Kind → List Part → Type 0
AreLogged kind [] = Unit {0}
AreLogged kind (p ∷ before) =
    AddsLines kind p.input (entries_of before) p.entries (lines_of before) p.lines × AreLogged kind before

-- a queue stands at the door while a task waits
abbrev pub WaitingStands : Kind → List Part → Type 0
WaitingStands kind parts =
    (t : ℕ) → status kind t (entries_of parts) ≡ Waiting
    → (q : ℕ) × (standing_queue (lines_of parts) ≡ Some q)

-- none stands there if the cell is set, no poll or drop is under way and no task waits
abbrev pub NoneKept : Kind → List Part → Type 0
NoneKept kind parts =
    is_set (cell kind (entries_of parts)) ≡ true → ((t : ℕ) → is_under_way (status kind t (entries_of parts)) ≡ false)
    → ((t : ℕ) → status kind t (entries_of parts) ≢ Waiting) → standing_queue (lines_of parts) ≡ None

-- the log falls into the lines of these parts
pub record IsLogOf (kind : Kind) (log : List QueueLine) (parts : List Part) : Type 0 where
  pub lines_are : lines_of parts ≡ log  -- the log is all their lines
  pub logged : AreLogged kind parts  -- each part has the lines that its input adds
  pub waiting_stands : Always (WaitingStands kind) parts  -- a queue stood at the door whenever a task waited
  pub none_kept : Always (NoneKept kind) parts  -- a set cell kept none that no task used or waited for
