-- The rule of a cell's book as pagebook asks for it: of the values of its words, its pages and its log.
use Rattle.std.specs.Prelude.{◌≡◌, ◌⊎◌, ◌-◌, ◌^◌, ℕ, suc, Bool, true, false}
use Rattle.std.specs.Prelude.{List, [], ◌∷◌, ◌++◌, map, Option, Some, reverse, slice_get}
use mathlib.Core.List.{IsPrefix}
use Rattle.pagebook.specs.Pages.{Held, View, rewritten}
use Rattle.once_machine.specs.declared.waiters.Listing.{Listing}
use Rattle.once_machine.specs.Record.{Entry, Once, is_of}
use Rattle.once_machine.specs.Tasks.{last_call}
use Rattle.once_machine.specs.Book.{At, Door, IsBook, Page, Queue, TaskState}
use Rattle.once_machine.specs.declared.step.Place.TheVariants.{Put as AtPut}
use Rattle.once_machine.specs.declared.step.Step.TheVariants.{UnderWay}

-- how many tasks may be counted in
abbrev pub most : ℕ
most = 2 ^ 62 - 2

-- an entry before others, or not
abbrev pub kept_if : Bool → Entry → List Entry → List Entry
kept_if true e es = e ∷ es
kept_if false e es = es

-- the entries of the task t, in their order
abbrev pub entries_of : ℕ → List Entry → List Entry
entries_of t [] = []
entries_of t (e ∷ es) = kept_if (is_of t e) e (entries_of t es)

-- the entries of the task whose page is this; the door and the queue have none
abbrev pub entries_on : ℕ → List Entry → List Entry
entries_on (suc (suc t)) log = entries_of t log
entries_on _ log = []

-- a page of the book as pagebook keeps it
pub record Sheet : Type 0 where
  pub page : Page  -- the page
  pub writing : Bool  -- whether its task began to write the slot
  pub entries : List Entry  -- the task's own entries, in their order

-- the page of one that does not write, with its entries
abbrev pub sheet : List Entry → Page → Sheet
sheet es p = record { page = p; writing = false; entries = es }

-- the page of a task that writes
abbrev pub writing_sheet : List Entry → TaskState → Sheet
writing_sheet es x = record { page = At x; writing = true; entries = es }

-- the cell's pages
abbrev pub pages_in : List Sheet → List Page
pages_in ss = map (λ (s : Sheet). s.page) ss

-- the state of the slot: 0 if it is not written, 2 if it is,
-- and 1 while the task that is about to put the value writes it
abbrev pub IsState : ℕ → Bool → List Sheet → Type 0
IsState k slot ss =
    ((k ≡ 0) × (slot ≡ false)) ⊎ ((k ≡ 2) × (slot ≡ true))
    ⊎ ((k ≡ 1) × (slot ≡ false) × (t : ℕ) × (x : TaskState) × (by : Option ℕ)
    × (es : List Entry) × (slice_get ss (suc (suc t)) ≡ Some (writing_sheet es x)) × (x.step ≡ UnderWay (AtPut by)))

-- what holds between any two steps
pub record IsKept (ns : List ℕ) (ss : List Sheet) (log : List Entry) : Type 0 where
  pub word : ℕ  -- the cell's word
  pub has_put : ℕ  -- whether a queue was ever put
  pub state : ℕ  -- the state of the slot
  pub slot : Bool  -- whether the slot is written
  pub words_are : ns ≡ word ∷ has_put ∷ state ∷ []  -- these three are the words of the book
  pub book : IsBook most word has_put slot (pages_in ss) log  -- it is the book of some world
  pub state_is : IsState state slot ss  -- the state says how far the slot is
  -- each page has the entries of its task
  pub entries_are : (k : ℕ) (s : Sheet) → slice_get ss k ≡ Some s → s.entries ≡ entries_on k log

-- a hand of tasks that do not write, if the log was seen so far: none of their entries comes after that
abbrev pub sheets : List Entry → Held Page → Held Sheet
sheets log [] = []
sheets log (e ∷ h) = (e.0, sheet (entries_on e.0 log) e.1) ∷ sheets log h

-- the hand of a task
abbrev pub hand : ℕ → TaskState → Held Page
hand t x = (suc (suc t), At x) ∷ []

-- the same with what lies under the lock:
-- how many queues were made, which one stands at the door, its flag and its listings
abbrev pub locked : ℕ → Option ℕ → Bool → List (Listing ℕ) → ℕ → TaskState → Held Page
locked made door head xs t x = (0, Door made door) ∷ (1, Queue head xs) ∷ hand t x

-- the log grew: after all that was seen before, and what others added, come these entries
abbrev pub Grew : List Entry → List Entry → List Entry → Type 0
Grew es old new = (before : List Entry) × IsPrefix old before × (new ≡ before ++ es)

-- the tasks whose pages are in the hand added these entries, and none besides
abbrev pub Adds : List Entry → Held Page → List Entry → List Entry → Type 0
Adds seen [] es log = Unit {0}
Adds seen (e ∷ h) es log = (entries_on e.0 log ≡ entries_on e.0 seen ++ entries_on e.0 es) × Adds seen h es log

-- what a step leaves of the view: the hand has these pages now, and the log grew by these entries
abbrev pub Leaves : List Entry → Held Page → List Page → List Entry → View Entry Sheet → Type 0
Leaves seen h pages es v = (v.1 ≡ sheets v.0 (rewritten pages h)) × Grew es seen v.0 × Adds seen h es v.0

-- the log says that t passed its turn on since its newest call began
abbrev pub has_passed : ℕ → List Entry → Bool
has_passed t log = (last_call Once t (reverse log)).passed

-- somebody is handed out
abbrev pub hands_out : List ℕ → Bool
hands_out [] = false
hands_out (t ∷ X) = true
