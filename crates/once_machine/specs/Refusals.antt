-- What held at some moment since a poll began; and so when it may be refused: for want of memory, or because as many
-- tasks are counted in as may be.
use Rattle.std.specs.Prelude.{◌≡◌, ◌≢◌, ◌≤◌, ℕ, Bool, true, false, if◌then◌else◌, ◌==◌, ◌⊎◌, List, [], ◌∷◌}
use Rattle.once_machine.specs.Numbers.{how_many}
use Rattle.once_machine.specs.Record.{Kind, Entry, Begin, made_in}
use Rattle.once_machine.specs.Cell.{Held, is_set, cell}
use Rattle.once_machine.specs.Tasks.{Status, Fresh, Polling, Dropping, Waiting, Holding, status, is_under_way}
use Rattle.once_machine.specs.Tasks.{last_call}

-- the entry begins a poll of t
abbrev pub is_begin_of : ℕ → Entry → Bool
is_begin_of t (Begin u w) = u == t
is_begin_of t _ = false

-- the moments since the last Begin of t, the latest first: each is the history that there was then
abbrev pub moments_since : ℕ → List Entry → List (List Entry)
moments_since t [] = []
moments_since t (e ∷ before) = (e ∷ before) ∷ (if is_begin_of t e then [] else moments_since t before)

-- P holds at one of these moments
abbrev pub AtSome : (List Entry → Type 0) → List (List Entry) → Type 0
AtSome P [] = ⊥
AtSome P (moment ∷ moments) = P moment ⊎ AtSome P moments

-- P held at some moment since the last Begin of t
abbrev pub Since : ℕ → (List Entry → Type 0) → List Entry → Type 0
Since t P history = AtSome P (moments_since t history)

-- another task holds the right
abbrev pub OtherHolds : Kind → ℕ → List Entry → Type 0
OtherHolds kind t history = (u : ℕ) × (t ≢ u) × (cell kind history ≡ Held u)

-- another task holds the right, or is in a poll or a drop
abbrev pub OtherActs : Kind → ℕ → List Entry → Type 0
OtherActs kind t history =
    OtherHolds kind t history ⊎ ((u : ℕ) × (t ≢ u) × (is_under_way (status kind u history) ≡ true))

-- in a poll or a drop, waiting or holding
abbrev pub is_about : Status → Bool
is_about Polling = true
is_about Dropping = true
is_about Waiting = true
is_about Holding = true
is_about _ = false

-- the crowd of t: how many other tasks are about
abbrev pub crowd : Kind → ℕ → List Entry → ℕ
crowd kind t history = how_many (λ u. if u == t then false else is_about (status kind u history)) (made_in history)

-- the crowd of t has at least limit tasks
abbrev pub IsCrowded : Kind → ℕ → ℕ → List Entry → Type 0
IsCrowded kind limit t history = limit ≤ crowd kind t history

-- memory may be refused, by what t was at its Begin:
-- to a fresh task if the cell was not set then and another task acted since,
-- to a waiting one if another task held since
abbrev pub MemoryFrom : Kind → Status → ℕ → List Entry → Type 0
MemoryFrom kind Fresh t history = ((last_call kind t history).set_then ≡ false) × Since t (OtherActs kind t) history
MemoryFrom kind Waiting t history = Since t (OtherHolds kind t) history
MemoryFrom kind _ t history = ⊥

-- a poll that claimed is never refused memory
abbrev pub MayWantMemory : Kind → ℕ → List Entry → Type 0
MayWantMemory kind t history =
    ((last_call kind t history).claimed ≡ false) × MemoryFrom kind (last_call kind t history).began t history

-- the first poll of a task may find the place full if its crowd had limit tasks since, and the cell is not set
abbrev pub MayFindFull : Kind → ℕ → ℕ → List Entry → Type 0
MayFindFull kind limit t history =
    ((last_call kind t history).began ≡ Fresh) × ((last_call kind t history).claimed ≡ false)
    × Since t (IsCrowded kind limit t) history × (is_set (cell kind history) ≡ false)
