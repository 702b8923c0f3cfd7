-- What a clause sees of a cell, of a token and of a future, and how they are made.
use Rattle.std.specs.Prelude.{◌≡◌, ℕ, ⊤, Bool, true, false, List, [], Option, Some, None, IfSome, IsSomeAnd}
use Rattle.std.specs.Option.{is_some}
use Rattle.pagebook.specs.Slot.{Placed}
use Rattle.pagebook.specs.declared.slot.Written.{Written}
use Rattle.once_machine.specs.Record.{Entry}
use Rattle.async_once_cell.specs.Record.{IsSet}
use Rattle.async_once_cell.specs.declared.once.Contents.{Contents}
use Rattle.async_once_cell.specs.declared.once.Contents.TheVariants.{Owned as OwnedValue, Shared as SharedValue}
use Rattle.async_once_cell.specs.declared.once.known.Seen.{Seen}
use Rattle.async_once_cell.specs.declared.attempt.Shown.{Shown}
use Rattle.async_once_cell.specs.declared.attempt.Shown.TheVariants.{Nothing, Own as ShownOwn, Other as ShownOther}
use Rattle.async_once_cell.specs.declared.once.known.Seen.TheVariants.{Owned as SeenOwned, Shared as SeenShared}

-- what a clause sees of a cell
pub data CellView (T : Type 0) : Type 0 where
  Owned : T → CellView T  -- the value that its owner put there
  Shared : Placed → CellView T  -- or else the slot into which tasks put one

-- what a clause sees of a token
pub record TokenView (T : Type 0) : Type 0 where
  pub cell : CellView T  -- its cell
  pub value : Option T  -- the value that it knows, if it knows one
  pub log : List Entry  -- the record as far as it was seen, the oldest entry first

-- what a clause sees of a future
pub record FutureView (T I : Type 0) : Type 0 where
  pub cell : CellView T  -- its cell
  pub init : Option I  -- its init, if it is there still
  pub task : ℕ  -- its task's number
  pub log : List Entry  -- the record as far as it was seen; a cell that has its owner's value has none
  pub finished : Bool  -- whether it is finished
  pub value : Option T  -- the value that it answered, if it answered one
  pub gave : Bool  -- whether it answered a value that its own init gave

-- what a clause sees of a task with its init
pub record AttemptView (T I : Type 0) : Type 0 where
  pub cell : Placed  -- its cell
  pub number : ℕ  -- its number
  pub log : List Entry  -- the record as far as it has seen it
  pub finished : Bool  -- whether it is finished
  pub init : Option I  -- its init, if it is there still
  pub value : Option T  -- the value that it answered, if it answered one
  pub gave : Bool  -- whether it answered a value that its own init gave

-- what a clause sees of what was told of a cell
pub record ToldView (T : Type 0) : Type 0 where
  pub cell : CellView T  -- the cell
  pub value : T  -- its value

-- the cell has this value: its owner put it there, or this shows that a task did
abbrev pub Shows : {T : Type 0} → CellView T → T → Option (Written T) → Type 0
Shows (Owned x) v w = v ≡ x
Shows (Shared s) v w = IsSomeAnd w (λ y. (y.of ≡ s.id) × (y.value ≡ v))

-- tasks share the cell, and no owner put a value there
abbrev pub is_shared : {T : Type 0} → CellView T → Bool
is_shared (Owned x) = false
is_shared (Shared s) = true

-- the numbers about which something is promised of the value that tasks put; of an owner's value nothing is
abbrev pub about_of : {T : Type 0} → CellView T → List ℕ
about_of (Owned x) = []
about_of (Shared s) = s.about

-- a cell, by where it keeps its value
abbrev pub view_of : {T V : Type 0} {g : _} → Contents T V g → CellView T
view_of (OwnedValue x) = Owned x
view_of (SharedValue inner) = Shared inner.slot

-- the value that was written, if this shows one
abbrev pub value_in : {T : Type 0} → Option (Written T) → Option T
value_in None = None
value_in (Some w) = Some w.value

-- what shows the value that a task answered
abbrev pub shown_in : {T : Type 0} → Shown T → Option (Written T)
shown_in Nothing = None
shown_in (ShownOwn _ w) = Some w
shown_in (ShownOther _ w) = Some w

-- whether it is the value that its own init gave
abbrev pub gave_in : {T : Type 0} → Shown T → Bool
gave_in Nothing = false
gave_in (ShownOwn _ w) = true
gave_in (ShownOther _ w) = false

-- if this shows a value, it is that of this cell. Its task is finished, and saw that the cell is set
abbrev pub IsAnswered : {T : Type 0} → Placed → Bool → List Entry → Option (Written T) → Type 0
IsAnswered s finished log w = IfSome w (λ y. (y.of ≡ s.id) × (finished ≡ true) × IsSet log)

-- what a token of a cell knows
abbrev pub known_of : {T : Type 0} → CellView T → Seen T → Option T
known_of (Owned x) (SeenOwned true) = Some x
known_of (Owned x) (SeenOwned false) = None
known_of (Owned x) (SeenShared r w) = None
known_of (Shared s) (SeenOwned b) = None
known_of (Shared s) (SeenShared r w) = value_in w

-- the record that a token has seen
abbrev pub log_of : {T : Type 0} → Seen T → List Entry
log_of (SeenOwned b) = []
log_of (SeenShared r w) = r.log

-- what a token saw is of its cell; if it knows a value, the cell of its record is set
abbrev pub IsOf : {T : Type 0} → CellView T → Seen T → Type 0
IsOf (Owned x) (SeenOwned b) = ⊤
IsOf (Owned x) (SeenShared r w) = ⊥
IsOf (Shared s) (SeenOwned b) = ⊥
IsOf (Shared s) (SeenShared r w) = (r.book ≡ s.book) × IfSome w (λ y. y.of ≡ s.id) × (is_some w ≡ true → IsSet r.log)

-- this shows the value that tasks put into the cell
abbrev pub IsWritten : {T : Type 0} → CellView T → Written T → Type 0
IsWritten (Owned x) w = ⊥
IsWritten (Shared s) w = w.of ≡ s.id

-- if the owner had put a value there, it is this one
abbrev pub OwnsStill : {T : Type 0} → CellView T → T → Type 0
OwnsStill (Owned x) y = y ≡ x
OwnsStill (Shared s) y = ⊤

-- a value of the owner stays, and a cell that tasks share still is the same
abbrev pub Settled : {T V : Type 0} {g : _} → Contents T V g → Contents T V g → Type 0
Settled old (OwnedValue x) = OwnsStill (view_of old) x
Settled old (SharedValue inner) = old ≡ SharedValue inner
