-- What a contract sees of a task that shares a cell.
use Rattle.pagebook.specs.Slot.{Placed}
use Rattle.async_once_cell.specs.declared.inner.shared.Shared.{Shared}
use Rattle.async_once_cell.specs.Inner.Hands.{own_of}
use Rattle.async_once_cell.specs.Inner.Own.{Own}

-- its cell: the book, and the name of the slot
abbrev pub cell_of : {T W R V : Type 0} {g : _} {h : _} {i : _} → Shared T W R V g h i → Placed
cell_of s = s.inner.now.slot

-- what it knows of itself and of the record
abbrev pub own : {T W R V : Type 0} {g : _} {h : _} {i : _} → Shared T W R V g h i → Own
own s = own_of s.hand
