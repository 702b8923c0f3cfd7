-- What follows from a look of a token: it only adds to the record, and one that finds nothing teaches nothing.
use Rattle.std.proofs.Common.{◌≡◌, Option, Some, None, Bool, List, [], Result, ◌∙◌, append-nil, subst, sym}
use Rattle.std.specs.Borrow.{Bor}
use mathlib.Core.List.{IsPrefix}
use Rattle.once_machine.specs.Record.{Entry}
use Rattle.async_once_cell.proofs.Desks.{prefix_on}
use Rattle.async_once_cell.specs.Polls.{Waits}
use Rattle.async_once_cell.specs.Views.{CellView, Owned, Shared}
use Rattle.async_once_cell.specs.Tokens.{Looks}

module _ {T : Type 0} where
  -- the record grows
  pub look_grows : (c : CellView T) (k : Option T) (found : Bool) (old new : List Entry) → Looks c k found old new → IsPrefix old new
  look_grows (Shared s) None found old new looked = prefix_on old looked.0 new looked.1 (_, sym looked.2)
  look_grows (Shared s) (Some x) found old new same = ([], append-nil old ∙ sym same)
  look_grows (Owned x) k found old new same = ([], append-nil old ∙ sym same)

  -- what grew after a look, grew since before it
  pub grows_on : (c : CellView T) (k : Option T) (found : Bool) (old seen new : List Entry) → Looks c k found old seen → IsPrefix seen new
      → IsPrefix old new
  grows_on c k found old seen new looked later = prefix_on old seen new (look_grows c k found old seen looked) later

  -- what a wait teaches after a look that found nothing, it teaches since before the look
  pub waits_on : {E X : Type 0} {old seen : Option T} (new : Option T) (r : Result (Result (Bor T) E) X) → (old ≡ None) × (seen ≡ None)
      → Waits seen new r → Waits old new r
  waits_on new r nothing waits = subst (λ (k : Option T). Waits k new r) (nothing.1 ∙ sym nothing.0) waits
