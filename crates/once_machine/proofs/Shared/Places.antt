-- The step at a place leaves one queue that is ever entered, values without a name, and the slot written once. `grind`
-- goes through the places.
use Rattle.std.proofs.Common.{◌≡◌, ℕ, Bool, true, false, ◌⊎◌, List, [], Option, Some, None, arith}
use Rattle.std.proofs.lemmas.Bool.Decides.{nat_tests}
use Rattle.std.proofs.lemmas.Grind.{common_steps}
use Rattle.once_machine.specs.Record.{Answer, Entry, Once}
use Rattle.once_machine.specs.Book.{IsUnnamed, has_written_at}
use Rattle.once_machine.specs.Machine.{AtStart, Ending, Outcome, Place, SharedState, leave_place, place_step}
use Rattle.once_machine.proofs.Invariant.Facts.{AtPlace}
use Rattle.once_machine.proofs.Invariant.Fits.{SharedFits}
use Rattle.once_machine.proofs.Shared.Queue.{EntersFirst, EntersFirstAt, OneQueue, left_none, without_none}
use Rattle.once_machine.proofs.Shared.Slot.{SlotKeeps, is_put_at}

-- what a step leaves, by whether it writes the slot, or its task did so before
pub record StepKeeps (writes wrote : Bool) (c : SharedState) (o : Outcome) : Type 0 where
  pub queue : OneQueue o.shared
  pub enters : EntersFirst o.step
  pub value : o.shared.value ≡ 0
  pub kept : IsUnnamed o.kept
  pub slot : SlotKeeps writes wrote o.step c o.shared

-- a task that leaves did not write the slot
pub leave_unwritten : (q : ℕ) (n : Option ℕ) (e : Ending) → has_written_at (leave_place q n e) ≡ false
leave_unwritten q n e = grind (arith, common_steps)

module _ (limit t w : ℕ) (k : Answer) (c : SharedState) (h : List Entry) (shared : SharedFits Once limit c h)
    (queue : OneQueue c) (unlisted : c.ready ≡ false → c.count ≡ 0 → c.listings ≡ []) (z : c.value ≡ 0) (m : IsUnnamed k) where
  module _ (a : Answer) (g : Bool) where
    -- the outcome at a place
    abbrev left : Place ℕ ℕ → Outcome
    left p = place_step false limit c t w k a g p

    -- one queue
    set_empty_at : (p : Place ℕ ℕ) → AtPlace Once limit t c h p → (left p).shared.ready ≡ true → (left p).shared.listings ≡ []
    set_empty_at AtStart at r = let empty = queue.set_empty in grind (arith, nat_tests, common_steps, empty)
    set_empty_at p at r = let empty = queue.set_empty in grind (arith, nat_tests, common_steps, empty, unlisted, without_none, left_none)

    bare_at : (p : Place ℕ ℕ) → AtPlace Once limit t c h p → (left p).shared.door ≡ None → (left p).shared.listings ≡ []
    bare_at AtStart at d = let bare = queue.bare in grind (arith, nat_tests, common_steps, bare)
    bare_at p at d = let bare = queue.bare in grind (arith, nat_tests, common_steps, bare, without_none, left_none)

    first_at : (p : Place ℕ ℕ) → AtPlace Once limit t c h p → (left p).shared.ready ≡ false
        → (((left p).shared.queues ≡ 0) × ((left p).shared.door ≡ None)) ⊎ (((left p).shared.queues ≡ 1) × ((left p).shared.door ≡ Some 1))
    first_at AtStart at r = let first = queue.first in grind (arith, nat_tests, common_steps, first)
    first_at p at r = let first = queue.first in grind (arith, nat_tests, common_steps, first)

    unput_at : (p : Place ℕ ℕ) → (left p).shared.queues ≡ 0 → (left p).shared.door ≡ None
    unput_at p n = let unput = queue.unput in grind (arith, nat_tests, common_steps, unput)

    -- it is the one that is entered
    enters_at : (p : Place ℕ ℕ) → AtPlace Once limit t c h p → EntersFirstAt p → EntersFirst (left p).step
    enters_at AtStart at i = grind (arith, nat_tests, common_steps)
    enters_at p at i = let first = queue.first in grind (arith, nat_tests, common_steps, first)

    -- no value has a name
    value_at : (p : Place ℕ ℕ) → (left p).shared.value ≡ 0
    value_at p = grind (arith, nat_tests, common_steps)

    kept_at : (p : Place ℕ ℕ) → IsUnnamed a → IsUnnamed (left p).kept
    kept_at p j = grind (arith, nat_tests, common_steps)

    -- the slot is written by a holder, before the value counts as set
    slot_at : (p : Place ℕ ℕ) → AtPlace Once limit t c h p → SlotKeeps (is_put_at p) (has_written_at p) (left p).step c (left p).shared
    slot_at p at = record {
      onward = λ e. grind (arith, nat_tests, common_steps);
      only = λ e. grind (arith, nat_tests, common_steps);
      ready_by = λ e. grind (arith, nat_tests, common_steps);
      up = λ e. grind (arith, nat_tests, common_steps);
    }

  -- what a step leaves
  pub place_keeps : (a : Answer) (g : Bool) (p : Place ℕ ℕ) → IsUnnamed a → AtPlace Once limit t c h p → EntersFirstAt p
      → StepKeeps (is_put_at p) (has_written_at p) c (place_step false limit c t w k a g p)
  place_keeps a g p j at i = record {
    queue = record {
      set_empty = set_empty_at a g p at;
      bare = bare_at a g p at;
      first = first_at a g p at;
      unput = unput_at a g p;
    };
    enters = enters_at a g p at i;
    value = value_at a g p;
    kept = kept_at a g p j;
    slot = slot_at a g p at;
  }
