-- Every step of a task whose call is under way.
use Rattle.std.proofs.Common.{◌≡◌, ◌<◌, ℕ, Bool, true, List, ◌++◌, refl}
use Rattle.std.specs.Prelude.{◌||◌, nat_lt}
use Rattle.std.specs.Option.{is_some}
use Rattle.std.proofs.lemmas.Bool.{false≢true}
use Rattle.once_machine.specs.Record.{Answer, Entry, Kind, is_lazy}
use Rattle.once_machine.specs.Cell.{answers_left}
use Rattle.once_machine.specs.Listings.{is_waker, kept_ticket, own_listing}
use Rattle.once_machine.specs.Machine.{AtAddOne, AtCountIn, AtCountOut, AtDoorAgain, AtDoorGet, AtDoorPut, AtDoorTake, AtFast, AtLeave, AtList, AtLook}
use Rattle.once_machine.specs.Machine.{AtPut, AtRelease, AtRun, AtStart, AtTryQuick, AtWaitLoad, SharedState, Place, Step, UnderWay, out_shared}
use Rattle.once_machine.specs.Machine.{init_answer, in_call, is_at_door, place_step, step_at, word_of}
use Rattle.once_machine.proofs.Invariant.Facts.{AtPlace, AtStep, is_counted, is_counted_at, is_take, is_take_at, ticket_at, ticket_of}
use Rattle.once_machine.proofs.Invariant.Moves.{Moves}
use Rattle.once_machine.proofs.Invariant.Around.{Around}
use Rattle.once_machine.proofs.Invariant.AroundLists.{AroundList}
use Rattle.once_machine.proofs.Place.Builders.{Before, Goes}
use Rattle.once_machine.proofs.Place.Waits.{door_get_goes, door_put_goes, in_goes, quick_goes, start_goes}
use Rattle.once_machine.proofs.Place.Sections.{list_goes, load_goes, look_goes}
use Rattle.once_machine.proofs.Place.Holds.{add_goes, again_goes, next_given, put_goes, run_goes}
use Rattle.once_machine.proofs.Place.Releases.{fast_goes, out_goes, release_goes, take_goes}
use Rattle.once_machine.proofs.Place.Leaves.{leave_goes}
use Rattle.once_machine.specs.Word.{is_zero, is_quick_bit, is_ready_bit}

-- all that stands before the step
module _ {K : Kind} {limit t w : ℕ} {k : Answer} {c : SharedState} {h : List Entry} (before : Before K limit t w k c h) (a : Answer) (g : Bool)
    (some : 0 < limit) where
  -- one place after the other
  advances_at : (p : Place ℕ ℕ) → Around K t (is_counted_at p) (is_take_at p) c h → AroundList K t (ticket_at p) c h
      → AtPlace K limit t c h p → Goes K limit t w p c h (place_step (is_lazy K) limit c t w k a g p)
  advances_at AtStart ar al at = start_goes before c.ready (is_zero (word_of c)) refl refl ar at
  advances_at AtTryQuick ar al at = quick_goes before (is_zero (word_of c)) refl ar at
  advances_at AtDoorGet ar al at = door_get_goes before c.door refl ar at
  advances_at AtDoorPut ar al at = door_put_goes before g c.door refl ar al at
  advances_at (AtCountIn q) ar al at = in_goes before (nat_lt c.count limit) c.ready q refl refl some ar at
  advances_at (AtWaitLoad q n) ar al at = load_goes before c.ready q n refl at
  advances_at (AtLook q n) ar al at = look_goes before (is_at_door q c.door) c.ready (c.quick || c.head)
      (is_waker w (own_listing n c.listings)) g q n refl refl refl refl at
  advances_at (AtList q n v) ar al at = list_goes before (is_at_door q c.door) c.ready (c.quick || c.head)
      (is_some (kept_ticket n c.listings) || g) q n v refl refl refl at
  advances_at (AtRun by) ar al at = run_goes before (init_answer (is_lazy K) c.answers a) by (next_given K c.answers (answers_left K h) a before.shared.answers_is) at
  advances_at (AtPut by) ar al at = put_goes before by at
  advances_at (AtFast e) ar al at = fast_goes before (is_quick_bit (word_of c)) e refl ar at
  advances_at (AtAddOne e) ar al at = add_goes before e at
  advances_at (AtDoorAgain e) ar al at = again_goes before c.door e refl at
  advances_at (AtRelease q e) ar al at = release_goes before (is_at_door q c.door) q e refl al at
  advances_at (AtLeave q n e) ar al at = leave_goes before (is_at_door q c.door) q n e refl al at
  advances_at (AtCountOut e) ar al at = out_goes before (is_ready_bit (word_of (out_shared c))) e refl ar at
  advances_at (AtDoorTake e) ar al at = take_goes before e ar at

  -- a step keeps what a step owes
  pub advances : {s : Step ℕ ℕ} → in_call s ≡ true → Around K t (is_counted s) (is_take s) c h → AroundList K t (ticket_of s) c h → AtStep K limit t c h s
      → Moves K limit t s (record {
        waker = w;
        kept = (step_at (is_lazy K) limit c t w k a g s).kept;
        step = (step_at
            (is_lazy K) limit c t w k a g s).step;
      }) c (step_at (is_lazy K) limit c t w k a g s).shared h
      ((step_at (is_lazy K) limit c t w k a g s).entries ++ h)
  advances {s = UnderWay p} n ar al at = advances_at p ar al at
  advances {s = _} n ar al at = absurd (false≢true n)
