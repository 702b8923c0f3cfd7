-- The words of the contracts, from one place. A module that leads to a struct with ghost fields cannot stand here,
-- because the file of that struct imports this.
pub use Rattle.async_once_cell.specs.Inits.{GivesNoOther, MayGive, polled_in}
pub use Rattle.async_once_cell.specs.Inner.Acts.{Writes, Puts}
pub use Rattle.async_once_cell.specs.Inner.Desk.{desk_pages, first_desk, IsDesk, desked, IsDesked, desk_sheets}
pub use Rattle.async_once_cell.specs.Inner.Idle.{is_over, step_of}
pub use Rattle.async_once_cell.specs.Inner.Named.{HasRenewed, KeepsOwner}
pub use Rattle.async_once_cell.specs.Inner.Own.{IsWord, IsHand, number_in, Stayed, Turned, Own}
pub use Rattle.async_once_cell.specs.Inner.Page.{call_in, queue_of, Went}
pub use Rattle.async_once_cell.specs.Inner.Parts.{CanCall, DidCall, parts_can, parts_did}
pub use Rattle.async_once_cell.specs.Inner.Places.{numbered, CanRest, CanRefuse, task_begun, task_dropping}
pub use Rattle.async_once_cell.specs.Inner.Recalls.{rests_with_right}
pub use Rattle.async_once_cell.specs.Inner.Sections.{more_released, CanNote, IsLoading, Moment, Tells}
pub use Rattle.async_once_cell.specs.Inner.Sides.{GivesFit, IsReady, IsTold, Sided, HasPut}
pub use Rattle.async_once_cell.specs.Inner.Tasks.{TaskView, HasPolled}
pub use Rattle.async_once_cell.specs.Kept.{Sheet, sheet, IsKept, Grew, entries_of, most}
pub use Rattle.async_once_cell.specs.Record.{EndsSet, IsSet, PollsOnce, WasFilled, Looked}
pub use Rattle.async_once_cell.specs.Refused.{given_error}
pub use Rattle.async_once_cell.specs.Walks.{IsCall, Spans, StandsOn, end_of, handed, Stands, Walked}
pub use Rattle.futures.specs.Poll.{IfReady, OnPending}
pub use Rattle.futures.specs.Task.{IsArmed, Keeps}
pub use Rattle.once_machine.specs.Book.{Queue}
pub use Rattle.once_machine.specs.Called.{SomebodyCalled}
pub use Rattle.once_machine.specs.Claims.{Claims}
pub use Rattle.once_machine.specs.Listings.{kept_ticket}
pub use Rattle.once_machine.specs.Machine.{fresh_task, drop_entries}
pub use Rattle.once_machine.specs.Record.{Entry, Look, Made, Once, Begin, DropBegin, DropEnd}
pub use Rattle.once_machine.specs.Room.{HasSpace, claimant, listings_of}
pub use Rattle.once_machine.specs.Run.{AtEvery, IsRun}
pub use Rattle.once_machine.specs.Steps.{is_resting, step_of_drop, in_call, is_value, release_place}
pub use Rattle.once_machine.specs.Table.{DoorPut, Section, DoorGet, DoorTake, Got, PutQueue, Taken, Was, CountIn}
pub use Rattle.once_machine.specs.Table.{Refused, counted, Load, Loaded, Put, PutValue, left_of}
pub use Rattle.once_machine.specs.Tasks.{Holding, status}
pub use Rattle.once_machine.specs.Word.{flags_of, sees}
pub use Rattle.once_machine.specs.declared.step.Ending.{Ending}
pub use Rattle.once_machine.specs.declared.waiters.Answer.{Answer}
pub use Rattle.once_machine.specs.declared.waiters.Op.{Op}
pub use Rattle.pagebook.specs.Pages.{Book, of_book}
pub use Rattle.std.specs.Option.{is_some, MatchOption}
pub use mathlib.Core.List.{IsPrefix}
