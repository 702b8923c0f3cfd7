-- The words of the contracts, from one place.
pub use Rattle.once_machine.specs.Cell.{Empty, Held, SetTo, cell, answers_left}
pub use Rattle.once_machine.specs.Claims.{Claims, spent_by}
pub use Rattle.once_machine.specs.Crowd.{AreWaiting}
pub use Rattle.once_machine.specs.Called.{CanGoOn, SomebodyCalled}
pub use Rattle.once_machine.specs.Fills.{times_filled, times_given}
pub use Rattle.once_machine.specs.Freed.{HasFreed}
pub use Rattle.once_machine.specs.Kept.{hole, is_kept, is_open}
pub use Rattle.once_machine.specs.Listings.{tickets, find_listing, take_out, first_waker, call_first, new_ticket}
pub use Rattle.once_machine.specs.Listings.{lent_listings, Listing, own_listing, list_without, kept_ticket, ticket_for}
pub use Rattle.once_machine.specs.Listings.{passes_turn, next_waker, left_list}
pub use Rattle.once_machine.specs.Marks.{is_marked}
pub use Rattle.once_machine.specs.Numbers.{is_distinct, member}
pub use Rattle.once_machine.specs.Ops.{HasWaker, ticket_in}
pub use Rattle.once_machine.specs.Record.{Answer, RanError, RanPending, Kind, Reply, Value, Error, Memory, Full}
pub use Rattle.once_machine.specs.Record.{Pending, Entry, Claim, Ran, Free, Pass, End, DropEnd, is_own}
pub use Rattle.once_machine.specs.Refusals.{Since, OtherActs, OtherHolds}
pub use Rattle.once_machine.specs.Run.{AtEvery, IsRun, NobodyForgotten}
pub use Rattle.once_machine.specs.Sections.{Renewed, AreApart, HandsAll, DidLook, DidList, Releases}
pub use Rattle.once_machine.specs.Steps.{is_value, SideTells, side_tells_nothing, release_place, leave_place}
pub use Rattle.once_machine.specs.Steps.{is_resting, in_call, step_of_poll, step_of_drop, Wakes, out_of}
pub use Rattle.once_machine.specs.Table.{Call, Load, Quick, Fast, CountIn, AddOne, CountOut, DoorGet, DoorPut, DoorTake}
pub use Rattle.once_machine.specs.Table.{Section, Refuse, Run, Put, counted, wants_copy, Told, Loaded, TriedQuick}
pub use Rattle.once_machine.specs.Table.{TriedFast, Added, CountedOut, Got, PutQueue, Taken, Was, Refused, PutValue}
pub use Rattle.once_machine.specs.Table.{left_at, left_of, Advances, Asks, AsksAt, Follows, Line, MayRefuse, after_copy}
pub use Rattle.once_machine.specs.Tasks.{Dropping, Holding, Gone, Waiting, status, is_under_way, last_call}
pub use Rattle.once_machine.specs.Wakers.{IsDue, IsOpen, times_opened, times_handed}
pub use Rattle.once_machine.specs.Word.{flags_of, sees, is_free, Flags, flags_alone, is_zero, is_ready_bit}
pub use Rattle.once_machine.specs.declared.step.Polled.{Polled}
pub use Rattle.std.specs.Option.{option_copied, option_map, MatchOption, option_flatten, is_some}
