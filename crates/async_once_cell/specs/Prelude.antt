-- The words of the contracts, from one place. A module that leads to a struct with ghost fields cannot stand here,
-- because the file of that struct imports this.
pub use Rattle.async_once_cell.specs.Inits.{GivesNoOther, InitFits, TellsOwn, MayGive}
pub use Rattle.async_once_cell.specs.Inner.Sides.{HasCopied, HasWoken, sided_tells}
pub use Rattle.async_once_cell.specs.Kept.{Grew, entries_of, most}
pub use Rattle.async_once_cell.specs.Listed.{NamesTask, WakesTask, whose}
pub use Rattle.async_once_cell.specs.Polls.{IsValue, ending_by, is_over, value_of, ending_of_refusal, ending_of_error}
pub use Rattle.async_once_cell.specs.Polls.{IsMade, Answers, DidPoll, HasLeft, IfFailure, IfValue, IsValueAtOnce}
pub use Rattle.async_once_cell.specs.Polls.{Polls, PollsAs, SpansIn, Waits, AnswersOwn, AnswersFit, AnswersLate}
pub use Rattle.async_once_cell.specs.Polls.{SawEnd, IsHolderIn, TellsGave}
pub use Rattle.async_once_cell.specs.Record.{EndsSet, IsSet, gave_value, PollsOnce, WasFilled}
pub use Rattle.async_once_cell.specs.Refused.{own_error, message, message_of, kind_of, error_of}
pub use Rattle.async_once_cell.specs.Tokens.{Gives, IsSetIn, Learns, Lends, Looks, Agrees, LendsMut}
pub use Rattle.async_once_cell.specs.Views.{IsAnswered, AttemptView, gave_in, shown_in, value_in, Owned, about_of}
pub use Rattle.async_once_cell.specs.Views.{is_shared}
pub use Rattle.async_once_cell.specs.Views.{CellView, IsWritten, Settled, view_of, IsOf, known_of, log_of, FutureView}
pub use Rattle.async_once_cell.specs.Views.{Shows, ToldView, TokenView}
pub use Rattle.async_once_cell.specs.Walks.{IsOneCall, Spans, end_of}
pub use Rattle.futures.specs.Poll.{IfReady, OnPending}
pub use Rattle.futures.specs.Task.{IsArmed, Keeps, Covers}
pub use Rattle.once_machine.specs.Called.{SomebodyCalled}
pub use Rattle.once_machine.specs.Record.{Begin, DropBegin, DropEnd, Entry, Made, Once}
pub use Rattle.once_machine.specs.Run.{AtEvery, IsRun, NobodyForgotten}
pub use Rattle.once_machine.specs.declared.step.Ending.{Ending}
pub use Rattle.pagebook.specs.Pages.{of_numbers}
pub use Rattle.std.specs.Borrow.{Bor, LendsIf, sem}
pub use Rattle.std.specs.IoError.{error_kind}
pub use Rattle.std.specs.Option.{is_some, option_or}
pub use Rattle.std.specs.Result.{result_ok}
pub use mathlib.Core.List.{IsPrefix}
