-- The log is a run of the cell, at every moment somebody was woken if somebody had to be, and what follows of these.
use Rattle.std.proofs.Common.{◌<◌, ℕ, Bool, List, reverse, subst}
use Rattle.once_machine.specs.Record.{Entry, Once}
use Rattle.once_machine.specs.Run.{AtEvery, IsRun}
use Rattle.once_machine.specs.Called.{SomebodyCalled, WaiterCalled}
use Rattle.once_machine.specs.Values.{IsOneValue}
use Rattle.once_machine.specs.Book.{IsBook, Page}
use Rattle.once_machine.proofs.Law.Called.{waiter_called}
use Rattle.once_machine.proofs.Law.Values.{one_value}
use Rattle.once_machine.proofs.Shared.Reached.{fits_of, unowned_of}
use Rattle.once_machine.proofs.Shared.Worlds.{ArePlain}

module _ (limit n put : ℕ) (slot : Bool) (pages : List Page) (log : List Entry) (some : 0 < limit) (book : IsBook limit n put slot pages log) where
  -- the log is a run
  pub log_is_run : IsRun Once limit (reverse log)
  log_is_run = subst (IsRun Once limit) book.1.log_is (fits_of limit some book.0 book.1.reached).run

  -- at each beginning of it some task was woken, if some task waits for an empty cell
  pub somebody_called : AtEvery (SomebodyCalled Once) (reverse log)
  somebody_called = subst (AtEvery (SomebodyCalled Once)) book.1.log_is (fits_of limit some book.0 book.1.reached).moments

  -- if besides no poll or drop is under way, some task that waits was woken
  pub some_waiter_called : AtEvery (WaiterCalled Once) (reverse log)
  some_waiter_called = waiter_called Once (reverse log) somebody_called

  -- polls that end with a value answer the one value that is set
  pub is_one_value : IsOneValue Once (reverse log)
  is_one_value = one_value Once limit (reverse log) log_is_run

  -- no owner's call is in it, and the waker of a task has its number
  pub log_is_plain : ArePlain (reverse log)
  log_is_plain = subst ArePlain book.1.log_is (unowned_of limit some book.0 book.1.reached).plain
