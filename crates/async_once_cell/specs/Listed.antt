-- Whose a listed waker is, and which task it wakes.
use Rattle.std.specs.Prelude.{◌≡◌, ◌⊎◌, ℕ, true, List, [], ◌∷◌, IsSomeAnd}
use Rattle.futures.specs.declared.task.context.Context.{Context}
use Rattle.futures.specs.Task.{Wakes}
use Rattle.async_once_cell.specs.Waking.{polled_task}
use Rattle.async_once_cell.specs.declared.waker.ListedWaker.{ListedWaker}

-- the number on a tag that has one
abbrev pub number_on : List ℕ → ℕ
number_on [] = 0
number_on (n ∷ ns) = n

-- the number of the task that lists it
abbrev pub whose : ListedWaker → ℕ
whose s = number_on s.tag.numbers

-- its tag names the task that is polled here
abbrev pub NamesTask : ListedWaker → Context → Type 0
NamesTask s cx = s.polled.numbers ≡ polled_task cx

-- it wakes the task that is polled here; or no waker could be made, and the poll asked for another
abbrev pub WakesTask : ListedWaker → Context → Type 0
WakesTask s cx = (cx.lacks_waker ≡ true) ⊎ IsSomeAnd s.waker (λ waker. Wakes waker cx)
