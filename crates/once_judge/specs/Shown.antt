-- What the program keeps, as the definitions see it; and what each part of `take` makes of it.
use Rattle.std.specs.Prelude.{◌≤◌, ◌-◌, ◌+◌, ℕ, if◌then◌else◌, ◌==◌, Bool, true, false, suc, drop, nat_lt}
use Rattle.std.specs.Prelude.{List, Option, Some, None}
use Rattle.std.specs.Ordering.{nat_cmp}
use Rattle.std.specs.BTreeMap.{BTreeMap, get}
use Rattle.std.specs.BTreeSet.{BTreeSet, contains}
use Rattle.once_machine.specs.Numbers.{member, bit, times_in}
use Rattle.once_machine.specs.Record.{Kind, Entry, is_lazy, is_replacing}
use Rattle.once_machine.specs.Cell.{cell_after, answers_after}
use Rattle.once_machine.specs.Tasks.{status_after, is_under_way}
use Rattle.once_machine.specs.Refusals.{is_about}
use Rattle.once_judge.specs.Seen.{TaskSeen, Seen, unmade_task, gone_task, moved, counted, opens_in}
use Rattle.once_judge.specs.Seen.{holder_after, held_after, other_after}
use Rattle.once_judge.specs.declared.task.Task.{Task}
pub use Rattle.once_judge.specs.Values.{cell_of}
pub use Rattle.once_judge.specs.TaskShown.{task_in}
pub use Rattle.once_judge.specs.Living.{count_at}
use Rattle.once_judge.specs.declared.calls.Calls.{Calls}
use Rattle.once_judge.specs.declared.seen.Seen.{Seen as GivenSeen}
use Rattle.once_judge.specs.declared.seen.Rules.{Rules}

-- a task that lives, is gone, or was not made
abbrev pub found : Option Task → Bool → TaskSeen
found (Some x) _ = task_in x
found None true = gone_task
found None false = unmade_task

-- the task t, from those that live and those that are gone
abbrev pub task_at : BTreeMap ℕ Task → BTreeSet ℕ → ℕ → TaskSeen
task_at tasks gone t = found (get nat_cmp tasks t) (contains nat_cmp gone t)

-- what is kept
abbrev pub seen_of : GivenSeen → Seen
seen_of k = record {
  now = k.entries;
  cell = cell_of k.cell;
  answers = drop k.used k.answers.items;
  task = task_at k.tasks.all k.gone;
  times = count_at k.times;
  handed = count_at k.tasks.handed;
  about = k.about;
  acting = k.acting;
  crowded_at = k.crowded_at;
  acting_at = k.acting_at;
  holder = k.holder;
  held_at = k.held_at;
  other_held_at = k.other_held_at;
}

-- the rules for a cell of this kind
abbrev pub rules_of : Calls → Kind → ℕ → Rules
rules_of calls kind limit = record { calls = calls; lazy = is_lazy kind; limit = limit }

-- no count, and no moment of a waker, is beyond the number of entries
pub record Within (S : Seen) : Type 0 where
  pub about : S.about ≤ S.now
  pub acting : S.acting ≤ S.now
  pub times : (w : ℕ) → S.times w ≤ S.now
  pub handed : (w : ℕ) → S.handed w ≤ S.now

-- what an entry changes of its task t
abbrev pub tasked : Entry → ℕ → Seen → Seen
tasked e t S = record S {
  task = λ u. if t == u then moved e S.cell (suc S.now) (S.task u) else S.task u;
  times = λ w. S.times w + bit (opens_in S w e);
  about = counted S.about (is_about (S.task t).status) (is_about (status_after e S.cell (S.task t).status));
  acting = counted S.acting (is_under_way (S.task t).status) (is_under_way (status_after e S.cell (S.task t).status));
}

-- the same, if it has a task
abbrev pub tasked_by : Option ℕ → Entry → Seen → Seen
tasked_by (Some t) e S = tasked e t S
tasked_by None e S = S

-- after the wakers that entry n hands out
abbrev pub handed_out : List ℕ → ℕ → Seen → Seen
handed_out X n S = record S {
  times = λ w. S.times w - times_in w X;
  handed = λ w. if member w X then n else S.handed w;
}

-- what an entry changes of the cell
abbrev pub celled : Entry → Seen → Seen
celled e S = record S {
  cell = cell_after e S.cell;
  answers = answers_after e S.answers;
  times = λ w. if is_replacing e then 0 else S.times w;
}

-- what is noted of the moment n
abbrev pub noted : ℕ → ℕ → Seen → Seen
noted limit n S = record S {
  now = n;
  crowded_at = if nat_lt limit S.about then n else S.crowded_at;
  acting_at = if nat_lt 1 S.acting then n else S.acting_at;
  holder = holder_after S.cell S.holder;
  held_at = held_after S.cell n S.held_at;
  other_held_at = other_after S.cell S.holder S.held_at S.other_held_at;
}
