-- What a judge keeps of a history, and what one more entry makes of it. A moment is told by the number of the entry
-- after which it comes: the first entry has the number 1, and 0 is the beginning.
use Rattle.std.specs.Prelude.{◌+◌, ◌-◌, ℕ, Bool, true, false, if◌then◌else◌, ◌==◌, nat_lt, suc}
use Rattle.std.specs.Prelude.{List, Option, Some, None}
use Rattle.once_machine.specs.Numbers.{member, bit, times_in}
use Rattle.once_machine.specs.declared.record.Reply.TheVariants.{Pending}
use Rattle.once_machine.specs.Record.{Kind, Entry, Made, Begin, Claim, Ran, Free, Fill, Pass, End}
use Rattle.once_machine.specs.Record.{DropBegin, DropEnd, Look, Own, is_of, handed_by, is_replacing}
use Rattle.once_machine.specs.Cell.{Cell, Held, cell_after, answers_after, first_cell, first_answers}
use Rattle.once_machine.specs.Tasks.{Status, Unmade, Gone, LastCall, status_after, last_call_after}
use Rattle.once_machine.specs.Tasks.{is_gone, is_under_way}
use Rattle.once_machine.specs.Wakers.{is_held_by_other}
use Rattle.once_machine.specs.Refusals.{is_about}

-- what is kept of a task
pub record TaskSeen : Type 0 where
  pub status : Status
  pub call : LastCall
  pub begun : ℕ  -- when its last poll began
  pub ended : ℕ  -- when its last poll ended

-- what is kept
pub record Seen : Type 0 where
  pub now : ℕ  -- how many entries there were
  pub cell : Cell
  pub answers : List (Option ℕ)  -- the answers that a lazy init has left
  pub task : ℕ → TaskSeen
  pub times : ℕ → ℕ  -- how often each waker may still be handed out
  pub handed : ℕ → ℕ  -- when it was handed out last
  pub about : ℕ  -- how many tasks are about
  pub acting : ℕ  -- how many are in a call
  pub crowded_at : ℕ  -- when more tasks than the limit were about last
  pub acting_at : ℕ  -- when two tasks were in a call last
  pub holder : ℕ  -- the task that held last
  pub held_at : ℕ  -- when that one held last
  pub other_held_at : ℕ  -- when another than that one held last

-- no call was made yet
abbrev pub first_call : LastCall
first_call = record {
  waker = 0;
  listed = 0;
  began = Unmade;
  set_then = false;
  claimed = false;
  freed = false;
  passed = false;
  ran = None;
}

-- a task that was not made
abbrev pub unmade_task : TaskSeen
unmade_task = record { status = Unmade; call = first_call; begun = 0; ended = 0 }

-- of a task that is gone nothing else is kept
abbrev pub gone_task : TaskSeen
gone_task = record unmade_task { status = Gone }

-- of a history without entries
abbrev pub nothing_seen : Kind → Seen
nothing_seen kind = record {
  now = 0;
  cell = first_cell kind;
  answers = first_answers kind;
  task = λ t. unmade_task;
  times = λ w. 0;
  handed = λ w. 0;
  about = 0;
  acting = 0;
  crowded_at = 0;
  acting_at = 0;
  holder = 0;
  held_at = 0;
  other_held_at = 0;
}

-- the task of an entry
abbrev pub task_of : Entry → Option ℕ
task_of (Made t) = Some t
task_of (Begin t w) = Some t
task_of (Claim t) = Some t
task_of (Ran t a) = Some t
task_of (Free t X) = Some t
task_of (Fill t v X) = Some t
task_of (Pass t X) = Some t
task_of (End t r) = Some t
task_of (DropBegin t) = Some t
task_of (DropEnd t) = Some t
task_of (Look found) = None
task_of (Own o g) = None

-- the entry begins a poll
abbrev pub begins_poll : Entry → Bool
begins_poll (Begin t w) = true
begins_poll _ = false

-- the entry ends one
abbrev pub ends_poll : Entry → Bool
ends_poll (End t r) = true
ends_poll _ = false

-- a task after an entry of it with the number n, if the cell was c and the task is not gone then
abbrev pub changed : Entry → Cell → ℕ → TaskSeen → TaskSeen
changed e c n x = record {
  status = status_after e c x.status;
  call = last_call_after e c x.status x.call;
  begun = if begins_poll e then n else x.begun;
  ended = if ends_poll e then n else x.ended;
}

-- what is kept of a task: nothing but its status, if it is gone
abbrev pub settled : TaskSeen → TaskSeen
settled x = if is_gone x.status then gone_task else x

-- what is kept of a task after such an entry
abbrev pub moved : Entry → Cell → ℕ → TaskSeen → TaskSeen
moved e c n x = settled (changed e c n x)

-- a count of tasks after one of them changed: whether it was counted, and whether it is now
abbrev pub counted : ℕ → Bool → Bool → ℕ
counted n was is = (n + bit is) - bit was

-- how many tasks pass the test after an entry of this task
abbrev pub count_after : (Status → Bool) → Entry → Seen → Option ℕ → ℕ → ℕ
count_after p e S None n = n
count_after p e S (Some t) n = counted n (p (S.task t).status) (p (status_after e S.cell (S.task t).status))

-- the entry ends a poll begun with w, Pending, while another task holds
abbrev pub opens_in : Seen → ℕ → Entry → Bool
opens_in S w (End t Pending) = if (S.task t).call.waker == w then is_held_by_other t S.cell else false
opens_in S w _ = false

-- the entry ends a poll of its task t Pending, while another task holds
abbrev pub opens_with : Entry → ℕ → Cell → Bool
opens_with (End u Pending) t c = is_held_by_other t c
opens_with _ t c = false

-- which task held last, if the cell is now c
abbrev pub holder_after : Cell → ℕ → ℕ
holder_after (Held t) holder = t
holder_after _ holder = holder

-- when that one held last, if it is n now
abbrev pub held_after : Cell → ℕ → ℕ → ℕ
held_after (Held t) n at = n
held_after _ n at = at

-- when another than that one held last
abbrev pub other_after : Cell → ℕ → ℕ → ℕ → ℕ
other_after (Held t) holder at other = if t == holder then other else at
other_after _ holder at other = other

-- what is kept after one more entry, if at most limit tasks may be counted in
abbrev pub after : ℕ → Entry → Seen → Seen
after limit e S = let about = count_after is_about e S (task_of e) S.about in
    let acting = count_after is_under_way e S (task_of e) S.acting in let now = suc S.now in
    let cell = cell_after e S.cell in record {
      now = now;
      cell = cell;
      answers = answers_after e S.answers;
      task = λ u. if is_of u e then moved e S.cell now (S.task u) else S.task u;
      times = λ w. if is_replacing e then 0 else (S.times w + bit (opens_in S w e)) - times_in w (handed_by e);
      handed = λ w. if member w (handed_by e) then now else S.handed w;
      about = about;
      acting = acting;
      crowded_at = if nat_lt limit about then now else S.crowded_at;
      acting_at = if nat_lt 1 acting then now else S.acting_at;
      holder = holder_after cell S.holder;
      held_at = held_after cell now S.held_at;
      other_held_at = other_after cell S.holder S.held_at S.other_held_at;
    }

-- when another task than t held last
abbrev pub other_held : ℕ → Seen → ℕ
other_held t S = if t == S.holder then S.other_held_at else S.held_at
