-- What a history tells of one task: its status, and its last call, which is a poll or a drop.
use Rattle.std.specs.Prelude.{ℕ, Bool, true, false, if◌then◌else◌, ◌==◌, List, [], ◌∷◌, Option, Some, None}
use Rattle.once_machine.specs.Record.{Answer, Kind, Pending, is_of, made_in}
use Rattle.once_machine.specs.Record.{Entry, Made, Begin, Claim, Ran, Free, Pass, End, DropBegin, DropEnd}
use Rattle.once_machine.specs.Cell.{Cell, Held, is_set, cell}

-- what a task is at
pub data Status : Type 0 where
  Unmade : Status  -- it was not made
  Fresh : Status  -- it was made, and no call of it began
  Polling : Status  -- a poll is under way
  Dropping : Status  -- a drop is under way
  Waiting : Status  -- its last poll ended Pending while another task held
  Holding : Status  -- its last poll ended Pending while it held itself
  Gone : Status  -- a poll of it ended otherwise, or it was dropped

-- the status after a poll of t that ended Pending: the task that held decides
abbrev pub pending_status : ℕ → Cell → Status
pending_status t (Held u) = if u == t then Holding else Waiting
pending_status t _ = Gone

-- the status after an entry of the task, if the cell was c and the status s
abbrev pub status_after : Entry → Cell → Status → Status
status_after (Made t) c s = Fresh
status_after (Begin t w) c s = Polling
status_after (End t Pending) c s = pending_status t c
status_after (End t _) c s = Gone
status_after (DropBegin t) c s = Dropping
status_after (DropEnd t) c s = Gone
status_after _ c s = s

-- the status of t after these entries
abbrev pub status : Kind → ℕ → List Entry → Status
status kind t [] = Unmade
status kind t (e ∷ before) =
    if is_of t e then status_after e (cell kind before) (status kind t before) else status kind t before

-- a call is under way: a poll or a drop
abbrev pub is_under_way : Status → Bool
is_under_way Polling = true
is_under_way Dropping = true
is_under_way _ = false

-- the task is gone
abbrev pub is_gone : Status → Bool
is_gone Gone = true
is_gone _ = false

-- each of these tasks is gone
abbrev pub are_gone : Kind → List ℕ → List Entry → Bool
are_gone kind [] history = true
are_gone kind (t ∷ ts) history = if is_gone (status kind t history) then are_gone kind ts history else false

-- every task that was made is gone
abbrev pub all_gone : Kind → List Entry → Bool
all_gone kind history = are_gone kind (made_in history) history

-- a task's last call: a poll or a drop
pub record LastCall : Type 0 where
  pub waker : ℕ  -- the waker of the task's last poll
  pub listed : ℕ  -- the waker of its last poll that ended Pending
  pub began : Status  -- what the task was as the call began
  pub set_then : Bool  -- whether the cell was set then
  pub claimed : Bool  -- whether the task claimed since then
  pub freed : Bool  -- whether it freed the cell since then
  pub passed : Bool  -- whether it passed its turn on since then
  pub ran : Option Answer  -- what the init answered since then, if it was polled

-- a call that begins with the waker w, if the cell was c, the status of the task s and its last call p
abbrev pub begins : ℕ → Cell → Status → LastCall → LastCall
begins w c s p = record {
  waker = w;
  listed = p.listed;
  began = s;
  set_then = is_set c;
  claimed = false;
  freed = false;
  passed = false;
  ran = None;
}

-- the last call after an entry of the task, if the cell was c, the status of the task s and its last call p
abbrev pub last_call_after : Entry → Cell → Status → LastCall → LastCall
last_call_after (Begin t w) c s p = begins w c s p
last_call_after (DropBegin t) c s p = begins p.waker c s p
last_call_after (Claim t) c s p = record p { claimed = true }
last_call_after (Free t X) c s p = record p { freed = true }
last_call_after (Pass t X) c s p = record p { passed = true }
last_call_after (Ran t a) c s p = record p { ran = Some a }
last_call_after (End t Pending) c s p = record p { listed = p.waker }
last_call_after _ c s p = p

-- the last call of t after these entries
abbrev pub last_call : Kind → ℕ → List Entry → LastCall
last_call kind t [] = record {
  waker = 0;
  listed = 0;
  began = Unmade;
  set_then = false;
  claimed = false;
  freed = false;
  passed = false;
  ran = None;
}
last_call kind t (e ∷ before) =
    if is_of t e
    then last_call_after e (cell kind before) (status kind t before) (last_call kind t before)
    else last_call kind t before
