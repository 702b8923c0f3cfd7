-- That what is kept is what the history tells.
use Rattle.std.specs.Prelude.{◌≡◌, ◌≤◌, ◌+◌, ℕ, Bool, true, false, nat_lt, List, length}
use Rattle.std.specs.Bool.{Decides}
use Rattle.once_machine.specs.Numbers.{member, is_distinct, how_many}
use Rattle.once_machine.specs.Record.{Kind, Entry, made_in}
use Rattle.once_machine.specs.Cell.{cell, answers_left}
use Rattle.once_machine.specs.Tasks.{Status, Unmade, Polling, Dropping, Waiting, status, last_call}
use Rattle.once_machine.specs.Tasks.{is_gone, is_under_way}
use Rattle.once_machine.specs.Crowd.{is_waiting}
use Rattle.once_machine.specs.Wakers.{handed_since, times_opened, times_handed}
use Rattle.once_machine.specs.Refusals.{Since, OtherHolds, OtherActs, IsCrowded, is_about}
use Rattle.once_judge.specs.Seen.{Seen}
use Rattle.once_judge.specs.Legal.{held_since, acted_since, crowded_since}

-- the task was made
abbrev pub is_made : Status → Bool
is_made Unmade = false
is_made _ = true

-- it waits, or is in a call that it began while waiting
abbrev pub stands : Status → Status → Bool
stands Waiting began = true
stands Polling began = is_waiting began
stands Dropping began = is_waiting began
stands _ began = false

-- what stands of the cell, of each task and of each waker
pub record Basics (kind : Kind) (h : List Entry) (S : Seen) : Type 0 where
  pub now_is : S.now ≡ length h
  pub cell_is : S.cell ≡ cell kind h
  pub answers_are : S.answers ≡ answers_left kind h
  pub status_is : (t : ℕ) → (S.task t).status ≡ status kind t h
  pub call_is : (t : ℕ) → is_gone (status kind t h) ≡ false → (S.task t).call ≡ last_call kind t h
  -- no moment is later than now
  pub ended_by : (t : ℕ) → (S.task t).ended ≤ S.now
  pub begun_by : (t : ℕ) → (S.task t).begun ≤ S.now
  pub handed_by : (w : ℕ) → S.handed w ≤ S.now
  pub crowded_by : S.crowded_at ≤ S.now
  pub acting_by : S.acting_at ≤ S.now
  pub held_by : S.held_at ≤ S.now
  pub other_by : S.other_held_at ≤ S.now
  -- a waker may be handed out as often as polls opened it, less how often it was
  pub times_is : (w : ℕ) → times_opened kind w h ≡ times_handed w h + S.times w
  -- a waker was handed out since the last poll of a task that stands ended, if it was after that moment
  pub stood : (t w : ℕ) → stands (status kind t h) (last_call kind t h).began ≡ true
      → member w (handed_since t h) ≡ nat_lt (S.task t).ended (S.handed w)
  pub made_is : (t : ℕ) → member t (made_in h) ≡ is_made (status kind t h)
  pub distinct : is_distinct (made_in h) ≡ true
  pub about_is : S.about ≡ how_many (λ u. is_about (status kind u h)) (made_in h)
  pub acting_is : S.acting ≡ how_many (λ u. is_under_way (status kind u h)) (made_in h)

-- what happened since each poll began that is under way
pub record Sinces (kind : Kind) (limit : ℕ) (h : List Entry) (S : Seen) : Type 0 where
  pub held : (t : ℕ) → status kind t h ≡ Polling → Decides (held_since t S) (Since t (OtherHolds kind t) h)
  pub acted : (t : ℕ) → status kind t h ≡ Polling → Decides (acted_since t S) (Since t (OtherActs kind t) h)
  pub crowded : (t : ℕ) → status kind t h ≡ Polling → Decides (crowded_since t S) (Since t (IsCrowded kind limit t) h)

-- S is what is kept of h
pub record IsSeenOf (kind : Kind) (limit : ℕ) (h : List Entry) (S : Seen) : Type 0 where
  pub basics : Basics kind h S
  pub sinces : Sinces kind limit h S
