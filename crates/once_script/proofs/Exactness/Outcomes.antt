-- What a step over a core and a side is to be: the machine's outcome.
use Rattle.std.proofs.Common.{◌≡◌, ◌≢◌, ℕ, Bool, false, List, [], ◌++◌, None, Some, reverse}
use Rattle.std.specs.Prelude.{not, ◌&&◌}
use Rattle.once_machine.specs.declared.log.QueueLine.{QueueLine}
use Rattle.once_script.specs.declared.world.side.ReplaySide.{ReplaySide}
use Rattle.once_script.specs.Core.{CoreState, DidCall}
use Rattle.once_machine.specs.Table.{Told}
use Rattle.once_machine.specs.declared.step.Progress.{Progress}
use Rattle.once_machine.specs.declared.step.Step.{Step}
use Rattle.once_machine.specs.Steps.{SideTells, is_adding, is_freeing, is_leaving, is_running}
use Rattle.once_machine.specs.Record.{Entry}
use Rattle.once_machine.specs.Machine.{SharedState, Outcome}
use Rattle.once_script.specs.Side.{DidClose, DidCopy, DidPut, DidRun, DidWake, answers_in}
use Rattle.once_script.specs.WorldShown.{claim_entries, freed_entries, handed_entries, progress_entries, ran_entries}

-- what a call of a core tells and leaves, if wakers are numbers
abbrev pub NumberCall : CoreState ℕ → Told ℕ ℕ → CoreState ℕ → Type 0
NumberCall = DidCall (λ a b. a ≡ b) (λ a b. a ≢ b)

-- what the calls of a side tell
abbrev pub side_tells : SideTells ReplaySide ℕ
side_tells = record { run = DidRun; close = DidClose; put = DidPut; copy = DidCopy; wake = DidWake }

-- what all tasks share, as the machine sees it
abbrev pub shared_by : CoreState ℕ → ReplaySide → SharedState
shared_by s c = record {
  count = s.word.count;
  quick = s.word.quick;
  ready = s.word.ready;
  door = s.door;
  head = s.head;
  listings = s.listings;
  queues = s.made;
  value = c.value;
  answers = answers_in c;
}

-- core and side, set up for a step: if no queue stands at the door, nobody holds by its flag and nobody is listed; both
-- have the task's waker, and both or neither are given memory; and the side has seen nothing
pub record IsSetUp (s : CoreState ℕ) (c : ReplaySide) : Type 0 where
  pub bare : s.door ≡ None → (s.head ≡ false) × (s.listings ≡ [])
  pub current : s.current ≡ Some c.waker
  pub granted : s.granted ≡ c.granted
  pub ran : c.ran ≡ None
  pub handed : c.handed ≡ None

-- a step from here to t gave the right back by the fast release
abbrev pub is_freed : Step ℕ ℕ → Step ℕ ℕ → Bool
is_freed from t = is_freeing from && not (is_adding t)

-- the entries of what was seen of a step from the place of the first step to t
abbrev pub seen_entries : Step ℕ ℕ → ℕ → ReplaySide → Progress → Step ℕ ℕ → List Entry
seen_entries from n c p t =
    progress_entries p n c.value c.kept ++ handed_entries (is_leaving from) c.handed n c.kept
    ++ freed_entries (is_freed from t) n c.kept ++ ran_entries c.ran n ++ claim_entries (is_running t) n

-- a step from here is the machine's outcome o, with these lines logged
pub record IsOutcome (from : Step ℕ ℕ) (o : ℕ → Outcome) (lines : List QueueLine) (s : CoreState ℕ) (c : ReplaySide)
    (s' : CoreState ℕ) (c' : ReplaySide) (p : Progress) (t : Step ℕ ℕ) : Type 0 where
  pub shared : (n : ℕ) → shared_by s' c' ≡ (o n).shared
  pub step : (n : ℕ) → t ≡ (o n).step
  pub kept : (n : ℕ) → c'.kept ≡ (o n).kept
  pub told : (n : ℕ) → seen_entries from n c' p t ≡ (o n).entries
  pub log : reverse s'.log ≡ lines ++ reverse s.log
  pub limit : s'.limit ≡ s.limit
  pub lazy_is : c'.lazy ≡ c.lazy
