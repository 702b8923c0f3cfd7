-- What the side of a replayed task answers and leaves.
use Rattle.std.specs.Prelude.{◌≡◌, ℕ, if◌then◌else◌, List, Option, Some, None, reverse, ⊤}
use Rattle.once_machine.specs.declared.step.Out.{Out}
use Rattle.once_script.specs.declared.world.side.ReplaySide.{ReplaySide}
use Rattle.once_machine.specs.declared.step.Polled.{Polled}
use Rattle.once_machine.specs.declared.record.Ran.{Ran as Answer}
use Rattle.once_machine.specs.Cell.{rest_of}
use Rattle.once_machine.specs.Machine.{init_answer, put_value, polled_of, kept_after}

-- the answers of a lazy init that are left, the next one first
abbrev pub answers_in : ReplaySide → List (Option ℕ)
answers_in s = reverse s.answers.items

-- what the init answers now
abbrev pub next_of : ReplaySide → Answer
next_of s = init_answer s.lazy (answers_in s) s.answer

-- a poll of the init answers the next answer, and keeps it
pub record DidRun (s : ReplaySide) (r : Polled) (t : ReplaySide) : Type 0 where
  pub ran : t.ran ≡ Some (next_of s)  -- the side notes the answer
  pub polled : r ≡ polled_of (next_of s)  -- the poll answers so
  pub kept : t.kept ≡ kept_after (next_of s) s.kept  -- the side keeps a value or an error
  pub answers : answers_in t ≡ rest_of (answers_in s)  -- the first answer is taken off
  pub lazy : t.lazy ≡ s.lazy  -- nothing else changes
  pub value : t.value ≡ s.value
  pub handed : t.handed ≡ s.handed

-- a close changes nothing
abbrev pub DidClose : ReplaySide → ReplaySide → Type 0
DidClose s t = t ≡ s

-- a put sets the value that was kept
abbrev pub DidPut : ReplaySide → ReplaySide → Type 0
DidPut s t = t ≡ record s { value = put_value s.kept s.value }

-- a copy gives the waker if memory is granted
abbrev pub DidCopy : ReplaySide → Option ℕ → ReplaySide → Type 0
DidCopy s w t = (w ≡ (if s.granted then Some s.waker else None)) × (t ≡ s)

-- a wake notes which wakers were handed out
abbrev pub DidWake : ReplaySide → Out ℕ → ReplaySide → Type 0
DidWake s out t = t ≡ record s { handed = Some out }

-- nothing more is said of a side's calls
abbrev pub Stays : ReplaySide → ReplaySide → Type 0
Stays s t = ⊤
