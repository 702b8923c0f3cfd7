-- A replay under way and a step of it, with their vectors, as the definitions see them.
use Rattle.std.specs.Prelude.{ℕ, Bool, true, false, List, [], ◌∷◌, ◌++◌, Option, Some, None, reverse}
use Rattle.std.specs.Option.{option_to_list}
use Rattle.std.specs.Ordering.{nat_cmp}
use Rattle.std.specs.BTreeMap.{get}
use Rattle.once_machine.specs.declared.step.Out.{Out}
use Rattle.once_machine.specs.declared.step.Out.TheVariants.{One, All}
use Rattle.once_machine.specs.Listings.{wakers_of}
use Rattle.once_machine.specs.Room.{listings_of}
use Rattle.once_machine.specs.declared.log.QueueLine.{QueueLine}
use Rattle.once_script.specs.declared.world.cell.ReplayCell.{ReplayCell}
use Rattle.once_script.specs.declared.world.cell.StepSeen.{StepSeen}
use Rattle.once_script.specs.declared.world.play.World.{World}
use Rattle.once_machine.specs.declared.record.Ran.{Ran as Answer}
use Rattle.once_machine.specs.Record.{Entry}
use Rattle.once_machine.specs.Record.{Ran}
use Rattle.once_machine.specs.Machine.{SharedState, World as MachineWorld, release_entry, pass_entries}
use Rattle.once_machine.specs.Shown.{history_in}
pub use Rattle.once_machine.specs.Machine.{claim_entries, freed_entries, progress_entries}

-- what all tasks share, as the machine sees it
abbrev pub shared_of : ReplayCell → SharedState
shared_of c = record {
  count = c.core.word.count;
  quick = c.core.word.quick;
  ready = c.core.word.ready;
  door = c.core.door;
  head = c.core.lists.head;
  listings = listings_of c.core.lists;
  queues = c.core.made;
  value = c.side.value;
  answers = reverse c.side.answers.items;
}

-- the queue log, the newest line first
abbrev pub log_in : ReplayCell → List QueueLine
log_in c = reverse c.core.log.items

-- the entries of what a step was seen to do, the newest first
abbrev pub ran_entries : Option Answer → ℕ → List Entry
ran_entries (Some a) t = Ran t a ∷ []
ran_entries None t = []

-- the wakers in what was handed out, in their order
abbrev pub wakers_in : Out ℕ → List ℕ
wakers_in (One w) = option_to_list w
wakers_in (All X) = wakers_of X.items

-- by a task that leaves, or by one that gives the right back
abbrev pub out_entries : Bool → List ℕ → ℕ → Answer → List Entry
out_entries true X t k = pass_entries t X
out_entries false X t k = release_entry k t X ∷ []

-- the entry of a step that handed somebody out
abbrev pub handed_entries : Bool → Option (Out ℕ) → ℕ → Answer → List Entry
handed_entries leaving (Some out) t k = out_entries leaving (wakers_in out) t k
handed_entries leaving None t k = []

-- the entries of a step of t that was seen to do this, if its init gave k and the value v is set
abbrev pub step_entries : ℕ → StepSeen → Answer → ℕ → List Entry
step_entries t s k v =
    progress_entries s.progress t v k ++ handed_entries s.leaving s.handed t k ++ freed_entries s.freed t k
    ++ ran_entries s.ran t ++ claim_entries s.claimed t

-- the world of a replay under way
abbrev pub world_in : World → MachineWorld
world_in w = record {
  shared = shared_of w.shared;
  tasks = λ t. get nat_cmp w.tasks t;
  unfinished = w.unfinished;
  history = history_in w.entries.items;
  log = log_in w.shared;
}

-- whether a replay under way is of a lazy cell
abbrev pub lazy_in : World → Bool
lazy_in w = w.shared.side.lazy

-- the limit of a replay under way
abbrev pub limit_in : World → ℕ
limit_in w = w.shared.core.limit
