-- Which of the tasks that live wait, and which of these ask to be woken.
use Rattle.std.specs.Prelude.{◌≡◌, ℕ, true, false, nat_lt, unwrap_or, Some}
use Rattle.std.specs.Ordering.{nat_cmp}
use Rattle.std.specs.BTreeMap.{BTreeMap, get}
use Rattle.std.specs.BTreeSet.{BTreeSet, contains}
use Rattle.once_machine.specs.Tasks.{Waiting}
use Rattle.once_judge.specs.declared.task.Task.{Task}
use Rattle.once_judge.specs.TaskShown.{task_in}

-- the count of w, which is 0 if there is none
abbrev pub count_at : BTreeMap ℕ ℕ → ℕ → ℕ
count_at m w = unwrap_or (get nat_cmp m w) 0

-- each of the tasks that waits stands among these
abbrev pub StandAmong : BTreeMap ℕ Task → BTreeSet ℕ → Type 0
StandAmong tasks among =
    (t : ℕ) (x : Task) → get nat_cmp tasks t ≡ Some x → (task_in x).status ≡ Waiting → contains nat_cmp among t ≡ true

-- t waits, and its waker was not handed out since its last poll ended
abbrev pub Asks : BTreeMap ℕ Task → BTreeMap ℕ ℕ → ℕ → Type 0
Asks tasks handed t =
    (x : Task) × (get nat_cmp tasks t ≡ Some x) × ((task_in x).status ≡ Waiting)
    × (nat_lt x.ended (count_at handed x.waker) ≡ false)

-- each that asks stands among these
abbrev pub AskAmong : BTreeMap ℕ Task → BTreeMap ℕ ℕ → BTreeSet ℕ → Type 0
AskAmong tasks handed among = (t : ℕ) → Asks tasks handed t → contains nat_cmp among t ≡ true
