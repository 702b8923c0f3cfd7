-- Which tasks are due, wait or were woken, and whether all are gone, from a walk over those that live.
use Rattle.std.proofs.Common.{◌≡◌, ℕ, Bool, true, false, ◌⊎◌, inl, inr, ⊎_elim, Option, Some, None, refl, sym, ap, ◌∙◌, subst, ltb}
use Rattle.std.specs.Ordering.{nat_cmp}
use Rattle.std.specs.BTreeMap.{BTreeMap, get}
use Rattle.std.specs.BTreeSet.{BTreeSet, contains}
use Rattle.once_machine.specs.Tasks.{Status, Unmade, Gone, Waiting}
use Rattle.std.specs.List.{All}
use Rattle.std.specs.Cmp.{nat_cmp_total}
use Rattle.std.proofs.lemmas.Bool.{false≢true}
use Rattle.std.proofs.lemmas.List.Elements.{All-contains}
use Rattle.std.proofs.lemmas.Map.Lookups.{exact_unsigned}
use Rattle.std.proofs.lemmas.Map.Views.{btree_set_contains_iff}
use Rattle.once_judge.specs.declared.task.Task.{Task}
use Rattle.once_judge.specs.declared.seen.Seen.{Seen as GivenSeen}
use Rattle.once_judge.specs.Seen.{TaskSeen, Seen}
use Rattle.once_judge.specs.Legal.{IsDueFor, IsDueIn, IsCalledIn, AllGoneIn, HasWaited, WasCalled}
use Rattle.once_judge.specs.Shown.{seen_of, task_in, found}
use Rattle.once_judge.specs.Living.{Asks}

-- it was not made, or is gone
abbrev pub Over : Status → Type 0
Over s = (s ≡ Unmade) ⊎ (s ≡ Gone)

-- if the task asks, it is among these
abbrev pub AsksIn : BTreeMap ℕ Task → BTreeMap ℕ ℕ → BTreeSet ℕ → ℕ → Type 0
AsksIn tasks handed among t = Asks tasks handed t → contains nat_cmp among t ≡ true

-- if the task is due, its waker is among these
abbrev pub IsAmong : Seen → BTreeSet ℕ → ℕ → Type 0
IsAmong S wakers t = (w : ℕ) → IsDueFor t w S → contains nat_cmp wakers w ≡ true

waits_by : (a : Option Task) (b : Bool) → (found a b).status ≡ Waiting → (x : Task) × (a ≡ Some x) × (found a b ≡ task_in x)
waits_by (Some x) b e = (x, refl, refl)
waits_by None true e = absurd (let z : ⊥ = cc in z)
waits_by None false e = absurd (let z : ⊥ = cc in z)

-- a task that waits lives
pub waits_lives : (k : GivenSeen) (t : ℕ) → ((seen_of k).task t).status ≡ Waiting → (x : Task) × (get nat_cmp k.tasks.all t ≡ Some x) × ((seen_of k).task t ≡ task_in x)
waits_lives k t e = waits_by (get nat_cmp k.tasks.all t) (contains nat_cmp k.gone t) e

-- what holds of each number in the set holds of each task that waits
pub all_stand : (k : GivenSeen) (P : ℕ → Type 0) → All P k.tasks.waiting.keys → (t : ℕ) → ((seen_of k).task t).status ≡ Waiting → P t
all_stand k P all t w =
    let l = waits_lives k t w in
    let m = k.tasks.stand t l.0 l.1 (ap (λ z. z.status) (sym l.2) ∙ w) in
    All-contains P k.tasks.waiting.keys t all ((btree_set_contains_iff nat_cmp_total exact_unsigned k.tasks.waiting t).0 m)

-- whether a task is due, by what it is
pub due_at : (S : Seen) (t : ℕ) (x : Task) → task_in x ≡ S.task t → (task_in x).status ≡ Waiting → ltb x.ended (S.handed x.waker) ≡ false → IsDueFor t x.waker S
due_at S t x e s n = (ap (λ z. z.status) (sym e) ∙ s, ap (λ z. z.call.waker) (sym e), ap (λ z. ltb z.ended (S.handed x.waker)) (sym e) ∙ n)

pub waker_at : (S : Seen) (t w : ℕ) (x : Task) → task_in x ≡ S.task t → IsDueFor t w S → x.waker ≡ w
waker_at S t w x e d = ap (λ z. z.call.waker) e ∙ d.1

pub due_so : (S : Seen) (t w : ℕ) (x : Task) → task_in x ≡ S.task t → IsDueFor t w S → ((task_in x).status ≡ Waiting) × (ltb x.ended (S.handed x.waker) ≡ false)
due_so S t w x e d =
    (ap (λ z. z.status) e ∙ d.0, ap (λ z. ltb z.ended (S.handed z.call.waker)) e ∙ ap (λ v. ltb (S.task t).ended (S.handed v)) d.1 ∙ d.2)

-- what is among those that ask is among the wakers if it is due
pub among_all : (k : GivenSeen) (wakers : BTreeSet ℕ) → All (IsAmong (seen_of k) wakers) k.tasks.asking.keys
    → (w : ℕ) → IsDueIn w (seen_of k) → contains nat_cmp wakers w ≡ true
among_all k wakers all w d =
    let l = waits_lives k d.0 d.1.0 in
    let due = due_so (seen_of k) d.0 w l.0 (sym l.2) d.1 in
    let m = k.tasks.asked d.0 (l.0, l.1, due.0, due.1) in
    All-contains (IsAmong (seen_of k) wakers) k.tasks.asking.keys d.0 all ((btree_set_contains_iff nat_cmp_total exact_unsigned k.tasks.asking d.0).0 m) w d.1

lives_by : (a : Option Task) (b : Bool) → HasWaited (found a b) → (x : Task) × (a ≡ Some x) × (found a b ≡ task_in x)
lives_by (Some x) b e = (x, refl, refl)
lives_by None true e = absurd (⊎_elim (λ w. let z : ⊥ = cc in z) (λ w. false≢true w.0) e)
lives_by None false e = absurd (⊎_elim (λ w. let z : ⊥ = cc in z) (λ w. false≢true w.0) e)

-- a task that was woken lives
pub called_lives : (k : GivenSeen) (t : ℕ) → IsCalledIn t (seen_of k) → (x : Task) × (get nat_cmp k.tasks.all t ≡ Some x) × ((seen_of k).task t ≡ task_in x)
called_lives k t e = lives_by (get nat_cmp k.tasks.all t) (contains nat_cmp k.gone t) e.0

pub none_called : (k : GivenSeen) → ((t : ℕ) (x : Task) → get nat_cmp k.tasks.all t ≡ Some x → WasCalled (task_in x) (seen_of k) → ⊥)
    → (t : ℕ) × IsCalledIn t (seen_of k) → ⊥
none_called k all d =
    let l = called_lives k d.0 d.1 in
    all d.0 l.0 l.1 (let P : TaskSeen → Type 0 = λ x. WasCalled x (seen_of k) in subst P l.2 d.1)

pub called_at : (k : GivenSeen) (t : ℕ) (x : Task) → get nat_cmp k.tasks.all t ≡ Some x → WasCalled (task_in x) (seen_of k) → IsCalledIn t (seen_of k)
called_at k t x g w =
    let e : (seen_of k).task t ≡ task_in x = ap (λ o. found o (contains nat_cmp k.gone t)) g in
    let P : TaskSeen → Type 0 = λ y. WasCalled y (seen_of k) in subst P (sym e) w

-- a task that lives is not over
pub lives_not : (k : GivenSeen) (t : ℕ) (x : Task) → get nat_cmp k.tasks.all t ≡ Some x → (Over (task_in x).status → ⊥) → AllGoneIn (seen_of k) → ⊥
lives_not k t x g n a =
    let e : (seen_of k).task t ≡ task_in x = ap (λ o. found o (contains nat_cmp k.gone t)) g in
    n (subst (λ y. Over y.status) e (a t))

-- if all that live are over, all are
over_by : (a : Option Task) (b : Bool) → ((x : Task) → a ≡ Some x → Over (task_in x).status) → Over (found a b).status
over_by (Some x) b all = all x refl
over_by None true all = inr refl
over_by None false all = inl refl

pub none_lives : (k : GivenSeen) → ((t : ℕ) (x : Task) → get nat_cmp k.tasks.all t ≡ Some x → Over (task_in x).status) → AllGoneIn (seen_of k)
none_lives k all = λ t. over_by (get nat_cmp k.tasks.all t) (contains nat_cmp k.gone t) (λ x e. all t x e)
