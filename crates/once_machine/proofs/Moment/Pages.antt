-- The pages: what stands on them once one was set or added.
use Rattle.std.proofs.Common.{◌≡◌, ◌≢◌, ℕ, zero, suc, pred, Bool, ⊎_elim, List, [], ◌∷◌, ◌++◌, length, Option, Some, None, slice_get, slice_set, refl, sym, ap, ◌∙◌, subst, arith}
use Rattle.std.proofs.lemmas.Bool.{cases_eq, ne_eqb}
use Rattle.once_machine.specs.declared.waiters.Listing.{Listing}
use Rattle.once_machine.proofs.Listing.Members.{eqb_self}
use Rattle.once_machine.specs.Book.{At, Door, Page, Queue, task_page}
use Rattle.once_machine.specs.Machine.{Task, put_task}

-- a page that is set is there
pub set_here : {X : Type 0} (xs : List X) (k : ℕ) (x y : X) → slice_get xs k ≡ Some x → slice_get (slice_set xs k y) k ≡ Some y
set_here [] k x y e = let no : ⊥ = cc in absurd no
set_here (z ∷ xs) zero x y e = refl
set_here (z ∷ xs) (suc k) x y e = set_here xs k x y e

-- and the others are as before
pub set_other : {X : Type 0} (xs : List X) (k j : ℕ) (y : X) → k ≢ j → slice_get (slice_set xs k y) j ≡ slice_get xs j
set_other [] k j y n = refl
set_other (z ∷ xs) zero zero y n = absurd (n refl)
set_other (z ∷ xs) zero (suc j) y n = refl
set_other (z ∷ xs) (suc k) zero y n = refl
set_other (z ∷ xs) (suc k) (suc j) y n = set_other xs k j y (λ e. n (ap suc e))

-- a page that is added comes after the others
add_here : {X : Type 0} (xs : List X) (y : X) → slice_get (xs ++ y ∷ []) (length xs) ≡ Some y
add_here [] y = refl
add_here (x ∷ xs) y = add_here xs y

-- which are as before
pub add_other : {X : Type 0} (xs : List X) (j : ℕ) (y : X) → length xs ≢ j → slice_get (xs ++ y ∷ []) j ≡ slice_get xs j
add_other [] zero y n = absurd (n refl)
add_other [] (suc j) y n = refl
add_other (x ∷ xs) zero y n = refl
add_other (x ∷ xs) (suc j) y n = add_other xs j y (λ e. n (ap suc e))

-- past the end there is no page
pub past_end : {X : Type 0} (xs : List X) → slice_get xs (length xs) ≡ None
past_end [] = refl
past_end (x ∷ xs) = past_end xs

-- the door's page is not the queue's
pub zero_one : ◌≢◌ {A = ℕ} 0 1
zero_one e = let no : ⊥ = omega arith in no

-- nor is the door's one of a task
pub zero_task : (t : ℕ) → 0 ≢ suc (suc t)
zero_task t e = let no : ⊥ = omega arith in no

-- nor the queue's
pub one_task : (t : ℕ) → 1 ≢ suc (suc t)
one_task t e = let no : ⊥ = omega arith in no

-- the task of a page
pub task_of : (x : Task) (o : Option Task) → task_page o ≡ Some (At x) → o ≡ Some x
task_of x None e = let no : ⊥ = cc in absurd no
task_of x (Some y) e = cc

-- no page, no task
pub no_task : (o : Option Task) → task_page o ≡ None → o ≡ None
no_task None e = refl
no_task (Some x) e = let no : ⊥ = cc in absurd no

-- what a door's page says
pub door_of : (m n : ℕ) (d e : Option ℕ) → ◌≡◌ {A = Option Page} (Some (Door m d)) (Some (Door n e)) → (m ≡ n) × (d ≡ e)
door_of m n d e i = (cc, cc)

-- what a queue's page says
pub queue_of : (a b : Bool) (xs ys : List (Listing ℕ)) → ◌≡◌ {A = Option Page} (Some (Queue a xs)) (Some (Queue b ys)) → (a ≡ b) × (xs ≡ ys)
queue_of a b xs ys i = (cc, cc)

module _ (tasks : ℕ → Option Task) (pages : List Page) (t : ℕ) (y : Task) where
  -- the page of a task is set
  pub set_tasks : (x : Task) → tasks t ≡ Some x → ((u : ℕ) → slice_get pages (suc (suc u)) ≡ task_page (tasks u))
      → (u : ℕ) → slice_get (slice_set pages (suc (suc t)) (At y)) (suc (suc u)) ≡ task_page (put_task t y tasks u)
  set_tasks x found are u = ⊎_elim
      (λ e. subst (λ v. slice_get (slice_set pages (suc (suc t)) (At y)) (suc (suc v)) ≡ task_page (put_task t y tasks v)) e
      (rw (eqb_self t) (set_here pages (suc (suc t)) (At x) (At y) (are t ∙ ap task_page found))))
      (λ n. rw (ne_eqb t u n) (set_other pages (suc (suc t)) (suc (suc u)) (At y) (λ i. n (ap pred (ap pred i))) ∙ are u))
      (cases_eq t u)

  -- the page of a new task is added
  pub add_tasks : length pages ≡ suc (suc t) → ((u : ℕ) → slice_get pages (suc (suc u)) ≡ task_page (tasks u))
      → (u : ℕ) → slice_get (pages ++ At y ∷ []) (suc (suc u)) ≡ task_page (put_task t y tasks u)
  add_tasks l are u = ⊎_elim
      (λ e. subst (λ v. slice_get (pages ++ At y ∷ []) (suc (suc v)) ≡ task_page (put_task t y tasks v)) e
      (rw (eqb_self t) (subst (λ k. slice_get (pages ++ At y ∷ []) k ≡ Some (At y)) l (add_here pages (At y)))))
      (λ n. rw (ne_eqb t u n) (add_other pages (suc (suc u)) (At y) (λ i. n (ap pred (ap pred (sym l ∙ i)))) ∙ are u))
      (cases_eq t u)
