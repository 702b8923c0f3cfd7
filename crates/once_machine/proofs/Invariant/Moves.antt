-- What the step of one task owes, and that it then keeps all that holds.
use Rattle.std.proofs.Common.{◌≡◌, ◌≢◌, ◌<◌, ◌+◌, ℕ, Bool, true, false, ◌⊎◌, inl, inr, ⊎_elim, List, Option, Some, None, refl, sym, ap, ◌∙◌, subst, arith}
use Rattle.std.proofs.lemmas.Grind.{common_steps}
use Rattle.std.specs.Prelude.{not}
use Rattle.std.proofs.lemmas.Bool.{false≢true, cases_eq, cases_Bool, ne_eqb, false_from_ne_true}
use Rattle.once_machine.specs.Numbers.{bit, how_many, member}
use Rattle.once_machine.specs.Record.{Entry, Kind, made_in}
use Rattle.once_machine.specs.Cell.{cell, is_set}
use Rattle.once_machine.specs.Tasks.{last_call}
use Rattle.once_machine.specs.declared.waiters.Listing.{Listing}
use Rattle.once_machine.specs.Listings.{find_listing}
use Rattle.once_machine.specs.Run.{AtEvery, IsRun}
use Rattle.once_machine.specs.Called.{SomebodyCalled}
use Rattle.once_machine.specs.Machine.{SharedState, Step, Task, World, is_finished, put_task, unfinished_after, step_of}
use Rattle.once_machine.proofs.Listing.Members.{eqb_self}
use Rattle.once_machine.proofs.History.Others.{Keeps}
use Rattle.once_machine.proofs.History.Waiters.{QueueFits}
use Rattle.once_machine.proofs.Listing.Counting.{count_change, count_positive}
use Rattle.once_machine.proofs.Invariant.Facts.{AtStep, is_counted, is_inside, is_take, kept_of, ticket_of}
use Rattle.once_machine.proofs.Invariant.Fits.{Fits, SharedFits, StandsFor, is_alive}
use Rattle.once_machine.proofs.Invariant.Kept.{SharedKeeps, in_status_kept, step_kept}
use Rattle.once_machine.proofs.Invariant.Listed.{ListKept, was_unset}
use Rattle.once_machine.proofs.Invariant.Turns.{ListMoves, somebody_called, ticketed}

-- what a step of t from s owes: y is the task after it
pub record Moves (K : Kind) (limit t : ℕ) (s : Step ℕ ℕ) (y : Task) (c c' : SharedState) (h h' : List Entry) : Type 0 where
  pub run : IsRun K limit h'
  pub shared : SharedFits K limit c' h'
  pub queue : QueueFits K c'.listings h'
  pub own : AtStep K limit t c' h' y.step
  pub waker_is : (last_call K t h').waker ≡ y.waker
  pub kept_is : y.kept ≡ kept_of (last_call K t h').ran
  pub others : (u : ℕ) → t ≢ u → Keeps K u h h'
  pub keeps : (u : ℕ) → t ≢ u → (inside : Bool) → (is_take s ≡ true → inside ≡ false) → SharedKeeps K limit c c' u h inside
  pub count : c'.count + bit (is_counted s) ≡ c.count + bit (is_counted y.step)
  pub made : made_in h' ≡ made_in h
  pub takes : is_take y.step ≡ true → c'.count ≡ 0
  pub enters : is_inside y.step ≡ true → (is_inside s ≡ true) ⊎ (c.ready ≡ false)
  pub listings : ListMoves t (ticket_of s) (ticket_of y.step) c c' h'
  pub moments : AtEvery (SomebodyCalled K) h → SomebodyCalled K h' → AtEvery (SomebodyCalled K) h'

-- y is the task t now, and the others are as before
pub record Puts (t : ℕ) (y : Task) (old new : ℕ → Option Task) : Type 0 where
  pub there : new t ≡ Some y
  pub others : (u : ℕ) → t ≢ u → new u ≡ old u

-- a task is put
pub puts : (t : ℕ) (y : Task) (tasks : ℕ → Option Task) → Puts t y tasks (put_task t y tasks)
puts t y tasks = record {
  there = rw (eqb_self t) refl;
  others = λ u d. rw (ne_eqb t u d) refl;
}

-- a task of the world keeps what stands for it
pub stands_kept : {K : Kind} {limit u : ℕ} {c c' : SharedState} {h h' : List Entry} (o : Option Task)
    → c.ready ≡ is_set (cell K h) → Keeps K u h h' → SharedKeeps K limit c c' u h (is_inside (step_of o))
    → ListKept u (ticket_of (step_of o)) c c' h' → StandsFor K limit u c h o → StandsFor K limit u c' h' o
stands_kept None r k s l a = (in_status_kept _ false k a.0, rw k.call_is a.1, rw k.call_is a.2)
stands_kept (Some x) r k s l a = record { waker_is = rw k.call_is a.waker_is; kept_is = rw k.call_is a.kept_is; step = step_kept r k x.step s l a.step }

-- one that was not made is not counted
not_start : (o : Option Task) → o ≡ None → is_counted (step_of o) ≡ true → ⊥
not_start o e k = false≢true (sym (ap (λ v. is_counted (step_of v)) e) ∙ k)

-- a counted task was made
counted_made : (K : Kind) (limit : ℕ) (w : World) (u : ℕ) → Fits K limit w → is_counted (step_of (w.tasks u)) ≡ true → member u (made_in w.history) ≡ true
counted_made K limit w u f k = ⊎_elim (λ e. e) (λ e. absurd (not_start (w.tasks u) (f.made_all u e) k)) (cases_Bool (member u (made_in w.history)))

-- a counted task is in the count
pub in_count : (K : Kind) (limit : ℕ) (w : World) (u : ℕ) → Fits K limit w → is_counted (step_of (w.tasks u)) ≡ true → 0 < w.shared.count
in_count K limit w u f k = subst (λ n. 0 < n) (sym f.count_is) (count_positive u (made_in w.history) (λ n. is_counted (step_of (w.tasks n))) (counted_made K limit w u f k) k)

-- a task is not none
not_made : (t : ℕ) (x : Task) (tasks : ℕ → Option Task) → tasks t ≡ Some x → tasks t ≡ None → ⊥
not_made t x tasks a b = cc

-- the count follows the number of counted tasks
counted : (c c' n n' : ℕ) (b b' p q : Bool) → c ≡ n → c' + bit p ≡ c + bit q → n' + bit b ≡ n + bit b' → b ≡ p → b' ≡ q → c' ≡ n'
counted c c' n n' b b' p q e g k x y =
    let a = ap bit x in
    let d = ap bit y in
    omega arith

-- a waiter stands in the count
pub inside_counted : (s : Step ℕ ℕ) → is_inside s ≡ true → is_counted s ≡ true
inside_counted s e = grind (arith, common_steps)

-- a task that takes the queue out of the door does not wait
take_not_inside : (s : Step ℕ ℕ) → is_take s ≡ true → is_inside s ≡ true → ⊥
take_not_inside s a b = grind (arith, common_steps)

-- the value is set when a task takes the queue out of the door
take_ready : (K : Kind) (limit t : ℕ) (c : SharedState) (h : List Entry) (o : Option Task)
    → StandsFor K limit t c h o → is_take (step_of o) ≡ true → c.ready ≡ true
take_ready K limit t c h o a k = grind (arith, common_steps)

-- a task that is not finished is alive
alive_by : (x : Task) → is_finished x.step ≡ false → is_alive (Some x) ≡ true
alive_by x n = ap not n

-- the number of unfinished tasks follows
unfinished_by : (m n n' : ℕ) (s : Step ℕ ℕ) → m ≡ n → n' + 1 ≡ n + bit (not (is_finished s)) → unfinished_after s m ≡ n'
unfinished_by m n n' s e c = grind (arith, common_steps)

found_none : (n : ℕ) (o : Option ℕ) (xs : List (Listing ℕ)) → find_listing n xs ≡ None → find_listing n xs ≡ Some o → ⊥
found_none n o xs a b = cc

module _ {K : Kind} {limit t : ℕ} {x y : Task} {w : World} (w' : World) (f : Fits K limit w) (found : w.tasks t ≡ Some x) (p : Puts t y w.tasks w'.tasks)
    (g : Moves K limit t x.step y w.shared w'.shared w.history w'.history) where
  -- where t was
  was : step_of (w.tasks t) ≡ x.step
  was = ap step_of found

  -- and where it is
  is : step_of (w'.tasks t) ≡ y.step
  is = ap step_of p.there

  -- nobody takes the queue out of the door while somebody waits
  alone_by : w'.shared.count ≡ how_many (λ n. is_counted (step_of (w'.tasks n))) (made_in w.history)
      → (a b : ℕ) → (t ≡ a) ⊎ (t ≢ a) → (t ≡ b) ⊎ (t ≢ b) → is_take (step_of (w'.tasks a)) ≡ true → is_inside (step_of (w'.tasks b)) ≡ true → ⊥
  alone_by cnt a b (inl i) (inl j) k l =
      let k' : is_take y.step ≡ true = ap is_take (sym is) ∙ subst (λ v. is_take (step_of (w'.tasks v)) ≡ true) (sym i) k in
      let l' : is_inside y.step ≡ true = ap is_inside (sym is) ∙ subst (λ v. is_inside (step_of (w'.tasks v)) ≡ true) (sym j) l in
      take_not_inside y.step k' l'
  alone_by cnt a b (inl i) (inr j) k l =
      let k' : is_take y.step ≡ true = ap is_take (sym is) ∙ subst (λ v. is_take (step_of (w'.tasks v)) ≡ true) (sym i) k in
      let none : w'.shared.count ≡ 0 = g.takes k' in
      let l' : is_inside (step_of (w.tasks b)) ≡ true = ap (λ o. is_inside (step_of o)) (sym (p.others b j)) ∙ l in
      let some = count_positive b (made_in w.history) (λ n. is_counted (step_of (w'.tasks n)))
      (counted_made K limit w b f (inside_counted (step_of (w.tasks b)) l'))
      (inside_counted (step_of (w'.tasks b)) l) in
      omega arith
  alone_by cnt a b (inr i) (inl j) k l =
      let k' : is_take (step_of (w.tasks a)) ≡ true = ap (λ o. is_take (step_of o)) (sym (p.others a i)) ∙ k in
      let l' : is_inside y.step ≡ true = ap is_inside (sym is) ∙ subst (λ v. is_inside (step_of (w'.tasks v)) ≡ true) (sym j) l in
      ⊎_elim (λ e. f.alone a t k' (ap is_inside was ∙ e))
      (λ e. false≢true (sym e ∙ take_ready K limit a w.shared w.history (w.tasks a) (f.tasks a) k')) (g.enters l')
  alone_by cnt a b (inr i) (inr j) k l = f.alone a b (ap (λ o. is_take (step_of o)) (sym (p.others a i)) ∙ k) (ap (λ o. is_inside (step_of o)) (sym (p.others b j)) ∙ l)

  -- no other task has the ticket of t
  single_by : (b n : ℕ) → t ≢ b → ticket_of y.step ≡ Some n → ticket_of (step_of (w'.tasks b)) ≡ Some n → ⊥
  single_by b n d k l =
      let l' : ticket_of (step_of (w.tasks b)) ≡ Some n = ap (λ o. ticket_of (step_of o)) (sym (p.others b d)) ∙ l in
      let b' = ticketed f b l' in
      ⊎_elim (λ e. d (f.single t b n (ap ticket_of was ∙ e) l'))
      (λ e. ⊎_elim (λ q. found_none n (Some (last_call K b w.history).listed) w.shared.listings e.1 q) (λ q. found_none n None w.shared.listings e.1 q.0) (b'.listed e.0))
      (g.listings.fresh n k)

  -- no two tasks have the same ticket
  single_all : (a b n : ℕ) → (t ≡ a) ⊎ (t ≢ a) → (t ≡ b) ⊎ (t ≢ b) → ticket_of (step_of (w'.tasks a)) ≡ Some n
      → ticket_of (step_of (w'.tasks b)) ≡ Some n → a ≡ b
  single_all a b n (inl i) (inl j) k l = sym i ∙ j
  single_all a b n (inl i) (inr j) k l = absurd (single_by b n j (ap ticket_of (sym is) ∙ subst (λ v. ticket_of (step_of (w'.tasks v)) ≡ Some n) (sym i) k) l)
  single_all a b n (inr i) (inl j) k l = absurd (single_by a n i (ap ticket_of (sym is) ∙ subst (λ v. ticket_of (step_of (w'.tasks v)) ≡ Some n) (sym j) l) k)
  single_all a b n (inr i) (inr j) k l = f.single a b n (ap (λ o. ticket_of (step_of o)) (sym (p.others a i)) ∙ k) (ap (λ o. ticket_of (step_of o)) (sym (p.others b j)) ∙ l)

  -- each listing has its task
  has_owner : w'.shared.ready ≡ false → (n : ℕ) (o : Option ℕ) → find_listing n w'.shared.listings ≡ Some o
      → (u : ℕ) × (ticket_of (step_of (w'.tasks u)) ≡ Some n)
  has_owner r n o e =
      ⊎_elim (λ k. (t, ap ticket_of is ∙ k))
      (λ k. let v = f.owned (was_unset w.shared.ready w'.shared.ready g.listings.up r) n k.1.0 k.1.1 in
      let d : t ≢ v.0 = λ s. k.0 (ap ticket_of (sym was) ∙ subst (λ i. ticket_of (step_of (w.tasks i)) ≡ Some n) (sym s) v.1) in
      (v.0, ap (λ i. ticket_of (step_of i)) (p.others v.0 d) ∙ v.1))
      (g.listings.owner r n o e)

  -- one step of t keeps all that holds
  pub moved_fits : is_finished x.step ≡ false → w'.unfinished ≡ unfinished_after y.step w.unfinished → Fits K limit w'
  moved_fits live left =
      let P : ℕ → Type 0 = λ u. StandsFor K limit u w'.shared w'.history (w'.tasks u) in
      let same : P t = rw p.there (record { waker_is = g.waker_is; kept_is = g.kept_is; step = g.own }) in
      let ns : List ℕ = made_in w.history in
      let before : ℕ → Bool = λ n. is_counted (step_of (w.tasks n)) in
      let after : ℕ → Bool = λ n. is_counted (step_of (w'.tasks n)) in
      let lived : ℕ → Bool = λ n. is_alive (w.tasks n) in
      let lives : ℕ → Bool = λ n. is_alive (w'.tasks n) in
      let m : member t ns ≡ true = ⊎_elim (λ e. e) (λ e. absurd (not_made t x w.tasks found (f.made_all t e))) (cases_Bool (member t ns)) in
      let change = count_change t ns before after f.made_once m (λ u n. ap (λ o. is_counted (step_of o)) (sym (p.others u n))) in
      let cnt : w'.shared.count ≡ how_many after ns = counted w.shared.count w'.shared.count (how_many before ns)
      (how_many after ns) (before t) (after t) (is_counted x.step) (is_counted y.step) f.count_is g.count change
      (ap is_counted was) (ap is_counted is) in
      let changed = count_change t ns lived lives f.made_once m (λ u n. ap is_alive (sym (p.others u n))) in
      let one : bit (lived t) ≡ 1 = ap bit (ap is_alive found ∙ alive_by x live) in
      let more : bit (lives t) ≡ bit (not (is_finished y.step)) = ap (λ o. bit (is_alive o)) p.there in
      let some : w'.unfinished ≡ how_many lives ns = left ∙ unfinished_by w.unfinished (how_many lived ns) (how_many lives ns) y.step f.unfinished_is (omega arith) in
      let stands : (u : ℕ) → P u = λ u. ⊎_elim
      (λ e. subst P e same)
      (λ n. rw (p.others u n) (stands_kept (w.tasks u) f.shared.ready_is (g.others u n)
      (g.keeps u n (is_inside (step_of (w.tasks u))) (λ tk. false_from_ne_true (is_inside (step_of (w.tasks u))) (f.alone t u (ap is_take was ∙ tk))))
      (λ i o k r e. g.listings.lists u i o n (λ q. n (f.single t u i (ap ticket_of was ∙ q) k)) r e) (f.tasks u)))
      (cases_eq t u) in
      record {
        run = g.run;
        shared = g.shared;
        queue = g.queue;
        tasks = stands;
        count_is = rw g.made cnt;
        unfinished_is = rw g.made some;
        made_once = rw g.made f.made_once;
        made_all = λ u e. ⊎_elim (λ k. absurd (not_made t x w.tasks found
            (f.made_all t (ap (λ n. member n (made_in w.history)) k ∙ ap (member u) (sym g.made) ∙ e))))
            (λ n. p.others u n ∙ f.made_all u (ap (member u) (sym g.made) ∙ e)) (cases_eq t u);
        made_only = λ u e. ⊎_elim (λ k. absurd (not_made t y w'.tasks p.there (ap w'.tasks k ∙ e))) (λ n. rw g.made (f.made_only u (sym (p.others u n) ∙ e))) (cases_eq t u);
        alone = λ a b. alone_by cnt a b (cases_eq t a) (cases_eq t b);
        single = λ a b n. single_all a b n (cases_eq t a) (cases_eq t b);
        owned = has_owner;
        moments = g.moments f.moments (somebody_called K limit w'.shared w'.history w'.tasks g.shared.ready_is g.queue.called has_owner stands);
      }
