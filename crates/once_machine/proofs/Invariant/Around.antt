-- What the other tasks tell of the count, the flags and the waiters.
use Rattle.std.proofs.Common.{◌≡◌, ◌≢◌, ◌≤◌, ◌<◌, ℕ, Bool, true, false, cond, ◌==◌, ◌⊎◌, inl, inr, ⊎_elim, List, Option, Some, None, sym, ap, ◌∙◌, subst, arith}
use Rattle.std.proofs.lemmas.Bool.Decides.{nat_tests}
use Rattle.std.proofs.lemmas.Grind.{common_steps}
use Rattle.std.proofs.lemmas.Bool.{false≢true, ne_eqb, or_right}
use Rattle.once_machine.specs.Record.{Entry, Kind, made_in}
use Rattle.once_machine.specs.Cell.{cell}
use Rattle.once_machine.specs.Tasks.{Holding, Status, Waiting, is_under_way, status}
use Rattle.once_machine.specs.Refusals.{crowd, is_about}
use Rattle.once_machine.specs.Machine.{AtPut, AtRun, Ending, SharedState, Place, Rest, Resting, Step, Task, World, step_of}
use Rattle.once_machine.proofs.Listing.Members.{eqb_self}
use Rattle.once_machine.proofs.History.Others.{Met, SomeoneWaits, holds, since_now, since_now_acts}
use Rattle.once_machine.proofs.History.Cells.{held_by, holder_of}
use Rattle.once_machine.proofs.Listing.Counting.{count_some, count_weaker}
use Rattle.once_machine.proofs.Invariant.Facts.{AtPlace, AtRest, AtStep, HoldsBy, IsSomeDoor, MayLeave, Owes, Releasing, is_counted, is_counted_at, is_inside, is_take}
use Rattle.once_machine.proofs.Invariant.Fits.{Fits, StandsFor}
use Rattle.once_machine.proofs.Invariant.Moves.{in_count, inside_counted}

-- what the step of t may know of the other tasks
pub record Around (K : Kind) (t : ℕ) (counted take : Bool) (c : SharedState) (h : List Entry) : Type 0 where
  pub none_waits : c.count ≡ 0 → (u : ℕ) → status K u h ≢ Waiting
  pub head_counts : c.head ≡ true → 0 < c.count
  pub acts : counted ≡ false → 0 < c.count → Met K t h ⊎ SomeoneWaits K h
  pub take_waits : take ≡ true → (u : ℕ) → status K u h ≢ Waiting
  pub door_waits : c.door ≡ None → (u : ℕ) → status K u h ≢ Waiting
  pub crowded : counted ≡ false → c.count ≤ crowd K t h
  pub own_count : counted ≡ true → 0 < c.count

-- a call that owes an ending is under way
owes_acts : (K : Kind) (u : ℕ) (h : List Entry) (e : Ending) → Owes K u h e → is_under_way (status K u h) ≡ true
owes_acts K u h e o = grind (arith, nat_tests, common_steps)

-- it holds no more
pub owes_holds : (K : Kind) (u : ℕ) (h : List Entry) (e : Ending) → Owes K u h e → holds u (cell K h) ≡ false
owes_holds K u h e o = grind (arith, nat_tests, common_steps)

-- a call that releases is under way
pub releasing_acts : (K : Kind) (u : ℕ) (c : SharedState) (h : List Entry) (e : Ending) → Releasing K u h c e → is_under_way (status K u h) ≡ true
releasing_acts K u c h e r = grind (arith, nat_tests, common_steps)

-- a call that leaves is under way
pub leaves_acts : (K : Kind) (u : ℕ) (h : List Entry) (e : Ending) → MayLeave K u h e → is_under_way (status K u h) ≡ true
leaves_acts K u h e o = grind (arith, nat_tests, common_steps)

-- a task that acts does not wait
pub no_wait : {s : Status} → is_under_way s ≡ true → s ≡ Waiting → ⊥
no_wait a w = false≢true (sym (ap is_under_way w) ∙ a)

-- what a counted task is: it waits, or it is in a call, or it holds
abbrev IsCounted : Kind → ℕ → List Entry → Type 0
IsCounted K u h = (status K u h ≡ Waiting) ⊎ ((is_under_way (status K u h) ≡ true) ⊎ ((status K u h ≡ Holding) × (holds u (cell K h) ≡ true)))

-- a holder that is counted as it polls the init is counted as it puts the value
head_put : (by : Option ℕ) → is_counted_at (AtRun by) ≡ true → is_counted_at (AtPut by) ≡ true
head_put by e = grind (arith, nat_tests, common_steps)

module _ (K : Kind) (limit u : ℕ) (c : SharedState) (h : List Entry) where
  -- a task whose call is under way is in a poll or a drop
  pub place_acts : (p : Place ℕ ℕ) → AtPlace K limit u c h p → is_under_way (status K u h) ≡ true
  place_acts p a = grind (arith, nat_tests, common_steps)

  -- a task at rest that waits is a waiter, with its queue at the door
  waiting_at : (r : Rest ℕ) → AtRest K limit u c h r
      → status K u h ≡ Waiting → (is_inside (Resting r) ≡ true) × IsSomeDoor c
  waiting_at r a s = grind (arith, nat_tests, common_steps)

  -- and no other task waits
  waiting_in : (x : Step ℕ ℕ) → AtStep K limit u c h x
      → status K u h ≡ Waiting → (is_inside x ≡ true) × IsSomeDoor c
  waiting_in x a s = grind (arith, nat_tests, common_steps, waiting_at, place_acts)

  -- what a counted task at rest is
  counted_at : (r : Rest ℕ) → AtRest K limit u c h r → is_counted (Resting r) ≡ true → IsCounted K u h
  counted_at r a s = grind (arith, nat_tests, common_steps)

  -- what a counted task is
  counted_in : (x : Step ℕ ℕ) → AtStep K limit u c h x → is_counted x ≡ true → IsCounted K u h
  counted_in x a s = grind (arith, nat_tests, common_steps, counted_at, place_acts)

  -- a holder under the lock stands in the count
  head_by : (by : Option ℕ) → HoldsBy limit c by → c.head ≡ true → is_counted_at (AtRun by) ≡ true
  head_by by a k = grind (arith, nat_tests, common_steps)

  -- while the flag of the lock stands, the holder is in the count
  head_at : (p : Place ℕ ℕ) → AtPlace K limit u c h p
      → holds u (cell K h) ≡ true → c.head ≡ true → is_counted_at p ≡ true
  head_at p a s k = grind (arith, nat_tests, common_steps)

  -- the same at rest
  head_in : (x : Step ℕ ℕ) → AtStep K limit u c h x
      → holds u (cell K h) ≡ true → c.head ≡ true → is_counted x ≡ true
  head_in x a s k = grind (arith, nat_tests, common_steps, head_at)

  -- a task that waits is inside, and a queue stands at the door
  pub stands_waiting : (o : Option Task)
      → StandsFor K limit u c h o → status K u h ≡ Waiting → (is_inside (step_of o) ≡ true) × IsSomeDoor c
  stands_waiting None a s = grind (arith, a.0.status_is)
  stands_waiting (Some x) a s = waiting_in x.step a.step s

  -- what a counted task of the world is
  pub stands_counted : (o : Option Task)
      → StandsFor K limit u c h o → is_counted (step_of o) ≡ true → IsCounted K u h
  stands_counted None a s = absurd (false≢true s)
  stands_counted (Some x) a s = counted_in x.step a.step s

  -- the holder under the lock is in the count
  stands_head : (o : Option Task)
      → StandsFor K limit u c h o → holds u (cell K h) ≡ true → c.head ≡ true → is_counted (step_of o) ≡ true
  stands_head None a s k = absurd (false≢true (sym a.0.holds_is ∙ s))
  stands_head (Some x) a s k = head_in x.step a.step s k

-- a task that waits, acts or holds is about
about : (s : Status) → (s ≡ Waiting) ⊎ ((is_under_way s ≡ true) ⊎ (s ≡ Holding)) → is_about s ≡ true
about s e = grind (arith, common_steps)

-- no queue is not some queue
pub no_door : (c : SharedState) → c.door ≡ None → IsSomeDoor c → ⊥
no_door c n d = let e = d.1 in cc

-- t is not in the count
was_uncounted : (limit t : ℕ) (x : Task) (w : World) → w.tasks t ≡ Some x → is_counted x.step ≡ false → is_counted (step_of (w.tasks t)) ≡ false
was_uncounted limit t x w found n = ap (λ o. is_counted (step_of o)) found ∙ n

-- a counted task is not one that is not
differs : (t u : ℕ) (w : World) → is_counted (step_of (w.tasks t)) ≡ false → is_counted (step_of (w.tasks u)) ≡ true → t ≢ u
differs t u w n k e = false≢true (sym n ∙ subst (λ v. is_counted (step_of (w.tasks v)) ≡ true) (sym e) k)

-- a counted task is another one, and acts or waits
acts_by : (K : Kind) (limit t : ℕ) (w : World) → Fits K limit w → is_counted (step_of (w.tasks t)) ≡ false
    → 0 < w.shared.count → Met K t w.history ⊎ SomeoneWaits K w.history
acts_by K limit t w f n l =
    let some = count_some (made_in w.history) (λ u. is_counted (step_of (w.tasks u))) (subst (λ k. 0 < k) f.count_is l) in
    let d = differs t some.0 w n some.1 in
    ⊎_elim (λ e. inr (some.0, e)) (λ a. inl (⊎_elim (λ k. since_now_acts K t some.0 w.history d k) (λ k. since_now K t some.0 w.history d (held_by some.0 (cell K w.history) k.1)) a))
    (stands_counted K limit some.0 w.shared w.history (w.tasks some.0) (f.tasks some.0) some.1)

-- a counted task is in the crowd of an uncounted one
in_crowd : (t u : ℕ) (s : Status) → t ≢ u → is_about s ≡ true → cond (u == t) false (is_about s) ≡ true
in_crowd t u s d a = rw (ne_eqb u t (λ e. d (sym e))) a

-- the count is at most the crowd of an uncounted task
crowd_by : (K : Kind) (limit t : ℕ) (w : World) → Fits K limit w → is_counted (step_of (w.tasks t)) ≡ false → w.shared.count ≤ crowd K t w.history
crowd_by K limit t w f n =
    rw f.count_is (count_weaker (made_in w.history) (λ u. is_counted (step_of (w.tasks u))) (λ u. cond (u == t) false (is_about (status K u w.history)))
    (λ u k. in_crowd t u (status K u w.history) (differs t u w n k)
    (about (status K u w.history) (⊎_elim (λ e. inl e) (λ a. inr (⊎_elim (λ k. inl k) (λ k. inr k.0) a)) (stands_counted K limit u w.shared w.history (w.tasks u) (f.tasks u) k)))))

-- all that a step may know of the others holds
pub around : (K : Kind) (limit t : ℕ) (x : Task) (w : World) → Fits K limit w → w.tasks t ≡ Some x
    → Around K t (is_counted x.step) (is_take x.step) w.shared w.history
around K limit t x w f found =
    let h : List Entry = w.history in
    let was : step_of (w.tasks t) ≡ x.step = ap step_of found in
    record {
      none_waits = λ z u s. let a = stands_waiting K limit u w.shared h (w.tasks u) (f.tasks u) s in
          let n = in_count K limit w u f (inside_counted (step_of (w.tasks u)) a.0) in let e : ⊥ = omega arith in e;
      head_counts = λ e. let k = holder_of (cell K h) (f.shared.held_is ∙ or_right w.shared.quick w.shared.head e) in
          in_count K limit w k.0 f (stands_head K limit k.0 w.shared h (w.tasks k.0) (f.tasks k.0) (ap (holds k.0) k.1 ∙ eqb_self k.0) e);
      acts = λ n l. acts_by K limit t w f (was_uncounted limit t x w found n) l;
      take_waits = λ k u s. let a = stands_waiting K limit u w.shared h (w.tasks u) (f.tasks u) s in f.alone t u (ap is_take was ∙ k) a.0;
      door_waits = λ n u s. let a = stands_waiting K limit u w.shared h (w.tasks u) (f.tasks u) s in no_door w.shared n a.1;
      crowded = λ n. crowd_by K limit t w f (was_uncounted limit t x w found n);
      own_count = λ e. in_count K limit w t f (ap (λ o. is_counted (step_of o)) found ∙ e);
    }
