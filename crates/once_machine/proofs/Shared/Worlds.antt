-- Each input but an owner's call keeps what is known of a world in which no owner called.
use Rattle.std.proofs.Common.{◌≡◌, ℕ, Bool, true, false, cond, ◌==◌, inl, List, [], ◌∷◌, ◌++◌, Option, Some, None, refl, sym, subst, arith}
use Rattle.std.proofs.lemmas.Bool.Decides.{nat_tests}
use Rattle.std.proofs.lemmas.Grind.{common_steps}
use Rattle.std.proofs.lemmas.Bool.{false≢true}
use Rattle.once_machine.specs.declared.waiters.Listing.{Listing}
use Rattle.once_machine.specs.Listings.{find_listing}
use Rattle.once_machine.proofs.Listing.Members.{eqb_self}
use Rattle.once_machine.specs.Record.{Answer, Begin, Entry, Once, Own}
use Rattle.once_machine.specs.Inputs.{AreOfStep, IsOfStep, Drop, Go, Input, Looks, Make, Owns, Poll}
use Rattle.once_machine.specs.Book.{IsShared, IsUnnamed, has_written_at}
use Rattle.once_machine.specs.Machine.{Finished, Outcome, Place, Resting, Step, Task, UnderWay, World, advance, drop_entries, drop_world, drop_world_by}
use Rattle.once_machine.specs.Machine.{first_world, fresh_task, go_world, go_world_by, in_call, is_resting, make_world, poll_world, poll_world_by}
use Rattle.once_machine.specs.Machine.{put_task, step_at, step_of, step_of_drop, step_of_poll, world_after}
use Rattle.once_machine.proofs.Invariant.Facts.{AtPlace, AtStep, is_inside, ticket_of}
use Rattle.once_machine.proofs.Invariant.Fits.{Fits}
use Rattle.once_machine.proofs.Invariant.Moves.{in_count, inside_counted}
use Rattle.once_machine.proofs.Input.Headline.{task_fits}
use Rattle.once_machine.proofs.Shared.Adds.{step_part}
use Rattle.once_machine.proofs.Shared.Places.{StepKeeps, place_keeps}
use Rattle.once_machine.proofs.Shared.Queue.{EntersFirst, OneQueue}
use Rattle.once_machine.proofs.Shared.Slot.{is_put_at}

-- what is kept of the init of a task that was made has no name
abbrev pub IsUnnamedIn : Option Task → Type 0
IsUnnamedIn None = Unit {0}
IsUnnamedIn (Some x) = IsUnnamed x.kept

-- no owner's call is recorded, and the waker of a task has its number
abbrev pub IsPlain : Entry → Type 0
IsPlain (Own o g) = ⊥
IsPlain (Begin t k) = k ≡ t
IsPlain _ = Unit {0}

-- the same of each entry
abbrev pub ArePlain : List Entry → Type 0
ArePlain [] = Unit {0}
ArePlain (e ∷ h) = IsPlain e × ArePlain h

-- what is known of a world in which no owner called
pub record Unowned (w : World) : Type 0 where
  pub queue : OneQueue w.shared
  pub enters : (t : ℕ) → EntersFirst (step_of (w.tasks t))
  pub value : w.shared.value ≡ 0
  pub kept : (t : ℕ) → IsUnnamedIn (w.tasks t)
  pub plain : ArePlain w.history

-- a task that has a ticket is a waiter
ticket_inside : (s : Step ℕ ℕ) (n : ℕ) → ticket_of s ≡ Some n → is_inside s ≡ true
ticket_inside s n e = grind (arith, common_steps)

-- a list in which nothing is found is empty
nothing_found : (xs : List (Listing ℕ)) → ((n : ℕ) (o : Option ℕ) → find_listing n xs ≡ Some o → ⊥) → xs ≡ []
nothing_found [] f = refl
nothing_found (x ∷ xs) f = absurd (f x.ticket x.waker (rw (eqb_self x.ticket) refl))

-- nobody is listed if nobody is counted and the value is not set
unlisted : (limit : ℕ) (w : World) → Fits Once limit w → w.shared.ready ≡ false → w.shared.count ≡ 0 → w.shared.listings ≡ []
unlisted limit w f r z = nothing_found w.shared.listings (λ n o e.
    let u = f.owned r n o e in
    let l = in_count Once limit w u.0 f (inside_counted (step_of (w.tasks u.0)) (ticket_inside (step_of (w.tasks u.0)) n u.1)) in
    let no : ⊥ = omega arith in no)

-- no entry of a step is an owner's call, or begins a call
step_plain : (t : ℕ) (a : Answer) (e : Entry) → IsOfStep Once t a e → IsPlain e
step_plain t a e i = grind (arith, nat_tests, common_steps)

-- nor are those that a step adds
steps_plain : (t : ℕ) (a : Answer) (es h : List Entry) → AreOfStep Once t a es → ArePlain h → ArePlain (es ++ h)
steps_plain t a [] h i u = u
steps_plain t a (e ∷ []) h i u = (step_plain t a e i, u)
steps_plain t a (e ∷ f ∷ []) h i u = (step_plain t a e i.0, (step_plain t a f i.1, u))
steps_plain t a (e ∷ f ∷ g ∷ es) h i u = absurd i

-- nor those of a drop that begins
dropped_plain : (t : ℕ) (s : Step ℕ ℕ) (h : List Entry) → ArePlain h → ArePlain (drop_entries t s ++ h)
dropped_plain t Finished h u = (tt, (tt, u))
dropped_plain t _ h u = (tt, u)

-- a task is put among the others
enters_by : (b : Bool) (y : Task) (o : Option Task) → EntersFirst y.step → EntersFirst (step_of o) → EntersFirst (step_of (cond b (Some y) o))
enters_by true y o i j = i
enters_by false y o i j = j

-- with what it keeps
unnamed_by : (b : Bool) (y : Task) (o : Option Task) → IsUnnamed y.kept → IsUnnamedIn o → IsUnnamedIn (cond b (Some y) o)
unnamed_by true y o i j = i
unnamed_by false y o i j = j

-- a call that begins enters the first queue too
poll_enters : (s : Step ℕ ℕ) → EntersFirst s → EntersFirst (step_of_poll s)
poll_enters s i = grind (arith, common_steps)

-- and so does a drop
drop_enters : (s : Step ℕ ℕ) → EntersFirst s → EntersFirst (step_of_drop s)
drop_enters s i = grind (arith, common_steps)

module _ (t : ℕ) {w : World} (c : Unowned w) where
  -- what is known of one task: the queue that it enters
  pub enters_of : {x : Task} → w.tasks t ≡ Some x → EntersFirst x.step
  enters_of found = rw found at (c.enters t)

  -- and what it keeps
  unnamed_of : {x : Task} → w.tasks t ≡ Some x → IsUnnamed x.kept
  unnamed_of found = rw found at (c.kept t)

  -- t is y now
  put_unowned : (y : Task) (w' : World) → w'.tasks ≡ put_task t y w.tasks → OneQueue w'.shared → EntersFirst y.step → w'.shared.value ≡ 0
      → IsUnnamed y.kept → ArePlain w'.history → Unowned w'
  put_unowned y w' e q i z m u = record {
    queue = q;
    enters = λ v. subst (λ (f : ℕ → Option Task). EntersFirst (step_of (f v))) (sym e) (enters_by (t == v) y (w.tasks v) i (c.enters v));
    value = z;
    kept = λ v. subst (λ (f : ℕ → Option Task). IsUnnamedIn (f v)) (sym e) (unnamed_by (t == v) y (w.tasks v) m (c.kept v));
    plain = u;
  }

  -- only the step of t changes
  pub moved_unowned : (x : Task) (s : Step ℕ ℕ) → w.tasks t ≡ Some x → EntersFirst s → Unowned (record w { tasks = put_task t (record x { step = s }) w.tasks })
  moved_unowned x s found i = put_unowned (record x { step = s }) (record w { tasks = put_task t (record x { step = s }) w.tasks }) refl c.queue i c.value (unnamed_of found) c.plain

  -- a task is made
  made_unowned : (o : Option Task) → Unowned (make_world w t o)
  made_unowned (Some x) = c
  made_unowned None = put_unowned fresh_task (make_world w t None) refl c.queue tt c.value tt (tt, c.plain)

  -- a poll begins
  begun_unowned : (k : ℕ) (x : Task) → k ≡ t → w.tasks t ≡ Some x → (r : Bool) → Unowned (poll_world_by r w t k x)
  begun_unowned k x own found true = put_unowned (record x { waker = k; step = step_of_poll x.step }) (poll_world_by true w t k x) refl c.queue
      (poll_enters x.step (enters_of found)) c.value (unnamed_of found) (own, c.plain)
  begun_unowned k x own found false = c

  -- by whether there is such a task
  polled_unowned : (k : ℕ) → k ≡ t → (o : Option Task) → w.tasks t ≡ o → Unowned (poll_world w t k o)
  polled_unowned k own None is = c
  polled_unowned k own (Some x) is = begun_unowned k x own is (is_resting x.step)

  -- a drop begins
  drop_unowned : (x : Task) → w.tasks t ≡ Some x → (r : Bool) → Unowned (drop_world_by r w t x)
  drop_unowned x found true = put_unowned (record x { step = step_of_drop x.step }) (drop_world_by true w t x) refl c.queue
      (drop_enters x.step (enters_of found)) c.value (unnamed_of found) (dropped_plain t (step_of_drop x.step) w.history c.plain)
  drop_unowned x found false = c

  -- by whether there is such a task
  dropped_unowned : (o : Option Task) → w.tasks t ≡ o → Unowned (drop_world w t o)
  dropped_unowned None is = c
  dropped_unowned (Some x) is = drop_unowned x is (is_resting x.step)

module _ {limit : ℕ} {w : World} (t : ℕ) (a : Answer) (g : Bool) (j : IsUnnamed a) (f : Fits Once limit w) (c : Unowned w) where
  -- a step of t at its place keeps what the table of places says
  pub place_step_keeps : {x : Task} {p : Place ℕ ℕ} → w.tasks t ≡ Some x → x.step ≡ UnderWay p
      → StepKeeps (is_put_at p) (has_written_at p) w.shared (advance false limit w.shared t x a g)
  place_step_keeps {x = x} {p = p} found at =
      let stands : AtPlace Once limit t w.shared w.history p = subst (λ s. AtStep Once limit t w.shared w.history s) at (task_fits Once limit t w x f found).step in
      let enters = subst EntersFirst at (enters_of t c found) in
      let k = place_keeps limit t x.waker x.kept w.shared w.history f.shared c.queue (unlisted limit w f) c.value (unnamed_of t c found) a g p j stands enters in
      subst (λ s. StepKeeps (is_put_at p) (has_written_at p) w.shared (step_at false limit w.shared t x.waker x.kept a g s)) (sym at) k

  -- a step
  step_unowned : (x : Task) (s : Step ℕ ℕ) → w.tasks t ≡ Some x → x.step ≡ s → in_call s ≡ true → Unowned (go_world_by true false limit w t a g x)
  step_unowned x (UnderWay p) found at call =
      let o : Outcome = advance false limit w.shared t x a g in
      let s = place_step_keeps found at in
      put_unowned t c (record x { step = o.step; kept = o.kept }) (go_world_by true false limit w t a g x) refl s.queue s.enters s.value s.kept
      (steps_plain t a o.entries w.history (step_part Once w.shared t x.kept a limit x.waker g x.step) c.plain)
  step_unowned x (Resting r) found at call = absurd (false≢true call)
  step_unowned x Finished found at call = absurd (false≢true call)

  -- by whether a call of the task is under way
  goes_unowned : (x : Task) → w.tasks t ≡ Some x → (r : Bool) → in_call x.step ≡ r → Unowned (go_world_by r false limit w t a g x)
  goes_unowned x found false call = c
  goes_unowned x found true call = step_unowned x x.step found refl call

  -- by whether there is such a task
  gone_unowned : (o : Option Task) → w.tasks t ≡ o → Unowned (go_world false limit w t a g o)
  gone_unowned None is = c
  gone_unowned (Some x) is = goes_unowned x is (in_call x.step) refl

-- each input keeps it
pub after_unowned : (limit : ℕ) (w : World) (i : Input) → IsShared i → Fits Once limit w → Unowned w → Unowned (world_after Once limit w i)
after_unowned limit w (Make t) s f c = made_unowned t c (w.tasks t)
after_unowned limit w (Poll t k) s f c = polled_unowned t c k s (w.tasks t) refl
after_unowned limit w (Drop t) s f c = dropped_unowned t c (w.tasks t) refl
after_unowned limit w (Go t a g) s f c = gone_unowned t a g s f c (w.tasks t) refl
after_unowned limit w (Owns o) s f c = absurd s
after_unowned limit w Looks s f c = record { queue = c.queue; enters = c.enters; value = c.value; kept = c.kept; plain = (tt, c.plain) }

-- it holds at the start
pub opening_unowned : Unowned (first_world Once)
opening_unowned = record {
  queue = record { set_empty = λ _. refl; bare = λ _. refl; first = λ _. inl (refl, refl); unput = λ _. refl };
  enters = λ t. tt;
  value = refl;
  kept = λ t. tt;
  plain = tt;
}
