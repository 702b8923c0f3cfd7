-- What is kept of the cell, of tasks and of wakers is right after one more entry.
use Rattle.std.proofs.Common.{◌≡◌, ◌≢◌, ◌≤◌, ◌+◌, ℕ, suc, Bool, true, false, cond, ◌==◌, List, ◌∷◌, Option, Some, None, refl, sym, ap, ◌∙◌, arith, ltb}
use Rattle.std.proofs.lemmas.Bool.{false≢true, ne_eqb}
use Rattle.std.proofs.lemmas.Bool.Decides.{nat_tests}
use Rattle.once_machine.specs.Numbers.{member, is_distinct, bit, how_many, times_in}
use Rattle.once_machine.specs.declared.record.Reply.TheVariants.{Pending}
use Rattle.once_machine.specs.Record.{Kind, Entry, Made, End, Look, Own, is_of, made_in, handed_by, is_replacing}
use Rattle.once_machine.specs.Cell.{Cell, Empty, Held, SetTo, cell, cell_after, answers_after}
use Rattle.once_machine.specs.Tasks.{Status, Unmade, Fresh, status, status_after, last_call, last_call_after, is_gone, is_under_way}
use Rattle.once_machine.specs.Wakers.{handed_since, is_end_of, opens, times_opened, times_handed, is_held_by_other}
use Rattle.once_machine.specs.Refusals.{is_about}
use Rattle.once_machine.proofs.Listing.Members.{eqb_self, member-append}
use Rattle.once_machine.proofs.Listing.Counting.{count_same}
use Rattle.once_judge.specs.Seen.{Seen, after, ends_poll, opens_in, count_after, counted, task_of, held_after, other_after}
use Rattle.once_judge.specs.SeenOf.{Basics, is_made, stands}
use Rattle.once_judge.proofs.Entries.{fits_before, is_live, live_stays, unmade_so, live_made, made_after, count_moved, its_task, of_its_task, of_none}
use Rattle.once_judge.proofs.Entries.{end_is, end_hands, stood_at, before_stays, stands_stays, moved_status, moved_stays, moved_ended, moved_begun}
use Rattle.once_judge.proofs.Either.{Fits}
use Rattle.once_judge.proofs.Lists.{times_once}

-- only a Made makes a task
abbrev is_making : Entry → Bool
is_making (Made t) = true
is_making _ = false

made_same : (e : Entry) (h : List Entry) → is_making e ≡ false → made_in (e ∷ h) ≡ made_in h
made_same (Made t) h n = absurd (false≢true (sym n))
made_same _ h n = refl

-- the task of another entry is live
live_before : (e : Entry) (s : Status) (t : ℕ) → is_making e ≡ false → task_of e ≡ Some t → fits_before e s ≡ true → is_live s ≡ true
live_before (Made u) s t n i f = absurd (false≢true (sym n))
live_before (Look r) s t n i f = grind arith
live_before (Own o g) s t n i f = grind arith
live_before _ s t n i f = f

module _ (kind : Kind) (limit : ℕ) (e : Entry) (h : List Entry) (S : Seen) (f : Fits kind e h) (k : Basics kind h S) where
  -- what its task is at after the entry
  status_is_after : (t : ℕ) → status_after e S.cell (S.task t).status ≡ status_after e (cell kind h) (status kind t h)
  status_is_after t = ap (λ c. status_after e c (S.task t).status) k.cell_is ∙ ap (status_after e (cell kind h)) (k.status_is t)

  status_by : (t : ℕ) (b : Bool) → is_of t e ≡ b → ((after limit e S).task t).status ≡ status kind t (e ∷ h)
  status_by t true is = rw is (moved_status e S.cell (suc S.now) (S.task t) ∙ status_is_after t)
  status_by t false is = rw is (k.status_is t)

  call_by : (t : ℕ) (b : Bool) → is_of t e ≡ b → is_gone (status kind t (e ∷ h)) ≡ false → ((after limit e S).task t).call ≡ last_call kind t (e ∷ h)
  call_by t true is g =
      let g' : is_gone (status_after e S.cell (S.task t).status) ≡ false = ap is_gone (status_is_after t) ∙ (rw is at g) in
      let n = before_stays t e (status kind t h) is (f.task t is) in
      rw is (ap (λ x. x.call) (moved_stays e S.cell (suc S.now) (S.task t) g')
      ∙ ap (λ c. last_call_after e c (S.task t).status (S.task t).call) k.cell_is
      ∙ ap (λ s. last_call_after e (cell kind h) s (S.task t).call) (k.status_is t)
      ∙ ap (last_call_after e (cell kind h) (status kind t h)) (k.call_is t n))
  call_by t false is g = rw is (k.call_is t (rw is at g))

  -- no moment is later than now
  ended_within : (t : ℕ) (b : Bool) → is_of t e ≡ b → ((after limit e S).task t).ended ≤ suc S.now
  ended_within t true is = rw is (moved_ended e S.cell (suc S.now) (S.task t) (let a = k.ended_by t in omega arith))
  ended_within t false is = rw is (let a = k.ended_by t in omega arith)

  begun_within : (t : ℕ) (b : Bool) → is_of t e ≡ b → ((after limit e S).task t).begun ≤ suc S.now
  begun_within t true is = rw is (moved_begun e S.cell (suc S.now) (S.task t) (let a = k.begun_by t in omega arith))
  begun_within t false is = rw is (let a = k.begun_by t in omega arith)

  -- when the last poll ended of a task that is not gone
  ended_by_end : (t : ℕ) (b : Bool) → is_of t e ≡ b → is_gone (status kind t (e ∷ h)) ≡ false
      → ((after limit e S).task t).ended ≡ cond (is_end_of t e) (suc S.now) (S.task t).ended
  ended_by_end t true is g =
      let g' : is_gone (status_after e S.cell (S.task t).status) ≡ false = ap is_gone (status_is_after t) ∙ (rw is at g) in
      let m : is_end_of t e ≡ ends_poll e = end_is t e ∙ ap (λ b. cond b (ends_poll e) false) is in
      rw (is, m) (ap (λ x. x.ended) (moved_stays e S.cell (suc S.now) (S.task t) g'))
  ended_by_end t false is g =
      let m : is_end_of t e ≡ false = end_is t e ∙ ap (λ b. cond b (ends_poll e) false) is in
      rw (is, m) refl

  ended_now : (t : ℕ) → stands (status kind t (e ∷ h)) (last_call kind t (e ∷ h)).began ≡ true
      → ((after limit e S).task t).ended ≡ cond (is_end_of t e) (suc S.now) (S.task t).ended
  ended_now t s = ended_by_end t (is_of t e) refl (stands_stays (status kind t (e ∷ h)) (last_call kind t (e ∷ h)).began s)

  handed_within_now : (w : ℕ) → (after limit e S).handed w ≤ suc S.now
  handed_within_now w = let a = k.handed_by w in grind arith

  held_within : (c : Cell) → held_after c (suc S.now) S.held_at ≤ suc S.now
  held_within Empty = let a = k.held_by in omega arith
  held_within (Held t) = omega arith
  held_within (SetTo v) = let a = k.held_by in omega arith

  other_within : (c : Cell) → other_after c S.holder S.held_at S.other_held_at ≤ suc S.now
  other_within Empty = let a = k.other_by in omega arith
  other_within (Held t) = let a = k.held_by in let b = k.other_by in grind arith
  other_within (SetTo v) = let a = k.other_by in omega arith

  -- the wakers that are open
  opens_now : (w : ℕ) (e' : Entry) → ((t : ℕ) → is_of t e' ≡ true → fits_before e' (status kind t h) ≡ true) → opens_in S w e' ≡ opens kind w e' h
  opens_now w (End t Pending) l' =
      let a = k.call_is t (live_stays (status kind t h) (l' t (eqb_self t))) in let b = k.cell_is in
      ap (λ x. cond (x == w) (is_held_by_other t S.cell) false) (ap (λ y. y.waker) a) ∙ ap (λ c. cond ((last_call kind t h).waker == w) (is_held_by_other t c) false) b
  opens_now w _ l' = refl

  -- it hands out none that is not open
  handed_open : (w : ℕ) (b : Bool) → member w (handed_by e) ≡ b → times_in w (handed_by e) ≤ S.times w
  handed_open w true is =
      let once = times_once w (handed_by e) f.once in let o = f.open_alone w is in let q = k.times_is w in let one = ap bit is in omega arith
  handed_open w false is = let once = times_once w (handed_by e) f.once in let none = ap bit is in omega arith

  times_by : (w : ℕ) (b : Bool) → is_replacing e ≡ b → times_opened kind w (e ∷ h) ≡ times_handed w (e ∷ h) + (after limit e S).times w
  times_by w true is = rw is (omega arith)
  times_by w false is =
      let within = handed_open w (member w (handed_by e)) refl in
      let o = ap bit (opens_now w e f.task) in let q = k.times_is w in
      rw is (omega arith)

  -- whose waker was handed out
  stood_before : (t : ℕ) (b : Bool) → is_of t e ≡ b → is_end_of t e ≡ false
      → stands (status kind t (e ∷ h)) (last_call kind t (e ∷ h)).began ≡ true
      → stands (status kind t h) (last_call kind t h).began ≡ true
  stood_before t true is n s =
      let ends : ends_poll e ≡ false = let m = end_is t e in grind arith in
      let s' : stands (status_after e (cell kind h) (status kind t h)) (last_call_after e (cell kind h) (status kind t h) (last_call kind t h)).began ≡ true = rw is at s in
      stood_at e (cell kind h) (status kind t h) (last_call kind t h) ends s'
  stood_before t false is n s = rw is at s

  stood_by : (t w : ℕ) (b : Bool) → is_end_of t e ≡ b
      → stands (status kind t (e ∷ h)) (last_call kind t (e ∷ h)).began ≡ true
      → member w (handed_since t (e ∷ h)) ≡ ltb ((after limit e S).task t).ended ((after limit e S).handed w)
  stood_by t w true is s =
      let none = end_hands t e is in let a = k.handed_by w in
      rw (ended_now t s, is, none) (grind (arith, nat_tests))
  stood_by t w false is s =
      let before = k.stood t w (stood_before t (is_of t e) refl is s) in let a = k.ended_by t in
      rw (ended_now t s, is, member-append, before) (grind (arith, nat_tests))

  -- which tasks were made, after an entry that makes none
  was_made : (t : ℕ) → is_making e ≡ false → is_of t e ≡ true → is_made (status kind t h) ≡ true
  was_made t n is = live_made (status kind t h) (live_before e (status kind t h) t n (its_task t e is) (f.task t is))

  made_by : (t : ℕ) (b : Bool) → is_of t e ≡ b → is_making e ≡ false → member t (made_in (e ∷ h)) ≡ is_made (status kind t (e ∷ h))
  made_by t true is n =
      let m = was_made t n is in
      rw (is, made_same e h n) (k.made_is t ∙ m ∙ sym (made_after e (cell kind h) (status kind t h) m))
  made_by t false is n = rw (is, made_same e h n) (k.made_is t)

  -- and how many pass a test
  count_by : (p : Status → Bool) (n : ℕ) (o : Option ℕ) → task_of e ≡ o → is_making e ≡ false
      → n ≡ how_many (λ u. p (status kind u h)) (made_in h)
      → count_after p e S o n ≡ how_many (λ u. p (status kind u (e ∷ h))) (made_in (e ∷ h))
  count_by p n None none makes is = rw (made_same e h makes) (is ∙ ap (λ (q : ℕ → Status). how_many (λ u. p (q u)) (made_in h)) (λ i u. sym (other u) i)) where
    other : (u : ℕ) → status kind u (e ∷ h) ≡ status kind u h
    other u = rw (of_none u e none) refl
  count_by p n (Some t) its makes is =
      let of : is_of t e ≡ true = of_its_task t t e its ∙ eqb_self t in
      sym (count_moved p kind t n e h S.cell (S.task t).status (made_same e h makes) k.distinct
      (k.made_is t ∙ was_made t makes of) (λ u. of_its_task t u e its) is k.cell_is (k.status_is t))

-- which tasks were made, after any entry
made_first : (K : Kind) (t u : ℕ) (h : List Entry) (S : Seen) → Basics K h S → (b : Bool) → (t == u) ≡ b
    → member u (made_in (Made t ∷ h)) ≡ is_made (status K u (Made t ∷ h))
made_first K t u h S k true is = rw is refl
made_first K t u h S k false is = rw is (k.made_is u)

made_now : (K : Kind) (limit : ℕ) (e : Entry) (h : List Entry) (S : Seen) → Fits K e h → Basics K h S
    → (u : ℕ) → member u (made_in (e ∷ h)) ≡ is_made (status K u (e ∷ h))
made_now K limit (Made t) h S f k u = made_first K t u h S k (t == u) refl
made_now K limit e h S f k u = made_by K limit e h S f k u (is_of u e) refl refl

unmade_out : (K : Kind) (limit t : ℕ) (h : List Entry) (S : Seen) → Fits K (Made t) h → Basics K h S → member t (made_in h) ≡ false
unmade_out K limit t h S f k = k.made_is t ∙ ap is_made (unmade_so (status K t h) (f.task t (eqb_self t)))

distinct_now : (K : Kind) (limit : ℕ) (e : Entry) (h : List Entry) (S : Seen) → Fits K e h → Basics K h S → is_distinct (made_in (e ∷ h)) ≡ true
distinct_now K limit (Made t) h S f k = rw (unmade_out K limit t h S f k) k.distinct
distinct_now K limit e h S f k = k.distinct

-- how many tasks pass a test that no unmade task passes
count_made : (p : Status → Bool) (n : ℕ) (K : Kind) (limit t : ℕ) (h : List Entry) (S : Seen) → Fits K (Made t) h → Basics K h S → p Unmade ≡ false
    → n ≡ how_many (λ u. p (status K u h)) (made_in h)
    → how_many (λ u. p (status K u (Made t ∷ h))) (made_in (Made t ∷ h)) ≡ counted n (p (S.task t).status) (p Fresh)
count_made p n K limit t h S f k pu is =
    let apart : (u : ℕ) → t ≢ u → p (status K u h) ≡ p (status K u (Made t ∷ h)) = λ u ne. rw (ne_eqb t u ne) refl in
    let rest = count_same t (made_in h) (λ u. p (status K u h)) (λ u. p (status K u (Made t ∷ h))) (unmade_out K limit t h S f k) apart in
    let before : p (S.task t).status ≡ false = ap p (k.status_is t) ∙ ap p (unmade_so (status K t h) (f.task t (eqb_self t))) ∙ pu in
    rw (rest, before, eqb_self t) (omega (arith, is))

count_now : (p : Status → Bool) (n : ℕ) (K : Kind) (limit : ℕ) (e : Entry) (h : List Entry) (S : Seen) → Fits K e h → Basics K h S → p Unmade ≡ false
    → n ≡ how_many (λ u. p (status K u h)) (made_in h)
    → count_after p e S (task_of e) n ≡ how_many (λ u. p (status K u (e ∷ h))) (made_in (e ∷ h))
count_now p n K limit (Made t) h S f k pu is = sym (count_made p n K limit t h S f k pu is)
count_now p n K limit e h S f k pu is = count_by K limit e h S f k p n (task_of e) refl refl is

-- all of it
pub basics_after : (K : Kind) (limit : ℕ) (e : Entry) (h : List Entry) (S : Seen) → Fits K e h → Basics K h S → Basics K (e ∷ h) (after limit e S)
basics_after K limit e h S f k = record {
  now_is = ap suc k.now_is;
  cell_is = ap (cell_after e) k.cell_is;
  answers_are = ap (answers_after e) k.answers_are;
  status_is = λ t. status_by K limit e h S f k t (is_of t e) refl;
  call_is = λ t. call_by K limit e h S f k t (is_of t e) refl;
  ended_by = λ t. ended_within K limit e h S f k t (is_of t e) refl;
  begun_by = λ t. begun_within K limit e h S f k t (is_of t e) refl;
  handed_by = handed_within_now K limit e h S f k;
  crowded_by = let a = k.crowded_by in grind arith;
  acting_by = let a = k.acting_by in grind arith;
  held_by = held_within K limit e h S f k (cell_after e S.cell);
  other_by = other_within K limit e h S f k (cell_after e S.cell);
  times_is = λ w. times_by K limit e h S f k w (is_replacing e) refl;
  stood = λ t w. stood_by K limit e h S f k t w (is_end_of t e) refl;
  made_is = made_now K limit e h S f k;
  distinct = distinct_now K limit e h S f k;
  about_is = count_now is_about S.about K limit e h S f k refl k.about_is;
  acting_is = count_now is_under_way S.acting K limit e h S f k refl k.acting_is;
}
