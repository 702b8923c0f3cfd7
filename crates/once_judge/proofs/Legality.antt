-- What is kept decides which entry may come next; and a reason that is true by it is true.
use Rattle.std.proofs.Common.{◌≡◌, ◌<◌, ℕ, true, false, ◌⊎◌, inl, inr, ⊎_elim, List, Option, Some, None, length, refl, sym, ap, ◌∙◌, subst, arith}
use Rattle.std.proofs.lemmas.Bool.{false≢true, cases_Bool}
use Rattle.once_machine.specs.Numbers.{member}
use Rattle.once_machine.specs.declared.record.Ran.{Ran as Answer}
use Rattle.once_machine.specs.declared.record.Ran.TheVariants.{Pending as RanPending, Value as RanValue}
use Rattle.once_machine.specs.declared.record.Ran.TheVariants.{Error as RanError}
use Rattle.once_machine.specs.declared.record.Reply.{Reply}
use Rattle.once_machine.specs.declared.record.Reply.TheVariants.{Pending, Value, Error, Memory, Full}
use Rattle.once_machine.specs.Record.{Kind, Once, OnceWith, Lazy, LazyWith, OwnerCall, is_lazy, has_call, made_in}
use Rattle.once_machine.specs.Record.{Entry, Made, Begin, Claim, Ran, Free, Fill, Pass, End, DropBegin, DropEnd, Look, Own}
use Rattle.once_machine.specs.Cell.{Cell, Empty, Held, SetTo, is_set, value_in, cell, answers_left, next_answer, got, IsNext}
use Rattle.once_machine.specs.Tasks.{Status, Unmade, Fresh, Polling, Dropping, Waiting, Gone, status, last_call, is_gone, all_gone}
use Rattle.once_machine.specs.Wakers.{IsDue, IsOpen, HandsOut, CallsOne, handed_since}
use Rattle.once_machine.specs.Refusals.{MemoryFrom}
use Rattle.once_machine.specs.Run.{IsLegal, MayBegin, MayFree, MayPass, MayEnd}
use Rattle.once_machine.proofs.Input.Gone.{made_there, gone_list}
use Rattle.once_judge.specs.declared.calls.Calls.{Calls}
use Rattle.once_judge.specs.declared.calls.Calls.TheVariants.{One as ToOne, All as ToAll}
use Rattle.once_judge.specs.declared.reason.Reason.{Reason}
use Rattle.once_judge.specs.declared.reason.Reason.TheVariants.{TaskIs, CellIs, OfCall, OfWakers, NextAnswer, AnswersLeft, NoSuchCall}
use Rattle.once_judge.specs.declared.reason.CallFact.{CallFact}
use Rattle.once_judge.specs.declared.reason.CallFact.TheVariants.{InitAnswered, Claimed, Passed, NotFreed, NoCauseForMemory, NoCrowd, NotFirstPoll}
use Rattle.once_judge.specs.declared.reason.WakersFact.{WakersFact}
use Rattle.once_judge.specs.declared.reason.WakersFact.TheVariants.{NotOpen, Twice, Due, Count}
use Rattle.once_judge.specs.Calls.{IsLegalToAll}
use Rattle.once_judge.specs.Seen.{Seen}
use Rattle.once_judge.specs.Legal.{IsLegalIn, IsDueFor, IsDueIn, HandsOutIn, CallsOneIn, MemoryFromIn, MayEndIn, IsNextIn, AllGoneIn, has_call_in}
use Rattle.once_judge.specs.SeenOf.{Basics, IsSeenOf, is_made}
use Rattle.once_judge.specs.Reasons.{IsTrueIn, IsSoOfCallIn, IsSoOfWakersIn}
use Rattle.once_judge.specs.Verdict.{IsTrue, IsSoOfCall, IsSoOfWakers}
use Rattle.once_judge.proofs.Entries.{gone_so, free_stays, pass_stays}
use Rattle.once_judge.proofs.Either.{IsLegalBy}

-- a task that was not made, or one that is gone
unmade_or : (s : Status) → is_made s ≡ false → s ≡ Unmade
unmade_or Unmade m = refl
unmade_or _ m = absurd (false≢true (sym m))

made_gone : (s : Status) → is_made s ≡ true → (s ≡ Unmade) ⊎ (s ≡ Gone) → is_gone s ≡ true
made_gone s m o = ⊎_elim (λ u. absurd (false≢true (ap is_made (sym u) ∙ m))) (λ g. ap is_gone g) o

-- which owner's calls a kind has
call_by : (K : Kind) (o : OwnerCall) → has_call K o ≡ has_call_in (is_lazy K) o
call_by K o = grind arith

-- a lazy init's next answer
next_in : (K : Kind) (a : Answer) (l l' : List (Option ℕ)) → l' ≡ l → IsNext K a l → IsNextIn (is_lazy K) a l'
next_in Once a l l' e n = n
next_in (OnceWith v) a l l' e n = n
next_in (Lazy k) a l l' e n = rw e n
next_in (LazyWith v) a l l' e n = rw e n

next_out : (K : Kind) (a : Answer) (l l' : List (Option ℕ)) → l' ≡ l → IsNextIn (is_lazy K) a l' → IsNext K a l
next_out Once a l l' e n = n
next_out (OnceWith v) a l l' e n = n
next_out (Lazy k) a l l' e n = rw (sym e) n
next_out (LazyWith v) a l l' e n = rw (sym e) n

module _ (K : Kind) (limit : ℕ) (h : List Entry) (S : Seen) (seen : IsSeenOf K limit h S) where
  k : Basics K h S
  k = seen.basics

  -- the last call of a task that is not gone
  call_at : (t : ℕ) → is_gone (status K t h) ≡ false → (S.task t).call ≡ last_call K t h
  call_at t g = seen.basics.call_is t g

  -- of one that polls
  call_of : (t : ℕ) → status K t h ≡ Polling → (S.task t).call ≡ last_call K t h
  call_of t p = call_at t (ap is_gone p)

  -- what is kept tells which tasks are gone
  stays_out : (t : ℕ) → is_gone (S.task t).status ≡ false → is_gone (status K t h) ≡ false
  stays_out t g = ap is_gone (sym (seen.basics.status_is t)) ∙ g

  due_in : (w : ℕ) → IsDue K w h → IsDueIn w S
  due_in w d = (d.0, (seen.basics.status_is d.0 ∙ d.1, ap (λ c. c.waker) (call_at d.0 (ap is_gone d.1)) ∙ d.2, sym (seen.basics.stood d.0 w (rw d.1 refl)) ∙ d.3))

  due_for : (t w : ℕ) → IsDueFor t w S → (status K t h ≡ Waiting) × ((last_call K t h).waker ≡ w) × (member w (handed_since t h) ≡ false)
  due_for t w d =
      let s : status K t h ≡ Waiting = sym (seen.basics.status_is t) ∙ d.0 in
      (s, ap (λ c. c.waker) (sym (call_at t (ap is_gone s))) ∙ d.1, seen.basics.stood t w (rw s refl) ∙ d.2)

  due_out : (w : ℕ) → IsDueIn w S → IsDue K w h
  due_out w d = let e = due_for d.0 w d.1 in (d.0, e.0, e.1, e.2)

  open_in : (w : ℕ) → IsOpen K w h → 0 < S.times w
  open_in w o = let a = seen.basics.times_is w in omega arith

  open_out : (w : ℕ) → 0 < S.times w → IsOpen K w h
  open_out w o = let a = seen.basics.times_is w in omega arith

  hands_in : (X : List ℕ) → HandsOut K X h → HandsOutIn X S
  hands_in X o = record { once = o.once; due = λ w d. o.due w (due_out w d); open_alone = λ w m. open_in w (o.open_alone w m) }

  hands_out : (X : List ℕ) → HandsOutIn X S → HandsOut K X h
  hands_out X o = record { once = o.once; due = λ w d. o.due w (due_in w d); open_alone = λ w m. open_out w (o.open_alone w m) }

  calls_in : (X : List ℕ) → CallsOne K X h → CallsOneIn X S
  calls_in X o = record { one = o.one; due = λ w d. o.due w (due_out w d); open_alone = λ w m. open_in w (o.open_alone w m) }

  calls_out : (X : List ℕ) → CallsOneIn X S → CallsOne K X h
  calls_out X o = record { one = o.one; due = λ w d. o.due w (due_in w d); open_alone = λ w m. open_out w (o.open_alone w m) }

  cell_in : (c : Cell) → cell K h ≡ c → S.cell ≡ c
  cell_in c e = seen.basics.cell_is ∙ e

  cell_out : (c : Cell) → S.cell ≡ c → cell K h ≡ c
  cell_out c e = sym seen.basics.cell_is ∙ e

  status_in : (t : ℕ) (s : Status) → status K t h ≡ s → (S.task t).status ≡ s
  status_in t s e = seen.basics.status_is t ∙ e

  status_out : (t : ℕ) (s : Status) → (S.task t).status ≡ s → status K t h ≡ s
  status_out t s e = sym (seen.basics.status_is t) ∙ e

  -- refusals
  memory_in : (t : ℕ) (s : Status) → status K t h ≡ Polling → MemoryFrom K s t h → MemoryFromIn s t S
  memory_in t Fresh p m = (ap (λ c. c.set_then) (call_of t p) ∙ m.0, (seen.sinces.acted t p).1 m.1)
  memory_in t Waiting p m = (seen.sinces.held t p).1 m
  memory_in t _ p m = m

  memory_out : (t : ℕ) (s : Status) → status K t h ≡ Polling → MemoryFromIn s t S → MemoryFrom K s t h
  memory_out t Fresh p m = (ap (λ c. c.set_then) (sym (call_of t p)) ∙ m.0, (seen.sinces.acted t p).0 m.1)
  memory_out t Waiting p m = (seen.sinces.held t p).0 m
  memory_out t _ p m = m

  end_in : (t : ℕ) (r : Reply) (a : Option Answer) → status K t h ≡ Polling → MayEnd K limit t r a h → MayEndIn t r a S
  end_in t Pending (Some RanPending) p m = cell_in (Held t) m
  end_in t Pending None p m = (m.0, m.1, cell_in (Held m.0) m.2)
  end_in t (Value v) (Some (RanValue u)) p m = (m.0, cell_in (SetTo v) m.1)
  end_in t (Value v) None p m = cell_in (SetTo v) m
  end_in t (Error e) (Some (RanError f)) p m = (m.0, ap (λ c. c.freed) (call_of t p) ∙ m.1)
  end_in t Memory None p m =
      let b = call_of t p in
      (ap (λ c. c.claimed) b ∙ m.0, let P : Status → Type 0 = λ s. MemoryFromIn s t S in subst P (ap (λ c. c.began) (sym b)) (memory_in t (last_call K t h).began p m.1))
  end_in t Full None p m =
      let b = call_of t p in
      (ap (λ c. c.began) b ∙ m.0, ap (λ c. c.claimed) b ∙ m.1, (seen.sinces.crowded t p).1 m.2, ap is_set seen.basics.cell_is ∙ m.3)
  end_in t _ _ p m = m

  end_out : (t : ℕ) (r : Reply) (a : Option Answer) → status K t h ≡ Polling → MayEndIn t r a S → MayEnd K limit t r a h
  end_out t Pending (Some RanPending) p m = cell_out (Held t) m
  end_out t Pending None p m = (m.0, m.1, cell_out (Held m.0) m.2)
  end_out t (Value v) (Some (RanValue u)) p m = (m.0, cell_out (SetTo v) m.1)
  end_out t (Value v) None p m = cell_out (SetTo v) m
  end_out t (Error e) (Some (RanError f)) p m = (m.0, ap (λ c. c.freed) (sym (call_of t p)) ∙ m.1)
  end_out t Memory None p m =
      let b = call_of t p in
      (ap (λ c. c.claimed) (sym b) ∙ m.0, memory_out t (last_call K t h).began p (let P : Status → Type 0 = λ s. MemoryFromIn s t S in subst P (ap (λ c. c.began) b) m.1))
  end_out t Full None p m =
      let b = call_of t p in
      (ap (λ c. c.began) (sym b) ∙ m.0, ap (λ c. c.claimed) (sym b) ∙ m.1, (seen.sinces.crowded t p).0 m.2, ap is_set (sym seen.basics.cell_is) ∙ m.3)
  end_out t _ _ p m = m

  -- the owner's calls
  gone_in : all_gone K h ≡ true → AllGoneIn S
  gone_in a = λ t. ⊎_elim
      (λ m. inr (status_in t Gone (gone_so (status K t h) (made_there K t (made_in h) h a m))))
      (λ m. inl (status_in t Unmade (unmade_or (status K t h) (sym (seen.basics.made_is t) ∙ m))))
      (cases_Bool (member t (made_in h)))

  gone_out : AllGoneIn S → all_gone K h ≡ true
  gone_out a = gone_list K (made_in h) h (λ t m. made_gone (status K t h) (sym (seen.basics.made_is t) ∙ m)
      (⊎_elim (λ e. inl (status_out t Unmade e)) (λ e. inr (status_out t Gone e)) (a t)))

  got_is : (o : OwnerCall) → got o S.cell S.answers ≡ got o (cell K h) (answers_left K h)
  got_is o = ap (λ c. got o c S.answers) seen.basics.cell_is ∙ ap (got o (cell K h)) seen.basics.answers_are

  free_in : (t : ℕ) → MayFree (status K t h) (last_call K t h).ran → MayFree (S.task t).status (S.task t).call.ran
  free_in t m = rw (seen.basics.status_is t, call_at t (free_stays (status K t h) (last_call K t h).ran m)) m

  free_out : (t : ℕ) → MayFree (S.task t).status (S.task t).call.ran → MayFree (status K t h) (last_call K t h).ran
  free_out t m = rw (seen.basics.status_is t, call_at t (stays_out t (free_stays (S.task t).status (S.task t).call.ran m))) at m

  pass_in : (t : ℕ) → MayPass (status K t h) (last_call K t h).claimed (last_call K t h).ran → MayPass (S.task t).status (S.task t).call.claimed (S.task t).call.ran
  pass_in t m = rw (seen.basics.status_is t, call_at t (pass_stays (status K t h) (last_call K t h).claimed (last_call K t h).ran m)) m

  pass_out : (t : ℕ) → MayPass (S.task t).status (S.task t).call.claimed (S.task t).call.ran → MayPass (status K t h) (last_call K t h).claimed (last_call K t h).ran
  pass_out t m = rw (seen.basics.status_is t, call_at t (stays_out t (pass_stays (S.task t).status (S.task t).call.claimed (S.task t).call.ran m))) at m

  ran_in : (t : ℕ) (r : Option Answer) → is_gone (status K t h) ≡ false → (last_call K t h).ran ≡ r → (S.task t).call.ran ≡ r
  ran_in t r g e = ap (λ c. c.ran) (call_at t g) ∙ e

  ran_out : (t : ℕ) (r : Option Answer) → is_gone (status K t h) ≡ false → (S.task t).call.ran ≡ r → (last_call K t h).ran ≡ r
  ran_out t r g e = ap (λ c. c.ran) (sym (call_at t g)) ∙ e

  passed_in : (t : ℕ) → is_gone (status K t h) ≡ false → (last_call K t h).passed ≡ false → (S.task t).call.passed ≡ false
  passed_in t g e = ap (λ c. c.passed) (call_at t g) ∙ e

  passed_out : (t : ℕ) → is_gone (status K t h) ≡ false → (S.task t).call.passed ≡ false → (last_call K t h).passed ≡ false
  passed_out t g e = ap (λ c. c.passed) (sym (call_at t g)) ∙ e

  -- what may come next fits
  one_in : (e : Entry) → IsLegal K limit e h → IsLegalIn ToOne (is_lazy K) e S
  one_in (Made t) l = status_in t Unmade l
  one_in (Begin t w) l = subst MayBegin (sym (seen.basics.status_is t)) l
  one_in (Claim t) l = (cell_in Empty l.0, status_in t Polling l.1, ran_in t None (ap is_gone l.1) l.2, passed_in t (ap is_gone l.1) l.3)
  one_in (Ran t a) l = (cell_in (Held t) l.0, status_in t Polling l.1, ran_in t None (ap is_gone l.1) l.2, next_in K a (answers_left K h) S.answers seen.basics.answers_are l.3)
  one_in (Free t X) l = (cell_in (Held t) l.0, free_in t l.1, calls_in X l.2)
  one_in (Fill t v X) l = (cell_in (Held t) l.0, status_in t Polling l.1, ran_in t (Some (RanValue v)) (ap is_gone l.1) l.2, hands_in X l.3)
  one_in (Pass t X) l = (cell_in Empty l.0, pass_in t l.1, passed_in t (pass_stays (status K t h) (last_call K t h).claimed (last_call K t h).ran l.1) l.2, (l.3.0, l.3.1, open_in l.3.0 l.3.2))
  one_in (End t r) l =
      let m = end_in t r (last_call K t h).ran l.0 l.1 in
      let P : Option Answer → Type 0 = λ a. MayEndIn t r a S in
      (status_in t Polling l.0, subst P (ap (λ c. c.ran) (sym (call_of t l.0))) m, ⊎_elim (λ p. inl (passed_in t (ap is_gone l.0) p)) (λ m. inr m) l.2)
  one_in (DropBegin t) l = subst MayBegin (sym (seen.basics.status_is t)) l
  one_in (DropEnd t) l = (status_in t Dropping l.0, λ e. l.1 (cell_out (Held t) e))
  one_in (Look r) l = l ∙ ap value_in (sym seen.basics.cell_is)
  one_in (Own o g) l = (gone_in l.0, sym (call_by K o) ∙ l.1, l.2 ∙ sym (got_is o))

  -- and what fits may come next
  one_out : (e : Entry) → IsLegalIn ToOne (is_lazy K) e S → IsLegal K limit e h
  one_out (Made t) l = status_out t Unmade l
  one_out (Begin t w) l = subst MayBegin (seen.basics.status_is t) l
  one_out (Claim t) l = let g = ap is_gone (status_out t Polling l.1) in (cell_out Empty l.0, status_out t Polling l.1, ran_out t None g l.2, passed_out t g l.3)
  one_out (Ran t a) l =
      let p = status_out t Polling l.1 in
      (cell_out (Held t) l.0, p, ran_out t None (ap is_gone p) l.2, next_out K a (answers_left K h) S.answers seen.basics.answers_are l.3)
  one_out (Free t X) l = (cell_out (Held t) l.0, free_out t l.1, calls_out X l.2)
  one_out (Fill t v X) l = (cell_out (Held t) l.0, status_out t Polling l.1, ran_out t (Some (RanValue v)) (ap is_gone (status_out t Polling l.1)) l.2, hands_out X l.3)
  one_out (Pass t X) l =
      let g = stays_out t (pass_stays (S.task t).status (S.task t).call.claimed (S.task t).call.ran l.1) in
      (cell_out Empty l.0, pass_out t l.1, passed_out t g l.2, (l.3.0, l.3.1, open_out l.3.0 l.3.2))
  one_out (End t r) l =
      let p = status_out t Polling l.0 in
      let P : Option Answer → Type 0 = λ a. MayEndIn t r a S in
      (p, end_out t r (last_call K t h).ran p (subst P (ap (λ c. c.ran) (call_of t p)) l.1), ⊎_elim (λ m. inl (passed_out t (ap is_gone p) m)) (λ m. inr m) l.2)
  one_out (DropBegin t) l = subst MayBegin (seen.basics.status_is t) l
  one_out (DropEnd t) l = (status_out t Dropping l.0, λ e. l.1 (cell_in (Held t) e))
  one_out (Look r) l = l ∙ ap value_in seen.basics.cell_is
  one_out (Own o g) l = (gone_out l.0, call_by K o ∙ l.1, l.2 ∙ got_is o)

  -- by either rule
  all_in : (e : Entry) → IsLegalToAll K limit e h → IsLegalIn ToAll (is_lazy K) e S
  all_in (Free t X) l = (cell_in (Held t) l.0, free_in t l.1, hands_in X l.2)
  all_in e l = one_in e l

  all_out : (e : Entry) → IsLegalIn ToAll (is_lazy K) e S → IsLegalToAll K limit e h
  all_out (Free t X) l = (cell_out (Held t) l.0, free_out t l.1, hands_out X l.2)
  all_out e l = one_out e l

  pub legal_in : (c : Calls) (e : Entry) → IsLegalBy c K limit e h → IsLegalIn c (is_lazy K) e S
  legal_in ToOne e l = one_in e l
  legal_in ToAll e l = all_in e l

  pub legal_out : (c : Calls) (e : Entry) → IsLegalIn c (is_lazy K) e S → IsLegalBy c K limit e h
  legal_out ToOne e l = one_out e l
  legal_out ToAll e l = all_out e l

  -- a reason that is true by what is kept is true
  call_out : (t : ℕ) (f : CallFact) → IsSoOfCallIn t f S → IsSoOfCall K limit t f h
  call_out t (InitAnswered r) i = ran_out t r (stays_out t i.0) i.1
  call_out t Claimed i = ap (λ c. c.claimed) (sym (call_at t (stays_out t i.0))) ∙ i.1
  call_out t Passed i = ap (λ c. c.passed) (sym (call_at t (stays_out t i.0))) ∙ i.1
  call_out t NotFreed i = ap (λ c. c.freed) (sym (call_at t (stays_out t i.0))) ∙ i.1
  call_out t NoCauseForMemory i = λ m. i.1 (subst (λ b. MemoryFromIn b t S) (ap (λ c. c.began) (sym (call_of t (status_out t Polling i.0))))
      (memory_in t (last_call K t h).began (status_out t Polling i.0) m))
  call_out t NoCrowd i = λ c. false≢true (sym i.1 ∙ (seen.sinces.crowded t (status_out t Polling i.0)).1 c)
  call_out t NotFirstPoll i = λ f. i.1 (ap (λ c. c.began) (call_at t (stays_out t i.0)) ∙ f)

  wakers_out : (f : WakersFact) (e : Entry) → IsSoOfWakersIn f e S → IsSoOfWakers K f e h
  wakers_out (NotOpen w) e i = (i.0, λ o. let p = open_in w o in let n = i.1 in omega arith)
  wakers_out (Twice w) e i = i
  wakers_out (Due t w) e i = let d = due_for t w i.0 in (d.0, d.1, d.2, i.1)
  wakers_out (Count n) e i = i

  pub true_out : (r : Reason) (e : Entry) → IsTrueIn (is_lazy K) r e S → IsTrue K limit r e h
  true_out (TaskIs t s) e i = status_out t _ i
  true_out (CellIs c) e i = cell_out _ i
  true_out (OfCall t f) e i = call_out t f i
  true_out (OfWakers f) e i = wakers_out f e i
  true_out (NextAnswer a) e i = ap next_answer (sym seen.basics.answers_are) ∙ i
  true_out (AnswersLeft n) e i = ap length (sym seen.basics.answers_are) ∙ i
  true_out NoSuchCall (Own o g) i = call_by K o ∙ i
  true_out NoSuchCall e i = i
