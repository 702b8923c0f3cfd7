-- Each moment of a task alone keeps the rule of the book, and tells what it is to tell.
use Rattle.std.proofs.Common.{◌≡◌, ◌<◌, ◌+◌, ◌==◌, ℕ, Bool, true, false, cond, List, [], ◌∷◌, None, Some, refl, sym, subst, arith}
use Rattle.std.specs.Prelude.{nat_lt}
use Rattle.std.proofs.lemmas.Bool.Decides.{nat_tests}
use prog.Atomic.{either}
use Rattle.pagebook.specs.Pages.{Held, Moves, Notes, View}
use Rattle.once_machine.specs.Word.{flags_of}
use Rattle.once_machine.specs.declared.memory.NoCopy.{NoCopy}
use Rattle.once_machine.specs.declared.memory.NoMemory.{NoMemory}
use Rattle.once_machine.specs.declared.step.Polled.{Polled}
use Rattle.once_machine.specs.declared.step.Polled.TheVariants.{Pending, Value, Error}
use Rattle.once_machine.specs.Steps.{is_resting, step_of_drop}
use Rattle.once_machine.specs.Table.{Next, CountIn, CountedIn, DoorPut, DoorTake, PutQueue, Ran as PolledInit, Refused as RefusedCopy, Run, Taken}
use Rattle.once_machine.specs.Table.{Call, Load, Quick, Fast, AddOne, CountOut, Told, after, after_count_in, after_run, call_at, closing_end, next_end}
use Rattle.once_machine.specs.Record.{Begin, Entry, Ran}
use Rattle.once_machine.specs.declared.record.Ran.{Ran as InitAnswer}
use Rattle.once_machine.specs.declared.record.Ran.TheVariants.{Pending as RanPending, Value as RanValue, Error as RanError}
use Rattle.once_machine.specs.Book.{TaskState}
use Rattle.once_machine.specs.Machine.{keeps, kept_after, records}
use Rattle.once_machine.specs.declared.step.Place.TheVariants.{CountIn as AtCountIn, DoorPut as AtDoorPut, DoorTake as AtDoorTake, List as AtList, Run as AtRun}
use Rattle.once_machine.specs.declared.step.Ending.TheVariants.{Memory as EndMemory}
use Rattle.once_machine.specs.declared.step.Ending.{Ending}
use Rattle.once_machine.specs.declared.step.Place.{Place}
use Rattle.once_machine.specs.declared.step.Step.{Step}
use Rattle.once_machine.specs.declared.step.Step.TheVariants.{UnderWay}
use Rattle.once_machine.specs.Words.{IsFound, IsWordCall, found, word_after}
use Rattle.async_once_cell.specs.Kept.{Adds, Grew, IsKept, Leaves, Sheet, hand, most, sheets}
use Rattle.async_once_cell.proofs.Moments.Moves.Words.{full_moves, full_page, full_told, in_moves, in_page, none_moves, none_page, none_told, word_moves, word_of_t}
use Rattle.async_once_cell.proofs.Moments.Moves.Calls.{begun_notes, copy_notes, dropped_notes, made_notes, ran_notes, unput_notes}
use Rattle.async_once_cell.specs.declared.inner.hand.Act.TheVariants.{Full, Enter, NonePut, Begin as BeginPoll, BeginDrop, Ran as InitRan, Refused, Unput}
use Rattle.async_once_cell.specs.Inner.Own.{IsHand, Turned, number_in, own_in, task_in, told}
use Rattle.async_once_cell.specs.Inner.Page.{Went, WordTells, call_in, given_in, next_of}
use Rattle.async_once_cell.specs.Inner.Acts.{Goes, Makes, Stays, Tells}
use Rattle.async_once_cell.specs.Inner.Places.{CanRefuse}
use Rattle.async_once_cell.proofs.Moments.Mine.{AreOf, drop_of, one_of, told_of}
use Rattle.once_machine.proofs.Listing.Members.{eqb_self}
use Rattle.async_once_cell.proofs.Tells.{leaves_stays, leaves_turns, moves_tell, notes_tell}

module _ (seen : List Entry) (t : ℕ) (x : TaskState) where
  -- the view of t
  abbrev own : View Entry Sheet
  own = (seen, sheets seen (hand t x))

  -- the page went on from the step s
  abbrev WentAt : Step ℕ ℕ → Told ℕ ℕ → View Entry Sheet → Type 0
  WentAt s e w =
      Turned (own_in own) (record x { step = (next_of s x.waker e).step; kept = keeps e (given_in e) x.kept })
      (told t (keeps e (given_in e) x.kept) (next_of s x.waker e) (records e (given_in e) t x.kept [])) (own_in w)

  -- and the hand is t's still
  abbrev GoesAt : Step ℕ ℕ → Told ℕ ℕ → View Entry Sheet → Type 0
  GoesAt s e w = IsHand w.0 w.1 × WentAt s e w

  -- what is found is no answer of an init
  found_quiet : (c : Call ℕ ℕ) (n : ℕ) (p : Place ℕ ℕ) (w : View Entry Sheet) → IsWordCall c
      → Turned (own_in own) (record x { step = (after (Some x.waker) p (found c n)).step })
      (told t x.kept (after (Some x.waker) p (found c n)) (records (found c n) RanPending t x.kept [])) (own_in w)
      → WentAt (UnderWay p) (found c n) w
  found_quiet Load n p w i d = d
  found_quiet Quick n p w i d = d
  found_quiet (Fast fills) n p w i d = d
  found_quiet AddOne n p w i d = d
  found_quiet CountOut n p w i d = d
  found_quiet _ n p w i d = absurd i

  -- a step of the word, by the step at which the task stands
  word_by : (s : Step ℕ ℕ) → x.step ≡ s → IsWordCall (call_in s)
      → Moves IsKept own 0 (word_after (call_in s)) (λ n w. IsHand w.0 w.1 × IsFound (call_in s) n × WentAt s (found (call_in s) n) w)
  word_by (UnderWay p) at is = moves_tell IsKept own 0 (word_after (call_at p)) _ _
      (λ n w r. let l = leaves_turns seen t x _ _ w
      (told_of t x.kept (after (Some x.waker) p (found (call_at p) n)) (records (found (call_at p) n) RanPending t x.kept []) (word_of_t seen t x (call_at p) n)) r.1 in
      (l.0, r.0, found_quiet (call_at p) n p w is l.1))
      (word_moves seen t x p at is)
  word_by _ at is = absurd is

  -- a load before an exchange, by whether there is room, and whether the value is set
  full_tells : (q n : ℕ) (b r : Bool) (w : View Entry Sheet) → (flags_of n).ready ≡ r → Leaves seen (hand t x) (full_page seen t x q n b) (full_told seen t x q n b) w
      → cond b (Stays own w) (GoesAt (UnderWay (AtCountIn q)) (CountedIn false r) w)
  full_tells q n true r w e l = leaves_stays seen t x w l
  full_tells q n false r w e l = subst (λ b. GoesAt (UnderWay (AtCountIn q)) (CountedIn false b) w) e
      (leaves_turns seen t x _ _ w (told_of t x.kept (after_count_in false (flags_of n).ready q) [] tt) l)

  -- that load
  full_by : (s : Step ℕ ℕ) → x.step ≡ s → call_in s ≡ CountIn
      → Moves IsKept own 0 (λ n. n) (λ n w. cond (nat_lt (flags_of n).count most) (Stays own w) (GoesAt s (CountedIn false (flags_of n).ready) w))
  full_by (UnderWay (AtCountIn q)) at can = moves_tell IsKept own 0 (λ n. n) _ _ (λ n w r. full_tells q n (nat_lt (flags_of n).count most) (flags_of n).ready w refl r.1) (full_moves seen t x q at)
  full_by _ at can = let no : ⊥ = cc in absurd no

  -- a task that counts itself in records nothing
  in_told : (r : Bool) (q : ℕ) → told t x.kept (after_count_in true r q) [] ≡ []
  in_told true q = refl
  in_told false q = refl

  -- an exchange, by whether it was done
  enter_tells : (q m : ℕ) (b : Bool) (w : View Entry Sheet) → Leaves seen (hand t x) (in_page seen t x q m b) [] w
      → cond b (GoesAt (UnderWay (AtCountIn q)) (CountedIn true (flags_of m).ready) w) (Stays own w)
  enter_tells q m true w l =
      let none = sym (in_told (flags_of m).ready q) in
      leaves_turns seen t x _ _ w (told_of t x.kept (after_count_in true (flags_of m).ready q) [] tt)
      (l.0, subst (λ es. Grew es seen w.0) none l.1, subst (λ es. Adds seen (hand t x) es w.0) none l.2)
  enter_tells q m false w l = leaves_stays seen t x w l

  -- that exchange
  enter_by : (m : ℕ) (s : Step ℕ ℕ) → x.step ≡ s → call_in s ≡ CountIn → (flags_of m).count < most
      → Moves IsKept own 0 (λ n. either (n == m) (m + 1) n) (λ n w. cond (n == m) (GoesAt s (CountedIn true (flags_of m).ready) w) (Stays own w))
  enter_by m (UnderWay (AtCountIn q)) at can l = moves_tell IsKept own 0 (λ n. either (n == m) (m + 1) n) _ _ (λ n w r. enter_tells q m (n == m) w r.1) (in_moves seen t x q m at l)
  enter_by m _ at can l = let no : ⊥ = cc in absurd no

  -- the load of the word that says whether a queue was ever put
  none_tells : (e : Ending) (b : Bool) (w : View Entry Sheet) → Leaves seen (hand t x) (none_page seen t x e b) (none_told seen t x e b) w
      → cond b (GoesAt (UnderWay (AtDoorTake e)) (Taken false) w) (Stays own w)
  none_tells e true w l = leaves_turns seen t x _ _ w (told_of t x.kept (next_end e) [] tt) l
  none_tells e false w l = leaves_stays seen t x w l

  -- by the place
  none_by : (s : Step ℕ ℕ) → x.step ≡ s → call_in s ≡ DoorTake → Moves IsKept own 1 (λ n. n) (λ n w. cond (n == 0) (GoesAt s (Taken false) w) (Stays own w))
  none_by (UnderWay (AtDoorTake e)) at can = moves_tell IsKept own 1 (λ n. n) _ _ (λ n w r. none_tells e (n == 0) w r) (none_moves seen t x e at)
  none_by _ at can = let no : ⊥ = cc in absurd no

  -- what a poll of the init records is of t
  of_run : (r : InitAnswer) (next : Next ℕ ℕ) → AreOf t (told t (kept_after r x.kept) next (Ran t r ∷ []))
  of_run r next = told_of t (kept_after r x.kept) next (Ran t r ∷ []) (one_of t (Ran t r) (eqb_self t))

  -- the init answers
  ran_by : (a : Polled) (s : Step ℕ ℕ) → x.step ≡ s → call_in s ≡ Run
      → Notes IsKept own (λ w. GoesAt s (PolledInit a) w)
  ran_by Pending (UnderWay (AtRun by)) at can = notes_tell IsKept own _ _ (λ w r. leaves_turns seen t x _ _ w (of_run RanPending (after_run Pending by)) r.1)
      (ran_notes seen t x by RanPending tt at)
  ran_by Value (UnderWay (AtRun by)) at can = notes_tell IsKept own _ _ (λ w r. leaves_turns seen t x _ _ w (of_run (RanValue 0) (after_run Value by)) r.1)
      (ran_notes seen t x by (RanValue 0) refl at)
  ran_by Error (UnderWay (AtRun by)) at can = notes_tell IsKept own _ _ (λ w r. leaves_turns seen t x _ _ w (of_run (RanError 0) (after_run Error by)) r.1)
      (ran_notes seen t x by (RanError 0) tt at)
  ran_by a _ at can = let no : ⊥ = cc in absurd no

  -- the copy is refused
  refused_by : (s : Step ℕ ℕ) → x.step ≡ s → CanRefuse s → Notes IsKept own (λ w. GoesAt s RefusedCopy w)
  refused_by (UnderWay (AtList q k v)) at can = notes_tell IsKept own _ _ (λ w r. leaves_turns seen t x _ _ w tt r.1) (copy_notes seen t x q v k at)
  refused_by _ at can = absurd can

  -- memory for a queue is refused
  unput_by : (s : Step ℕ ℕ) → x.step ≡ s → call_in s ≡ DoorPut → Notes IsKept own (λ w. GoesAt s (PutQueue None) w)
  unput_by (UnderWay AtDoorPut) at can = notes_tell IsKept own _ _ (λ w r. leaves_turns seen t x _ _ w (told_of t x.kept (closing_end EndMemory) [] tt) r.1) (unput_notes seen t x at)
  unput_by _ at can = let no : ⊥ = cc in absurd no

-- what is shown for a task's hand holds of each hand that is one
module _ (seen : List Entry) (h : Held Sheet) (is : IsHand seen h) where
  -- of a move
  of_hand : (k : ℕ) (f : ℕ → ℕ) (then : View Entry Sheet → ℕ → View Entry Sheet → Type 0)
      → Moves IsKept (seen, sheets seen (hand (number_in h) (task_in h))) k f (then (seen, sheets seen (hand (number_in h) (task_in h)))) → Moves IsKept (seen, h) k f (then (seen, h))
  of_hand k f then m = subst (λ g. Moves IsKept (seen, g) k f (then (seen, g))) (sym is) m

  -- and of a note
  of_noting : (then : View Entry Sheet → View Entry Sheet → Type 0)
      → Notes IsKept (seen, sheets seen (hand (number_in h) (task_in h))) (then (seen, sheets seen (hand (number_in h) (task_in h)))) → Notes IsKept (seen, h) (then (seen, h))
  of_noting then m = subst (λ g. Notes IsKept (seen, g) (then (seen, g))) (sym is) m

  pub word_keeps : (c : Call ℕ ℕ) → IsWordCall c → call_in (task_in h).step ≡ c → Moves IsKept (seen, h) 0 (word_after c) (WordTells (seen, h))
  word_keeps c w at = subst (λ c. Moves IsKept (seen, h) 0 (word_after c) (WordTells (seen, h))) at
      (of_hand 0 (word_after (call_in (task_in h).step)) WordTells (word_by seen (number_in h) (task_in h) (task_in h).step refl (subst IsWordCall (sym at) w)))

  pub full_keeps : call_in (task_in h).step ≡ CountIn → Moves IsKept (seen, h) 0 (λ n. n) (Tells Full (seen, h))
  full_keeps can = of_hand 0 (λ n. n) (Tells Full) (full_by seen (number_in h) (task_in h) (task_in h).step refl can)

  pub enter_keeps : (m : ℕ) → call_in (task_in h).step ≡ CountIn → (flags_of m).count < most → Moves IsKept (seen, h) 0 (λ n. either (n == m) (m + 1) n) (Tells (Enter m) (seen, h))
  enter_keeps m can l = of_hand 0 (λ n. either (n == m) (m + 1) n) (Tells (Enter m)) (enter_by seen (number_in h) (task_in h) m (task_in h).step refl can l)

  pub none_keeps : call_in (task_in h).step ≡ DoorTake → Moves IsKept (seen, h) 1 (λ n. n) (Tells NonePut (seen, h))
  none_keeps can = of_hand 1 (λ n. n) (Tells NonePut) (none_by seen (number_in h) (task_in h) (task_in h).step refl can)

  pub begin_keeps : is_resting (task_in h).step ≡ true → Notes IsKept (seen, h) (Tells BeginPoll (seen, h) 0)
  begin_keeps r = of_noting (λ v. Tells BeginPoll v 0)
      (notes_tell IsKept _ _ _ (λ w l. leaves_turns seen (number_in h) (task_in h) _ _ w (one_of (number_in h) (Begin (number_in h) (number_in h)) (eqb_self (number_in h))) l.1)
      (begun_notes seen (number_in h) (task_in h) r))

  pub drop_keeps : is_resting (task_in h).step ≡ true → Notes IsKept (seen, h) (Tells BeginDrop (seen, h) 0)
  drop_keeps r = of_noting (λ v. Tells BeginDrop v 0)
      (notes_tell IsKept _ _ _ (λ w l. leaves_turns seen (number_in h) (task_in h) _ _ w (drop_of (number_in h) (step_of_drop (task_in h).step)) l.1) (dropped_notes seen (number_in h) (task_in h) r))

  pub ran_keeps : (a : Polled) → call_in (task_in h).step ≡ Run → Notes IsKept (seen, h) (Tells (InitRan a) (seen, h) 0)
  ran_keeps a can = of_noting (λ v. Tells (InitRan a) v 0) (ran_by seen (number_in h) (task_in h) a (task_in h).step refl can)

  pub refused_keeps : (why : NoCopy) → CanRefuse (task_in h).step → Notes IsKept (seen, h) (Tells (Refused why) (seen, h) 0)
  refused_keeps why can = of_noting (λ v. Tells (Refused why) v 0) (refused_by seen (number_in h) (task_in h) (task_in h).step refl can)

  pub unput_keeps : (why : NoMemory) → call_in (task_in h).step ≡ DoorPut → Notes IsKept (seen, h) (Tells (Unput why) (seen, h) 0)
  unput_keeps why can = of_noting (λ v. Tells (Unput why) v 0) (unput_by seen (number_in h) (task_in h) (task_in h).step refl can)

-- a task is made
pub make_keeps : (seen : List Entry) → Notes IsKept (seen, []) (Makes (seen, []))
make_keeps seen = made_notes seen

-- if there was room, the load before the exchange changed nothing
pub room_stays : (n : ℕ) (v w : View Entry Sheet) → (flags_of n).count < most → Tells Full v n w → Stays v w
room_stays n v w l told =
    let room : nat_lt (flags_of n).count most ≡ true = grind (arith, nat_tests, l) in
    subst (λ b. cond b (Stays v w) (Goes v (CountedIn false (flags_of n).ready) w)) room told

-- and is told this
pub word_told : (v w : View Entry Sheet) (c : Call ℕ ℕ) (n : ℕ) → call_in (task_in v.1).step ≡ c → WordTells v n w → Went (own_in v) (found c n) [] (own_in w)
word_told v w c n at told = subst (λ c. Went (own_in v) (found c n) [] (own_in w)) at told.2
