-- `take` makes of what is kept what one more entry makes of it.
use Rattle.std.proofs.Common.{◌≡◌, ◌≤◌, ◌<◌, ◌+◌, ◌-◌, ℕ, zero, suc, Bool, true, false, cond, ◌==◌, List, [], ◌∷◌, Option, Some, None, length, drop, take, get_or, refl, sym, ap, ◌∙◌, arith, ltb}
use Rattle.std.proofs.lemmas.Bool.{eqb-true}
use Rattle.once_machine.specs.Numbers.{member, bit, times_in}
use Rattle.once_machine.specs.declared.record.Reply.TheVariants.{Pending}
use Rattle.once_machine.specs.Record.{Entry, End, is_of, handed_by, is_replacing}
use Rattle.once_machine.specs.Cell.{rest_of}
use Rattle.once_machine.specs.Tasks.{Status, status_after, is_under_way}
use Rattle.once_machine.specs.Refusals.{is_about}
use Rattle.once_judge.specs.Seen.{Seen, TaskSeen, after, moved, counted, count_after, opens_in, opens_with, task_of}
use Rattle.std.specs.Prelude.{unwrap_or}
use Rattle.std.specs.Ordering.{nat_cmp}
use Rattle.std.specs.Cmp.{unsigned_tied}
use Rattle.std.specs.BTreeMap.{BTreeMap, get, is_at}
use Rattle.std.proofs.lemmas.Grind.{take_at_read}
use Rattle.once_machine.proofs.Listing.Members.{member-push}
use Rattle.once_judge.specs.Shown.{count_at, tasked, tasked_by, handed_out, celled, noted}
use Rattle.once_judge.proofs.Entries.{of_its_task, of_none, moved_status}
use Rattle.once_judge.proofs.Lists.{times_push}

-- the answers after the first of those that are left
pub drop_rest : (n : ℕ) (l : List (Option ℕ)) → rest_of (drop n l) ≡ drop (suc n) l
drop_rest zero [] = refl
drop_rest zero (x ∷ l) = refl
drop_rest (suc n) [] = refl
drop_rest (suc n) (x ∷ l) = drop_rest n l

pub drop_more : (n : ℕ) (l : List (Option ℕ)) → rest_of (drop n l) ≡ drop (n + 1) l
drop_more n l = drop_rest n l ∙ ap (λ k. drop k l) (let e : suc n ≡ n + 1 = omega arith in e)

drop_empty : (n : ℕ) → rest_of (drop n []) ≡ drop n []
drop_empty zero = refl
drop_empty (suc n) = refl

pub drop_none : (n : ℕ) (l : List (Option ℕ)) → length l ≤ n → rest_of (drop n l) ≡ drop n l
drop_none n [] w = drop_empty n
drop_none zero (x ∷ l) w = absurd (omega arith)
drop_none (suc n) (x ∷ l) w = drop_none n l (omega arith)

-- two that agree in all they keep
pub same_seen : (S S' : Seen) → S'.now ≡ S.now → S'.cell ≡ S.cell → S'.answers ≡ S.answers → ((t : ℕ) → S'.task t ≡ S.task t)
    → ((w : ℕ) → S'.times w ≡ S.times w) → ((w : ℕ) → S'.handed w ≡ S.handed w) → S'.about ≡ S.about → S'.acting ≡ S.acting
    → S'.crowded_at ≡ S.crowded_at → S'.acting_at ≡ S.acting_at → S'.holder ≡ S.holder → S'.held_at ≡ S.held_at → S'.other_held_at ≡ S.other_held_at
    → S' ≡ S
same_seen S S' now cell answers task times handed about acting crowded acted holder held other = λ i. record {
  now = now i;
  cell = cell i;
  answers = answers i;
  task = λ t. task t i;
  times = λ w. times w i;
  handed = λ w. handed w i;
  about = about i;
  acting = acting i;
  crowded_at = crowded i;
  acting_at = acted i;
  holder = holder i;
  held_at = held i;
  other_held_at = other i;
}

-- which waker an entry of t opens
opens_is : (S : Seen) (t w : ℕ) (e : Entry) → task_of e ≡ Some t → opens_in S w e ≡ cond ((S.task t).call.waker == w) (opens_with e t S.cell) false
opens_is S t w (End u Pending) s = let same : u ≡ t = cc in rw same refl
opens_is S t w e s = grind arith

-- its task moved
task_by : (S : Seen) (e : Entry) (t u : ℕ) (x y : TaskSeen) (b : Bool) → (t == u) ≡ b → x ≡ S.task t → y ≡ moved e S.cell (suc S.now) x
    → cond b y (S.task u) ≡ cond b (moved e S.cell (suc S.now) (S.task u)) (S.task u)
task_by S e t u x y true is old new = new ∙ ap (moved e S.cell (suc S.now)) (old ∙ ap S.task (eqb-true t u is))
task_by S e t u x y false is old new = refl

pub tasked_is : (S S' : Seen) (e : Entry) (t : ℕ) (x y : TaskSeen) (opens : Bool) → task_of e ≡ Some t → x ≡ S.task t → y ≡ moved e S.cell (suc S.now) x
    → opens ≡ opens_with e t S.cell
    → S'.now ≡ S.now → S'.cell ≡ S.cell → S'.answers ≡ S.answers → ((u : ℕ) → S'.task u ≡ cond (t == u) y (S.task u))
    → ((w : ℕ) → S'.times w ≡ S.times w + bit (cond (x.call.waker == w) opens false)) → ((w : ℕ) → S'.handed w ≡ S.handed w)
    → S'.about ≡ counted S.about (is_about x.status) (is_about y.status)
    → S'.acting ≡ counted S.acting (is_under_way x.status) (is_under_way y.status)
    → S'.crowded_at ≡ S.crowded_at → S'.acting_at ≡ S.acting_at → S'.holder ≡ S.holder → S'.held_at ≡ S.held_at → S'.other_held_at ≡ S.other_held_at
    → S' ≡ tasked e t S
tasked_is S S' e t x y opens its old new op now cell answers task times handed about acting crowded acted holder held other =
    same_seen (tasked e t S) S' now cell answers
    (λ u. task u ∙ task_by S e t u x y (t == u) refl old new)
    (λ w. times w ∙ ap (λ b. S.times w + bit b) (ap (λ z. cond (z.call.waker == w) opens false) old ∙ ap (λ o. cond ((S.task t).call.waker == w) o false) op ∙ sym (opens_is S t w e its)))
    handed
    (about ∙ counts is_about S.about) (acting ∙ counts is_under_way S.acting)
    crowded acted holder held other where
      -- what the task is at now follows from what it was at
      counts : (p : Status → Bool) (n : ℕ) → counted n (p x.status) (p y.status) ≡ counted n (p (S.task t).status) (p (status_after e S.cell (S.task t).status))
      counts p n = ap (λ z. counted n (p x.status) (p z.status)) new ∙ ap (λ s. counted n (p x.status) (p s)) (moved_status e S.cell (suc S.now) x)
          ∙ ap (λ z. counted n (p z.status) (p (status_after e S.cell z.status))) old

-- the parts of one entry, by its task
parts_task : (S : Seen) (e : Entry) (u : ℕ) (o : Option ℕ) → task_of e ≡ o
    → (tasked_by o e S).task u ≡ cond (is_of u e) (moved e S.cell (suc S.now) (S.task u)) (S.task u)
parts_task S e u None none = rw (of_none u e none) refl
parts_task S e u (Some t) its = rw (of_its_task t u e its) refl

-- an entry without a task opens nothing
none_opens : (S : Seen) (w : ℕ) (e : Entry) → task_of e ≡ None → opens_in S w e ≡ false
none_opens S w (End t Pending) n = grind arith
none_opens S w e n = refl

parts_times : (S : Seen) (e : Entry) (w : ℕ) (o : Option ℕ) → task_of e ≡ o → (tasked_by o e S).times w ≡ S.times w + bit (opens_in S w e)
parts_times S e w None none = rw (none_opens S w e none) (omega arith)
parts_times S e w (Some t) its = refl

times_by : (S T : Seen) (e : Entry) (w : ℕ) (b : Bool) → T.times w ≡ S.times w + bit (opens_in S w e)
    → cond b 0 (T.times w - times_in w (handed_by e)) ≡ cond b 0 ((S.times w + bit (opens_in S w e)) - times_in w (handed_by e))
times_by S T e w b is = ap (λ n. cond b 0 (n - times_in w (handed_by e))) is

-- how many pass a test
count_is : (p : Status → Bool) (e : Entry) (S : Seen) (o : Option ℕ) (n : ℕ) → task_of e ≡ o → count_after p e S o n ≡ count_after p e S (task_of e) n
count_is p e S o n is = ap (λ x. count_after p e S x n) (sym is)

-- all that one entry changes
parts_by : (limit : ℕ) (e : Entry) (S : Seen) (o : Option ℕ) → task_of e ≡ o
    → noted limit (suc S.now) (celled e (handed_out (handed_by e) (suc S.now) (tasked_by o e S))) ≡ after limit e S
parts_by limit e S None is =
    same_seen (after limit e S) (noted limit (suc S.now) (celled e (handed_out (handed_by e) (suc S.now) (tasked_by None e S))))
    refl refl refl (λ u. parts_task S e u None is) (λ w. times_by S (tasked_by None e S) e w (is_replacing e) (parts_times S e w None is)) (λ w. refl)
    (count_is is_about e S None S.about is) (count_is is_under_way e S None S.acting is)
    (ap (λ n. cond (ltb limit n) (suc S.now) S.crowded_at) (count_is is_about e S None S.about is))
    (ap (λ n. cond (ltb 1 n) (suc S.now) S.acting_at) (count_is is_under_way e S None S.acting is))
    refl refl refl
parts_by limit e S (Some t) is =
    same_seen (after limit e S) (noted limit (suc S.now) (celled e (handed_out (handed_by e) (suc S.now) (tasked_by (Some t) e S))))
    refl refl refl (λ u. parts_task S e u (Some t) is) (λ w. times_by S (tasked_by (Some t) e S) e w (is_replacing e) (parts_times S e w (Some t) is)) (λ w. refl)
    (count_is is_about e S (Some t) S.about is) (count_is is_under_way e S (Some t) S.acting is)
    (ap (λ n. cond (ltb limit n) (suc S.now) S.crowded_at) (count_is is_about e S (Some t) S.about is))
    (ap (λ n. cond (ltb 1 n) (suc S.now) S.acting_at) (count_is is_under_way e S (Some t) S.acting is))
    refl refl refl

pub parts_are : (limit : ℕ) (e : Entry) (S : Seen) → noted limit (suc S.now) (celled e (handed_out (handed_by e) (suc S.now) (tasked_by (task_of e) e S))) ≡ after limit e S
parts_are limit e S = parts_by limit e S (task_of e) refl

put_by : (b : Bool) (v : ℕ) (o : Option ℕ) → unwrap_or (cond b (Some v) o) 0 ≡ cond b v (unwrap_or o 0)
put_by true v o = refl
put_by false v o = refl

-- a map of counts in which one was written
pub count_put : (m n : BTreeMap ℕ ℕ) (k v w : ℕ) → ((q : ℕ) → get nat_cmp n q ≡ cond (is_at (nat_cmp k) q) (Some v) (get nat_cmp m q))
    → count_at n w ≡ cond (k == w) v (count_at m w)
count_put m n k v w e =
    let t = unsigned_tied k w in
    ap (λ o. unwrap_or o 0) (e w ∙ ap (λ b. cond b (Some v) (get nat_cmp m w)) t) ∙ put_by (k == w) v (get nat_cmp m w)

same_count : (m : BTreeMap ℕ ℕ) (k w d : ℕ) (b : Bool) → (k == w) ≡ b → cond b (count_at m k - 1) d ≡ cond b (count_at m w - 1) d
same_count m k w d true is = ap (λ x. count_at m x - 1) (eqb-true k w is)
same_count m k w d false is = refl

-- one more waker is handed out
times_step : (X : List ℕ) (i w a b t0 : ℕ) → i < length X → a ≡ t0 - times_in w (take i X)
    → b ≡ cond (get_or X i 0 == w) (a - 1) a → b ≡ t0 - times_in w (take (i + 1) X)
times_step X i w a b t0 l before now =
    let more = times_push w (get_or X i 0) (take i X) in
    let split = (take_at_read X i 0 l).1 in
    rw split (grind arith)

pub times_handed_out : (m m0 n : BTreeMap ℕ ℕ) (X : List ℕ) (i w : ℕ) → i < length X
    → count_at m w ≡ count_at m0 w - times_in w (take i X)
    → ((q : ℕ) → get nat_cmp n q ≡ cond (is_at (nat_cmp (get_or X i 0)) q) (Some (count_at m (get_or X i 0) - 1)) (get nat_cmp m q))
    → count_at n w ≡ count_at m0 w - times_in w (take (i + 1) X)
times_handed_out m m0 n X i w l before put =
    times_step X i w (count_at m w) (count_at n w) (count_at m0 w) l before
    (count_put m n (get_or X i 0) (count_at m (get_or X i 0) - 1) w put ∙ same_count m (get_or X i 0) w (count_at m w) (get_or X i 0 == w) refl)

member_step : (X : List ℕ) (i w n a b h0 : ℕ) → i < length X → a ≡ cond (member w (take i X)) n h0
    → b ≡ cond (get_or X i 0 == w) n a → b ≡ cond (member w (take (i + 1) X)) n h0
member_step X i w n a b h0 l before now =
    let more = member-push w (get_or X i 0) (take i X) in
    let split = (take_at_read X i 0 l).1 in
    rw split (grind arith)

pub stamp_handed_out : (m m0 n : BTreeMap ℕ ℕ) (X : List ℕ) (i w number : ℕ) → i < length X
    → count_at m w ≡ cond (member w (take i X)) number (count_at m0 w)
    → count_at n w ≡ cond (get_or X i 0 == w) number (count_at m w)
    → count_at n w ≡ cond (member w (take (i + 1) X)) number (count_at m0 w)
stamp_handed_out m m0 n X i w number l before put =
    member_step X i w number (count_at m w) (count_at n w) (count_at m0 w) l before put

-- no waker was handed out later
pub stamp_within : (b : Bool) (n a h : ℕ) → a ≡ cond b n h → h ≤ n → a ≤ n
stamp_within true n a h is l = omega arith
stamp_within false n a h is l = omega arith

-- what an entry changes of its task leaves that
pub parts_handed : (S : Seen) (e : Entry) (w : ℕ) (o : Option ℕ) → (tasked_by o e S).handed w ≡ S.handed w
parts_handed S e w None = refl
parts_handed S e w (Some t) = refl
