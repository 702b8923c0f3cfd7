-- What an entry that may come next tells of its task, and how it moves counts.
use Rattle.std.proofs.Common.{◌≡◌, ◌≢◌, ◌≤◌, ℕ, Bool, true, false, cond, ◌==◌, List, [], ◌∷◌, Option, Some, None, refl, sym, ap, ◌∙◌, subst, arith}
use Rattle.std.specs.Prelude.{not}
use Rattle.std.proofs.lemmas.Bool.{false≢true, eqb-true, ne_eqb}
use Rattle.std.proofs.lemmas.Bool.Decides.{nat_tests}
use Rattle.once_machine.specs.Numbers.{member, is_distinct, bit, how_many}
use Rattle.once_machine.specs.declared.record.Ran.{Ran as Answer}
use Rattle.once_machine.specs.declared.record.Reply.TheVariants.{Pending}
use Rattle.once_machine.specs.Record.{Kind, Entry, Made, Begin, Claim, Ran, Free, Fill, Pass, End, DropBegin, DropEnd, Look, Own, is_of, made_in, handed_by}
use Rattle.once_machine.specs.Cell.{Cell, Empty, Held, SetTo, cell}
use Rattle.once_machine.specs.Tasks.{Status, Unmade, Fresh, Waiting, Holding, Gone, LastCall, status, status_after, pending_status, last_call, last_call_after, is_gone, is_under_way}
use Rattle.once_machine.specs.Wakers.{is_end_of}
use Rattle.once_machine.specs.Run.{IsLegal, MayBegin, MayFree, MayPass}
use Rattle.once_machine.proofs.Listing.Members.{eqb_self}
use Rattle.once_machine.proofs.Listing.Counting.{count_change}
use Rattle.once_judge.specs.Seen.{TaskSeen, task_of, counted, ends_poll, begins_poll, changed, moved, settled, gone_task}
use Rattle.once_judge.specs.SeenOf.{is_made, stands}

-- made and not gone
abbrev pub is_live : Status → Bool
is_live Unmade = false
is_live Gone = false
is_live _ = true

begin_live : (s : Status) → MayBegin s → is_live s ≡ true
begin_live Fresh m = refl
begin_live Waiting m = refl
begin_live Holding m = refl
begin_live _ m = absurd m

pub free_live : (s : Status) (r : Option Answer) → MayFree s r → is_live s ≡ true
free_live Unmade r m = absurd m
free_live Gone r m = absurd m
free_live _ r m = refl

pass_live : (s : Status) (b : Bool) (r : Option Answer) → MayPass s b r → is_live s ≡ true
pass_live Unmade b r m = absurd m
pass_live Gone b r m = absurd m
pass_live _ b r m = refl

-- an entry is the Made of a task that was not made, has no task, or its task is live
abbrev pub fits_before : Entry → Status → Bool
fits_before (Made t) s = not (is_made s)
fits_before (Look found) s = true
fits_before (Own o g) s = true
fits_before _ s = is_live s

legal_at : (K : Kind) (limit t : ℕ) (e : Entry) (h : List Entry) → IsLegal K limit e h → task_of e ≡ Some t → fits_before e (status K t h) ≡ true
legal_at K limit t (Made u) h l e = grind arith
legal_at K limit t (Begin u w) h l e = let same : u ≡ t = cc in begin_live (status K t h) (subst (λ k. MayBegin (status K k h)) same l)
legal_at K limit t (Claim u) h l e = grind (arith, l.1)
legal_at K limit t (Ran u a) h l e = grind (arith, l.1)
legal_at K limit t (Free u X) h l e = let same : u ≡ t = cc in subst (λ k. is_live (status K k h) ≡ true) same (free_live (status K u h) (last_call K u h).ran l.1)
legal_at K limit t (Fill u v X) h l e = grind (arith, l.1)
legal_at K limit t (Pass u X) h l e = let same : u ≡ t = cc in subst (λ k. is_live (status K k h) ≡ true) same (pass_live (status K u h) (last_call K u h).claimed (last_call K u h).ran l.1)
legal_at K limit t (End u r) h l e = grind (arith, l.0)
legal_at K limit t (DropBegin u) h l e = let same : u ≡ t = cc in begin_live (status K t h) (subst (λ k. MayBegin (status K k h)) same l)
legal_at K limit t (DropEnd u) h l e = grind (arith, l.0)
legal_at K limit t (Look found) h l e = refl
legal_at K limit t (Own o g) h l e = refl

-- the task of an entry that is of t
pub its_task : (t : ℕ) (e : Entry) → is_of t e ≡ true → task_of e ≡ Some t
its_task t (Made u) n = ap Some (eqb-true u t n)
its_task t (Begin u w) n = ap Some (eqb-true u t n)
its_task t (Claim u) n = ap Some (eqb-true u t n)
its_task t (Ran u a) n = ap Some (eqb-true u t n)
its_task t (Free u X) n = ap Some (eqb-true u t n)
its_task t (Fill u v X) n = ap Some (eqb-true u t n)
its_task t (Pass u X) n = ap Some (eqb-true u t n)
its_task t (End u r) n = ap Some (eqb-true u t n)
its_task t (DropBegin u) n = ap Some (eqb-true u t n)
its_task t (DropEnd u) n = ap Some (eqb-true u t n)
its_task t (Look found) n = absurd (false≢true n)
its_task t (Own o g) n = absurd (false≢true n)

-- whether an entry of t is of u
pub of_its_task : (t u : ℕ) (e : Entry) → task_of e ≡ Some t → is_of u e ≡ (t == u)
of_its_task t u e s = grind arith

-- an entry without a task is of none
pub of_none : (u : ℕ) (e : Entry) → task_of e ≡ None → is_of u e ≡ false
of_none u (Look found) s = refl
of_none u (Own o g) s = refl
of_none u _ s = grind arith

-- what may come next is so of its task
pub legal_before : (K : Kind) (limit t : ℕ) (e : Entry) (h : List Entry) → IsLegal K limit e h → is_of t e ≡ true → fits_before e (status K t h) ≡ true
legal_before K limit t e h l n = legal_at K limit t e h l (its_task t e n)

-- a live task was made
pub live_made : (s : Status) → is_live s ≡ true → is_made s ≡ true
live_made Unmade n = n
live_made _ n = refl

pending_made : (t : ℕ) (c : Cell) → is_made (pending_status t c) ≡ true
pending_made t Empty = refl
pending_made t (Held u) = grind (arith, nat_tests)
pending_made t (SetTo v) = refl

-- after an entry of it a task was made
pub made_after : (e : Entry) (c : Cell) (s : Status) → is_made s ≡ true → is_made (status_after e c s) ≡ true
made_after (Claim t) c s m = m
made_after (Ran t a) c s m = m
made_after (Free t X) c s m = m
made_after (Fill t v X) c s m = m
made_after (Pass t X) c s m = m
made_after (End t Pending) c s m = pending_made t c
made_after (Look r) c s m = m
made_after (Own o g) c s m = m
made_after _ c s m = refl

-- how many pass a test, after an entry of t that makes nobody
pub count_moved : (p : Status → Bool) (K : Kind) (t n : ℕ) (e : Entry) (h : List Entry) (c : Cell) (s : Status)
    → made_in (e ∷ h) ≡ made_in h → is_distinct (made_in h) ≡ true → member t (made_in h) ≡ true
    → ((u : ℕ) → is_of u e ≡ (t == u)) → n ≡ how_many (λ u. p (status K u h)) (made_in h)
    → c ≡ cell K h → s ≡ status K t h
    → how_many (λ u. p (status K u (e ∷ h))) (made_in (e ∷ h)) ≡ counted n (p s) (p (status_after e c s))
count_moved p K t n e h c s same d m of is ce se =
    let here : status K t (e ∷ h) ≡ status_after e (cell K h) (status K t h) = rw (of t, eqb_self t) refl in
    let apart : (u : ℕ) → t ≢ u → p (status K u h) ≡ p (status K u (e ∷ h)) = λ u ne. rw (of u, ne_eqb t u ne) refl in
    let change = count_change t (made_in h) (λ u. p (status K u h)) (λ u. p (status K u (e ∷ h))) d m apart in
    let after : p (status K t (e ∷ h)) ≡ p (status_after e c s) = ap p here ∙ ap (λ k. p (status_after e k (status K t h))) (sym ce) ∙ ap (λ k. p (status_after e c k)) (sym se) in
    let before : p (status K t h) ≡ p s = ap p (sym se) in
    let a' = ap bit after in let b' = ap bit before in
    rw same (omega (arith, change, is, a', b'))

-- the entry ends a poll of t exactly if it is of t and ends one
pub end_is : (t : ℕ) (e : Entry) → is_end_of t e ≡ cond (is_of t e) (ends_poll e) false
end_is t e = grind arith

-- an end hands out nothing
pub end_hands : (t : ℕ) (e : Entry) → is_end_of t e ≡ true → handed_by e ≡ []
end_hands t (Free u X) n = absurd (false≢true n)
end_hands t (Fill u v X) n = absurd (false≢true n)
end_hands t (Pass u X) n = absurd (false≢true n)
end_hands t _ n = refl

-- if an entry of a task ends no poll and the task stands after it, the task stood before
pub stood_at : (e : Entry) (c : Cell) (s : Status) (k : LastCall) → ends_poll e ≡ false
    → stands (status_after e c s) (last_call_after e c s k).began ≡ true → stands s k.began ≡ true
stood_at (Made t) c s k n w = absurd (false≢true w)
stood_at (Begin t x) c Waiting k n w = refl
stood_at (Begin t x) c _ k n w = absurd (false≢true w)
stood_at (End t r) c s k n w = absurd (false≢true (sym n))
stood_at (DropBegin t) c Waiting k n w = refl
stood_at (DropBegin t) c _ k n w = absurd (false≢true w)
stood_at (DropEnd t) c s k n w = absurd (false≢true w)
stood_at _ c s k n w = w

-- a live task is not gone; so one that stands is not, nor one in a call, nor one that may free or pass
pub live_stays : (s : Status) → is_live s ≡ true → is_gone s ≡ false
live_stays Gone l = absurd (false≢true l)
live_stays _ l = refl

pub stands_stays : (s b : Status) → stands s b ≡ true → is_gone s ≡ false
stands_stays Gone b l = absurd (false≢true l)
stands_stays _ b l = refl

pub acts_stays : (s : Status) → is_under_way s ≡ true → is_gone s ≡ false
acts_stays Gone l = absurd (false≢true l)
acts_stays _ l = refl

pub free_stays : (s : Status) (r : Option Answer) → MayFree s r → is_gone s ≡ false
free_stays s r m = live_stays s (free_live s r m)

pub pass_stays : (s : Status) (b : Bool) (r : Option Answer) → MayPass s b r → is_gone s ≡ false
pass_stays s b r m = live_stays s (pass_live s b r m)

pub unmade_so : (s : Status) → not (is_made s) ≡ true → s ≡ Unmade
unmade_so Unmade m = refl
unmade_so _ m = absurd (false≢true m)

unmade_stays : (s : Status) → not (is_made s) ≡ true → is_gone s ≡ false
unmade_stays Unmade m = refl
unmade_stays _ m = absurd (false≢true m)

-- the task of an entry that may come next is not gone
pub before_stays : (t : ℕ) (e : Entry) (s : Status) → is_of t e ≡ true → fits_before e s ≡ true → is_gone s ≡ false
before_stays t (Made u) s o f = unmade_stays s f
before_stays t (Look r) s o f = absurd (false≢true o)
before_stays t (Own o' g) s o f = absurd (false≢true o)
before_stays t _ s o f = live_stays s f

-- what is kept of a task after an entry of it
pub gone_so : (s : Status) → is_gone s ≡ true → s ≡ Gone
gone_so Gone g = refl
gone_so _ g = absurd (false≢true g)

settled_status : (x : TaskSeen) (b : Bool) → is_gone x.status ≡ b → (settled x).status ≡ x.status
settled_status x true is = rw is (sym (gone_so x.status is))
settled_status x false is = rw is refl

pub moved_status : (e : Entry) (c : Cell) (n : ℕ) (x : TaskSeen) → (moved e c n x).status ≡ status_after e c x.status
moved_status e c n x = settled_status (changed e c n x) (is_gone (status_after e c x.status)) refl

pub moved_stays : (e : Entry) (c : Cell) (n : ℕ) (x : TaskSeen) → is_gone (status_after e c x.status) ≡ false → moved e c n x ≡ changed e c n x
moved_stays e c n x g = rw g refl

pub moved_gone : (e : Entry) (c : Cell) (n : ℕ) (x y : TaskSeen) → y ≡ moved e c n x → is_gone y.status ≡ true → y ≡ gone_task
moved_gone e c n x y is g =
    let s : is_gone (status_after e c x.status) ≡ true = ap is_gone (sym (moved_status e c n x)) ∙ ap (λ z. is_gone z.status) (sym is) ∙ g in
    is ∙ rw s refl

within_by : (b : Bool) (n m : ℕ) → m ≤ n → cond b n m ≤ n
within_by true n m l = omega arith
within_by false n m l = l

settled_ended : (x : TaskSeen) (n : ℕ) (b : Bool) → is_gone x.status ≡ b → x.ended ≤ n → (settled x).ended ≤ n
settled_ended x n true is l = rw is (omega arith)
settled_ended x n false is l = rw is l

settled_begun : (x : TaskSeen) (n : ℕ) (b : Bool) → is_gone x.status ≡ b → x.begun ≤ n → (settled x).begun ≤ n
settled_begun x n true is l = rw is (omega arith)
settled_begun x n false is l = rw is l

pub moved_ended : (e : Entry) (c : Cell) (n : ℕ) (x : TaskSeen) → x.ended ≤ n → (moved e c n x).ended ≤ n
moved_ended e c n x l = settled_ended (changed e c n x) n (is_gone (status_after e c x.status)) refl (within_by (ends_poll e) n x.ended l)

pub moved_begun : (e : Entry) (c : Cell) (n : ℕ) (x : TaskSeen) → x.begun ≤ n → (moved e c n x).begun ≤ n
moved_begun e c n x l = settled_begun (changed e c n x) n (is_gone (status_after e c x.status)) refl (within_by (begins_poll e) n x.begun l)
