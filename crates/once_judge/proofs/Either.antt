-- What both rules for a release without a value want of an entry, and in which records they say the same.
use Rattle.std.proofs.Common.{◌≡◌, ◌≢◌, ◌≤◌, ℕ, true, ◌==◌, List, [], ◌∷◌, length, refl, sym, ap, ◌∙◌, subst, arith}
use Rattle.std.proofs.lemmas.Bool.{false≢true, eqb-true}
use Rattle.once_machine.specs.Numbers.{member, is_distinct}
use Rattle.once_machine.specs.Record.{Kind, Entry, Free, Fill, Pass, is_of, handed_by}
use Rattle.once_machine.specs.Tasks.{status, last_call}
use Rattle.once_machine.specs.Wakers.{IsDue, IsOpen, HandsOut, CallsOne}
use Rattle.once_machine.specs.Run.{IsLegal, IsRun}
use Rattle.once_judge.specs.declared.calls.Calls.{Calls}
use Rattle.once_judge.specs.declared.calls.Calls.TheVariants.{One as ToOne, All as ToAll}
use Rattle.once_judge.specs.Calls.{IsLegalToAll, IsRunToAll, IsRunBy, CalledOne, CalledAll}
use Rattle.once_judge.proofs.Entries.{fits_before, free_live, is_live, legal_before}

-- the entry may come next by the rule
abbrev pub IsLegalBy : Calls → Kind → ℕ → Entry → List Entry → Type 0
IsLegalBy ToOne K limit e h = IsLegal K limit e h
IsLegalBy ToAll K limit e h = IsLegalToAll K limit e h

-- a run is one entry that may come next after a run
pub run_last : (c : Calls) (K : Kind) (limit : ℕ) (e : Entry) (h : List Entry) → IsRunBy c K limit (e ∷ h) → IsLegalBy c K limit e h × IsRunBy c K limit h
run_last ToOne K limit e h r = r
run_last ToAll K limit e h r = r

pub run_more : (c : Calls) (K : Kind) (limit : ℕ) (e : Entry) (h : List Entry) → IsLegalBy c K limit e h → IsRunBy c K limit h → IsRunBy c K limit (e ∷ h)
run_more ToOne K limit e h l r = (l, r)
run_more ToAll K limit e h l r = (l, r)

pub run_none : (c : Calls) (K : Kind) (limit : ℕ) → IsRunBy c K limit []
run_none ToOne K limit = tt
run_none ToAll K limit = tt

-- what an entry that may come next by either rule tells: its task could have it, and it hands out wakers that are open, each once
pub record Fits (K : Kind) (e : Entry) (h : List Entry) : Type 0 where
  pub task : (t : ℕ) → is_of t e ≡ true → fits_before e (status K t h) ≡ true
  pub once : is_distinct (handed_by e) ≡ true
  pub open_alone : (w : ℕ) → member w (handed_by e) ≡ true → IsOpen K w h

-- at most one number is distinct
one_distinct : (X : List ℕ) → length X ≤ 1 → is_distinct X ≡ true
one_distinct [] l = refl
one_distinct (x ∷ []) l = refl
one_distinct (x ∷ y ∷ X) l = absurd (omega arith)

-- the number of a list of one
one_member : (k w : ℕ) → member w (k ∷ []) ≡ true → (k == w) ≡ true
one_member k w m = grind arith

one_open : (K : Kind) (X : List ℕ) (h : List Entry) → ((k : ℕ) × (X ≡ k ∷ []) × IsOpen K k h) → (w : ℕ) → member w X ≡ true → IsOpen K w h
one_open K X h p w m = subst (λ v. IsOpen K v h) (eqb-true p.0 w (one_member p.0 w (sym (ap (member w) p.1) ∙ m))) p.2

legal_once : (K : Kind) (limit : ℕ) (e : Entry) (h : List Entry) → IsLegal K limit e h → is_distinct (handed_by e) ≡ true
legal_once K limit (Free t X) h l = one_distinct X l.2.one
legal_once K limit (Fill t v X) h l = l.3.once
legal_once K limit (Pass t X) h l = ap is_distinct l.3.1
legal_once K limit _ h l = refl

legal_open : (K : Kind) (limit : ℕ) (e : Entry) (h : List Entry) → IsLegal K limit e h → (w : ℕ) → member w (handed_by e) ≡ true → IsOpen K w h
legal_open K limit (Free t X) h l w m = l.2.open_alone w m
legal_open K limit (Fill t v X) h l w m = l.3.open_alone w m
legal_open K limit (Pass t X) h l w m = one_open K X h l.3 w m
legal_open K limit _ h l w m = absurd (false≢true m)

fits_one : (K : Kind) (limit : ℕ) (e : Entry) (h : List Entry) → IsLegal K limit e h → Fits K e h
fits_one K limit e h l = record {
  task = λ t n. legal_before K limit t e h l n;
  once = legal_once K limit e h l;
  open_alone = legal_open K limit e h l;
}

fits_all : (K : Kind) (limit : ℕ) (e : Entry) (h : List Entry) → IsLegalToAll K limit e h → Fits K e h
fits_all K limit (Free t X) h l = record {
  task = λ u n. subst (λ v. is_live (status K v h) ≡ true) (eqb-true t u n) (free_live (status K t h) (last_call K t h).ran l.1);
  once = l.2.once;
  open_alone = l.2.open_alone;
}
fits_all K limit e h l = fits_one K limit e h l

pub fits : (c : Calls) (K : Kind) (limit : ℕ) (e : Entry) (h : List Entry) → IsLegalBy c K limit e h → Fits K e h
fits ToOne K limit e h l = fits_one K limit e h l
fits ToAll K limit e h l = fits_all K limit e h l

-- a list with a member is not empty
member_some : (X : List ℕ) (w : ℕ) → member w X ≡ true → X ≢ []
member_some [] w m e = false≢true m
member_some (x ∷ X) w m e = cc

-- a list by the rule of all is one by the rule of one if it has one waker at most; and the other way round, if every waker that is due is in it
all_one : (K : Kind) (X : List ℕ) (h : List Entry) → HandsOut K X h → length X ≤ 1 → CallsOne K X h
all_one K X h o l = record { one = l; due = λ w d. member_some X w (o.due w d); open_alone = o.open_alone }

one_all : (K : Kind) (X : List ℕ) (h : List Entry) → CallsOne K X h → ((w : ℕ) → IsDue K w h → member w X ≡ true) → HandsOut K X h
one_all K X h o d = record { once = one_distinct X o.one; due = d; open_alone = o.open_alone }

-- each run does what its rule asks
pub run_one : (K : Kind) (limit : ℕ) (h : List Entry) → IsRun K limit h → CalledOne h
run_one K limit [] r = tt
run_one K limit (Free t X ∷ h) r = (r.0.2.one, run_one K limit h r.1)
run_one K limit (e ∷ h) r = run_one K limit h r.1

pub run_all : (K : Kind) (limit : ℕ) (h : List Entry) → IsRunToAll K limit h → CalledAll K h
run_all K limit [] r = tt
run_all K limit (Free t X ∷ h) r = (r.0.2.due, run_all K limit h r.1)
run_all K limit (e ∷ h) r = run_all K limit h r.1

-- and one that does what the other asks too is a run by both
pub to_one : (K : Kind) (limit : ℕ) (h : List Entry) → IsRunToAll K limit h → CalledOne h → IsRun K limit h
to_one K limit [] r c = tt
to_one K limit (Free t X ∷ h) r c = ((r.0.0, r.0.1, all_one K X h r.0.2 c.0), to_one K limit h r.1 c.1)
to_one K limit (e ∷ h) r c = (r.0, to_one K limit h r.1 c)

pub to_all : (K : Kind) (limit : ℕ) (h : List Entry) → IsRun K limit h → CalledAll K h → IsRunToAll K limit h
to_all K limit [] r c = tt
to_all K limit (Free t X ∷ h) r c = ((r.0.0, r.0.1, one_all K X h r.0.2 c.0), to_all K limit h r.1 c.1)
to_all K limit (e ∷ h) r c = (r.0, to_all K limit h r.1 c)
