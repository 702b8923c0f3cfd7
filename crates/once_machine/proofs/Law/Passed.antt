-- A release without a value wakes one task, and a task that leaves passes its turn on to one. From the run alone.
use Rattle.std.proofs.Common.{◌≡◌, ◌≢◌, ◌≤◌, ℕ, Bool, true, false, ◌==◌, ◌⊎◌, inl, inr, ⊎_elim, List, [], ◌∷◌, Option, length, refl, sym, ap, ◌∙◌, arith}
use Rattle.std.proofs.lemmas.Bool.Decides.{nat_tests}
use Rattle.std.proofs.lemmas.Grind.{common_steps}
use Rattle.std.proofs.lemmas.Bool.{false≢true, eqb-true}
use Rattle.once_machine.specs.Record.{Answer, Claim, End, Entry, Free, Kind, Made, Memory, Pass, Pending, Reply, is_of}
use Rattle.once_machine.specs.Cell.{Empty, cell}
use Rattle.once_machine.specs.Tasks.{Dropping, Gone, Polling, Status, Unmade, is_under_way, last_call, last_call_after, status, status_after}
use Rattle.once_machine.specs.Wakers.{CallsOne, IsDue, IsOpen}
use Rattle.once_machine.specs.Run.{IsLegal, IsRun, MayPass}
use Rattle.once_machine.proofs.Listing.Members.{eqb_self}

-- a task that may pass its turn on is in a poll or a drop
passer_acts : (s : Status) (claimed : Bool) (ran : Option Answer) → MayPass s claimed ran → is_under_way s ≡ true
passer_acts Dropping claimed ran m = refl
passer_acts Polling claimed ran m = refl
passer_acts _ claimed ran m = absurd m

-- so the task of the entry is
passes_acting : (K : Kind) (t u : ℕ) (h : List Entry) → (u == t) ≡ true
    → MayPass (status K u h) (last_call K u h).claimed (last_call K u h).ran → is_under_way (status K t h) ≡ true
passes_acting K t u h e m = ap (λ v. is_under_way (status K v h)) (sym (eqb-true u t e)) ∙ passer_acts (status K u h) (last_call K u h).claimed (last_call K u h).ran m

-- a task in no poll or drop passes nothing on
pub no_pass : (K : Kind) (t u : ℕ) (h : List Entry) → (u == t) ≡ true → is_under_way (status K t h) ≡ false
    → MayPass (status K u h) (last_call K u h).claimed (last_call K u h).ran → ⊥
no_pass K t u h e n m = false≢true (sym n ∙ passes_acting K t u h e m)

-- one waker at most, and not none, is one
one_open : (K : Kind) (X : List ℕ) (h : List Entry) → CallsOne K X h → X ≢ [] → (w : ℕ) × (X ≡ w ∷ []) × IsOpen K w h
one_open K [] h o some = absurd (some refl)
one_open K (w ∷ []) h o some = (w, refl, o.open_alone w (rw (eqb_self w) refl))
one_open K (w ∷ v ∷ X) h o some = let l = o.one in absurd (omega arith)

-- a release without a value hands out one waker at most
pub at_most_one : (K : Kind) (limit t : ℕ) (X : List ℕ) (h : List Entry) → IsRun K limit (Free t X ∷ h) → length X ≤ 1
at_most_one K limit t X h r = r.0.2.one

-- and one that is open if a waker is due
pub one_called : (K : Kind) (limit t d : ℕ) (X : List ℕ) (h : List Entry) → IsRun K limit (Free t X ∷ h) → IsDue K d h → (w : ℕ) × (X ≡ w ∷ []) × IsOpen K w h
one_called K limit t d X h r due = one_open K X h r.0.2 (r.0.2.due d due)

-- a task that passes its turn on finds the cell empty, and hands one open waker out
pub passed_to_one : (K : Kind) (limit t : ℕ) (X : List ℕ) (h : List Entry) → IsRun K limit (Pass t X ∷ h)
    → (cell K h ≡ Empty) × ((w : ℕ) × (X ≡ w ∷ []) × IsOpen K w h)
passed_to_one K limit t X h r = (r.0.0, r.0.3)

-- it does so once in a poll or drop
pub passed_once : (K : Kind) (limit t : ℕ) (X : List ℕ) (h : List Entry) → IsRun K limit (Pass t X ∷ h) → (last_call K t h).passed ≡ false
passed_once K limit t X h r = r.0.2

-- and claims nothing later in it
pub passed_unclaimed : (K : Kind) (limit t : ℕ) (h : List Entry) → IsRun K limit (Claim t ∷ h) → (last_call K t h).passed ≡ false
passed_unclaimed K limit t h r = r.0.3

-- such a poll ends for want of memory
pub passed_refused : (K : Kind) (limit t : ℕ) (a : Reply) (h : List Entry) → IsRun K limit (End t a ∷ h) → (last_call K t h).passed ≡ true → a ≡ Memory
passed_refused K limit t a h r p = ⊎_elim (λ n. absurd (false≢true (sym n ∙ p))) (λ m. m) r.0.2

-- a task is in a poll or a drop, or gone
abbrev IsLeaving : Status → Type 0
IsLeaving s = (is_under_way s ≡ true) ⊎ (s ≡ Gone)

-- a task that was not made did not pass
unmade_stays : (s : Status) → s ≡ Unmade → IsLeaving s → ⊥
unmade_stays s u (inl l) = false≢true (ap is_under_way (sym u) ∙ l)
unmade_stays s u (inr g) = let z : Unmade ≡ Gone = sym u ∙ g in cc

module _ (K : Kind) (limit t : ℕ) where
  -- after an entry of its own
  own_leaves : (e : Entry) (h : List Entry) → is_of t e ≡ true → IsLegal K limit e h
      → ((last_call K t h).passed ≡ true → IsLeaving (status K t h))
      → (last_call_after e (cell K h) (status K t h) (last_call K t h)).passed ≡ true → IsLeaving (status_after e (cell K h) (status K t h))
  own_leaves (Made u) h n l ih p = absurd (unmade_stays (status K t h) (ap (λ v. status K v h) (sym (eqb-true u t n)) ∙ l) (ih p))
  own_leaves (Pass u X) h n l ih p = inl (passes_acting K t u h n l.1)
  own_leaves (End u Pending) h n l ih p =
      let r : Pending ≡ Memory = ⊎_elim (λ f. absurd (false≢true (sym f ∙ ap (λ v. (last_call K v h).passed) (eqb-true u t n) ∙ p))) (λ m. m) l.2 in
      cc
  own_leaves e h n l ih p = grind (arith, nat_tests, common_steps, ih)

  -- by whether the entry is of the task
  leaves_by : (e : Entry) (h : List Entry) (b : Bool) → is_of t e ≡ b → IsLegal K limit e h
      → ((last_call K t h).passed ≡ true → IsLeaving (status K t h)) → (last_call K t (e ∷ h)).passed ≡ true
      → IsLeaving (status K t (e ∷ h))
  leaves_by e h true is l ih p = rw is (own_leaves e h is l ih (rw is at p))
  leaves_by e h false is l ih p = rw is (ih (rw is at p))

  -- a task that passed its turn on is in that poll or drop still, or gone
  pub passer_gone : (h : List Entry) → IsRun K limit h → (last_call K t h).passed ≡ true
      → (is_under_way (status K t h) ≡ true) ⊎ (status K t h ≡ Gone)
  passer_gone [] r p = absurd (false≢true p)
  passer_gone (e ∷ h) r p = leaves_by e h (is_of t e) refl r.0 (passer_gone h r.1) p
