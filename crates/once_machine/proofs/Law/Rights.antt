-- The right to initialise: one task holds it, it alone releases it, and a value that is set lasts. From the run alone.
use Rattle.std.proofs.Common.{◌≡◌, ◌≢◌, ℕ, Bool, true, false, ◌==◌, ◌⊎◌, ⊎_elim, List, [], ◌∷◌, Option, Some, refl, sym, ap, ◌∙◌, subst, arith}
use Rattle.std.proofs.lemmas.Grind.{common_steps}
use Rattle.std.proofs.lemmas.Bool.{false≢true, eqb-true, eq-eqb}
use Rattle.std.proofs.lemmas.Bool.Decides.{nat_tests}
use Rattle.once_machine.specs.Record.{Answer, End, Entry, Error, Fill, Free, Kind, Own, Pass, Pending, Ran, RanError, is_of, is_own}
use Rattle.once_machine.specs.Cell.{Cell, Empty, Held, SetTo, answers_left, cell}
use Rattle.once_machine.specs.Tasks.{Dropping, Holding, Polling, Status, Unmade, all_gone, is_gone, is_under_way, last_call, pending_status, status, status_after}
use Rattle.once_machine.specs.Run.{IsLegal, IsRun, MayEnd, MayFree}
use Rattle.once_machine.proofs.History.Others.{set_stays_after}
use Rattle.once_machine.proofs.History.Cells.{same_holder}
use Rattle.once_machine.proofs.Law.Passed.{no_pass}
use Rattle.once_machine.proofs.Law.Unmade.{over_all}

-- one cell has one holder
others_held : (K : Kind) (t u : ℕ) (h : List Entry) → (u == t) ≡ false → cell K h ≡ Held u → cell K h ≡ Held t → ⊥
others_held K t u h n a b = false≢true (sym n ∙ eq-eqb u t (same_holder u t (sym a ∙ b)))

-- a poll that ended Pending and holds is the holder
pending_holding : (u : ℕ) (c : Cell) → pending_status u c ≡ Holding → c ≡ Held u
pending_holding u (Held k) e = grind (arith, nat_tests)
pending_holding u _ e = grind arith

-- a task at rest does not free the cell
free_holding : (K : Kind) (t u : ℕ) (h : List Entry) → (u == t) ≡ true → status K t h ≡ Holding → MayFree (status K u h) (last_call K u h).ran → ⊥
free_holding K t u h e s m =
    let w : status K u h ≡ Holding = ap (λ v. status K v h) (eqb-true u t e) ∙ s in
    let P : Status → Type 0 = λ x. MayFree x (last_call K u h).ran in
    subst P w m

-- a task that holds was made
not_unmade : Holding ≡ Unmade → ⊥
not_unmade e = cc

-- no task is in a drop and in a poll
dropping_polls : (K : Kind) (t u : ℕ) (h : List Entry) → cell K h ≡ Held t → cell K h ≡ Held u → status K t h ≡ Dropping → status K u h ≡ Polling → ⊥
dropping_polls K t u h a b s p =
    let same : status K t h ≡ status K u h = ap (λ v. status K v h) (same_holder t u (sym a ∙ b)) in
    let z : ⊥ = cc in z

not_unmade_dropping : Dropping ≡ Unmade → ⊥
not_unmade_dropping e = cc

module _ (K : Kind) (limit t : ℕ) where
  -- a task that is about keeps the owner out
  pub live : (h : List Entry) {s : Status} → IsRun K limit h → status K t h ≡ s
      → is_gone s ≡ false → s ≢ Unmade → all_gone K h ≡ true → ⊥
  live h r e n m a = ⊎_elim (λ u. m (sym e ∙ u)) (λ g. false≢true (sym n ∙ ap is_gone (sym e) ∙ g)) (over_all K limit t h r a)

  -- the right stays with its holder through the entries of others
  held_kept : (e : Entry) (h : List Entry) → is_of t e ≡ false → IsLegal K limit e h
      → (all_gone K h ≡ true → ⊥) → cell K h ≡ Held t → cell K (e ∷ h) ≡ Held t
  held_kept (Free u X) h n l g c = absurd (others_held K t u h n l.0 c)
  held_kept (Fill u v X) h n l g c = absurd (others_held K t u h n l.0 c)
  held_kept e h n l g c = grind (arith, common_steps, g)

  -- an entry after which its task rests with the right leaves it the right
  own_holding : (e : Entry) (h : List Entry) → is_of t e ≡ true → IsLegal K limit e h
      → status_after e (cell K h) (status K t h) ≡ Holding → cell K (e ∷ h) ≡ Held t
  own_holding (Free u X) h n l s = absurd (free_holding K t u h n s l.1)
  own_holding (Pass u X) h n l s = absurd (no_pass K t u h n (ap is_under_way s) l.1)
  own_holding (End u Pending) h n l s = pending_holding u (cell K h) s ∙ ap (λ v. Held v) (eqb-true u t n)
  own_holding e h n l s = grind (arith, nat_tests, common_steps)

  -- its entries and those of others
  holding_by : (e : Entry) (h : List Entry) (b : Bool) → is_of t e ≡ b → IsRun K limit (e ∷ h)
      → (status K t h ≡ Holding → cell K h ≡ Held t) → status K t (e ∷ h) ≡ Holding → cell K (e ∷ h) ≡ Held t
  holding_by e h true is r ih s = own_holding e h is r.0 (rw is at s)
  holding_by e h false is r ih s =
      let s' : status K t h ≡ Holding = rw is at s in
      held_kept e h is r.0 (live h r.1 s' refl not_unmade) (ih s')

  -- a task that rests with the right has it
  pub holding_holds : (h : List Entry) → IsRun K limit h → status K t h ≡ Holding → cell K h ≡ Held t
  holding_holds [] r s = grind arith
  holding_holds (e ∷ h) r s = holding_by e h (is_of t e) refl r (λ k. holding_holds h r.1 k) s

  -- a holder that is dropped leaves the cell empty, and a lazy one with the same answers left
  pub dropped_holder : (e : Entry) (h : List Entry) → IsRun K limit (e ∷ h)
      → status K t h ≡ Dropping → cell K h ≡ Held t
      → (answers_left K (e ∷ h) ≡ answers_left K h) × ((cell K (e ∷ h) ≡ Held t) ⊎ (cell K (e ∷ h) ≡ Empty))
  dropped_holder (Ran u a) h r s c = absurd (dropping_polls K t u h c r.0.0 s r.0.1)
  dropped_holder (Fill u v X) h r s c = absurd (dropping_polls K t u h c r.0.0 s r.0.1)
  dropped_holder (Own o g) h r s c = absurd (live h r.1 s refl not_unmade_dropping r.0.0)
  dropped_holder e h r s c = grind (arith, common_steps)

-- at most one task holds the right
pub one_holder : (K : Kind) (limit t u : ℕ) (h : List Entry) → IsRun K limit h → status K t h ≡ Holding → status K u h ≡ Holding → t ≡ u
one_holder K limit t u h r a b = same_holder t u (sym (holding_holds K limit t h r a) ∙ holding_holds K limit u h r b)

-- the value that is set lasts until the owner's call
pub value_lasts : (K : Kind) (limit : ℕ) (e : Entry) (h : List Entry) (v : ℕ) → IsRun K limit (e ∷ h)
    → is_own e ≡ false → cell K h ≡ SetTo v → cell K (e ∷ h) ≡ SetTo v
value_lasts K limit e h v r n c = set_stays_after K e limit h v n r.0 c

-- by what the init answered
error_by : (K : Kind) (limit t e : ℕ) (h : List Entry) (a : Option Answer) → MayEnd K limit t (Error e) a h
    → (a ≡ Some (RanError e)) × ((last_call K t h).freed ≡ true)
error_by K limit t e h (Some (RanError f)) m = (ap (λ (k : ℕ). Some (RanError k)) (sym m.0), m.1)
error_by K limit t e h _ m = absurd m

-- an error goes to the caller whose own init gave it, after it freed the cell
pub own_error : (K : Kind) (limit t e : ℕ) (h : List Entry) → IsRun K limit (End t (Error e) ∷ h)
    → ((last_call K t h).ran ≡ Some (RanError e)) × ((last_call K t h).freed ≡ true)
own_error K limit t e h r = error_by K limit t e h (last_call K t h).ran r.0.1

-- the task that polls the init holds the right
pub runner_holds : (K : Kind) (limit t : ℕ) (a : Answer) (h : List Entry) → IsRun K limit (Ran t a ∷ h) → cell K h ≡ Held t
runner_holds K limit t a h r = r.0.0
