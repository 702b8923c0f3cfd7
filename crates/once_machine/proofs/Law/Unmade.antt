-- A task without a Made is unmade: if all that were made are gone, each task is unmade or gone.
use Rattle.std.proofs.Common.{◌≡◌, ℕ, Bool, true, false, ◌==◌, ◌⊎◌, inl, inr, ⊎_elim, List, [], ◌∷◌, refl, sym, ap, ◌∙◌, subst, arith}
use Rattle.std.proofs.lemmas.Grind.{common_steps}
use Rattle.std.proofs.lemmas.Bool.{false≢true, cases_Bool, eqb-true}
use Rattle.std.proofs.lemmas.Bool.Decides.{nat_tests}
use Rattle.once_machine.specs.Numbers.{member}
use Rattle.once_machine.specs.Record.{Begin, DropBegin, Entry, Free, Kind, Made, Pass, is_of, made_in}
use Rattle.once_machine.specs.Tasks.{Status, Unmade, all_gone, is_gone, is_under_way, last_call, status}
use Rattle.once_machine.specs.Run.{IsLegal, IsRun, MayBegin, MayFree}
use Rattle.once_machine.proofs.Input.Gone.{made_there}
use Rattle.once_machine.proofs.Law.Passed.{no_pass}

-- an unmade task frees nothing
no_free : (K : Kind) (t u : ℕ) (h : List Entry) → (u == t) ≡ true → status K t h ≡ Unmade → MayFree (status K u h) (last_call K u h).ran → ⊥
no_free K t u h e s m =
    let w : status K u h ≡ Unmade = ap (λ v. status K v h) (eqb-true u t e) ∙ s in
    let P : Status → Type 0 = λ x. MayFree x (last_call K u h).ran in
    subst P w m

-- and begins nothing
no_begin : (K : Kind) (t u : ℕ) (h : List Entry) → (u == t) ≡ true → status K t h ≡ Unmade → MayBegin (status K u h) → ⊥
no_begin K t u h e s m =
    let w : status K u h ≡ Unmade = ap (λ v. status K v h) (eqb-true u t e) ∙ s in
    subst MayBegin w m

-- a task that is not made after one more entry was not made before it
made_less : (t : ℕ) (e : Entry) (h : List Entry) → member t (made_in (e ∷ h)) ≡ false → member t (made_in h) ≡ false
made_less t (Made u) h m = grind arith
made_less t _ h m = m

module _ (K : Kind) (limit t : ℕ) where
  -- only a Made is legal for a task that was not made
  first_made : (e : Entry) (h : List Entry) → is_of t e ≡ true → IsLegal K limit e h
      → status K t h ≡ Unmade → member t (made_in (e ∷ h)) ≡ true
  first_made (Begin u w) h n l s = absurd (no_begin K t u h n s l)
  first_made (DropBegin u) h n l s = absurd (no_begin K t u h n s l)
  first_made (Free u X) h n l s = absurd (no_free K t u h n s l.1)
  first_made (Pass u X) h n l s = absurd (no_pass K t u h n (ap is_under_way s) l.1)
  first_made e h n l s = grind (arith, nat_tests, common_steps)

  -- by whether the entry is of the task
  unmade_by : (e : Entry) (h : List Entry) (b : Bool) → is_of t e ≡ b
      → IsLegal K limit e h → member t (made_in (e ∷ h)) ≡ false → status K t h ≡ Unmade → status K t (e ∷ h) ≡ Unmade
  unmade_by e h true is l m s = absurd (false≢true (sym m ∙ first_made e h is l s))
  unmade_by e h false is l m s = rw is s

  -- in a run a task without a Made is unmade
  unmade_status : (h : List Entry) → IsRun K limit h → member t (made_in h) ≡ false → status K t h ≡ Unmade
  unmade_status [] r m = refl
  unmade_status (e ∷ h) r m = unmade_by e h (is_of t e) refl r.0 m (unmade_status h r.1 (made_less t e h m))

  -- if all that were made are gone, each task is unmade or gone
  pub over_all : (h : List Entry) → IsRun K limit h → all_gone K h ≡ true → (status K t h ≡ Unmade) ⊎ (is_gone (status K t h) ≡ true)
  over_all h r a = ⊎_elim (λ e. inr (made_there K t (made_in h) h a e)) (λ e. inl (unmade_status h r e)) (cases_Bool (member t (made_in h)))
