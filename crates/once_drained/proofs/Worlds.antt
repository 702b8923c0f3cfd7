-- The same of the worlds of the program.
use Rattle.std.proofs.Common.{◌≡◌, ◌<◌, ◌+◌, ℕ, cond, ◌==◌, length, take, get_or, true, false, ⊎_elim, List, [], ◌∷◌, ◌++◌, None, sym, ap, ◌∙◌, subst, replicate}
use Rattle.std.proofs.lemmas.Bool.{cases_eq, cases_Bool, eqb-true}
use Rattle.std.proofs.lemmas.Grind.{take_at_read}
use Rattle.once_machine.specs.Numbers.{member}
use Rattle.once_machine.specs.Record.{Kind}
use Rattle.once_machine.specs.declared.record.Ran.{Ran as Answer}
use Rattle.once_machine.specs.Inputs.{Go, Input, Poll}
use Rattle.once_machine.specs.Machine.{World, in_call, step_of, world_of}
use Rattle.once_machine.proofs.Listing.Members.{member-push}
use Rattle.once_script.specs.declared.world.play.World.{World as CodeWorld}
use Rattle.once_script.specs.Reached.{IsAfter}
use Rattle.once_script.specs.WorldShown.{world_in}
use Rattle.once_drained.specs.Drained.{HasReason, record_of}
use Rattle.once_drained.specs.Turn.{IsAlone, IsQuiet}
use Rattle.once_drained.proofs.Moves.{Moved, steps_end, steps_moved}
use Rattle.once_drained.proofs.Polled.{Polled, polled}

-- what holds of each number of a list holds with one more
pub each_push : (P : ℕ → Type 0) (t : ℕ) (ts : List ℕ) → ((u : ℕ) → member u ts ≡ true → P u) → P t → (u : ℕ) → member u (ts ++ t ∷ []) ≡ true → P u
each_push P t ts each p u m = ⊎_elim (λ e. each u e) (λ e.
    let last : (t == u) ≡ true = sym (ap (λ b. cond b true (t == u)) e) ∙ sym (member-push u t ts) ∙ m in
    subst P (eqb-true t u last) p) (cases_Bool (member u ts))

pub each_more : (P : ℕ → Type 0) (X : List ℕ) (i : ℕ) → i < length X → ((u : ℕ) → member u (take i X) ≡ true → P u) → P (get_or X i 0)
    → (u : ℕ) → member u (take (i + 1) X) ≡ true → P u
each_more P X i l each p u m = each_push P (get_or X i 0) (take i X) each p u (ap (member u) (sym ((take_at_read X i 0 l).1)) ∙ m)

module _ (K : Kind) (t : ℕ) (a : Answer) (w w' : World) (m : Moved K t a w w') where
  -- a task that was not there is not there after steps of t
  pub still_unmade : (u : ℕ) → w.tasks u ≡ None → w'.tasks u ≡ None
  still_unmade u e = ⊎_elim
      (λ same. subst (λ v. w'.tasks v ≡ None) same (m.unmade (ap (λ v. w.tasks v) same ∙ e)))
      (λ d. m.others u d ∙ e) (cases_eq t u)

  -- a task that is in no call is in none after steps that ended the call of t
  pub still_quiet : in_call (step_of (w'.tasks t)) ≡ false → (u : ℕ) → in_call (step_of (w.tasks u)) ≡ false → in_call (step_of (w'.tasks u)) ≡ false
  still_quiet q u e = ⊎_elim
      (λ same. subst (λ v. in_call (step_of (w'.tasks v)) ≡ false) same q)
      (λ d. ap (λ o. in_call (step_of o)) (m.others u d) ∙ e) (cases_eq t u)

module _ (K : Kind) (limit t : ℕ) (a : Answer) (inputs : List Input) (w w' : CodeWorld) (x : IsAfter K limit inputs w) where
  pub ran_moved : IsAfter K limit (replicate 16 (Go t a true) ++ inputs) w' → Moved K t a (world_in w) (world_in w')
  ran_moved y = subst (λ v. Moved K t a v (world_in w')) (sym x.world) (subst (Moved K t a (world_of K limit inputs)) (sym y.world) (steps_moved K t a limit inputs 16))

  pub ran_quiet : IsAfter K limit (replicate 16 (Go t a true) ++ inputs) w' → in_call (step_of ((world_in w').tasks t)) ≡ false
  ran_quiet y = ap (λ v. in_call (step_of (v.tasks t))) y.world ∙ steps_end K t a limit inputs x.some

  pub polled_so : (k : ℕ) → IsAfter K limit (replicate 16 (Go t a true) ++ (Poll t k ∷ inputs)) w' → IsQuiet (world_in w) → IsAlone t (world_in w)
      → HasReason K t (record_of w) → Polled K t a (world_in w) (world_in w')
  polled_so k y quiet alone reason =
      let is = x.world in
      let p = polled K limit t k a inputs x.some 16
      (steps_end K t a limit (Poll t k ∷ inputs) x.some) (subst IsQuiet is quiet) (subst (IsAlone t) is alone) (subst (λ v. HasReason K t v.history) is reason) in
      subst (λ v. Polled K t a v (world_in w')) (sym is) (subst (Polled K t a (world_of K limit inputs)) (sym y.world) p)
