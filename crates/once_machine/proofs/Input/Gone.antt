-- Every made task is gone exactly if no task is unfinished.
use Rattle.std.proofs.Common.{◌≡◌, ℕ, Bool, true, false, ◌==◌, ◌⊎◌, inl, inr, ⊎_elim, List, [], ◌∷◌, Option, Some, None, refl, sym, ap, ◌∙◌, subst, arith}
use Rattle.std.proofs.lemmas.Grind.{common_steps}
use Rattle.std.specs.Prelude.{not}
use Rattle.std.proofs.lemmas.Bool.{false≢true, true≢false, cases_Bool, eqb-true, false_from_ne_true}
use Rattle.std.proofs.lemmas.Bool.Decides.{nat_tests}
use Rattle.once_machine.specs.Numbers.{member}
use Rattle.once_machine.specs.Record.{Entry, Kind, made_in}
use Rattle.once_machine.specs.Cell.{cell}
use Rattle.once_machine.specs.Tasks.{Gone, Status, Unmade, all_gone, are_gone, is_gone, is_under_way, status}
use Rattle.once_machine.specs.Machine.{Finished, SharedState, Rest, RestStart, Resting, Step, Task, UnderWay, World, is_finished}
use Rattle.once_machine.proofs.Listing.Members.{eqb_self}
use Rattle.once_machine.proofs.History.Others.{holds}
use Rattle.once_machine.proofs.Listing.Counting.{count_none, count_positive}
use Rattle.once_machine.proofs.Invariant.Facts.{AtRest, AtStep, InStatus}
use Rattle.once_machine.proofs.Invariant.Fits.{Fits, StandsFor, TaskFits, is_alive}
use Rattle.once_machine.proofs.Invariant.Around.{place_acts}

-- a task that is not alive is finished
pub finished : (s : Step ℕ ℕ) → not (is_finished s) ≡ false → s ≡ Finished
finished Finished e = refl
finished _ e = absurd (true≢false e)

-- a task that is alive was made
alive_made : (K : Kind) (limit t : ℕ) (w : World) → Fits K limit w → is_alive (w.tasks t) ≡ true → member t (made_in w.history) ≡ true
alive_made K limit t w f a = ⊎_elim (λ e. e) (λ e. absurd (false≢true (ap is_alive (sym (f.made_all t e)) ∙ a))) (cases_Bool (member t (made_in w.history)))

-- if none is unfinished, no task is alive
pub none_alive : (K : Kind) (limit t : ℕ) (w : World) → Fits K limit w → w.unfinished ≡ 0 → is_alive (w.tasks t) ≡ false
none_alive K limit t w f z = false_from_ne_true (is_alive (w.tasks t)) (λ a.
    let n = count_positive t (made_in w.history) (λ u. is_alive (w.tasks u)) (alive_made K limit t w f a) a in
    let s = f.unfinished_is in
    let no : ⊥ = omega arith in no)

-- what a task that is not there or finished is in the history
pub record Over (K : Kind) (t : ℕ) (h : List Entry) : Type 0 where
  pub status_is : (status K t h ≡ Unmade) ⊎ (status K t h ≡ Gone)
  pub holds_is : holds t (cell K h) ≡ false

-- a finished task is gone
pub over_at : (K : Kind) (limit t : ℕ) (c : SharedState) (h : List Entry) (x : Task) → TaskFits K limit t c h x
    → is_alive (Some x) ≡ false → InStatus K t h Gone false
over_at K limit t c h x a d = subst (λ s. AtStep K limit t c h s) (finished x.step d) a.step

-- a task that is not alive is unmade or gone
pub over : (K : Kind) (limit t : ℕ) (c : SharedState) (h : List Entry) (o : Option Task) → StandsFor K limit t c h o → is_alive o ≡ false → Over K t h
over K limit t c h None a d = record { status_is = inl a.0.status_is; holds_is = a.0.holds_is }
over K limit t c h (Some x) a d = let r = over_at K limit t c h x a d in record { status_is = inr r.status_is; holds_is = r.holds_is }

-- all of a list are gone
pub gone_list : (K : Kind) (ns : List ℕ) (h : List Entry) → ((t : ℕ) → member t ns ≡ true → is_gone (status K t h) ≡ true) → are_gone K ns h ≡ true
gone_list K [] h f = refl
gone_list K (x ∷ xs) h f =
    let here = f x (rw (eqb_self x) refl) in
    let ih = gone_list K xs h (λ t m. f t (grind arith)) in
    rw here ih

-- a made task that is not alive is gone
made_gone : (K : Kind) (limit t : ℕ) (w : World) (o : Option Task) → Fits K limit w → w.tasks t ≡ o
    → StandsFor K limit t w.shared w.history o → is_alive o ≡ false → member t (made_in w.history) ≡ true
    → is_gone (status K t w.history) ≡ true
made_gone K limit t w None f is a d m = absurd (false≢true (sym (f.made_only t is) ∙ m))
made_gone K limit t w (Some x) f is a d m = let r = over_at K limit t w.shared w.history x a d in ap is_gone r.status_is

-- if none is unfinished, every made task is gone
pub done_gone : (K : Kind) (limit : ℕ) (w : World) → Fits K limit w → w.unfinished ≡ 0 → all_gone K w.history ≡ true
done_gone K limit w f z = gone_list K (made_in w.history) w.history (λ t m. made_gone K limit t w (w.tasks t) f refl (f.tasks t) (none_alive K limit t w f z) m)

-- a made task is gone if all are
pub made_there : (K : Kind) (t : ℕ) (ns : List ℕ) (h : List Entry) → are_gone K ns h ≡ true → member t ns ≡ true → is_gone (status K t h) ≡ true
made_there K t [] h a m = absurd (false≢true m)
made_there K t (x ∷ xs) h a m =
    let here : is_gone (status K x h) ≡ true = grind arith in
    let there : are_gone K xs h ≡ true = grind arith in
    ⊎_elim (λ e. subst (λ v. is_gone (status K v h) ≡ true) (eqb-true x t e) here) (λ e. made_there K t xs h there (rw e at m)) (cases_Bool (x == t))

-- a task that acts is not gone
acts_not_gone : (s : Status) → is_under_way s ≡ true → is_gone s ≡ true → ⊥
acts_not_gone s a g = grind (arith, common_steps)

-- a task that rests is not gone
rest_not_gone : (K : Kind) (limit t : ℕ) (c : SharedState) (h : List Entry) (r : Rest ℕ) → AtRest K limit t c h r → is_gone (status K t h) ≡ true → ⊥
rest_not_gone K limit t c h RestStart a g = false≢true (sym (ap is_gone a.status_is) ∙ g)
rest_not_gone K limit t c h _ a g = false≢true (sym (ap is_gone a.0.status_is) ∙ g)

-- a task that is gone is finished
gone_finished : (K : Kind) (limit t : ℕ) (c : SharedState) (h : List Entry) (s : Step ℕ ℕ) → AtStep K limit t c h s
    → is_gone (status K t h) ≡ true → not (is_finished s) ≡ false
gone_finished K limit t c h (Resting r) a g = absurd (rest_not_gone K limit t c h r a.0 g)
gone_finished K limit t c h (UnderWay p) a g = absurd (acts_not_gone (status K t h) (place_acts K limit t c h p a) g)
gone_finished K limit t c h Finished a g = refl

-- so is a task of the world
gone_dead : (K : Kind) (limit t : ℕ) (w : World) (o : Option Task) → StandsFor K limit t w.shared w.history o
    → is_gone (status K t w.history) ≡ true → is_alive o ≡ false
gone_dead K limit t w None a g = refl
gone_dead K limit t w (Some x) a g = gone_finished K limit t w.shared w.history x.step a.step g

-- if every made task is gone, none is unfinished
gone_done : (K : Kind) (limit : ℕ) (w : World) → Fits K limit w → all_gone K w.history ≡ true → w.unfinished ≡ 0
gone_done K limit w f g =
    let dead : (t : ℕ) → is_alive (w.tasks t) ≡ false = λ t. false_from_ne_true (is_alive (w.tasks t)) (λ a.
    false≢true (sym (gone_dead K limit t w (w.tasks t) (f.tasks t) (made_there K t (made_in w.history) w.history g (alive_made K limit t w f a))) ∙ a)) in
    f.unfinished_is ∙ count_none (made_in w.history) (λ n. is_alive (w.tasks n)) dead

-- two tests that imply each other are one
gone_by : (g : Bool) (n : ℕ) → (g ≡ true → n ≡ 0) → (n ≡ 0 → g ≡ true) → g ≡ (n == 0)
gone_by g n a b = grind (arith, nat_tests)

-- every made task is gone exactly if none is unfinished
pub gone_is : (K : Kind) (limit : ℕ) (w : World) → Fits K limit w → all_gone K w.history ≡ (w.unfinished == 0)
gone_is K limit w f = gone_by (all_gone K w.history) w.unfinished (gone_done K limit w f) (done_gone K limit w f)
