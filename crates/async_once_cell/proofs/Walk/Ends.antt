-- What is known of a call that has ended.
use Rattle.std.proofs.Common.{◌≡◌, ℕ, Bool, true, false, [], ◌∷◌, refl, sym, ap, ◌∙◌, subst}
use Rattle.std.specs.Prelude.{⊤}
use Rattle.std.proofs.lemmas.Bool.{false≢true}
use Rattle.once_machine.specs.Steps.{in_call}
use Rattle.once_machine.specs.declared.step.Ending.TheVariants.{Dropped as EndDropped, Error as EndError, Pending as EndPending, Value as EndValue}
use Rattle.once_machine.specs.declared.step.Progress.TheVariants.{Ended}
use Rattle.once_machine.specs.declared.step.Ending.{Ending}
use Rattle.once_machine.specs.declared.step.Step.TheVariants.{Finished, Resting, UnderWay}
use Rattle.once_machine.specs.declared.step.Progress.{Progress}
use Rattle.once_machine.specs.declared.step.Step.{Step}
use Rattle.once_machine.specs.Record.{Entry}
use Rattle.once_machine.specs.declared.record.Ran.{Ran as Answer}
use Rattle.once_machine.specs.Machine.{end_entry, progress_entries}
use Rattle.async_once_cell.specs.Kept.{Grew}
use Rattle.async_once_cell.specs.Inner.Own.{Own}
use Rattle.async_once_cell.specs.Inner.Sides.{IsReady, Sided}
use Rattle.async_once_cell.specs.Walks.{Fits, MayEnd, Rests, Stands, Walked, end_of}

-- a call ended once
same_end : (r : Progress) (d e : Ending) → r ≡ Ended d → r ≡ Ended e → d ≡ e
same_end r d e a b = let same : Ended d ≡ Ended e = sym a ∙ b in cc

-- its entry, by how it may end
entry_is : (drops : Bool) (y : Sided) (w : Own) (e : Ending) → MayEnd drops y w e → end_entry e w.number 0 w.task.kept ≡ end_of w.number e
entry_is true y w EndDropped m = refl
entry_is true y w _ m = absurd m
entry_is false y w EndDropped m = absurd m
entry_is false y w EndError m = ap (λ (k : Answer). end_entry EndError w.number 0 k) m.1
entry_is false y w _ m = refl

-- a drop ends as one
only_dropped : (y : Sided) (w : Own) (e : Ending) → MayEnd true y w e → e ≡ EndDropped
only_dropped y w EndDropped m = refl
only_dropped y w _ m = absurd m

-- an error was given
error_given : (y : Sided) (w : Own) (e : Ending) → MayEnd false y w e → e ≡ EndError → y.has_error ≡ true
error_given y w e m is = (subst (MayEnd false y w) is m).0

-- no value is left that an init gave
none_left : (y : Sided) (w : Own) (e : Ending) → MayEnd false y w e → e ≡ EndValue → y.has_value ≡ false
none_left y w e m is = subst (MayEnd false y w) is m

-- a call that ended told how
pub told_end : (y : Sided) (w : Own) (drops : Bool) (r : Progress) {W : Type 0} (s : Step W ⊤) → Fits drops y w r s → in_call s ≡ false → (e : Ending) × (r ≡ Ended e)
told_end y w drops r (UnderWay p) f over = absurd (false≢true (sym over))
told_end y w drops r (Resting rest) f over = (EndPending, f.0)
told_end y w drops r Finished f over = (f.0, f.1)

-- a poll that ended so
pub record PollEnded {W : Type 0} (whose : W → ℕ) (y : Sided) (v w : Own) (e : Ending) (s : Step W ⊤) : Type 0 where
  pub end : Grew (end_of w.number e ∷ []) v.log w.log
  pub entry : end_entry e w.number 0 w.task.kept ≡ end_of w.number e
  pub error : e ≡ EndError → y.has_error ≡ true
  pub init : e ≡ EndPending → IsReady y
  pub none : e ≡ EndValue → y.has_value ≡ false
  pub pending : e ≡ EndPending → Rests whose w s
  pub finished : (e ≡ EndPending → ⊥) → s ≡ Finished
  pub poll : e ≡ EndDropped → ⊥

-- the newest entry is that of its end
end_is : {x y : Sided} {v w : Own} {r : Progress} {e : Ending} → r ≡ Ended e → Walked x v r y w → end_entry e w.number 0 w.task.kept ≡ end_of w.number e → Grew (end_of w.number e ∷ []) v.log w.log
end_is {v = v} {w = w} told m is = subst (λ es. Grew es v.log w.log) (ap (λ p. progress_entries p w.number 0 w.task.kept) told ∙ ap (λ (l : Entry). l ∷ []) is) m.ends

module _ {W : Type 0} {whose : W → ℕ} {x y : Sided} {v w : Own} {r : Progress} {e : Ending} (told : r ≡ Ended e) where
  -- a poll ends so
  pub poll_ended : (s : Step W ⊤) → Walked x v r y w → Stands whose false y w r s → in_call s ≡ false → PollEnded whose y v w e s
  poll_ended (UnderWay p) m is over = absurd (false≢true (sym over))
  poll_ended (Resting rest) m is over =
      let pends : e ≡ EndPending = same_end r e EndPending told is.fits.0 in
      let entry = ap (λ d. end_entry d w.number 0 w.task.kept) pends ∙ ap (end_of w.number) (sym pends) in
      record {
        end = end_is told m entry;
        entry = entry;
        error = λ err. let no : EndPending ≡ EndError = sym pends ∙ err in let never : ⊥ = cc in absurd never;
        init = λ p. is.fits.1.1;
        none = λ v. is.fits.1.1.1;
        pending = λ p. (refl, is.step);
        finished = λ no. absurd (no pends);
        poll = λ d. let no : EndPending ≡ EndDropped = sym pends ∙ d in cc;
      }
  poll_ended Finished m is over =
      let same : is.fits.0 ≡ e = same_end r is.fits.0 e is.fits.1 told in
      let may : MayEnd false y w e = subst (MayEnd false y w) same is.fits.2 in
      record {
        end = end_is told m (entry_is false y w e may);
        entry = entry_is false y w e may;
        error = error_given y w e may;
        init = λ p. absurd (subst (MayEnd false y w) p may);
        none = none_left y w e may;
        pending = λ p. absurd (subst (MayEnd false y w) p may);
        finished = λ no. refl;
        poll = λ d. subst (MayEnd false y w) d may;
      }

  -- a drop ends so
  pub drop_ended : (s : Step W ⊤) → Walked x v r y w → Stands whose true y w r s → in_call s ≡ false
      → Grew (end_of w.number EndDropped ∷ []) v.log w.log × (end_entry e w.number 0 w.task.kept ≡ end_of w.number EndDropped)
  drop_ended (UnderWay p) m is over = absurd (false≢true (sym over))
  drop_ended (Resting rest) m is over = absurd (false≢true (sym is.fits.1.0.0))
  drop_ended Finished m is over =
      let same : is.fits.0 ≡ e = same_end r is.fits.0 e is.fits.1 told in
      let may : MayEnd true y w e = subst (MayEnd true y w) same is.fits.2 in
      let is = only_dropped y w e may in
      (subst (λ d. Grew (end_of w.number d ∷ []) v.log w.log) is (end_is told m (entry_is true y w e may)), entry_is true y w e may ∙ ap (end_of w.number) is)
