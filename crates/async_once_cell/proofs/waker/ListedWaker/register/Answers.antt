-- The waker wakes the task of the context as it was, which is that of the context as it is.
use Rattle.std.proofs.Common.{◌≡◌, ◌⊎◌, Bool, true, false, cond, [], ◌∷◌, Option, None, Some, refl, sym, inl, inr, ⊎_elim, subst}
use Rattle.std.specs.Prelude.{IfSome, IsSomeAnd}
use Rattle.std.specs.Arc.{arc_value}
use Rattle.std.proofs.lemmas.Bool.{false≢true}
use Rattle.futures.specs.declared.task.context.Context.{Context}
use Rattle.futures.specs.declared.task.waker.Waker.{Waker}
use Rattle.futures.specs.Task.{Holds, Lasting, Wakes}
use Rattle.async_once_cell.specs.Waking.{WakesNamed}
use Rattle.async_once_cell.proofs.waker.ListedWaker.register.Goals as goal

-- a waker that was made wakes the task that is named, and none is named if none could be made
named_by : (lacks : Bool) (cx : Context) (w : Option Waker) (x : Waker) → w ≡ Some x
    → (lacks ≡ true) ⊎ IsSomeAnd w (λ waker. Wakes waker cx)
    → WakesNamed (cond lacks [] (cx.turn.task ∷ (arc_value cx.route.now).origin.executor ∷ (arc_value cx.route.now).origin.queue ∷ [])) x
named_by true cx w x is made = λ named. absurd (named refl)
named_by false cx w x is made = λ _. ⊎_elim (λ e. absurd (false≢true e)) (λ s. rw s.0 (rw s.1 refl))
    (subst (λ o. (false ≡ true) ⊎ IsSomeAnd o (λ waker. Wakes waker cx)) is made)

pub returns-clause-wakes : goal.returns-clause-wakes
unfolding Holds
returns-clause-wakes c = ⊎_elim inl
    (λ s. inr (subst (λ cx. IsSomeAnd c.register.new.slot (λ waker. Wakes waker cx)) (c.register.ensures.kept (Lasting.same_task c.args.cx.now) refl) s))
    c.register.ensures.left

pub invariant_of-self : goal.invariant_of-self
unfolding Holds
invariant_of-self c =
    let now = c.register.new.self in
    record {
      wakes = λ x is. subst (λ ns. WakesNamed ns x) (sym c.of.ensures) (named_by now.lacks_waker now c.register.new.slot x is (⊎_elim inl
          (λ s. inr (subst (λ cx. IsSomeAnd c.register.new.slot (λ waker. Wakes waker cx)) (c.register.ensures.kept (Lasting.same_task c.args.cx.now) refl) s))
          c.register.ensures.left));
    }
