-- A release of the list, and a task that leaves it, do on the page what the machine does, and hand out the wakers of the tasks that the page names.
use Rattle.std.proofs.Common.{◌≡◌, ℕ, Bool, true, false, List, [], ◌∷◌, map, Option, Some, None, ⊎_elim, refl, sym, ap, ◌∙◌}
use Rattle.std.specs.Option.{option_to_list}
use Rattle.std.specs.List.{cons_option}
use mathlib.Core.Logic.{∥∥₁_elim}
use base.Stored.{Coded-set, coded_list, coded_ℕ}
use Rattle.once_machine.specs.declared.waiters.Listing.{Listing}
use Rattle.once_machine.specs.declared.step.Out.{Out}
use Rattle.once_machine.specs.Listings.{left_list, next_waker, passes_turn, wakers_of}
use Rattle.once_machine.specs.Sections.{HandsAll, HandsBy, Releases}
use Rattle.once_machine.specs.Machine.{release_list, release_wakers}
use Rattle.async_once_cell.specs.Inner.Named.{named, named_one, named_out}
use Rattle.async_once_cell.proofs.Moments.Named.{call_named, first_named, left_named, next_named, passes_named, wakers_named}

module _ {W : Type 0} (same other : W → W → Type 0) (apart : (v w : W) → same v w → ⊥) where
  -- if no two wakers are told to be the same, the waker of a listing leaves it
  leaves_at : (seen : List W) (o p : Option W) → HandsBy same other seen o p → p ≡ o
  leaves_at seen None p h = h
  leaves_at seen (Some w) p h = ⊎_elim (λ e. absurd (apart _ w (e.1.2 w))) (λ e. e.0) h

  -- so all leave
  all_leave : (seen : List W) (xs os : List (Listing W)) → HandsAll same other seen xs os → wakers_of os ≡ wakers_of xs
  all_leave seen [] [] h = refl
  all_leave seen (x ∷ xs) (o ∷ os) h = ap (λ p. cons_option p (wakers_of os)) (leaves_at seen x.waker o.waker h.1) ∙ ap (cons_option x.waker) (all_leave (cons_option x.waker seen) xs os h.2)
  all_leave seen [] (o ∷ os) h = absurd h
  all_leave seen (x ∷ xs) [] h = absurd h

module _ {W : Type 0} (whose : W → ℕ) where
  -- the list that a release leaves is the page's
  pub released_list : (same other : W → W → Type 0) (v : Bool) (xs xs' : List (Listing W)) (out : Out W) → Releases same other v xs out xs'
      → named whose xs' ≡ release_list v (named whose xs)
  released_list same other true xs xs' out r = ap (named whose) r.3
  released_list same other false xs xs' out r = ap (named whose) r.1 ∙ sym (call_named whose xs)

  -- a release hands out the tasks that the page names: one without a value the first whose listing has a waker, one with the value all, if the page has each waker once
  pub released_out : (same other : W → W → Type 0) → ((v w : W) → same v w → ⊥) → (v : Bool) (xs xs' : List (Listing W)) (out : Out W) → Releases same other v xs out xs'
      → (v ≡ true → release_wakers true (named whose xs) ≡ wakers_of (named whose xs)) → named_out whose out ≡ release_wakers v (named whose xs)
  released_out same other apart false xs xs' out r each = ap (named_out whose) r.0 ∙ ap option_to_list (sym (first_named whose xs))
  released_out same other apart true xs xs' out r each =
      ap (named_out whose) r.1
      ∙ ∥∥₁_elim r.2 (Coded-set (coded_list coded_ℕ) _ _)
      (λ h. ap (map whose) (all_leave same other apart [] xs r.0.items h) ∙ sym (wakers_named whose xs) ∙ sym (each refl))

  module _ (free : Bool) (n : ℕ) (xs : List (Listing W)) where
    -- the list that is left when a task leaves is the page's
    pub left_shown : (xs' : List (Listing W)) → xs' ≡ left_list (passes_turn free n xs) n xs
        → named whose xs' ≡ left_list (passes_turn free n (named whose xs)) n (named whose xs)
    left_shown xs' e = ap (named whose) e ∙ sym (left_named whose (passes_turn free n xs) n xs) ∙ ap (λ b. left_list b n (named whose xs)) (sym (passes_named whose free n xs))

    -- and so is the task to which it passes its turn
    pub left_out : (o : Option W) → o ≡ next_waker (passes_turn free n xs) n xs
        → named_one whose o ≡ option_to_list (next_waker (passes_turn free n (named whose xs)) n (named whose xs))
    left_out o e = ap (named_one whose) e
        ∙ ap option_to_list (sym (next_named whose (passes_turn free n xs) n xs) ∙ ap (λ b. next_waker b n (named whose xs)) (sym (passes_named whose free n xs)))
