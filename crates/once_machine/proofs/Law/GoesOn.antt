-- Whenever a task waits, some task can go on; and a poll is Pending for a holder or its own init.
use Rattle.std.proofs.Common.{◌≡◌, ℕ, true, ◌⊎◌, inl, inr, ⊎_elim, List, [], ◌∷◌, Option, Some, None, refl, ap, subst}
use Rattle.std.proofs.lemmas.Bool.{cases_Bool}
use Rattle.once_machine.specs.Numbers.{member}
use Rattle.once_machine.specs.Record.{Answer, End, Entry, Kind, Pending, RanPending}
use Rattle.once_machine.specs.Cell.{Cell, Empty, Held, SetTo, cell, is_set}
use Rattle.once_machine.specs.Tasks.{Dropping, Holding, LastCall, Polling, Status, Waiting, is_under_way, last_call, status}
use Rattle.once_machine.specs.Wakers.{handed_since}
use Rattle.once_machine.specs.Refusals.{OtherHolds}
use Rattle.once_machine.specs.Called.{CanGoOn, IsCalled, SomebodyCalled}
use Rattle.once_machine.specs.Run.{AtEvery, IsRun, MayEnd, NobodyForgotten}
use Rattle.once_machine.proofs.Law.Called.{waiting_listed}
use Rattle.once_machine.proofs.Law.Holder.{HolderIs, holder_is}
use Rattle.once_machine.proofs.Law.Nobody.{nobody_forgotten}

-- what holds at every moment holds now
pub at_the_newest : (P : List Entry → Type 0) (h : List Entry) → AtEvery P h → P h
at_the_newest P [] p = p
at_the_newest P (e ∷ h) p = p.0

-- the holder can go on
holder_goes_on : (s : Status) (p : LastCall) → HolderIs s p → (is_under_way s ≡ true) ⊎ (s ≡ Holding)
holder_goes_on Holding p i = inr refl
holder_goes_on Dropping p i = inl refl
holder_goes_on Polling p i = inl refl
holder_goes_on _ p i = absurd i

module _ (K : Kind) (limit u : ℕ) (h : List Entry) (r : IsRun K limit h) (called : SomebodyCalled K h) (s : status K u h ≡ Waiting) where
  -- if the cell is empty, the task that was woken can
  woken_goes_on : (t : ℕ) → IsCalled K t h → CanGoOn K t h
  woken_goes_on t c =
      ⊎_elim (λ w. inr (inr (w, subst (λ k. member k (handed_since t h) ≡ true) (waiting_listed K t h w) c.1))) (λ turn. inl turn.under_way) c.0

  -- if it is set, the task itself was woken
  set_goes_on : is_set (cell K h) ≡ true → CanGoOn K u h
  set_goes_on set =
      let k = (last_call K u h).waker in
      ⊎_elim (λ m. inr (inr (s, m)))
      (λ m. absurd (at_the_newest (NobodyForgotten K) h (nobody_forgotten K limit h r) set k (u, s, refl, m)))
      (cases_Bool (member k (handed_since u h)))

  goes_on_by : (c : Cell) → cell K h ≡ c → (t : ℕ) × CanGoOn K t h
  goes_on_by Empty e = let x = called e u s in (x.0, woken_goes_on x.0 x.1)
  goes_on_by (Held t) e = (t, ⊎_elim (λ a. inl a) (λ b. inr (inl b)) (holder_goes_on (status K t h) (last_call K t h) (holder_is K limit t h r e)))
  goes_on_by (SetTo v) e = (u, set_goes_on (ap is_set e))

  pub goes_on : (t : ℕ) × CanGoOn K t h
  goes_on = goes_on_by (cell K h) refl

-- by what its init answered
pending_by : (K : Kind) (limit t : ℕ) (h : List Entry) (a : Option Answer) → MayEnd K limit t Pending a h → OtherHolds K t h ⊎ (a ≡ Some RanPending)
pending_by K limit t h (Some RanPending) m = inr refl
pending_by K limit t h None m = inl m
pending_by K limit t h _ m = absurd m

pub pending_reason : (K : Kind) (limit t : ℕ) (h : List Entry) → IsRun K limit (End t Pending ∷ h)
    → OtherHolds K t h ⊎ ((last_call K t h).ran ≡ Some RanPending)
pending_reason K limit t h r = pending_by K limit t h (last_call K t h).ran r.0.1
