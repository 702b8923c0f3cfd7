-- If no poll or drop is under way, the task that was woken is one that waits.
use Rattle.std.proofs.Common.{◌≡◌, ℕ, Bool, true, false, ⊎_elim, List, [], ◌∷◌, refl, sym, ◌∙◌, subst, arith}
use Rattle.std.proofs.lemmas.Bool.Decides.{nat_tests}
use Rattle.std.proofs.lemmas.Grind.{common_steps}
use Rattle.std.proofs.lemmas.Bool.{false≢true}
use Rattle.once_machine.specs.Numbers.{member}
use Rattle.once_machine.specs.Record.{Entry, Kind, is_of}
use Rattle.once_machine.specs.Cell.{cell}
use Rattle.once_machine.specs.Tasks.{LastCall, Waiting, is_under_way, last_call, last_call_after, status, status_after}
use Rattle.once_machine.specs.Wakers.{handed_since}
use Rattle.once_machine.specs.Run.{AtEvery}
use Rattle.once_machine.specs.Called.{IsCalled, SomebodyCalled, WaiterCalled}

-- the waker of the last poll is that of the last poll that ended Pending
abbrev IsListed : LastCall → Type 0
IsListed p = p.listed ≡ p.waker

-- an entry of the task after which it waits
listed_own : (K : Kind) (t : ℕ) (e : Entry) (h : List Entry) → (status K t h ≡ Waiting → IsListed (last_call K t h))
    → status_after e (cell K h) (status K t h) ≡ Waiting
    → IsListed (last_call_after e (cell K h) (status K t h) (last_call K t h))
listed_own K t e h ih s = grind (arith, nat_tests, common_steps, ih)

-- by whether the entry is of the task
listed_by : (K : Kind) (t : ℕ) (e : Entry) (h : List Entry) (b : Bool) → is_of t e ≡ b
    → (status K t h ≡ Waiting → IsListed (last_call K t h)) → status K t (e ∷ h) ≡ Waiting
    → IsListed (last_call K t (e ∷ h))
listed_by K t e h true is ih s = rw is (listed_own K t e h ih (rw is at s))
listed_by K t e h false is ih s = rw is (ih (rw is at s))

-- of a task that waits, the last poll is the last that ended Pending
pub waiting_listed : (K : Kind) (t : ℕ) (h : List Entry) → status K t h ≡ Waiting → IsListed (last_call K t h)
waiting_listed K t [] s = refl
waiting_listed K t (e ∷ h) s = listed_by K t e h (is_of t e) refl (waiting_listed K t h) s

-- a task that was woken and is in no poll or drop waits
idle_waits : (K : Kind) (t : ℕ) (h : List Entry) → is_under_way (status K t h) ≡ false → IsCalled K t h → status K t h ≡ Waiting
idle_waits K t h n c = ⊎_elim (λ s. s) (λ s. absurd (false≢true (sym n ∙ s.under_way))) c.0

-- if no poll or drop is under way and a task waits for an empty cell, some task that waits was woken
idle_called : (K : Kind) (h : List Entry) → SomebodyCalled K h → WaiterCalled K h
idle_called K h called idle empty u s =
    let c = called empty u s in
    let w = idle_waits K c.0 h (idle c.0) c.1 in
    (c.0, (w, subst (λ k. member k (handed_since c.0 h) ≡ true) (waiting_listed K c.0 h w) c.1.1))

-- at every moment
pub waiter_called : (K : Kind) (h : List Entry) → AtEvery (SomebodyCalled K) h → AtEvery (WaiterCalled K) h
waiter_called K [] called = idle_called K [] called
waiter_called K (e ∷ h) called = (idle_called K (e ∷ h) called.0, waiter_called K h called.1)
