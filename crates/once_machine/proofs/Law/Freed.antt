-- A poll that ends with an error has emptied the cell. From the run alone.
use Rattle.std.proofs.Common.{◌≡◌, ℕ, Bool, true, false, inl, List, [], ◌∷◌, refl, ap, arith}
use Rattle.std.proofs.lemmas.Bool.Decides.{nat_tests}
use Rattle.std.proofs.lemmas.Grind.{common_steps}
use Rattle.std.proofs.lemmas.Bool.{false≢true, eqb-true}
use Rattle.once_machine.specs.Record.{End, Entry, Error, Free, Kind, is_of}
use Rattle.once_machine.specs.Cell.{cell}
use Rattle.once_machine.specs.Tasks.{last_call, last_call_after, status}
use Rattle.once_machine.specs.Refusals.{Since}
use Rattle.once_machine.specs.Freed.{HasFreed}
use Rattle.once_machine.specs.Run.{IsRun}
use Rattle.once_machine.proofs.History.Others.{since_more}
use Rattle.once_machine.proofs.Law.Rights.{own_error}

-- by an entry of the task
freed_by_own : (K : Kind) (t : ℕ) (e : Entry) (h : List Entry) → is_of t e ≡ true
    → ((last_call K t h).freed ≡ true → Since t (HasFreed K t) h)
    → (last_call_after e (cell K h) (status K t h) (last_call K t h)).freed ≡ true → Since t (HasFreed K t) (e ∷ h)
freed_by_own K t (Free u X) h is ih f = inl ((X, h, ap (λ (v : ℕ). Free v X ∷ h) (eqb-true u t is)), refl)
freed_by_own K t e h is ih f = grind (arith, nat_tests, common_steps, ih)

-- its entries and those of others
freed_by : (K : Kind) (t : ℕ) (e : Entry) (h : List Entry) (b : Bool) → is_of t e ≡ b
    → ((last_call K t h).freed ≡ true → Since t (HasFreed K t) h)
    → (last_call K t (e ∷ h)).freed ≡ true → Since t (HasFreed K t) (e ∷ h)
freed_by K t e h true is ih f = freed_by_own K t e h is ih (rw is at f)
freed_by K t e h false is ih f = since_more t (HasFreed K t) e h is (ih (rw is at f))

-- a call in which the task freed the cell emptied it, and no poll began since
freed_since : (K : Kind) (t : ℕ) (h : List Entry) → (last_call K t h).freed ≡ true → Since t (HasFreed K t) h
freed_since K t [] f = absurd (false≢true f)
freed_since K t (e ∷ h) f = freed_by K t e h (is_of t e) refl (λ k. freed_since K t h k) f

-- an error comes after the cell was emptied
pub error_empties : (K : Kind) (limit t e : ℕ) (h : List Entry) → IsRun K limit (End t (Error e) ∷ h) → Since t (HasFreed K t) h
error_empties K limit t e h r = freed_since K t h (own_error K limit t e h r).1
