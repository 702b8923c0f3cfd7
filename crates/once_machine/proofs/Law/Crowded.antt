-- Refusals need a crowd, and a poll that completes answers the value that is set. From the run alone.
use Rattle.std.proofs.Common.{◌≡◌, ◌≢◌, ◌≤◌, ℕ, Bool, true, false, cond, ◌==◌, inl, inr, List, [], ◌∷◌, Option, Some, None, refl, sym, ap, ◌∙◌, subst, arith}
use Rattle.std.proofs.lemmas.Bool.{false≢true, eq-eqb}
use Rattle.once_machine.specs.Record.{Answer, End, Entry, Full, Kind, Memory, RanValue, Value, made_in}
use Rattle.once_machine.specs.Cell.{SetTo, cell}
use Rattle.once_machine.specs.Tasks.{Dropping, Fresh, Holding, Polling, Status, Waiting, is_under_way, last_call, status}
use Rattle.once_machine.specs.Refusals.{AtSome, IsCrowded, MemoryFrom, OtherActs, Since, crowd, is_about, is_begin_of, moments_since}
use Rattle.once_machine.specs.Crowd.{AreWaiting, is_waiting, waiters}
use Rattle.once_machine.specs.Run.{IsRun, MayEnd}
use Rattle.once_machine.proofs.Listing.Counting.{count_weaker}
use Rattle.once_machine.proofs.Place.Sections.{since_weaken}
use Rattle.once_machine.proofs.Law.Rights.{holding_holds}

-- by what the task was at its Begin
memory_by : (K : Kind) (limit t : ℕ) (h : List Entry) (a : Option Answer) (s : Status) → (last_call K t h).began ≡ s
    → MayEnd K limit t Memory a h → Since t (OtherActs K t) h
memory_by K limit t h None Fresh b m = let k : MemoryFrom K Fresh t h = subst (λ y. MemoryFrom K y t h) b m.1 in k.1
memory_by K limit t h None Waiting b m = since_weaken K t h (subst (λ y. MemoryFrom K y t h) b m.1)
memory_by K limit t h None s b m = absurd (subst (λ y. MemoryFrom K y t h) b m.1)
memory_by K limit t h (Some a) s b m = absurd m

-- want of memory is answered only if another task held or was in a call since the poll began
pub memory_met : (K : Kind) (limit t : ℕ) (h : List Entry) → IsRun K limit (End t Memory ∷ h) → Since t (OtherActs K t) h
memory_met K limit t h r = memory_by K limit t h (last_call K t h).ran (last_call K t h).began refl r.0.1

module _ (K : Kind) (limit t : ℕ) (h : List Entry) (r : IsRun K limit h) (n : OtherActs K t h → ⊥) where
  -- another task that is about and does not act waits
  about_by : (u : ℕ) → t ≢ u
      → (s : Status) → status K u h ≡ s → is_about s ≡ true → is_waiting s ≡ true
  about_by u d Waiting e a = refl
  about_by u d Polling e a = absurd (n (inr (u, d, ap is_under_way e)))
  about_by u d Dropping e a = absurd (n (inr (u, d, ap is_under_way e)))
  about_by u d Holding e a = absurd (n (inl (u, d, holding_holds K limit u h r e)))
  about_by u d _ e a = absurd (false≢true a)

  -- the same of each task, by whether it is t
  waits_by : (u : ℕ) (b : Bool)
      → (u == t) ≡ b → cond b false (is_about (status K u h)) ≡ true → cond b false (is_waiting (status K u h)) ≡ true
  waits_by u true e a = a
  waits_by u false e a = about_by u (λ k. false≢true (sym e ∙ eq-eqb u t (sym k))) (status K u h) refl a

  -- if no other task holds or is in a call, the crowd waits
  crowd_waits : crowd K t h ≤ waiters K t h
  crowd_waits =
      count_weaker (made_in h) (λ u. cond (u == t) false (is_about (status K u h)))
      (λ u. cond (u == t) false (is_waiting (status K u h))) (λ u a. waits_by u (u == t) refl a)

-- no Begin came between
since_put : (P : List Entry → Type 0) (moments : List (List Entry)) (b : Bool) → b ≡ false → AtSome P moments → AtSome P (cond b [] moments)
since_put P moments false e a = a
since_put P moments true e a = absurd (false≢true (sym e))

-- the moments since the Begin
since_by : (P Q : List Entry → Type 0) (moments : List (List Entry)) (b : Bool) → AtSome P (cond b [] moments)
    → (b ≡ false → AtSome P moments → AtSome Q moments) → AtSome Q (cond b [] moments)
since_by P Q moments true m f = absurd m
since_by P Q moments false m f = f refl m

-- if no other task acted since the Begin, and the crowd had limit tasks at some moment, so many waited then
crowded_waits : (K : Kind) (limit t : ℕ) (h : List Entry) → IsRun K limit h → (Since t (OtherActs K t) h → ⊥)
    → Since t (IsCrowded K limit t) h → Since t (AreWaiting K limit t) h
crowded_waits K limit t [] r n s = s
crowded_waits K limit t (e ∷ h) r n (inl c) = inl (let k = crowd_waits K limit t (e ∷ h) r (λ o. n (inl o)) in omega arith)
crowded_waits K limit t (e ∷ h) r n (inr s) =
    inr (since_by (IsCrowded K limit t) (AreWaiting K limit t) (moments_since t h) (is_begin_of t e) s
    (λ b k. crowded_waits K limit t h r.1 (λ o. n (inr
    (since_put (OtherActs K t) (moments_since t h) (is_begin_of t e) b o))) k))

-- Full needs a crowd
full_by : (K : Kind) (limit t : ℕ) (h : List Entry) (a : Option Answer) → MayEnd K limit t Full a h → Since t (IsCrowded K limit t) h
full_by K limit t h None m = m.2
full_by K limit t h (Some a) m = absurd m

-- Full is answered to a poll that no other task overlaps only if at least limit other tasks waited since it began
pub full_waits : (K : Kind) (limit t : ℕ) (h : List Entry) → IsRun K limit (End t Full ∷ h) → (Since t (OtherActs K t) h → ⊥) → Since t (AreWaiting K limit t) h
full_waits K limit t h r n = crowded_waits K limit t h r.1 n (full_by K limit t h (last_call K t h).ran r.0.1)

-- by what the init answered
value_by : (K : Kind) (limit t v : ℕ) (h : List Entry) (a : Option Answer) → MayEnd K limit t (Value v) a h → cell K h ≡ SetTo v
value_by K limit t v h None m = m
value_by K limit t v h (Some (RanValue u)) m = m.1
value_by K limit t v h _ m = absurd m

-- a poll that completes with a value answers the one that is set
pub value_set : (K : Kind) (limit t v : ℕ) (h : List Entry) → IsRun K limit (End t (Value v) ∷ h) → cell K h ≡ SetTo v
value_set K limit t v h r = value_by K limit t v h (last_call K t h).ran r.0.1
