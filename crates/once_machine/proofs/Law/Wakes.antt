-- No waker is handed out more often than polls opened it. From the run alone.
use Rattle.std.proofs.Common.{◌≡◌, ◌≤◌, ◌+◌, ℕ, Bool, true, false, ◌==◌, List, [], ◌∷◌, cond, length, refl, sym, ap, ◌∙◌, subst, arith}
use Rattle.std.proofs.lemmas.Bool.{eqb-true}
use Rattle.std.proofs.lemmas.Bool.Decides.{nat_tests}
use Rattle.once_machine.specs.Numbers.{bit, is_distinct, member, times_in}
use Rattle.once_machine.specs.Record.{Entry, Fill, Free, Kind, Own, Pass, replaces}
use Rattle.once_machine.specs.Wakers.{IsOpen, times_handed, times_opened}
use Rattle.once_machine.specs.Run.{IsRun}

-- a number stands once in a list of distinct numbers
times_once : (w : ℕ) (X : List ℕ) → is_distinct X ≡ true → times_in w X ≤ bit (member w X)
times_once w [] d = omega arith
times_once w (x ∷ X) d = grind (arith, nat_tests, times_once w X)

-- at most one number is distinct
one_distinct : (X : List ℕ) → length X ≤ 1 → is_distinct X ≡ true
one_distinct [] l = refl
one_distinct (x ∷ []) l = refl
one_distinct (x ∷ y ∷ X) l = absurd (omega arith)

-- the number of a list of one
one_member : (k w : ℕ) → member w (k ∷ []) ≡ true → (k == w) ≡ true
one_member k w m = grind arith

-- by whether w is handed out
handed_by : (K : Kind) (w : ℕ) (X : List ℕ) (h : List Entry) (b : Bool) → times_in w X ≤ bit b
    → (b ≡ true → IsOpen K w h) → times_handed w h ≤ times_opened K w h
    → times_in w X + times_handed w h ≤ times_opened K w h
handed_by K w X h true once o ih = let k = o refl in omega arith
handed_by K w X h false once o ih = omega arith

-- distinct wakers that are open are handed out
handed_more : (K : Kind) (w : ℕ) (X : List ℕ) (h : List Entry) → is_distinct X ≡ true
    → (member w X ≡ true → IsOpen K w h) → times_handed w h ≤ times_opened K w h
    → times_in w X + times_handed w h ≤ times_opened K w h
handed_more K w X h d o ih = handed_by K w X h (member w X) (times_once w X d) o ih

-- so is the one to which a turn is passed on
passed_more : (K : Kind) (w : ℕ) (X : List ℕ) (h : List Entry) → ((k : ℕ) × (X ≡ k ∷ []) × IsOpen K k h)
    → times_handed w h ≤ times_opened K w h → times_in w X + times_handed w h ≤ times_opened K w h
passed_more K w X h p ih = handed_more K w X h (ap is_distinct p.1) (λ m. subst (λ v. IsOpen K v h) (eqb-true p.0 w (one_member p.0 w (sym (ap (member w) p.1) ∙ m))) p.2) ih

-- both counts begin anew, or neither does
both_anew : (b : Bool) (m n : ℕ) → m ≤ n → cond b 0 m ≤ cond b 0 n
both_anew true m n l = omega arith
both_anew false m n l = l

-- no waker is handed out more often than polls opened it, since the owner last replaced the cell
pub handed_within : (K : Kind) (limit w : ℕ) (h : List Entry) → IsRun K limit h → times_handed w h ≤ times_opened K w h
handed_within K limit w [] r = omega arith
handed_within K limit w (Free t X ∷ h) r = let i = handed_more K w X h (one_distinct X r.0.2.one) (r.0.2.open_alone w) (handed_within K limit w h r.1) in omega arith
handed_within K limit w (Fill t v X ∷ h) r = let i = handed_more K w X h r.0.3.once (r.0.3.open_alone w) (handed_within K limit w h r.1) in omega arith
handed_within K limit w (Pass t X ∷ h) r = let i = passed_more K w X h r.0.3 (handed_within K limit w h r.1) in omega arith
handed_within K limit w (Own o g ∷ h) r = let i = handed_within K limit w h r.1 in both_anew (replaces o) (0 + times_handed w h) (0 + times_opened K w h) (omega arith)
handed_within K limit w (e ∷ h) r = let i = handed_within K limit w h r.1 in omega arith
