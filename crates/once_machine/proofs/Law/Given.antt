-- Until the owner replaces a cell, an init gives a value once at most: the task whose init gave one fills the cell
-- before it does anything else.
use Rattle.std.proofs.Common.{◌≡◌, ◌≤◌, ◌+◌, ℕ, Bool, true, false, ◌==◌, List, [], ◌∷◌, Option, None, Some, refl, sym, ap, ◌∙◌, subst, arith}
use native.Mathlib.Numerals.{unary_clauses}
use Rattle.std.proofs.lemmas.Grind.{common_steps}
use Rattle.std.proofs.lemmas.Bool.{eqb-true}
use Rattle.std.proofs.lemmas.Bool.Decides.{nat_tests}
use Rattle.once_machine.specs.Numbers.{bit}
use Rattle.once_machine.specs.Record.{Answer, Begin, Claim, DropBegin, DropEnd, End, Entry, Fill, Free, Kind, Lazy, LazyWith, Look, Made}
use Rattle.once_machine.specs.Record.{Once, OnceWith, Own, Parts, Pass, Pending, Ran, RanError, RanPending, RanValue, ReplaceAnswers, ReplaceValue, Take, Write, is_of}
use Rattle.once_machine.specs.Cell.{Cell, Empty, Held, SetTo, cell, write_cell}
use Rattle.once_machine.specs.Fills.{times_given}
use Rattle.once_machine.specs.Tasks.{Dropping, Holding, LastCall, Polling, Status, last_call, last_call_after, pending_status, status, status_after}
use Rattle.once_machine.specs.Run.{IsLegal, IsRun, MayBegin, MayEnd, MayFree}
use Rattle.once_machine.proofs.Listing.Members.{eqb_self}
use Rattle.once_machine.proofs.Law.Filled.{nothing_added}
use Rattle.once_machine.proofs.Law.Holder.{holder_is, holder_rested}

-- the init gave a value
abbrev is_value : Option Answer → Bool
is_value (Some (RanValue v)) = true
is_value _ = false

-- a drop polls no init
abbrev Unran : Status → LastCall → Type 0
Unran s p = s ≡ Dropping → p.ran ≡ None

-- the init of a task that rests with the right gave no value
abbrev Unvalued : Status → LastCall → Type 0
Unvalued s p = s ≡ Holding → is_value p.ran ≡ false

-- the last calls of all tasks
abbrev Calls : Type 0
Calls = ℕ → LastCall

abbrev calls : Kind → List Entry → Calls
calls K h = λ t. last_call K t h

-- how many values were given, by what the cell is: one for a holder whose init has just given it
abbrev AreGiven : Cell → Calls → ℕ → Type 0
AreGiven Empty p n = n ≡ 0
AreGiven (Held t) p n = n ≡ bit (is_value (p t).ran)
AreGiven (SetTo v) p n = n ≤ 1

still_given : (c : Cell) (p : Calls) (n : ℕ) → AreGiven c p n → AreGiven c p (0 + n)
still_given c p n b = subst (λ k. AreGiven c p k) (sym (nothing_added n)) b

pending_drops : (u : ℕ) (c : Cell) → pending_status u c ≡ Dropping → ⊥
pending_drops u (Held k) e = grind (arith, nat_tests)
pending_drops u _ e = grind arith

-- a poll whose init gave a value does not end Pending
pending_unvalued : (K : Kind) (limit t : ℕ) (h : List Entry) (a : Option Answer) → MayEnd K limit t Pending a h → is_value a ≡ false
pending_unvalued K limit t h (Some RanPending) m = refl
pending_unvalued K limit t h None m = refl
pending_unvalued K limit t h _ m = absurd m

bit_at_most : (n : ℕ) (b : Bool) → n ≡ bit b → n ≤ 1
bit_at_most n true e = omega arith
bit_at_most n false e = omega arith

given_at_most : (n : ℕ) (p : Calls) (c : Cell) → AreGiven c p n → n ≤ 1
given_at_most n p (SetTo v) b = b
given_at_most n p Empty b = omega arith
given_at_most n p (Held t) b = bit_at_most n (is_value (p t).ran) b

-- what may be said of a task by its status and its last call
abbrev Noted : Type 1
Noted = Status → LastCall → Type 0

module _ (K : Kind) (limit t : ℕ) where
  -- it holds of the task t
  abbrev Holds : Noted → List Entry → Type 0
  Holds P h = P (status K t h) (last_call K t h)

  -- and after this entry of its own
  abbrev HoldsAfter : Noted → Entry → List Entry → Type 0
  HoldsAfter P e h = P (status_after e (cell K h) (status K t h)) (last_call_after e (cell K h) (status K t h) (last_call K t h))

  -- an entry of another task changes nothing of it
  noted_on : (P : Noted) (e : Entry) (h : List Entry) (b : Bool) → is_of t e ≡ b → (is_of t e ≡ true → HoldsAfter P e h) → Holds P h → Holds P (e ∷ h)
  noted_on P e h true is own before = rw is (own is)
  noted_on P e h false is own before = rw is before

  -- what holds at the start, and after each entry of t, holds of every run
  at_each : (P : Noted) → Holds P []
      → ((e : Entry) (h : List Entry) → is_of t e ≡ true → IsLegal K limit e h → Holds P h → HoldsAfter P e h)
      → (h : List Entry) → IsRun K limit h → Holds P h
  at_each P first own [] r = first
  at_each P first own (e ∷ h) r =
      let before : Holds P h = at_each P first own h r.1 in noted_on P e h (is_of t e) refl (λ is. own e h is r.0 before) before

  unran_own : (e : Entry) (h : List Entry) → is_of t e ≡ true → IsLegal K limit e h → Holds Unran h → HoldsAfter Unran e h
  unran_own (End u Pending) h n l ih s = absurd (pending_drops u (cell K h) s)
  unran_own (Ran u a) h n l ih s =
      let no : Polling ≡ Dropping = sym (subst (λ v. status K v h ≡ Polling) (eqb-true u t n) l.1) ∙ s in cc
  unran_own e h n l ih s = grind (arith, nat_tests, common_steps, ih)

  unran : (h : List Entry) → IsRun K limit h → Holds Unran h
  unran h r = at_each Unran (λ s. refl) unran_own h r

  unvalued_own : (e : Entry) (h : List Entry) → is_of t e ≡ true → IsLegal K limit e h → Holds Unvalued h → HoldsAfter Unvalued e h
  unvalued_own (End u Pending) h n l ih s =
      pending_unvalued K limit t h (last_call K t h).ran (subst (λ v. MayEnd K limit v Pending (last_call K v h).ran h) (eqb-true u t n) l.1)
  unvalued_own (Ran u a) h n l ih s =
      let no : Polling ≡ Holding = sym (subst (λ v. status K v h ≡ Polling) (eqb-true u t n) l.1) ∙ s in cc
  unvalued_own e h n l ih s = grind (arith, nat_tests, common_steps, ih)

  unvalued : (h : List Entry) → IsRun K limit h → Holds Unvalued h
  unvalued h r = at_each Unvalued (λ s. refl) unvalued_own h r

  -- the init of a holder that may begin a poll or a drop gave no value
  begins_unvalued : (h : List Entry) → IsRun K limit h → cell K h ≡ Held t → MayBegin (status K t h) → is_value (last_call K t h).ran ≡ false
  begins_unvalued h r c m = unvalued h r (holder_rested (status K t h) (last_call K t h) m (holder_is K limit t h r c))

  -- nor did that of a holder that may free the cell
  frees_unvalued : (s : Status) (a : Option Answer) → MayFree s a → (s ≡ Dropping → a ≡ None) → is_value a ≡ false
  frees_unvalued Dropping a m d = ap is_value (d refl)
  frees_unvalued Polling (Some (RanError e)) m d = refl
  frees_unvalued s a m d = absurd m

-- by calls of the same answers
given_as : (n : ℕ) (p q : Calls) (c : Cell) → ((t : ℕ) → c ≡ Held t → is_value (q t).ran ≡ is_value (p t).ran) → AreGiven c p n → AreGiven c q n
given_as n p q Empty k b = b
given_as n p q (SetTo v) k b = b
given_as n p q (Held t) k b = b ∙ ap bit (sym (k t refl))

write_given : (v n : ℕ) (p q : Calls) (c : Cell) → ((t : ℕ) → (q t).ran ≡ (p t).ran) → AreGiven c p n → AreGiven (write_cell v c) q n
write_given v n p q (SetTo u) k b = b
write_given v n p q Empty k b = b
write_given v n p q (Held t) k b = b ∙ ap (λ (x : Option Answer). bit (is_value x)) (sym (k t))

-- an entry changes what is noted of its task alone
ran_by : (K : Kind) (t : ℕ) (e : Entry) (h : List Entry) (b : Bool) → is_of t e ≡ b
    → (is_of t e ≡ true → is_value (last_call_after e (cell K h) (status K t h) (last_call K t h)).ran ≡ is_value (last_call K t h).ran)
    → is_value (last_call K t (e ∷ h)).ran ≡ is_value (last_call K t h).ran
ran_by K t e h true is own = rw is (own is)
ran_by K t e h false is own = rw is refl

claim_ran : (K : Kind) (u : ℕ) (h : List Entry) → (last_call K u h).ran ≡ None → (last_call K u (Claim u ∷ h)).ran ≡ None
claim_ran K u h e = rw (eqb_self u) e

ran_noted : (K : Kind) (u : ℕ) (a : Answer) (h : List Entry) → (last_call K u (Ran u a ∷ h)).ran ≡ Some a
ran_noted K u a h = rw (eqb_self u) refl

ran_counted : (u : ℕ) (a : Answer) (h : List Entry) → times_given h ≡ 0 → times_given (Ran u a ∷ h) ≡ bit (is_value (Some a))
ran_counted u (RanValue v) h n = omega arith
ran_counted u RanPending h n = omega arith
ran_counted u (RanError e) h n = omega arith

new_cell : (K : Kind) → AreGiven (cell K []) (calls K []) 0
new_cell Once = refl
new_cell (OnceWith v) = omega arith
new_cell (Lazy l) = refl
new_cell (LazyWith v) = omega arith

module _ (K : Kind) (limit : ℕ) where
  -- an entry that leaves the cell and what its holder's init gave
  kept : (e : Entry) (h : List Entry)
      → ((t : ℕ) → cell K h ≡ Held t → is_of t e ≡ true
      → is_value (last_call_after e (cell K h) (status K t h) (last_call K t h)).ran ≡ is_value (last_call K t h).ran)
      → AreGiven (cell K h) (calls K h) (times_given h) → AreGiven (cell K h) (calls K (e ∷ h)) (0 + times_given h)
  kept e h own b =
      still_given (cell K h) (calls K (e ∷ h)) (times_given h)
      (given_as (times_given h) (calls K h) (calls K (e ∷ h)) (cell K h) (λ t c. ran_by K t e h (is_of t e) refl (own t c)) b)

  given_after : (e : Entry) (h : List Entry) → IsRun K limit (e ∷ h) → AreGiven (cell K h) (calls K h) (times_given h)
      → AreGiven (cell K (e ∷ h)) (calls K (e ∷ h)) (times_given (e ∷ h))
  given_after (Begin u w) h r b =
      kept (Begin u w) h (λ t c n. sym (begins_unvalued K limit t h r.1 c (subst (λ v. MayBegin (status K v h)) (eqb-true u t n) r.0))) b
  given_after (DropBegin u) h r b =
      kept (DropBegin u) h (λ t c n. sym (begins_unvalued K limit t h r.1 c (subst (λ v. MayBegin (status K v h)) (eqb-true u t n) r.0))) b
  given_after (Claim u) h r b =
      let none : times_given h ≡ 0 = subst (λ c. AreGiven c (calls K h) (times_given h)) r.0.0 b in
      still_given (Held u) (calls K (Claim u ∷ h)) (times_given h) (none ∙ sym (ap (λ (x : Option Answer). bit (is_value x)) (claim_ran K u h r.0.2)))
  given_after (Ran u a) h r b =
      let held : times_given h ≡ bit (is_value (last_call K u h).ran) = subst (λ c. AreGiven c (calls K h) (times_given h)) r.0.0 b in
      let none : times_given h ≡ 0 = held ∙ ap (λ (x : Option Answer). bit (is_value x)) r.0.2 in
      subst (λ c. AreGiven c (calls K (Ran u a ∷ h)) (times_given (Ran u a ∷ h))) (sym r.0.0)
      (ran_counted u a h none ∙ ap (λ (x : Option Answer). bit (is_value x)) (sym (ran_noted K u a h)))
  given_after (Free u X) h r b =
      let held : times_given h ≡ bit (is_value (last_call K u h).ran) = subst (λ c. AreGiven c (calls K h) (times_given h)) r.0.0 b in
      still_given Empty (calls K (Free u X ∷ h)) (times_given h)
      (held ∙ ap bit (frees_unvalued K limit u (status K u h) (last_call K u h).ran r.0.1 (λ d. unran K limit u h r.1 d)))
  given_after (Fill u v X) h r b =
      still_given (SetTo v) (calls K (Fill u v X ∷ h)) (times_given h) (given_at_most (times_given h) (calls K h) (cell K h) b)
  given_after (Made u) h r b = kept (Made u) h (λ t c n. refl) b
  given_after (Pass u X) h r b = kept (Pass u X) h (λ t c n. refl) b
  given_after (End u Pending) h r b = kept (End u Pending) h (λ t c n. refl) b
  given_after (End u a) h r b = kept (End u a) h (λ t c n. refl) b
  given_after (DropEnd u) h r b = kept (DropEnd u) h (λ t c n. refl) b
  given_after (Look found) h r b = kept (Look found) h (λ t c n. refl) b
  given_after (Own Take g) h r b = refl
  given_after (Own (Write v) g) h r b =
      still_given (write_cell v (cell K h)) (calls K (Own (Write v) g ∷ h)) (times_given h)
      (write_given v (times_given h) (calls K h) (calls K (Own (Write v) g ∷ h)) (cell K h) (λ t. refl) b)
  given_after (Own Parts g) h r b = refl
  given_after (Own (ReplaceValue v) g) h r b = omega arith
  given_after (Own (ReplaceAnswers k) g) h r b = refl

  given_by_cell : (h : List Entry) → IsRun K limit h → AreGiven (cell K h) (calls K h) (times_given h)
  given_by_cell [] r = new_cell K
  given_by_cell (e ∷ h) r = given_after e h r (given_by_cell h r.1)

pub given_once : (K : Kind) (limit : ℕ) (h : List Entry) → IsRun K limit h → times_given h ≤ 1
given_once K limit h r = given_at_most (times_given h) (calls K h) (cell K h) (given_by_cell K limit h r)
