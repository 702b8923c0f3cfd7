-- The holder of a cell rests with the right, or is in a drop, or in a poll in which it has not given the right back.
use Rattle.std.proofs.Common.{◌≡◌, ◌≢◌, ℕ, Bool, true, false, ◌==◌, List, [], ◌∷◌, Option, None, Some, refl, sym, ap, ◌∙◌, subst, arith}
use Rattle.std.proofs.lemmas.Grind.{common_steps}
use Rattle.std.proofs.lemmas.Bool.{false≢true, eqb-true, eq-eqb}
use Rattle.std.proofs.lemmas.Bool.Decides.{nat_tests}
use Rattle.once_machine.specs.declared.record.Reply.{Reply}
use Rattle.once_machine.specs.declared.record.Reply.TheVariants.{Error, Full, Memory, Pending, Value}
use Rattle.once_machine.specs.Record.{Answer, Begin, Claim, DropBegin, DropEnd, End, Entry, Fill, Free, Kind, Lazy, LazyWith, Look}
use Rattle.once_machine.specs.Record.{Made, Once, OnceWith, Own, Parts, Pass, Ran, RanError, RanValue, ReplaceAnswers, ReplaceValue, Take, Write, is_of}
use Rattle.once_machine.specs.Cell.{Cell, Empty, Held, SetTo, cell, write_cell}
use Rattle.once_machine.specs.Tasks.{Dropping, Fresh, Holding, LastCall, Polling, Status, Unmade, Waiting, last_call, last_call_after, pending_status, status, status_after}
use Rattle.once_machine.specs.Refusals.{MemoryFrom}
use Rattle.once_machine.specs.Run.{IsLegal, IsRun, MayBegin, MayEnd, MayFree}
use Rattle.once_machine.proofs.History.Cells.{held_not_empty, held_not_set, same_holder}
use Rattle.once_machine.proofs.Law.Answered.{pending_polls}

-- what the holder may be at. If it did not claim in its poll, it held as that began
abbrev pub HolderIs : Status → LastCall → Type 0
HolderIs Holding p = Unit {0}
HolderIs Dropping p = Unit {0}
HolderIs Polling p = (p.freed ≡ false) × (p.claimed ≡ false → p.began ≡ Holding)
HolderIs _ p = ⊥

-- a poll that has not polled its init has not given the right back
abbrev Unfreed : Status → LastCall → Type 0
Unfreed s p = s ≡ Polling → p.ran ≡ None → p.freed ≡ false

-- such a poll may not give it back either
unran_frees_not : (s : Status) (a : Option Answer) → s ≡ Polling → a ≡ None → MayFree s a → ⊥
unran_frees_not s a e n m =
    let polling : MayFree Polling a = subst (λ x. MayFree x a) e m in
    let unran : MayFree Polling None = subst (λ x. MayFree Polling x) n polling in unran

-- a holder that begins a poll or a drop rested with the right
pub holder_rested : (s : Status) (p : LastCall) → MayBegin s → HolderIs s p → s ≡ Holding
holder_rested Holding p m i = refl
holder_rested Fresh p m i = absurd i
holder_rested Waiting p m i = absurd i
holder_rested _ p m i = absurd m

-- a holder whose poll ends Pending rests with the right
pending_rests : (u t : ℕ) (c : Cell) → (u == t) ≡ true → c ≡ Held t → pending_status u c ≡ Holding
pending_rests u t Empty n c = absurd (held_not_empty t (sym c))
pending_rests u t (SetTo v) n c = absurd (held_not_set t v (sym c))
pending_rests u t (Held k) n c = let same : k ≡ t = same_holder k t c in grind (arith, nat_tests)

-- a cell that is held after a write was held before it
write_held : (v t : ℕ) (c : Cell) → write_cell v c ≡ Held t → c ≡ Held t
write_held v t (SetTo u) e = absurd (held_not_set t v (sym e))
write_held v t Empty e = e
write_held v t (Held k) e = e

-- nobody holds a new cell
nobody_holds_new : (K : Kind) (t : ℕ) → cell K [] ≡ Held t → ⊥
nobody_holds_new Once t c = held_not_empty t (sym c)
nobody_holds_new (OnceWith v) t c = held_not_set t v (sym c)
nobody_holds_new (Lazy l) t c = held_not_empty t (sym c)
nobody_holds_new (LazyWith v) t c = held_not_set t v (sym c)

module _ (K : Kind) (limit t : ℕ) where
  unfreed_own : (e : Entry) (h : List Entry) → is_of t e ≡ true → IsLegal K limit e h → Unfreed (status K t h) (last_call K t h)
      → Unfreed (status_after e (cell K h) (status K t h)) (last_call_after e (cell K h) (status K t h) (last_call K t h))
  unfreed_own (Free u X) h n l ih s r =
      absurd (unran_frees_not (status K t h) (last_call K t h).ran s r (subst (λ v. MayFree (status K v h) (last_call K v h).ran) (eqb-true u t n) l.1))
  unfreed_own (End u Pending) h n l ih s r = absurd (pending_polls u (cell K h) s)
  unfreed_own e h n l ih s r = grind (arith, nat_tests, common_steps, ih)

  unfreed_by : (e : Entry) (h : List Entry) (b : Bool) → is_of t e ≡ b → IsLegal K limit e h → Unfreed (status K t h) (last_call K t h)
      → Unfreed (status K t (e ∷ h)) (last_call K t (e ∷ h))
  unfreed_by e h true is l ih s r = rw is (unfreed_own e h is l ih (rw is at s) (rw is at r))
  unfreed_by e h false is l ih s r = rw is (ih (rw is at s) (rw is at r))

  unfreed : (h : List Entry) → IsRun K limit h → Unfreed (status K t h) (last_call K t h)
  unfreed [] r s x = grind arith
  unfreed (e ∷ h) r s x = unfreed_by e h (is_of t e) refl r.0 (λ a b. unfreed h r.1 a b) s x

  -- a poll of a holder that has not given the right back ends Pending
  ends_pending : (h : List Entry) (r : Reply) (a : Option Answer) → MayEnd K limit t r a h → cell K h ≡ Held t
      → (last_call K t h).freed ≡ false → ((last_call K t h).claimed ≡ false → (last_call K t h).began ≡ Holding) → r ≢ Pending → ⊥
  ends_pending h Pending a m c f b n = n refl
  ends_pending h (Value v) (Some (RanValue u)) m c f b n = held_not_set t v (sym c ∙ m.1)
  ends_pending h (Value v) None m c f b n = held_not_set t v (sym c ∙ m)
  ends_pending h (Error e) (Some (RanError k)) m c f b n = false≢true (sym f ∙ m.1)
  ends_pending h Memory None m c f b n = let no : MemoryFrom K Holding t h = subst (λ s. MemoryFrom K s t h) (b m.0) m.1 in no
  ends_pending h Full None m c f b n = let no : Holding ≡ Fresh = sym (b m.1) ∙ m.0 in cc
  ends_pending h r a m c f b n = absurd m

  -- after an entry of its own
  holder_own : (e : Entry) (h : List Entry) → is_of t e ≡ true → IsLegal K limit e h → Unfreed (status K t h) (last_call K t h)
      → (cell K h ≡ Held t → HolderIs (status K t h) (last_call K t h)) → cell K (e ∷ h) ≡ Held t
      → HolderIs (status_after e (cell K h) (status K t h)) (last_call_after e (cell K h) (status K t h) (last_call K t h))
  holder_own (Made u) h n l un ih c =
      let made : status K t h ≡ Unmade = ap (λ v. status K v h) (sym (eqb-true u t n)) ∙ l in
      let no : HolderIs Unmade (last_call K t h) = subst (λ s. HolderIs s (last_call K t h)) made (ih c) in absurd no
  holder_own (Begin u w) h n l un ih c =
      (refl, λ k. holder_rested (status K t h) (last_call K t h) (subst (λ v. MayBegin (status K v h)) (eqb-true u t n) l) (ih c))
  holder_own (DropBegin u) h n l un ih c = tt
  holder_own (Claim u) h n l un ih c =
      let same = eqb-true u t n in
      let polls : status K t h ≡ Polling = subst (λ v. status K v h ≡ Polling) same l.1 in
      let ran : (last_call K t h).ran ≡ None = subst (λ v. (last_call K v h).ran ≡ None) same l.2 in
      subst (λ s. HolderIs s (record (last_call K t h) { claimed = true })) (sym polls) (un polls ran, λ e. absurd (false≢true (sym e)))
  holder_own (Ran u a) h n l un ih c =
      let polls : status K t h ≡ Polling = subst (λ v. status K v h ≡ Polling) (eqb-true u t n) l.1 in
      let i : HolderIs Polling (last_call K t h) = subst (λ s. HolderIs s (last_call K t h)) polls (ih c) in
      subst (λ s. HolderIs s (record (last_call K t h) { ran = Some a })) (sym polls) (i.0, i.1)
  holder_own (Free u X) h n l un ih c = absurd (held_not_empty t (sym c))
  holder_own (Fill u v X) h n l un ih c = absurd (held_not_set t v (sym c))
  holder_own (Pass u X) h n l un ih c = absurd (held_not_empty t (sym c ∙ l.0))
  holder_own (End u Pending) h n l un ih c =
      subst (λ s. HolderIs s (record (last_call K t h) { listed = (last_call K t h).waker })) (sym (pending_rests u t (cell K h) n c)) tt
  holder_own (End u r) h n l un ih c =
      let same = eqb-true u t n in
      let polls : status K t h ≡ Polling = subst (λ v. status K v h ≡ Polling) same l.0 in
      let i : HolderIs Polling (last_call K t h) = subst (λ s. HolderIs s (last_call K t h)) polls (ih c) in
      absurd (ends_pending h r (last_call K t h).ran (subst (λ v. MayEnd K limit v r (last_call K v h).ran h) same l.1) c i.0 i.1 (λ e. cc))
  holder_own (DropEnd u) h n l un ih c = absurd (l.1 (c ∙ ap (λ v. Held v) (sym (eqb-true u t n))))
  holder_own (Look found) h n l un ih c = absurd (false≢true n)
  holder_own (Own o g) h n l un ih c = absurd (false≢true n)

  -- a task that holds after an entry that is not its own held before it
  held_before : (e : Entry) (h : List Entry) → is_of t e ≡ false → cell K (e ∷ h) ≡ Held t → cell K h ≡ Held t
  held_before (Claim u) h n c = absurd (false≢true (sym n ∙ eq-eqb u t (same_holder u t c)))
  held_before (Free u X) h n c = absurd (held_not_empty t (sym c))
  held_before (Fill u v X) h n c = absurd (held_not_set t v (sym c))
  held_before (Own Take g) h n c = absurd (held_not_empty t (sym c))
  held_before (Own (Write v) g) h n c = write_held v t (cell K h) c
  held_before (Own Parts g) h n c = absurd (held_not_empty t (sym c))
  held_before (Own (ReplaceValue v) g) h n c = absurd (held_not_set t v (sym c))
  held_before (Own (ReplaceAnswers k) g) h n c = absurd (held_not_empty t (sym c))
  held_before e h n c = c

  holder_by : (e : Entry) (h : List Entry) (b : Bool) → is_of t e ≡ b → IsRun K limit (e ∷ h)
      → (cell K h ≡ Held t → HolderIs (status K t h) (last_call K t h)) → cell K (e ∷ h) ≡ Held t
      → HolderIs (status K t (e ∷ h)) (last_call K t (e ∷ h))
  holder_by e h true is r ih c = rw is (holder_own e h is r.0 (λ a b. unfreed h r.1 a b) ih c)
  holder_by e h false is r ih c = rw is (ih (held_before e h is c))

  pub holder_is : (h : List Entry) → IsRun K limit h → cell K h ≡ Held t → HolderIs (status K t h) (last_call K t h)
  holder_is [] r c = absurd (nobody_holds_new K t c)
  holder_is (e ∷ h) r c = holder_by e h (is_of t e) refl r (λ k. holder_is h r.1 k) c
