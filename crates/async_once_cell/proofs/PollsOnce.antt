-- A task polls its init once at most in each call.
use Rattle.std.proofs.Common.{◌≡◌, ℕ, Bool, true, false, List, [], ◌∷◌, ◌++◌, None, reverse, refl, sym, ap, ◌∙◌, subst}
use Rattle.std.proofs.lemmas.Bool.{eqb-true}
use Rattle.std.proofs.lemmas.List.{append-nil, reverse-append}
use Rattle.std.specs.Option.{is_some}
use Rattle.once_machine.specs.Record.{Entry, Begin, Ran, End, DropBegin, Once, is_of}
use Rattle.once_machine.specs.declared.record.Reply.TheVariants.{Pending}
use Rattle.once_machine.specs.Cell.{Cell, cell}
use Rattle.once_machine.specs.Tasks.{LastCall, Status, last_call, last_call_after, status}
use Rattle.once_machine.specs.Run.{IsRun}
use Rattle.async_once_cell.specs.Kept.{entries_of, kept_if, most}
use Rattle.async_once_cell.specs.Record.{AreOnce}
use Rattle.async_once_cell.proofs.Moments.Mine.{entries_append}

-- whether the init was polled since the last beginning
abbrev ran_in : Bool → List Entry → Bool
ran_in b [] = b
ran_in b (Begin t w ∷ es) = ran_in false es
ran_in b (DropBegin t ∷ es) = ran_in false es
ran_in b (Ran t a ∷ es) = ran_in true es
ran_in b (_ ∷ es) = ran_in b es

-- after one entry more
abbrev ran_after : Entry → Bool → Bool
ran_after (Begin t w) b = false
ran_after (DropBegin t) b = false
ran_after (Ran t a) b = true
ran_after _ b = b

-- what one entry more asks
abbrev MayCome : Entry → Bool → Type 0
MayCome (Ran t a) b = b ≡ false
MayCome _ b = Unit {0}

ran_more : (e : Entry) (b : Bool) (es : List Entry) → ran_in b (es ++ e ∷ []) ≡ ran_after e (ran_in b es)
ran_more (Ran t a) b [] = refl
ran_more _ b [] = refl
ran_more e b (Begin t w ∷ es) = ran_more e false es
ran_more e b (DropBegin t ∷ es) = ran_more e false es
ran_more e b (Ran t a ∷ es) = ran_more e true es
ran_more e b (_ ∷ es) = ran_more e b es

once_more : (e : Entry) (b : Bool) (es : List Entry) → AreOnce b es → MayCome e (ran_in b es) → AreOnce b (es ++ e ∷ [])
once_more (Ran t a) b [] o may = (may, tt)
once_more _ b [] o may = tt
once_more e b (Begin t w ∷ es) o may = once_more e false es o may
once_more e b (DropBegin t ∷ es) o may = once_more e false es o may
once_more e b (Ran t a ∷ es) o may = (o.0, once_more e true es o.1 may)
once_more e b (_ ∷ es) o may = once_more e b es o may

-- the last call tells the same after one entry more of the task
ran_call : (e : Entry) (c : Cell) (s : Status) (p : LastCall) → is_some (last_call_after e c s p).ran ≡ ran_after e (is_some p.ran)
ran_call (End t Pending) c s p = refl
ran_call _ c s p = refl

module _ (t : ℕ) where
  -- the own entries of a history, the oldest first
  abbrev mine : List Entry → List Entry
  mine h = entries_of t (reverse h)

  mine_more : (e : Entry) (h : List Entry) → mine (e ∷ h) ≡ mine h ++ kept_if (is_of t e) e []
  mine_more e h = ap (entries_of t) (reverse-append (e ∷ []) h) ∙ entries_append t (reverse h) (e ∷ [])

  -- by whether the entry is the task's
  ran_by : (b : Bool) (e : Entry) (h : List Entry) → is_of t e ≡ b → ran_in false (mine h) ≡ is_some (last_call Once t h).ran
      → ran_in false (mine h ++ kept_if b e []) ≡ is_some (last_call Once t (e ∷ h)).ran
  ran_by true e h is r = ran_more e false (mine h) ∙ ap (ran_after e) r ∙ sym (rw is (ran_call e (cell Once h) (status Once t h) (last_call Once t h)))
  ran_by false e h is r = ap (ran_in false) (append-nil (mine h)) ∙ r ∙ sym (rw is refl)

  -- whether the init was polled since the last beginning is what the last call tells
  ran_is : (h : List Entry) → ran_in false (mine h) ≡ is_some (last_call Once t h).ran
  ran_is [] = refl
  ran_is (e ∷ h) = ap (ran_in false) (mine_more e h) ∙ ran_by (is_of t e) e h refl (ran_is h)

  -- an entry of the task that may come
  may_come : (e : Entry) (h : List Entry) → is_of t e ≡ true → IsRun Once most (e ∷ h) → MayCome e (ran_in false (mine h))
  may_come (Ran u a) h is run =
      let none = subst (λ (v : ℕ). (last_call Once v h).ran ≡ None) (eqb-true u t is) run.0.2 in
      ran_is h ∙ ap is_some none
  may_come _ h is run = tt

  once_by : (b : Bool) (e : Entry) (h : List Entry) → is_of t e ≡ b → IsRun Once most (e ∷ h) → AreOnce false (mine h) → AreOnce false (mine h ++ kept_if b e [])
  once_by true e h is run o = once_more e false (mine h) o (may_come e h is run)
  once_by false e h is run o = subst (AreOnce false) (sym (append-nil (mine h))) o

  -- in a run a task polls its init once at most in each call
  pub are_once : (h : List Entry) → IsRun Once most h → AreOnce false (mine h)
  are_once [] run = tt
  are_once (e ∷ h) run = subst (AreOnce false) (sym (mine_more e h)) (once_by (is_of t e) e h refl run (are_once h run.1))
