-- The entries of one poll, while no other task holds. It ends with the task gone, or with its init pending.
use Rattle.std.proofs.Common.{◌≡◌, ℕ, true, false, ◌⊎◌, inl, inr, List, [], ◌∷◌, ◌++◌, Option, Some, None, refl, sym, ap, ◌∙◌, subst}
use Rattle.std.proofs.lemmas.Bool.{false≢true, eq-eqb}
use Rattle.once_machine.specs.declared.record.Ran.{Ran as Answer}
use Rattle.once_machine.specs.declared.record.Ran.TheVariants.{Pending as RanPending}
use Rattle.once_machine.specs.declared.record.Reply.TheVariants.{Pending}
use Rattle.once_machine.specs.Record.{Begin, Claim, DropEnd, End, Entry, Fill, Free, Kind, Lazy, LazyWith, Once, OnceWith, Pass, Ran, is_lazy, is_of}
use Rattle.once_machine.specs.Cell.{Cell, cell}
use Rattle.once_machine.specs.Tasks.{Gone, Holding, LastCall, Polling, Status, is_under_way, last_call, last_call_after, pending_status, status, status_after}
use Rattle.once_machine.specs.Refusals.{OtherHolds}
use Rattle.once_machine.specs.Inputs.{AreOfStep, IsAsked, IsOfStep}
use Rattle.once_machine.specs.Run.{IsLegal, IsRun, MayEnd}
use Rattle.once_machine.proofs.History.Cells.{held_not_empty, held_not_set, same_holder}
use Rattle.once_machine.proofs.Listing.Members.{eqb_self}
use Rattle.once_drained.specs.Drained.{AreReasoned, IsReasoned}

-- entries of the steps of t
abbrev pub AreOwn : Kind → ℕ → Answer → List Entry → Type 0
AreOwn K t a [] = Unit {0}
AreOwn K t a (e ∷ es) = IsOfStep K t a e × AreOwn K t a es

-- what the init answered in the poll so far, if it was asked
abbrev pub RanSo : Kind → Answer → Option Answer → Type 0
RanSo K a (Some r) = IsAsked K a r
RanSo K a None = Unit {0}

-- what the task is at, by what its init answered
abbrev pub StandsSo : Status → Option Answer → Type 0
StandsSo Polling r = Unit {0}
StandsSo Gone r = Unit {0}
StandsSo Holding r = r ≡ Some RanPending
StandsSo _ r = ⊥

-- a poll of t began while no other task held, and since then t alone acted
pub record InOwnPoll (K : Kind) (t : ℕ) (a : Answer) (h : List Entry) : Type 0 where
  pub alone : OtherHolds K t h → ⊥
  pub ran : RanSo K a (last_call K t h).ran
  pub stands : StandsSo (status K t h) (last_call K t h).ran

-- the answer of the init after one more entry
abbrev ran_after : Entry → Option Answer → Option Answer
ran_after (Ran u b) r = Some b
ran_after _ r = r

module _ (K : Kind) (t : ℕ) (a : Answer) where
  -- two entries at most are of a step
  pub step_own : (es : List Entry) → AreOfStep K t a es → AreOwn K t a es
  step_own [] z = tt
  step_own (e ∷ []) z = (z, tt)
  step_own (e ∷ f ∷ []) z = (z.0, (z.1, tt))
  step_own (e ∷ f ∷ g ∷ es) z = absurd z

  pub own_append : (es fs : List Entry) → AreOwn K t a es → AreOwn K t a fs → AreOwn K t a (es ++ fs)
  own_append [] fs z y = y
  own_append (e ∷ es) fs z y = (z.0, own_append es fs z.1 y)

  -- such an entry needs no reason
  own_reason : (e : Entry) (h : List Entry) → IsOfStep K t a e → IsReasoned K e h
  own_reason (Claim u) h z = tt
  own_reason (Ran u b) h z = tt
  own_reason (Free u X) h z = tt
  own_reason (Fill u v X) h z = tt
  own_reason (Pass u X) h z = tt
  own_reason (End u r) h z = tt
  own_reason (DropEnd u) h z = tt
  own_reason e h z = absurd z

  pub own_reasons : (es before : List Entry) → AreOwn K t a es → AreReasoned K es before
  own_reasons [] before z = tt
  own_reasons (e ∷ es) before z = (own_reason e (es ++ before) z.0, own_reasons es before z.1)

  own_is : (e : Entry) → IsOfStep K t a e → is_of t e ≡ true
  own_is (Claim u) z = eq-eqb u t z
  own_is (Ran u b) z = eq-eqb u t z.0
  own_is (Free u X) z = eq-eqb u t z
  own_is (Fill u v X) z = eq-eqb u t z
  own_is (Pass u X) z = eq-eqb u t z
  own_is (End u r) z = eq-eqb u t z
  own_is (DropEnd u) z = eq-eqb u t z
  own_is e z = absurd z

  alone_kept : (e : Entry) (h : List Entry) → IsOfStep K t a e → (OtherHolds K t h → ⊥) → OtherHolds K t (e ∷ h) → ⊥
  alone_kept (Claim u) h z n o = o.1 (sym z ∙ same_holder u o.0 o.2)
  alone_kept (Free u X) h z n o = held_not_empty o.0 (sym o.2)
  alone_kept (Fill u v X) h z n o = held_not_set o.0 v (sym o.2)
  alone_kept (Ran u b) h z n o = n o
  alone_kept (Pass u X) h z n o = n o
  alone_kept (End u r) h z n o = n o
  alone_kept (DropEnd u) h z n o = n o
  alone_kept e h z n o = absurd z

  last_is : (e : Entry) (h : List Entry) → is_of t e ≡ true → last_call K t (e ∷ h) ≡ last_call_after e (cell K h) (status K t h) (last_call K t h)
  last_is e h is = rw is refl

  ran_by : (e : Entry) (c : Cell) (s : Status) (p : LastCall) → IsOfStep K t a e → (last_call_after e c s p).ran ≡ ran_after e p.ran
  ran_by (Claim u) c s p z = refl
  ran_by (Ran u b) c s p z = refl
  ran_by (Free u X) c s p z = refl
  ran_by (Fill u v X) c s p z = refl
  ran_by (Pass u X) c s p z = refl
  ran_by (End u Pending) c s p z = refl
  ran_by (End u r) c s p z = refl
  ran_by (DropEnd u) c s p z = refl
  ran_by e c s p z = absurd z

  ran_is : (e : Entry) (h : List Entry) → is_of t e ≡ true → IsOfStep K t a e → (last_call K t (e ∷ h)).ran ≡ ran_after e (last_call K t h).ran
  ran_is e h is z = ap (λ p. p.ran) (last_is e h is) ∙ ran_by e (cell K h) (status K t h) (last_call K t h) z

  ran_kept : (e : Entry) (r : Option Answer) → IsOfStep K t a e → RanSo K a r → RanSo K a (ran_after e r)
  ran_kept (Ran u b) r z s = z.1
  ran_kept (Claim u) r z s = s
  ran_kept (Free u X) r z s = s
  ran_kept (Fill u v X) r z s = s
  ran_kept (Pass u X) r z s = s
  ran_kept (End u k) r z s = s
  ran_kept (DropEnd u) r z s = s
  ran_kept e r z s = absurd z

  status_own : (e : Entry) (h : List Entry) → is_of t e ≡ true → status K t (e ∷ h) ≡ status_after e (cell K h) (status K t h)
  status_own e h is = rw is refl

  -- where a poll that ended Pending leaves its task
  pending_stands : (limit : ℕ) (h : List Entry) (r : Option Answer) → (OtherHolds K t h → ⊥) → MayEnd K limit t Pending r h
      → StandsSo (pending_status t (cell K h)) r
  pending_stands limit h (Some RanPending) n m = rw (m, eqb_self t) refl
  pending_stands limit h None n m = absurd (n m)
  pending_stands limit h _ n m = absurd m

  -- a task that is in a poll
  polling : (u : ℕ) (h : List Entry) (r : Option Answer) → u ≡ t → status K u h ≡ Polling → StandsSo (status K t h) r
  polling u h r z s = subst (λ x. StandsSo x r) (sym (subst (λ v. status K v h ≡ Polling) z s)) tt

  stands_after : (limit : ℕ) (e : Entry) (h : List Entry) → IsOfStep K t a e → IsLegal K limit e h → (OtherHolds K t h → ⊥)
      → StandsSo (status K t h) (last_call K t h).ran → StandsSo (status_after e (cell K h) (status K t h)) (ran_after e (last_call K t h).ran)
  stands_after limit (Claim u) h z l n s = s
  stands_after limit (Ran u b) h z l n s = polling u h (Some b) z.0 l.1
  stands_after limit (Free u X) h z l n s = s
  stands_after limit (Fill u v X) h z l n s = s
  stands_after limit (Pass u X) h z l n s = s
  stands_after limit (End u Pending) h z l n s =
      subst (λ v. StandsSo (pending_status v (cell K h)) (last_call K t h).ran) (sym z)
      (pending_stands limit h (last_call K t h).ran n (subst (λ v. MayEnd K limit v Pending (last_call K v h).ran h) z l.1))
  stands_after limit (End u r) h z l n s = tt
  stands_after limit (DropEnd u) h z l n s = tt
  stands_after limit e h z l n s = absurd z

  own_poll : (limit : ℕ) (e : Entry) (h : List Entry) → IsOfStep K t a e → IsLegal K limit e h → InOwnPoll K t a h → InOwnPoll K t a (e ∷ h)
  own_poll limit e h z l p =
      let is = own_is e z in
      let ran = ran_is e h is z in
      let at = status_own e h is in
      record {
        alone = alone_kept e h z p.alone;
        ran = subst (RanSo K a) (sym ran) (ran_kept e (last_call K t h).ran z p.ran);
        stands = subst (λ r. StandsSo (status K t (e ∷ h)) r) (sym ran)
            (subst (λ s. StandsSo s (ran_after e (last_call K t h).ran)) (sym at) (stands_after limit e h z l p.alone p.stands));
      }

  -- since the poll began
  pub own_polls : (limit : ℕ) (es h : List Entry) → AreOwn K t a es → IsRun K limit (es ++ h) → InOwnPoll K t a h → InOwnPoll K t a (es ++ h)
  own_polls limit [] h z r p = p
  own_polls limit (e ∷ es) h z r p = own_poll limit e (es ++ h) z.0 r.0 (own_polls limit es h z.1 r.1 p)

  -- as it begins
  pub own_begun : (w : ℕ) (h : List Entry) → (OtherHolds K t h → ⊥) → InOwnPoll K t a (Begin t w ∷ h)
  own_begun w h n = record { alone = n; ran = rw (eqb_self t) tt; stands = rw (eqb_self t) tt }

-- a task that is in no call then is gone, or its init is pending
pub rested : (s : Status) (r : Option Answer) → StandsSo s r → is_under_way s ≡ false → (s ≡ Gone) ⊎ ((s ≡ Holding) × (r ≡ Some RanPending))
rested Polling r z n = absurd (false≢true (sym n))
rested Gone r z n = inl refl
rested Holding r z n = inr (refl, z)
rested _ r z n = absurd z

-- the init of a once cell is pending only if the Go says so
asked_pending : (K : Kind) (a : Answer) → IsAsked K a RanPending → is_lazy K ≡ false → a ≡ RanPending
asked_pending Once a z n = sym z
asked_pending (OnceWith v) a z n = sym z
asked_pending (Lazy l) a z n = absurd (false≢true (sym n))
asked_pending (LazyWith v) a z n = absurd (false≢true (sym n))

pub asked_so : (K : Kind) (a : Answer) (r : Option Answer) → RanSo K a r → r ≡ Some RanPending → is_lazy K ≡ false → a ≡ RanPending
asked_so K a r z e n = asked_pending K a (subst (RanSo K a) e z) n
