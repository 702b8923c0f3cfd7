-- What one more entry changes for the tasks that it is not of.
use Rattle.std.proofs.Common.{◌≡◌, ◌≢◌, ℕ, Bool, true, false, ◌==◌, ◌⊎◌, inl, inr, ⊎_elim, List, [], ◌∷◌, refl, sym, ap, ◌∙◌, subst, arith}
use Rattle.std.proofs.lemmas.Grind.{common_steps}
use Rattle.std.proofs.lemmas.Bool.{eqb-true, false≢true}
use Rattle.std.proofs.lemmas.Bool.Decides.{nat_tests}
use Rattle.once_machine.specs.Numbers.{member}
use Rattle.once_machine.specs.Record.{Begin, End, Entry, Fill, Free, Kind, Pass, is_of, is_own}
use Rattle.once_machine.specs.Cell.{Cell, Held, SetTo, cell, cell_after, is_set}
use Rattle.once_machine.specs.Tasks.{Status, Waiting, is_under_way, last_call, status, status_after}
use Rattle.once_machine.specs.Refusals.{OtherActs, OtherHolds, Since}
use Rattle.once_machine.specs.Wakers.{handed_since, is_end_of}
use Rattle.once_machine.specs.Run.{IsLegal, MayFree, MayPass}
use Rattle.once_machine.proofs.Listing.Members.{member-append}

-- whether t holds
abbrev pub holds : ℕ → Cell → Bool
holds t (Held u) = u == t
holds t _ = false

abbrev pub Met : (K : Kind) → ℕ → List Entry → Type 0
Met K t h = Since t (OtherActs K t) h

abbrev pub MetHolder : (K : Kind) → ℕ → List Entry → Type 0
MetHolder K t h = Since t (OtherHolds K t) h

abbrev pub SomeoneWaits : (K : Kind) → List Entry → Type 0
SomeoneWaits K h = (u : ℕ) × (status K u h ≡ Waiting)

pub since_more : (u : ℕ) (P : List Entry → Type 0) (e : Entry) (h : List Entry) → is_of u e ≡ false → Since u P h → Since u P (e ∷ h)
since_more u P (Begin t w) h n s = inr (rw n s)
since_more u P _ h n s = inr s

-- what stays for u
pub record Keeps (K : Kind) (u : ℕ) (h h' : List Entry) : Type 0 where
  pub status_is : status K u h' ≡ status K u h
  pub call_is : last_call K u h' ≡ last_call K u h
  pub holds_is : holds u (cell K h') ≡ holds u (cell K h)
  pub set_stays : (v : ℕ) → cell K h ≡ SetTo v → cell K h' ≡ SetTo v
  pub became_set : is_set (cell K h) ≡ false → (is_set (cell K h') ≡ false) ⊎ Met K u h'
  pub met : Met K u h → Met K u h'
  pub met_holder : MetHolder K u h → MetHolder K u h'
  pub waits : SomeoneWaits K h → Met K u h' ⊎ SomeoneWaits K h'
  pub handed : (w : ℕ) → member w (handed_since u h) ≡ true → member w (handed_since u h') ≡ true

pub keeps_all : (K : Kind) (u : ℕ) (h : List Entry) → Keeps K u h h
keeps_all K u h = record {
  status_is = refl;
  call_is = refl;
  holds_is = refl;
  set_stays = λ v e. e;
  became_set = λ n. inl n;
  met = λ m. m;
  met_holder = λ m. m;
  waits = λ s. inr s;
  handed = λ w m. m;
}

pub keeps_both : (K : Kind) (u : ℕ) (a b c : List Entry) → Keeps K u a b → Keeps K u b c → Keeps K u a c
keeps_both K u a b c k l = record {
  status_is = l.status_is ∙ k.status_is;
  call_is = l.call_is ∙ k.call_is;
  holds_is = l.holds_is ∙ k.holds_is;
  set_stays = λ v e. l.set_stays v (k.set_stays v e);
  became_set = λ n. ⊎_elim (λ x. l.became_set x) (λ m. inr (l.met m)) (k.became_set n);
  met = λ m. l.met (k.met m);
  met_holder = λ m. l.met_holder (k.met_holder m);
  waits = λ s. ⊎_elim (λ m. inl (l.met m)) (λ x. l.waits x) (k.waits s);
  handed = λ w m. l.handed w (k.handed w m);
}

-- another task holds now
pub since_now : (K : Kind) (u t : ℕ) (h : List Entry) → u ≢ t → cell K h ≡ Held t → Met K u h
since_now K u t [] n c = grind arith
since_now K u t (e ∷ h) n c = inl (inl (t, n, c))

pub since_now_holder : (K : Kind) (u t : ℕ) (h : List Entry) → u ≢ t → cell K h ≡ Held t → MetHolder K u h
since_now_holder K u t [] n c = grind arith
since_now_holder K u t (e ∷ h) n c = inl (t, n, c)

-- another task is in a poll or a drop now
pub since_now_acts : (K : Kind) (u t : ℕ) (h : List Entry) → u ≢ t → is_under_way (status K t h) ≡ true → Met K u h
since_now_acts K u t [] n c = grind arith
since_now_acts K u t (e ∷ h) n c = inl (inr (t, n, c))

cell_holds : (K : Kind) (u : ℕ) (e : Entry) (limit : ℕ) (h : List Entry) → is_own e ≡ false → is_of u e ≡ false
    → IsLegal K limit e h → holds u (cell_after e (cell K h)) ≡ holds u (cell K h)
cell_holds K u e limit h x n l = grind (arith, nat_tests, common_steps)

pub set_stays_after : (K : Kind) (e : Entry) (limit : ℕ) (h : List Entry) (v : ℕ) → is_own e ≡ false
    → IsLegal K limit e h → cell K h ≡ SetTo v → cell_after e (cell K h) ≡ SetTo v
set_stays_after K e limit h v x l s = grind (arith, nat_tests, common_steps)

apart : (t u : ℕ) → (t == u) ≡ false → t ≢ u
apart t u n = grind (arith, nat_tests)

became_set_after : (K : Kind) (u : ℕ) (e : Entry) (limit : ℕ) (h : List Entry) → is_own e ≡ false → is_of u e ≡ false
    → IsLegal K limit e h → is_set (cell K h) ≡ false → (is_set (cell_after e (cell K h)) ≡ false) ⊎ Met K u (e ∷ h)
became_set_after K u (Fill t k X) limit h x n l s = inr (since_more u (OtherActs K u) (Fill t k X) h n (since_now K u t h (λ e. apart t u n (sym e)) l.0))
became_set_after K u e limit h x n l s = grind (arith, nat_tests, common_steps)

no_free : (K : Kind) (t : ℕ) {v : ℕ} → t ≡ v → (h : List Entry) → status K v h ≡ Waiting → MayFree (status K t h) (last_call K t h).ran → ⊥
no_free K t {v} e h s m =
    let w : status K t h ≡ Waiting = ap (λ k. status K k h) e ∙ s in
    let P : Status → Type 0 = λ x. MayFree x (last_call K t h).ran in
    subst P w m

no_pass : (K : Kind) (t : ℕ) {v : ℕ} → t ≡ v → (h : List Entry) → status K v h ≡ Waiting
    → MayPass (status K t h) (last_call K t h).claimed (last_call K t h).ran → ⊥
no_pass K t {v} e h s m =
    let w : status K t h ≡ Waiting = ap (λ k. status K k h) e ∙ s in
    let P : Status → Type 0 = λ x. MayPass x (last_call K t h).claimed (last_call K t h).ran in
    subst P w m

-- an entry of another task ends no poll of u
pub no_end : (u : ℕ) (e : Entry) → is_of u e ≡ false → is_end_of u e ≡ false
no_end u (End t r) n = n
no_end u _ n = refl

-- what was handed out stays so
handed_after : (u : ℕ) (e : Entry) (h : List Entry) (w : ℕ) → is_of u e ≡ false → member w (handed_since u h) ≡ true → member w (handed_since u (e ∷ h)) ≡ true
handed_after u e h w n m = grind (arith, member-append, no_end u e n)

-- only a Begin of either kind is legal for a task that waits
waiter_acts : (K : Kind) (v : ℕ) (e : Entry) (limit : ℕ) (h : List Entry) → is_of v e ≡ true → IsLegal K limit e h
    → status K v h ≡ Waiting → is_under_way (status_after e (cell K h) (status K v h)) ≡ true
waiter_acts K v (Free t X) limit h n l s = absurd (no_free K t (eqb-true t v n) h s l.1)
waiter_acts K v (Pass t X) limit h n l s = absurd (no_pass K t (eqb-true t v n) h s l.1)
waiter_acts K v e limit h n l s = grind (arith, nat_tests, common_steps)

module _ (K : Kind) (u : ℕ) (e : Entry) (limit : ℕ) (h : List Entry) (n : is_of u e ≡ false) (l : IsLegal K limit e h) where
  waits_by : (v : ℕ) (b : Bool) → status K v h ≡ Waiting → is_of v e ≡ b → Met K u (e ∷ h) ⊎ SomeoneWaits K (e ∷ h)
  waits_by v true s is =
      let acts : is_under_way (status K v (e ∷ h)) ≡ true = rw is (waiter_acts K v e limit h is l s) in
      inl (since_now_acts K u v (e ∷ h) (λ same. false≢true (sym n ∙ subst (λ k. is_of k e ≡ true) (sym same) is)) acts)
  waits_by v false s is = inr (v, rw is s)

  waits_after : SomeoneWaits K h → Met K u (e ∷ h) ⊎ SomeoneWaits K (e ∷ h)
  waits_after s = waits_by s.0 (is_of s.0 e) s.1 refl

-- an entry of another task leaves u as it was
pub legal_keeps : (K : Kind) (u : ℕ) (e : Entry) (limit : ℕ) (h : List Entry) → is_of u e ≡ false → IsLegal K limit e h → is_own e ≡ false → Keeps K u h (e ∷ h)
legal_keeps K u e limit h n l x = record {
  status_is = rw n;
  call_is = rw n;
  holds_is = cell_holds K u e limit h x n l;
  set_stays = λ v. set_stays_after K e limit h v x l;
  became_set = became_set_after K u e limit h x n l;
  met = since_more u (OtherActs K u) e h n;
  met_holder = since_more u (OtherHolds K u) e h n;
  waits = waits_after K u e limit h n l;
  handed = λ w. handed_after u e h w n;
}
