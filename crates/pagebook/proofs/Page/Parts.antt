-- A page's two parts, the book's and its pen: what one says of the other, and how both change.
use Rattle.std.proofs.Common.{◌≡◌, ℕ, zero, suc, ◌+◌, ◌≤◌, List, [], ◌∷◌, ◌++◌, length, set, slice_get, sym, refl, ap, subst, arith, Some}
use mathlib.Core.Path.{Path}
use mathlib.Mathlib.Data.Part.{◌∈◌}
use seplogic.Ra.Pcs.{OpDef, OpDef-comm}
use seplogic.Ra.Ura.{Ura}
use seplogic.Ra.Constructions.Prod
use seplogic.Ra.Instances.Ag
use base.Fraction.{full_share}
use base.Share.{quarter, three_quarters}
use base.FractionLaws.{not-OpDef-full_share}
use base.Share
use base.Stored.{Gv, gnil, Coded}
use base.SetCodes.{coded, SetCoded-set}
use base.Algebras.{pcs, shares}
use base.Logic.{SProp, ent, sep, ex, guard, upd, via, ex_e, guard_e, guard_i, upd_i, upd_mono}
use base.Fml.{Share, Fml}
use types.Logic.{Logic, sem}
use types.Keyed.{entry, entries_take, entries_beside, entry_cut, entry_glue, entry_set}
use types.Kit.{‵, raw, ◌⊛◌, given, ◌$◌, ◌∵◌, !, qed, move, split, join, learn, check, done, use1, use2, suffices, settle, rewrite}
use Rattle.pagebook.specs.Pages.{Held}
use Rattle.pagebook.specs.Owned.{as_coded, page_algebra, part, unused, kept, pens}

module _ {M : Type 1} {𝓤 : Ura M} (𝓛 : Logic 𝓤) (δ : ℕ) where
  abbrev Pr : Type 2
  Pr = SProp 𝓤

  abbrev ◌⊢◌ : Pr → Pr → Type 1
  P ⊢ Q = ent 𝓤 P Q

  abbrev ◌∗◌ : Pr → Pr → Pr
  P ∗ Q = sep 𝓤 P Q

  abbrev ⟦◌⟧ : Fml → Pr
  ⟦ P ⟧ = sem 𝓛 P

  infix 26 ◌⊢◌
  infixr 35 ◌∗◌
  abbrev InBook : ℕ → Gv → Fml
  InBook k g = part δ k quarter g

  abbrev InPen : ℕ → Gv → Fml
  InPen k g = part δ k three_quarters g

  -- the book's part and the pen are the whole of a page
  two_parts : (g : Gv) → ◌∈◌ {α = Share × Gv} (full_share, g) (page_algebra.op (quarter, g) (three_quarters, g))
  two_parts g = Prod.mk-mem-op Share.op
      (Ag.op (SetCoded-set (coded as_coded))) {a = quarter} {a' = three_quarters} {x = full_share} {b = g} {b' = g}
      {y = g} Share.quarters (Ag.idem (SetCoded-set (coded as_coded)) g)

  -- a whole page falls into its two parts
  pub cut : (k : ℕ) (g : Gv) → ⟦ part δ k full_share g ⟧ ⊢ ⟦ InBook k g ⟧ ∗ ⟦ InPen k g ⟧
  cut k g = entry_cut page_algebra 𝓛 δ k (quarter, g) (three_quarters, g) (full_share, g) (two_parts g)

  -- a thread that has the whole of a page may set it to any value, and then has its two parts with that value
  pub set_whole : (k : ℕ) (g h : Gv) → ⟦ part δ k full_share g ⟧ ⊢ upd 𝓤 (⟦ InBook k h ⟧ ∗ ⟦ InPen k h ⟧)
  set_whole k g h = let B : Share × Gv → Type 0 = λ x. Path (Share × Gv) x (full_share, h) in
      let F : Share × Gv → Pr = λ x. guard 𝓤 (B x) ⟦ entry page_algebra δ k x ⟧ in
      let Z : Pr = ⟦ InBook k h ⟧ ∗ ⟦ InPen k h ⟧ in
      via 𝓤 (upd 𝓤 (ex 𝓤 F)) (entry_set page_algebra 𝓛 δ k (full_share, g) B ∣ ((full_share, h), refl) ∣₁
      (λ f d. absurd (not-OpDef-full_share f.0 d.0)))
      (upd_mono 𝓤 {P = ex 𝓤 F} {Q = Z} (ex_e 𝓤 F
      (λ x. guard_e 𝓤 (B x) ⟦ entry page_algebra δ k x ⟧
      (λ e. subst (λ (y : Share × Gv). ⟦ entry page_algebra δ k y ⟧ ⊢ Z) (sym e) (cut k h)))))

  -- both parts are the whole, and they have one value
  pub whole_again : (k : ℕ) (g h : Gv) → ⟦ InBook k g ⟧ ∗ ⟦ InPen k h ⟧ ⊢ guard 𝓤 (g ≡ h) ⟦ part δ k full_share g ⟧
  whole_again k g h = let F : Share × Gv
      → Pr = λ x. guard 𝓤 (x ∈ page_algebra.op (quarter, g) (three_quarters, h)) ⟦ entry page_algebra δ k x ⟧ in
      let Z : Pr = guard 𝓤 (g ≡ h) ⟦ part δ k full_share g ⟧ in
      via 𝓤 (ex 𝓤 F) (entry_glue page_algebra 𝓛 δ k (quarter, g) (three_quarters, h)) (ex_e 𝓤 F (λ x. guard_e 𝓤
      (x ∈ page_algebra.op (quarter, g) (three_quarters, h)) ⟦ entry page_algebra δ k x ⟧ (λ m.
      subst (λ (y : Share × Gv). ⟦ entry page_algebra δ k y ⟧ ⊢ Z) m.1
      (guard_i 𝓤 (g ≡ h) ⟦ part δ k full_share g ⟧ m.0.1))))

  -- the same, with the parts still apart
  one_value : (k : ℕ) (g h : Gv) → ⟦ InBook k g ⟧ ∗ ⟦ InPen k h ⟧ ⊢ guard 𝓤 (g ≡ h) (⟦ InBook k g ⟧ ∗ ⟦ InPen k h ⟧)
  one_value k g h = qed 𝓛 (‵ (InBook k g) ∷ ‵ (InPen k h) ∷ []) ∵
      use2 𝓛 (given (g ≡ h) (‵ (part δ k full_share g))) (whole_again k g h) $ learn ! (λ e. check ! e $
      use1 𝓛 (‵ (InBook k g) ⊛ ‵ (InPen k g)) (cut k g) $ split ! $
      rewrite ! 1 (λ (z : Gv). ‵ (InPen k z)) e refl $ done !)

  -- there is one pen of a page
  no_second : (k : ℕ) (g h : Gv) (Z : Pr) → ⟦ InPen k g ⟧ ∗ ⟦ InPen k h ⟧ ⊢ Z
  no_second k g h Z = let F : Share × Gv
      → Pr = λ x. guard 𝓤 (x ∈ page_algebra.op (three_quarters, g) (three_quarters, h)) ⟦ entry page_algebra δ k x ⟧ in
      via 𝓤 (ex 𝓤 F) (entry_glue page_algebra 𝓛 δ k (three_quarters, g) (three_quarters, h))
      (ex_e 𝓤 F (λ x. guard_e 𝓤 (x ∈ page_algebra.op (three_quarters, g) (three_quarters, h)) ⟦ entry page_algebra δ k
      x ⟧ (λ m. absurd (Share.three_quarters_once m.0.0))))

  -- so two pens are of two pages
  pub other_page : (k j : ℕ) (g h : Gv) → Dec (k ≡ j) → ⟦ InPen k g ⟧ ∗ ⟦ InPen j h ⟧
      ⊢ guard 𝓤 (k ≡ j → ⊥) (⟦ InPen k g ⟧ ∗ ⟦ InPen j h ⟧)
  other_page k j g h (yes e) = subst (λ (m : ℕ). ⟦ InPen k g ⟧ ∗ ⟦ InPen m h ⟧
      ⊢ guard 𝓤 (k ≡ m → ⊥) (⟦ InPen k g ⟧ ∗ ⟦ InPen m h ⟧)) e (no_second k g h _)
  other_page k j g h (no n) = guard_i 𝓤 (k ≡ j → ⊥) (⟦ InPen k g ⟧ ∗ ⟦ InPen j h ⟧) n

  -- a page whose pen there is is none of those that nobody uses
  not_unused : (k j : ℕ) (g : Gv) (Z : Pr) → k ≤ j → ⟦ unused δ k ⟧ ∗ ⟦ InPen j g ⟧ ⊢ Z
  not_unused k j g Z h = qed 𝓛 (‵ (unused δ k) ∷ ‵ (InPen j g) ∷ []) ∵ move ! (1 ∷ 0 ∷ []) $
      use2 𝓛 (given (OpDef page_algebra.op (three_quarters, g) (full_share, gnil)) (‵ (InPen j g) ⊛ ‵ (unused δ k)))
      (entries_beside page_algebra 𝓛 δ k j (λ _. (full_share, gnil)) (three_quarters, g) h) $
      learn ! (λ x. absurd (not-OpDef-full_share three_quarters
      ((OpDef-comm (pcs shares) {a = three_quarters} {b = full_share}).0 x.0)))

  module _ {P : Type 0} (cp : Coded P) where
    abbrev Pages : ℕ → List P → Fml
    Pages k xs = kept cp.code δ k xs

    abbrev Pen : ℕ → P → Fml
    Pen j x = InPen j (cp.code x)

    abbrev Hand : Held P → Fml
    Hand h = pens cp.code δ h

    -- a pen says what stands in the book. The book's pages here are those from k on, and i is the page's place among them
    pub pen_tells : (xs : List P) (k i j : ℕ) (x : P) → j ≡ k + i → ⟦ Pages k xs ⟧ ∗ ⟦ Pen j x ⟧
        ⊢ guard 𝓤 (slice_get xs i ≡ Some x) (⟦ Pages k xs ⟧ ∗ ⟦ Pen j x ⟧)
    pen_tells [] k i j x e = not_unused k j (cp.code x) _ (omega arith)
    pen_tells (y ∷ ys) k zero j x e = let is : j ≡ k = omega arith in
        qed 𝓛 ((‵ (InBook k (cp.code y)) ⊛ ‵ (Pages (suc k) ys)) ∷ ‵ (Pen j x) ∷ []) ∵
        split ! $ rewrite ! 2 (λ (m : ℕ). ‵ (Pen m x)) is refl $ move ! (0 ∷ 2 ∷ []) $
        use2 𝓛 (given (cp.code y ≡ cp.code x) (‵ (InBook k (cp.code y)) ⊛ ‵ (Pen k x)))
        (one_value k (cp.code y) (cp.code x)) $ learn ! (λ so. check ! (ap (λ (z : P). Some z) (cp.inj y x so)) $
        split ! $
        rewrite ! 1 (λ (m : ℕ). ‵ (Pen m x)) (sym is) refl $ move ! (0 ∷ 2 ∷ []) $ join ! $ done !)
    pen_tells (y ∷ ys) k (suc i) j x e = qed 𝓛
        ((‵ (InBook k (cp.code y)) ⊛ ‵ (Pages (suc k) ys)) ∷ ‵ (Pen j x) ∷ []) ∵ split ! $ move ! (1 ∷ 2 ∷ []) $
        use2 𝓛 (given (slice_get ys i ≡ Some x) (‵ (Pages (suc k) ys) ⊛ ‵ (Pen j x)))
        (pen_tells ys (suc k) i j x (omega arith)) $
        learn ! (λ so. check ! so $ split ! $ move ! (2 ∷ 0 ∷ []) $ join ! $ done !)

    -- with its pen a page is set
    pub pen_writes : (xs : List P) (k i j : ℕ) (x y : P) → j ≡ k + i → ⟦ Pages k xs ⟧ ∗ ⟦ Pen j x ⟧
        ⊢ upd 𝓤 (⟦ Pages k (set xs i y) ⟧ ∗ ⟦ Pen j y ⟧)
    pen_writes [] k i j x y e = not_unused k j (cp.code x) _ (omega arith)
    pen_writes (z ∷ zs) k zero j x y e = let is : j ≡ k = omega arith in
        let Z : Pr = ⟦ Pages k (y ∷ zs) ⟧ ∗ ⟦ Pen j y ⟧ in
        qed 𝓛 ((‵ (InBook k (cp.code z)) ⊛ ‵ (Pages (suc k) zs)) ∷ ‵ (Pen j x) ∷ []) ∵ split ! $
        rewrite ! 2 (λ (m : ℕ). ‵ (Pen m x)) is refl $ move ! (0 ∷ 2 ∷ []) $
        use2 𝓛 (given (cp.code z ≡ cp.code x) (‵ (part δ k full_share (cp.code z))))
        (whole_again k (cp.code z) (cp.code x)) $ learn ! (λ _.
        use1 𝓛 (raw (upd 𝓤 (⟦ InBook k (cp.code y) ⟧ ∗ ⟦ Pen k y ⟧))) (set_whole k (cp.code z) (cp.code y)) $
        settle 𝓛 Z (‵ (InBook k (cp.code y)) ⊛ ‵ (Pen k y)) $ suffices ! _ (upd_i 𝓤 Z) $ split ! $
        rewrite ! 1 (λ (m : ℕ). ‵ (Pen m y)) (sym is) refl $ move ! (0 ∷ 2 ∷ []) $ join ! $ done !)
    pen_writes (z ∷ zs) k (suc i) j x y e = let Z : Pr = ⟦ Pages k (z ∷ set zs i y) ⟧ ∗ ⟦ Pen j y ⟧ in
        qed 𝓛 ((‵ (InBook k (cp.code z)) ⊛ ‵ (Pages (suc k) zs)) ∷ ‵ (Pen j x) ∷ []) ∵ split ! $ move ! (1 ∷ 2 ∷ []) $
        use2 𝓛 (raw (upd 𝓤 (⟦ Pages (suc k) (set zs i y) ⟧ ∗ ⟦ Pen j y ⟧)))
        (pen_writes zs (suc k) i j x y (omega arith)) $ settle 𝓛 Z (‵ (Pages (suc k) (set zs i y)) ⊛ ‵ (Pen j y)) $
        suffices ! _ (upd_i 𝓤 Z) $ split ! $
        move ! (2 ∷ 0 ∷ []) $ join ! $ done !

    -- a page is added, and its pen is had
    pub page_added : (xs : List P) (k j : ℕ) (y : P) → j ≡ k + length xs → ⟦ Pages k xs ⟧
        ⊢ upd 𝓤 (⟦ Pages k (xs ++ y ∷ []) ⟧ ∗ ⟦ Pen j y ⟧)
    page_added [] k j y e = let is : k ≡ j = omega arith in let Z : Pr = ⟦ Pages k (y ∷ []) ⟧ ∗ ⟦ Pen j y ⟧ in
        qed 𝓛 (‵ (unused δ k) ∷ []) ∵
        use1 𝓛 (‵ (part δ k full_share gnil) ⊛ ‵ (unused δ (suc k)))
        (entries_take page_algebra 𝓛 δ k (λ _. (full_share, gnil))) $ split ! $
        use1 𝓛 (raw (upd 𝓤 (⟦ InBook k (cp.code y) ⟧ ∗ ⟦ Pen k y ⟧))) (set_whole k gnil (cp.code y)) $
        settle 𝓛 Z (‵ (InBook k (cp.code y)) ⊛ ‵ (Pen k y)) $ suffices ! _ (upd_i 𝓤 Z) $ split ! $
        rewrite ! 1 (λ (m : ℕ). ‵ (Pen m y)) is refl $ move ! (0 ∷ 2 ∷ []) $ join ! $ done !
    page_added (x ∷ xs) k j y e = let Z : Pr = ⟦ Pages k (x ∷ (xs ++ y ∷ [])) ⟧ ∗ ⟦ Pen j y ⟧ in
        qed 𝓛 (‵ (InBook k (cp.code x)) ∷ ‵ (Pages (suc k) xs) ∷ []) ∵ move ! (1 ∷ []) $
        use1 𝓛 (raw (upd 𝓤 (⟦ Pages (suc k) (xs ++ y ∷ []) ⟧ ∗ ⟦ Pen j y ⟧)))
        (page_added xs (suc k) j y (omega arith)) $ settle 𝓛 Z (‵ (Pages (suc k) (xs ++ y ∷ [])) ⊛ ‵ (Pen j y)) $
        suffices ! _ (upd_i 𝓤 Z) $ split ! $
        move ! (2 ∷ 0 ∷ []) $ join ! $ done !
