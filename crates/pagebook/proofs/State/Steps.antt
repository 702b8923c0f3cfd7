-- The steps of the state of a `Slot`: the slot begins to be written, it is full, and looks at it. The state has no bytes, so no code runs for them.
use Rattle.std.proofs.Common.{◌∙◌, ◌≡◌, ℕ, ◌<◌, List, [], ◌∷◌, ◌++◌, sym, refl, ap, subst, arith}
use mathlib.Core.List.{not-mem-nil}
use seplogic.Ra.Ura.{Ura}
use base.Stored.{Gv, gnil, gnum, gcons, Coded}
use base.Fraction.{full_share}
use mir.Val.{Val}
use base.Logic.{SProp, ent, sep, ex, emp, id⊢, upd, upd_i}
use base.Fml.{Lft, Incl, Incl-refl, GName, Share, Fml, ftrue, fsep, fex, fobs, fauth, fres, fbor, flft, fnamed}
use base.Before.{before}
use contract.BorrowLft.{⊑_meet, ⊑_static}
use ghost.Rules.{Toks, span}
use types.Logic.{Logic, sem, lfts}
use types.SemTy.{SemTy}
use types.Kit.{Item, mean, ‵, raw, ◌⊛◌, some, given, later, ◌$◌, ◌∵◌, !, qed, by, move, keep, drop, use0, use1, use2, use3, split, split3, fsplit, fsplit3, fjoin}
use types.Kit.{fjoin3, fpick, fpack, pick, learn, show, frame, assume, suffices, await, updating, now, settle, feq_i, feq_l, done}
use types.Tokens.{res_dup}
use types.Na.{before_dup}
use denote.RattleType.{RattleType, RowLaws}
use denote.Memory.{shared_of, part_at, part_of, cell_at}
use denote.Shares.{Shares, settles, bor-Cut}
use denote.Steps.{nothing}
use denote.SharingLaws.{contraction}
use Rattle.core.specs.declared.option.Option.TheVariants.{Some}
use Rattle.core.specs.contracts.option.Option.{the_row as OptionOf}
use Rattle.pagebook.specs.Pages.{Held, View, Moves}
use Rattle.pagebook.specs.Owned.{known, word_pen, seen_owns, pens_own}
use Rattle.pagebook.specs.Slot.{Placed, word_of, Phase, empty, writing, full, Rest, Filled, Kept, resting, Turn, sign, written, at, told, promised, Field, tie, lent, standing, Cell, in_turn}
use Rattle.pagebook.proofs.Value.Slots.{first_of}
use Rattle.pagebook.proofs.Book.Steps as steps

-- the field lives as long as the value
pub option_lives : (R : RattleType) → Incl R.lives (OptionOf R).lives
option_lives R = ⊑_meet R.lives (R.lives ++ []) ((R.lives ++ []) ++ []) one
    (⊑_meet R.lives (R.lives ++ []) [] one (⊑_static R.lives))
  where
    one : Incl R.lives (R.lives ++ [])
    one = ⊑_meet R.lives R.lives [] (Incl-refl R.lives) (⊑_static R.lives)

-- no code of a phase with a value is that of one without
abbrev paired : Gv → ℕ
paired (gcons a b) = 1
paired gnil = 0
paired (gnum n) = 0

module _ {M : Type 1} {𝓤 : Ura M} (𝓛 : Logic 𝓤) (R : RattleType) (fits : List ℕ → R.Denot → Type 0) (d : Placed)
    (t : Turn) (b o : ℕ) where
  open 𝓛 use {H, A}

  abbrev Pr : Type 2
  Pr = SProp 𝓤

  abbrev ◌⊢◌ : Pr → Pr → Type 1
  P ⊢ Q = ent 𝓤 P Q

  abbrev ◌∗◌ : Pr → Pr → Pr
  P ∗ Q = sep 𝓤 P Q

  abbrev ⟦◌⟧ : Fml → Pr
  ⟦ P ⟧ = sem 𝓛 P

  infix 26 ◌⊢◌
  infixr 35 ◌∗◌
  abbrev α : Lft
  α = t.0

  abbrev γ : GName
  γ = d.id

  abbrev O : RattleType
  O = OptionOf R

  abbrev I : Fml
  I = Cell R fits d t b o

  abbrev S : Type 0
  S = Phase R.Denot

  abbrev m : ℕ → Fml
  m n = word_pen (word_of d) n

  -- what a `&` to a slot is can be had twice
  pub turn_copied : (j : ℕ) (κ : Lft) → ⟦ in_turn R fits d t b o j κ ⟧ ⊢ ⟦ in_turn R fits d t b o j κ ⟧
      ∗ ⟦ in_turn R fits d t b o j κ ⟧
  turn_copied j κ = let N : Fml = fnamed j (fbor α I) in
      qed 𝓛 (‵ (in_turn R fits d t b o j κ) ∷ []) ∵
      fsplit3 ! $ use1 𝓛 (‵ (before κ α) ⊛ ‵ (before κ α)) (before_dup 𝓛 κ α) $ split ! $ move ! (2 ∷ []) $
      fpick ! (λ past. drop ! $ move ! (2 ∷ []) $
      use1 𝓛 (‵ N ⊛ ‵ N) (𝓛.invs.named_dup j (fbor α I)) $
      split ! $ nothing ! $ fpack ! (d.book.number < j) (λ _. ftrue) past $ move ! (3 ∷ 0 ∷ 1 ∷ []) $ fjoin3 ! $
      nothing ! $ fpack ! (d.book.number < j) (λ _. ftrue) past $ move ! (3 ∷ 0 ∷ 2 ∷ []) $ fjoin3 ! $ done !)

  -- all that the invariant holds but the word's pen
  abbrev pub beside : ℕ → S → Fml
  beside n s = fsep (fauth γ (sign R s)) (fsep (told R fits d n s) (fsep (tie R fits d t b o s) (lent R fits d t b o s)))

  abbrev parts : Item 𝓤
  parts = some (λ (z : ℕ × S). ‵ (m z.0) ⊛ ‵ (beside z.0 z.1))

  -- the invariant is opened
  apart : ⟦ I ⟧ ⊢ mean 𝓛 parts
  apart = qed 𝓛 (‵ I ∷ []) ∵ fpick ! (λ z. fsplit ! $ fsplit3 ! $ move ! (1 ∷ []) $
      fsplit ! $ move ! (3 ∷ 4 ∷ []) $ fjoin ! $ move ! (1 ∷ 2 ∷ 0 ∷ []) $ fjoin3 ! $
      show ! (λ (y : ℕ × S). ⟦ m y.0 ⟧ ∗ ⟦ beside y.0 y.1 ⟧) z $ move ! (1 ∷ 0 ∷ []) $ done !)

  -- and closed
  put_back : (n : ℕ) (s : S) → ⟦ m n ⟧ ∗ ⟦ beside n s ⟧ ⊢ ⟦ I ⟧
  put_back n s = qed 𝓛 (‵ (m n) ∷ ‵ (beside n s) ∷ []) ∵ move ! (1 ∷ []) $
      fsplit3 ! $ move ! (2 ∷ []) $ fsplit ! $ move ! (2 ∷ 3 ∷ []) $ fjoin ! $ move ! (3 ∷ 0 ∷ 1 ∷ []) $
      fjoin3 ! $ fjoin ! $ fpack ! (ℕ × S) (standing R fits d t b o) (n, s) $ done !

  -- what the thread that writes has
  abbrev pub MayWrite : Fml
  MayWrite = fsep (fobs γ gnil) (fsep (tie R fits d t b o empty) (lent R fits d t b o empty))

  -- what all have once the value stands
  abbrev pub ToRead : R.Denot → Fml
  ToRead x = fsep (tie R fits d t b o (full x)) (lent R fits d t b o (full x))

  -- the field's memory, with a value that is as promised
  abbrev pub Mem : SemTy
  Mem = promised R fits d

  -- the field is machine values, and what they own
  pub field_out : (v : O.Denot) → ⟦ Mem.own_at v b (at R o) ⟧
      ⊢ mean 𝓛 (some (λ (vs : List Val). ‵ (cell_at full_share O.mir vs b (at R o)) ⊛ ‵ (O.own_val v vs)))
  unfolding part_of
  field_out v = qed 𝓛 (‵ (Mem.own_at v b (at R o)) ∷ []) ∵ fsplit ! $ fpick ! (λ vs. fsplit ! $ keep ! (0 ∷ 1 ∷ []) $
      show ! (λ (us : List Val). ⟦ cell_at full_share O.mir us b (at R o) ⟧ ∗ ⟦ O.own_val v us ⟧) vs $ done !)

  -- and it is made of them, if the value is as promised
  pub field_in : (v : O.Denot) (vs : List Val) → Kept R fits d v
      → ⟦ cell_at full_share O.mir vs b (at R o) ⟧ ∗ ⟦ O.own_val v vs ⟧ ⊢ ⟦ Mem.own_at v b (at R o) ⟧
  unfolding part_of
  field_in v vs so = qed 𝓛 (‵ (cell_at full_share O.mir vs b (at R o)) ∷ ‵ (O.own_val v vs) ∷ []) ∵
      fjoin ! $ fpack ! (List Val) (λ us. fsep (cell_at full_share O.mir us b (at R o)) (O.own_val v us)) vs $
      nothing ! $ fpack ! (Kept R fits d v) (λ _. ftrue) so $ move ! (1 ∷ 0 ∷ []) $ fjoin ! $ done !

  -- a borrow of the field's memory is one of the value there
  value_borrowed : (ts : Toks) → Incl (span ts) α → (v : O.Denot) → A.bor α (Mem.own_at v b (at R o)) ∗ lfts 𝓛 ts
      ⊢ H.⇛ (A.bor α (part_at O full_share v b (at R o)) ∗ lfts 𝓛 ts)
  value_borrowed ts sp v = let P : Fml = part_at O full_share v b (at R o) in let K : Fml = known (Kept R fits d v) in
      qed 𝓛 (‵ (fbor α (fsep P K)) ∷ raw (lfts 𝓛 ts) ∷ []) ∵ updating ! $
      use2 𝓛 (later (‵ (fbor α P) ⊛ ‵ (fbor α K) ⊛ raw (lfts 𝓛 ts))) (bor-Cut 𝓛 α ts sp (fsep P K) P K (emp 𝓤)
      (qed 𝓛 (‵ P ∷ ‵ K ∷ raw (emp 𝓤) ∷ []) ∵ fjoin ! $ keep ! (0 ∷ []) $ done !)
      (qed 𝓛 (‵ (fsep P K) ∷ []) ∵ fsplit ! $ use0 𝓛 (raw (emp 𝓤)) (id⊢ 𝓤 (emp 𝓤)) $ move ! (1 ∷ 2 ∷ 0 ∷ []) $ done !)) $
      await ! tt $ split3 ! $ now ! $ keep ! (0 ∷ 2 ∷ []) $ done !

  -- the value was written, and is read from now on
  pub read_from_now : (l : Lft) → Shares 𝓛 O l → (ts : Toks) → Incl (span ts) l → Incl (span ts) α → (x : R.Denot)
      → A.obs t.1 (O.coded.code (Some x)) ∗ A.bor α (Field R fits d t b o) ∗ lfts 𝓛 ts ⊢ H.⇛ (⟦ ToRead x ⟧ ∗ lfts 𝓛 ts)
  read_from_now l shares ts inc sp x = let p : ℕ = at R o in let c = O.coded.code (Some x) in
      qed 𝓛 (‵ (fobs t.1 c) ∷ ‵ (fbor α (Field R fits d t b o)) ∷ raw (lfts 𝓛 ts) ∷ []) ∵ updating ! $
      use3 𝓛 (later (‵ (fobs t.1 c) ⊛ ‵ (fbor α (Mem.own_at (Some x) b p)) ⊛ raw (lfts 𝓛 ts)))
      (settles 𝓛 Mem α ts sp t.1 (Some x) b p) $ await ! tt $ split ! $
      use1 𝓛 (‵ (fres t.1 c)) (𝓛.names.obs-res t.1 c) $ move ! (1 ∷ []) $
      use1 𝓛 (later (‵ (fbor α (part_at O full_share (Some x) b p)) ⊛ raw (lfts 𝓛 ts)))
      (value_borrowed ts sp (Some x)) $ await ! tt $
      use1 𝓛 (later (‵ (shared_of O (Some x) b p α) ⊛ raw (lfts 𝓛 ts))) (shares (Some x) α ts b p inc sp) $
      await ! tt $ split ! $
      move ! (2 ∷ 0 ∷ []) $ fjoin ! $ now ! $ done !

  -- the value, a token of it, and that it is as promised
  abbrev pub Shown : R.Denot → Fml
  Shown x = fsep (known (fits d.about x)) (fsep (written R γ x) (lent R fits d t b o (full x)))

  -- a token of a slot that nobody shares: its value lies in the field, and is as promised
  pub rests_full : (x : R.Denot) (s : Rest R.Denot) → ⟦ resting R fits d s ⟧ ∗ ⟦ written R γ x ⟧
      ⊢ contract.Monad.fact 𝓤 ((s.1 ≡ Some x) × fits d.about x)
  rests_full x s = let g : Gv = sign R s.2 in let T : Type 0 = (s.1 ≡ Some x) × fits d.about x in
      qed 𝓛 (‵ (resting R fits d s) ∷ ‵ (written R γ x) ∷ []) ∵ fsplit3 ! $ move ! (2 ∷ []) $
      fpick ! (λ lies. drop ! $ move ! (1 ∷ []) $ fsplit ! $ move ! (3 ∷ 0 ∷ []) $
      use2 𝓛 (given (sign R (full x) ≡ g) (‵ (written R γ x) ⊛ ‵ (fauth γ g)))
      (𝓛.names.res_agree γ (sign R (full x)) g) $ learn ! (λ e. let same : s.1 ≡ Some x = is s.2 lies.1 e in
      by ! (contract.Monad.fact_i 𝓤 T _ (same, subst (Kept R fits d) same lies.0))))
    where
      is : (p : S) → Filled R s.1 p → sign R (full x) ≡ sign R p → s.1 ≡ Some x
      is empty lies e = absurd (let z : 1 ≡ 0 = ap paired e in omega arith)
      is writing lies e = absurd (let z : 1 ≡ 0 = ap paired e in omega arith)
      is (full y) lies e = lies ∙ ap (λ (u : R.Denot). Some u) (sym (R.coded.inj x y (ap first_of e)))

  abbrev Into : (ℕ → ℕ) → (ℕ → Fml) → ℕ → S → Pr
  Into f also n s = ⟦ beside (f n) s ⟧ ∗ ⟦ also n ⟧

  -- a thread that finds 0 may write
  claims : (n : ℕ) (s : S) → n ≡ 0 → ⟦ beside n s ⟧ ∗ emp 𝓤 ⊢ upd 𝓤 (ex 𝓤 (Into (λ _. 1) (λ _. MayWrite) n))
  claims n empty z = let G : S → Pr = Into (λ _. 1) (λ _. MayWrite) n in
      qed 𝓛 (‵ (beside n empty) ∷ raw (emp 𝓤) ∷ []) ∵ suffices ! _ (upd_i 𝓤 (ex 𝓤 G)) $ fsplit3 ! $ move ! (1 ∷ []) $
      fsplit ! $ drop ! $ move ! (0 ∷ 2 ∷ []) $ fjoin ! $
      nothing ! $ nothing ! $ fjoin ! $ feq_i ! ℕ 1 1 refl $ move ! (3 ∷ 0 ∷ 1 ∷ []) $ fjoin3 ! $ show ! G writing $
      keep ! (0 ∷ 1 ∷ []) $ done !
  claims n writing z = qed 𝓛 (‵ (beside n writing) ∷ raw (emp 𝓤) ∷ []) ∵ fsplit3 ! $ move ! (1 ∷ []) $
      feq_l ! (λ e. absurd (omega (arith, e, z)))
  claims n (full x) z = qed 𝓛 (‵ (beside n (full x)) ∷ raw (emp 𝓤) ∷ []) ∵ fsplit3 ! $ move ! (1 ∷ []) $
      fsplit ! $ fpick ! (λ so. let e : n ≡ 2 = so.0 in absurd (omega (arith, e, z)))

  -- what the second step of a put gives
  abbrev pub Wrote : R.Denot → ℕ → Fml
  Wrote x n = fsep (written R γ x) (known (n ≡ 1))

  -- a thread that may write, and wrote x, makes the slot full. It finds 1
  fills : (x : R.Denot) → fits d.about x → (n : ℕ) (s : S) → ⟦ beside n s ⟧ ∗ (A.obs γ gnil ∗ ⟦ ToRead x ⟧)
      ⊢ upd 𝓤 (ex 𝓤 (Into (λ _. 2) (Wrote x) n))
  fills x fit n empty = let c : Gv = sign R (full x) in let Z : Pr = ex 𝓤 (Into (λ _. 2) (Wrote x) n) in
      qed 𝓛 (‵ (beside n empty) ∷ ‵ (fobs γ gnil) ∷ ‵ (ToRead x) ∷ []) ∵ fsplit3 ! $ move ! (1 ∷ []) $
      fsplit ! $ move ! (4 ∷ 2 ∷ []) $ use2 𝓛 (raw (upd 𝓤 (A.obs γ c ∗ A.auth γ c)))
      (𝓛.names.name_set_upd γ gnil gnil c) $
      settle 𝓛 Z (‵ (fobs γ c) ⊛ ‵ (fauth γ c)) $ split ! $ move ! (3 ∷ 1 ∷ []) $
      use2 𝓛 (given (gnil ≡ c) (‵ (fobs γ gnil) ⊛ ‵ (fauth γ c))) (𝓛.names.name_agree γ gnil c) $
      learn ! (λ e. absurd (let z : 0 ≡ 1 = ap paired e in omega arith))
  fills x fit n writing = let c : Gv = sign R (full x) in let G : S → Pr = Into (λ _. 2) (Wrote x) n in
      let Z : Pr = ex 𝓤 G in
      qed 𝓛 (‵ (beside n writing) ∷ ‵ (fobs γ gnil) ∷ ‵ (ToRead x) ∷ []) ∵ fsplit3 ! $ move ! (1 ∷ []) $
      feq_l ! (λ one. keep ! (2 ∷ 0 ∷ 3 ∷ []) $
      use2 𝓛 (raw (upd 𝓤 (A.obs γ c ∗ A.auth γ c))) (𝓛.names.name_set_upd γ gnil gnil c) $
      settle 𝓛 Z (‵ (fobs γ c) ⊛ ‵ (fauth γ c)) $ split ! $ suffices ! _ (upd_i 𝓤 Z) $
      use1 𝓛 (‵ (fres γ c)) (𝓛.names.obs-res γ c) $ res_dup ! $ show ! G (full x) $
      nothing ! $ fpack ! ((2 ≡ 2) × fits d.about x) (λ _. ftrue) (refl, fit) $ fjoin ! $ move ! (2 ∷ 0 ∷ 3 ∷ []) $
      fjoin3 ! $ nothing ! $ fpack ! (n ≡ 1) (λ _. ftrue) one $ move ! (2 ∷ 0 ∷ []) $ fjoin ! $ move ! (1 ∷ 0 ∷ []) $
      done !)
  fills x fit n (full y) = let c : Gv = sign R (full y) in
      qed 𝓛 (‵ (beside n (full y)) ∷ ‵ (fobs γ gnil) ∷ ‵ (ToRead x) ∷ []) ∵ fsplit ! $ move ! (2 ∷ 0 ∷ []) $
      use2 𝓛 (given (gnil ≡ c) (‵ (fobs γ gnil) ⊛ ‵ (fauth γ c))) (𝓛.names.name_agree γ gnil c) $
      learn ! (λ e. absurd (let z : 0 ≡ 1 = ap paired e in omega arith))

  module _ (Knows : RowLaws O) where
    -- a full slot shows its value as often as one likes
    shows_value : (n : ℕ) (x : R.Denot) → ⟦ beside n (full x) ⟧ ⊢ ⟦ beside n (full x) ⟧ ∗ ⟦ Shown x ⟧
    shows_value n x = let L : Lft → Fml = shared_of O (Some x) b (at R o) in
        qed 𝓛 (‵ (beside n (full x)) ∷ []) ∵ fsplit3 ! $ move ! (1 ∷ []) $
        fsplit ! $ fpick ! (λ so. drop ! $ res_dup ! $ move ! (3 ∷ []) $ fsplit ! $ move ! (1 ∷ []) $
        use1 𝓛 (‵ (L α) ⊛ ‵ (L α)) (contraction 𝓛 L (Knows (Some x) b (at R o)) α) $ split ! $ move ! (2 ∷ 0 ∷ []) $
        fjoin ! $ nothing ! $ fpack ! ((n ≡ 2) × fits d.about x) (λ _. ftrue) so $ move ! (0 ∷ 3 ∷ []) $ fjoin ! $
        move ! (4 ∷ 0 ∷ 1 ∷ []) $ fjoin3 ! $ frame ! $ move ! (1 ∷ 0 ∷ []) $ fjoin ! $
        nothing ! $ fpack ! (fits d.about x) (λ _. ftrue) so.1 $ fjoin ! $ done !)

    -- if the state is known to be 2, a look gives the value
    finds_two : (n : ℕ) (s : S) → n ≡ 2 → ⟦ beside n s ⟧ ∗ emp 𝓤
        ⊢ upd 𝓤 (ex 𝓤 (Into (λ y. y) (λ _. fex R.Denot Shown) n))
    finds_two n empty z = qed 𝓛 (‵ (beside n empty) ∷ raw (emp 𝓤) ∷ []) ∵ fsplit3 ! $ move ! (1 ∷ []) $
        fsplit ! $ feq_l ! (λ e. absurd (omega (arith, e, z)))
    finds_two n writing z = qed 𝓛 (‵ (beside n writing) ∷ raw (emp 𝓤) ∷ []) ∵ fsplit3 ! $ move ! (1 ∷ []) $
        feq_l ! (λ e. absurd (omega (arith, e, z)))
    finds_two n (full x) z = let G : S → Pr = Into (λ y. y) (λ _. fex R.Denot Shown) n in
        qed 𝓛 (‵ (beside n (full x)) ∷ raw (emp 𝓤) ∷ []) ∵ suffices ! _ (upd_i 𝓤 (ex 𝓤 G)) $ keep ! (0 ∷ []) $
        use1 𝓛 (‵ (beside n (full x)) ⊛ ‵ (Shown x)) (shows_value n x) $ split ! $ show ! G (full x) $
        frame ! $ fpack ! R.Denot Shown x $ done !

    -- a token of a shared slot: the slot is full, and shows that value
    as_written : (x : R.Denot) (n : ℕ) (s : S) → sign R (full x) ≡ sign R s → ⟦ beside n s ⟧ ⊢ ⟦ beside n s ⟧
        ∗ ⟦ Shown x ⟧
    as_written x n empty e = absurd (let z : 1 ≡ 0 = ap paired e in omega arith)
    as_written x n writing e = absurd (let z : 1 ≡ 0 = ap paired e in omega arith)
    as_written x n (full y) e = subst (λ (u : R.Denot). ⟦ beside n (full y) ⟧ ⊢ ⟦ beside n (full y) ⟧ ∗ ⟦ Shown u ⟧)
        (sym (R.coded.inj x y (ap first_of e))) (shows_value n y)

    -- a look with a token, which is no step of the book
    pub looks_written : (j : ℕ) (q : Share) (x : R.Denot) → A.named j (fbor α I) ∗ A.lft α q ∗ ⟦ written R γ x ⟧
        ⊢ H.⇛ (⟦ Shown x ⟧ ∗ A.lft α q)
    looks_written j q x = let G : Pr = ⟦ I ⟧ ∗ ⟦ ftrue ⟧ ∗ ⟦ Shown x ⟧ in
        qed 𝓛 (‵ (fnamed j (fbor α I)) ∷ ‵ (flft α q) ∷ ‵ (written R γ x) ∷ []) ∵
        nothing ! $ move ! (1 ∷ 0 ∷ []) $ fjoin ! $
        suffices ! _ (𝓛.invs.invs_bor_acc j α q I [] ⟦ Shown x ⟧ ((λ m. not-mem-nil m), tt)) $ frame ! $ frame ! $
        assume ! (‵ I ⊛ ‵ ftrue) $ suffices ! _ (upd_i 𝓤 G) $ split ! $
        use1 𝓛 parts apart $ pick ! (λ z. let g : Gv = sign R z.1 in split ! $ move ! (1 ∷ []) $ fsplit ! $
        move ! (4 ∷ 0 ∷ []) $
        use2 𝓛 (given (sign R (full x) ≡ g) (‵ (written R γ x) ⊛ ‵ (fauth γ g)))
        (𝓛.names.res_agree γ (sign R (full x)) g) $
        learn ! (λ e. split ! $ drop ! $ move ! (0 ∷ 1 ∷ []) $ fjoin ! $
        use1 𝓛 (‵ (beside z.0 z.1) ⊛ ‵ (Shown x)) (as_written x z.0 z.1 e) $ split ! $
        move ! (2 ∷ 0 ∷ []) $ use2 𝓛 (‵ I) (put_back z.0 z.1) $ move ! (0 ∷ 2 ∷ 1 ∷ []) $ done !))

  module _ {E P : Type 0} (ce : Coded E) (cp : Coded P) (holds : List ℕ → List P → List E → Type 0) (j : ℕ)
      (q : Share) (v : View E P) (past : d.book.number < j) where
    abbrev Knows : List E → Fml
    Knows = seen_owns ce.code cp.code holds d.book

    abbrev Hand : Held P → Fml
    Hand h = pens_own cp.code d.book h

    abbrev pub begun : (ℕ → View E P → Type 0) → ℕ → Fml
    begun then = steps.after_beside 𝓛 ce cp holds d.book d.key v (λ _. 1) then (λ _. MayWrite)

    -- the first step of a put
    pub begins : (then : ℕ → View E P → Type 0) → ((n : ℕ) (u : View E P) → then n u → n ≡ 0)
        → Moves holds v d.key (λ _. 1) then
        → A.named j (fbor α I) ∗ A.lft α q ∗ ⟦ Knows v.0 ⟧ ∗ ⟦ Hand v.1 ⟧ ∗ emp 𝓤
        ⊢ H.⇛ (⟦ fex ℕ (begun then) ⟧ ∗ A.lft α q)
    begins then blank law = steps.steps_beside 𝓛 ce cp holds d.book d.key v (λ _. 1) then (λ _. MayWrite) α q j I S
        beside (emp 𝓤) past law apart put_back (λ n s u so. claims n s (blank n u so))

    abbrev pub ended : R.Denot → (ℕ → View E P → Type 0) → ℕ → Fml
    ended x then = steps.after_beside 𝓛 ce cp holds d.book d.key v (λ _. 2) then (Wrote x)

    -- the second step of a put
    pub ends : (x : R.Denot) → fits d.about x → (then : ℕ → View E P → Type 0) → Moves holds v d.key (λ _. 2) then
        → A.named j (fbor α I) ∗ A.lft α q ∗ ⟦ Knows v.0 ⟧ ∗ ⟦ Hand v.1 ⟧ ∗ (A.obs γ gnil ∗ ⟦ ToRead x ⟧)
        ⊢ H.⇛ (⟦ fex ℕ (ended x then) ⟧ ∗ A.lft α q)
    ends x fit then law = steps.steps_beside 𝓛 ce cp holds d.book d.key v (λ _. 2) then (Wrote x) α q j I S beside
        (A.obs γ gnil ∗ ⟦ ToRead x ⟧) past law apart put_back (λ n s u so. fills x fit n s)

    abbrev pub seen_sure : (ℕ → View E P → Type 0) → ℕ → Fml
    seen_sure then = steps.after_beside 𝓛 ce cp holds d.book d.key v (λ n. n) then (λ _. fex R.Denot Shown)

    -- a look of a task that knows by the rule that the state is 2
    pub looks_sure : RowLaws O → (then : ℕ → View E P → Type 0) → ((n : ℕ) (u : View E P) → then n u → n ≡ 2)
        → Moves holds v d.key (λ n. n) then
        → A.named j (fbor α I) ∗ A.lft α q ∗ ⟦ Knows v.0 ⟧ ∗ ⟦ Hand v.1 ⟧ ∗ emp 𝓤
        ⊢ H.⇛ (⟦ fex ℕ (seen_sure then) ⟧ ∗ A.lft α q)
    looks_sure L then two law = steps.steps_beside 𝓛 ce cp holds d.book d.key v (λ n. n) then (λ _. fex R.Denot Shown)
        α q j I S beside (emp 𝓤) past law apart put_back (λ n s u so. finds_two L n s (two n u so))
