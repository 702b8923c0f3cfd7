-- A `&` to a `Slot` is made of a borrow of it: the slot takes a turn, in which one invariant holds its state and its field.
use Rattle.std.proofs.Common.{◌≡◌, ℕ, zero, ◌+◌, ◌<◌, ◌≤◌, arith, List, [], ◌∷◌, ◌++◌, sym, refl, subst}
use seplogic.Ra.Ura.{Ura}
use base.Fraction.{full_share}
use base.Share
use base.Logic.{SProp, ent, sep, wand, emp, all, all_e, upd_i, apply∗, id⊢, wand_i, snd∗}
use base.Fml.{Lft, GName, Share, Incl, Fml, ftrue, fsep, fseps, fex, fwand, fupd, fdead, fauth, fobs, fres, fbor, flft, fnamed, Incl-refl, Incl-trans}
use base.Before.{before}
use contract.BorrowLft.{meet_⊑_left}
use ghost.Rules.{Toks, span}
use types.Logic.{Logic, sem, lfts}
use types.SemTy.{SemTy}
use types.Kit.{Item, mean, ‵, raw, ◌⊛◌, some, given, later, ◌$◌, ◌∵◌, !, qed, by, move, keep, drop, use0, use1, use2, use3, split, split3, join, fsplit}
use types.Kit.{fsplit3, fjoin, fjoin3, fpick, fpack, pick, learn, show, frame, each, assume, suffices, await, updating, now, rewrite, done}
use types.Tokens.{bor_open, obor_alter, name_new, res_agree, one_token}
use types.Na.{before-Incl}
use denote.RattleType.{RattleType, Denots}
use denote.Memory.{part_of, part_at, cell_at, shared_of, lone}
use denote.Steps.{nothing, heard}
use denote.Sharing.{ShrLaws}
use denote.SharingLaws.{ends_shr_laws}
use denote.Param.Laws.{Laws}
use denote.Struct.Struct.{Struct}
use denote.Struct.Members.{Member, rows_of, raw_tys, parts_at}
use denote.Struct.Tuple.{Tuple}
use denote.Struct.Parts.{shape_of, Struct-left, left_Struct}
use types.Owned.{named_past}
use Rattle.core.proofs.cell.Inside.{one}
use contract.Monad as monad
use mir.Val.{Val}
use Rattle.core.specs.declared.option.Option.TheVariants.{Some}
use Rattle.core.specs.contracts.option.Option.{the_row as OptionOf}
use Rattle.core.specs.contracts.marker.PhantomData as marker
use Rattle.core.proofs.option.Option.TheLaws.{the_row_laws as option_laws}
use Rattle.core.proofs.cell.Borrows.{by_one}
use Rattle.pagebook.specs.declared.rule.Rule.{Ghosts}
use Rattle.pagebook.specs.declared.rule.Fits as Fits
use Rattle.pagebook.specs.contracts.slot.Slot as C
use Rattle.pagebook.specs.Slot.{Placed, Phase, empty, writing, full, Rest, Turn, Filled, Kept, at, promised, resting, Field, tie, lent, tied, standing, Cell, in_turn, shared_at}
use Rattle.pagebook.proofs.State.Steps.{option_lives, turn_copied}
use Rattle.pagebook.proofs.slot.Slot.TheLaw.Statement.{statement}

module _ (T E Q R Z : RattleType) (g : Ghosts R.Denot E.Denot Q.Denot) (h : Fits.Ghosts Z.Denot T.Denot) (L : Laws T)
    {M : Type 1} {𝓤 : Ura M} (𝓛 : Logic 𝓤) (d : Placed) (b o : ℕ) (κ : Lft) where
  open 𝓛 use {H, A}

  abbrev Pr : Type 2
  Pr = SProp 𝓤

  abbrev ◌⊢◌ : Pr → Pr → Type 1
  P ⊢ Q = ent 𝓤 P Q

  abbrev ◌∗◌ : Pr → Pr → Pr
  P ∗ Q = sep 𝓤 P Q

  abbrev ◌-∗◌ : Pr → Pr → Pr
  P -∗ Q = wand 𝓤 P Q

  abbrev ⟦◌⟧ : Fml → Pr
  ⟦ P ⟧ = sem 𝓛 P

  infix 26 ◌⊢◌
  infixr 35 ◌∗◌
  infixr 30 ◌-∗◌
  abbrev O : RattleType
  O = OptionOf T

  abbrev Mark : RattleType
  Mark = marker.the_row (Tuple (E ∷ Q ∷ R ∷ Z ∷ []))

  abbrev members : List Member
  members = record { row = O; ty = lone O.mir } ∷ record { row = Mark; ty = lone Mark.mir } ∷ []

  abbrev P : Fml
  P = part_at (C.the_written T E Q R Z g h) full_share d b o

  abbrev e : ℕ
  e = at T o

  abbrev S : Type 0
  S = Rest T.Denot

  abbrev Parts : S → Item 𝓤
  Parts s = ‵ (part_at O full_share s.1 b e) ⊛ ‵ (resting T h.fits d s)

  abbrev Joins : Pr
  Joins = all 𝓤 (λ (y : S). mean 𝓛 (Parts y) -∗ ⟦ P ⟧)

  abbrev tuple : S → Denots (rows_of members)
  tuple s = (s.1, (record {}, tt))

  abbrev Data : RattleType
  Data = Struct (shape_of [] members)

  abbrev Left : Pr
  Left = H.left full_share (mir.Syntax.ty_struct [] (raw_tys members)) (raw_tys members) b o

  lone_parts : denote.Struct.Members.Lones (rows_of members)
  lone_parts = (
    (λ x vs p. mathlib.Core.Path.subst denote.Struct.Members.Lone
        (sym (one (lone O.mir) vs (((option_laws T L).lawful 𝓛).typed x vs p)).1) tt),
    ((λ x vs p. mathlib.Core.Path.subst denote.Struct.Members.Lone (sym p.1.0) tt), tt),
  )

  abbrev inside : List Val → S → Fml
  inside vs s = fsep (Data.own_val (tuple s) vs) (resting T h.fits d s)

  -- the slot where it lies is its field, and what it owns at rest
  opened : ⟦ P ⟧ ⊢ mean 𝓛 (some (λ (s : S). ‵ (part_at Data full_share (tuple s) b o) ⊛ ‵ (resting T h.fits d s)))
  unfolding part_of
  opened = qed 𝓛 (‵ P ∷ []) ∵ fpick ! (λ vs. fsplit ! $ move ! (1 ∷ []) $ use1 𝓛 (‵ (fex S (inside vs))) (id⊢ 𝓤 _) $
      fpick ! (λ s. fsplit ! $ move ! (2 ∷ 0 ∷ []) $ fjoin ! $
      fpack ! (List Val) (λ us. fsep (cell_at full_share Data.mir us b o) (Data.own_val (tuple s) us)) vs $
      show ! (λ (y : S). ⟦ part_at Data full_share (tuple y) b o ⟧ ∗ ⟦ resting T h.fits d y ⟧) s $ done !))

  -- and the other way round
  closed : (s : S) → ⟦ part_at Data full_share (tuple s) b o ⟧ ∗ ⟦ resting T h.fits d s ⟧ ⊢ ⟦ P ⟧
  unfolding part_of
  closed s = qed 𝓛 (‵ (part_at Data full_share (tuple s) b o) ∷ ‵ (resting T h.fits d s) ∷ []) ∵
      fpick ! (λ vs. fsplit ! $ move ! (1 ∷ 2 ∷ []) $ fjoin ! $ fpack ! S (inside vs) s $ move ! (1 ∷ 0 ∷ []) $
      fjoin ! $
      fpack ! (List Val) (λ us. fsep (cell_at full_share Data.mir us b o) (fex S (inside us))) vs $ done !)

  -- it falls into the field and the rest, and comes together again with whatever these are then
  apart : ⟦ P ⟧ ⊢ mean 𝓛 (some (λ (s : S). Parts s ⊛ raw Joins))
  apart =
      qed 𝓛 (‵ P ∷ []) ∵ use1 𝓛 (some (λ (s : S). ‵ (part_at Data full_share (tuple s) b o) ⊛ ‵ (resting T h.fits d s)))
      opened $ pick ! (λ s. split ! $
      use1 𝓛 (‵ (parts_at full_share members zero (tuple s) b o) ⊛ raw Left)
      (Struct-left 𝓛 full_share [] members lone_parts (tuple s) b o) $ split ! $ fsplit ! $
      show ! (λ (y : S). mean 𝓛 (Parts y ⊛ raw Joins)) s $ move ! (0 ∷ 3 ∷ []) $ join ! $ frame ! $
      each ! (λ (y : S). mean 𝓛 (Parts y) -∗ ⟦ P ⟧) (λ y. assume ! (Parts y) $
      split ! $ move ! (0 ∷ 2 ∷ []) $ fjoin ! $
      move ! (0 ∷ 2 ∷ []) $ use2 𝓛 (‵ (part_at Data full_share (tuple y) b o))
      (left_Struct 𝓛 full_share [] members (tuple y) b o) $ by ! (closed y)))

  module _ (η : GName) where
    abbrev t : Turn
    t = (κ, η)

    abbrev Mem : SemTy
    Mem = promised T h.fits d

    abbrev V : Fml
    V = Field T h.fits d t b o

    abbrev W : Type 0
    W = ℕ × Phase T.Denot

    abbrev Tied : Fml
    Tied = fex W (tied T h.fits d t b o)

    abbrev I : Fml
    I = Cell T h.fits d t b o

    -- what the turn knows of the field is so
    field_known : (s : Phase T.Denot) (v : O.Denot) → ⟦ tie T h.fits d t b o s ⟧ ∗ A.auth η (O.coded.code v)
        ⊢ monad.fact 𝓤 (Filled T v s)
    field_known empty v = monad.fact_i 𝓤 (Unit {0}) _ tt
    field_known writing v = monad.fact_i 𝓤 (Unit {0}) _ tt
    field_known (full x) v = qed 𝓛 (‵ (fres η (O.coded.code (Some x))) ∷ ‵ (fauth η (O.coded.code v)) ∷ []) ∵
        res_agree ! O.coded {x = Some x} {y = v} (λ z. by ! (monad.fact_i 𝓤 (v ≡ Some x) _ (sym z)))

    -- once the turn is over, what the two borrows held is the slot again
    comes_back : Joins ⊢ ⟦ fwand (fsep (fdead κ) (fseps (Tied ∷ V ∷ []))) (fupd P) ⟧
    unfolding fseps
    comes_back = qed 𝓛 (raw Joins ∷ []) ∵ assume ! (‵ (fsep (fdead κ) (fseps (Tied ∷ V ∷ [])))) $
        suffices ! ⟦ P ⟧ (upd_i 𝓤 ⟦ P ⟧) $ fsplit ! $ drop ! $ fsplit3 ! $ fpick ! (λ s. fsplit3 ! $ move ! (3 ∷ []) $
        fpick ! (λ v. fsplit ! $ fsplit ! $ move ! (1 ∷ []) $ fpick ! (λ kept. drop ! $
        move ! (4 ∷ 1 ∷ []) $ use2 𝓛 (raw (monad.fact 𝓤 (Filled T v s.1))) (field_known s.1 v) $
        heard ! (Filled T v s.1) (λ so. let y : S = (s.0, v, s.1) in
        nothing ! $ fpack ! (Kept T h.fits d v × Filled T v s.1) (λ _. ftrue) (kept, so) $ move ! (3 ∷ 0 ∷ []) $ fjoin ! $ move ! (2 ∷ 0 ∷ []) $
        fjoin ! $ keep ! (1 ∷ 0 ∷ 3 ∷ []) $ join ! $ move ! (1 ∷ []) $
        use1 𝓛 (raw (mean 𝓛 (Parts y) -∗ ⟦ P ⟧)) (all_e 𝓤 (λ (u : S). mean 𝓛 (Parts u) -∗ ⟦ P ⟧) y) $
        move ! (1 ∷ 0 ∷ []) $ by ! (apply∗ 𝓤 (mean 𝓛 (Parts y)) ⟦ P ⟧)))))

    -- what the turn knows of the field at its beginning
    tied_by : (s : Phase T.Denot) (v : O.Denot) → Filled T v s → A.obs η (O.coded.code v) ⊢ ⟦ tie T h.fits d t b o s ⟧
    tied_by empty v so = qed 𝓛 (‵ (fobs η (O.coded.code v)) ∷ []) ∵ fpack ! O.Denot (λ u. fobs η (O.coded.code u)) v $
        done !
    tied_by writing v so = qed 𝓛 (‵ (fobs η (O.coded.code v)) ∷ []) ∵ drop ! $ done !
    tied_by (full x) v so = subst (λ (u : O.Denot). A.obs η (O.coded.code v) ⊢ A.res η (O.coded.code u)) so
        (𝓛.names.obs-res η (O.coded.code v))

    -- a field whose value stays is a field
    field_back : (y : T.Denot) → h.fits d.about y → A.auth η (O.coded.code (Some y))
        ⊢ ⟦ fwand (fsep (fdead κ) (fseps (part_at O full_share (Some y) b e ∷ []))) (fupd V) ⟧
    unfolding fseps
    field_back y fit = qed 𝓛 (‵ (fauth η (O.coded.code (Some y))) ∷ []) ∵
        assume ! (‵ (fsep (fdead κ) (fsep (part_at O full_share (Some y) b e) ftrue))) $
        suffices ! ⟦ V ⟧ (upd_i 𝓤 ⟦ V ⟧) $ fsplit3 ! $ keep ! (1 ∷ 3 ∷ []) $
        nothing ! $ fpack ! (Kept T h.fits d (Some y)) (λ _. ftrue) fit $ move ! (1 ∷ 0 ∷ 2 ∷ []) $ fjoin ! $ fjoin ! $
        fpack ! O.Denot (λ u. fsep (Mem.own_at u b e) (fauth η (O.coded.code u))) (Some y) $ done !

    -- a value that is known stays
    value_stays : (y : T.Denot) (q : Share) → (A.res η (O.coded.code (Some y)) ∗ A.bor κ V) ∗ A.lft κ q
        ⊢ H.⇛ (A.bor κ (part_at O full_share (Some y) b e) ∗ A.lft κ q)
    unfolding fseps
    value_stays y q = let Q : Fml = part_at O full_share (Some y) b e in
        qed 𝓛 ((‵ (fres η (O.coded.code (Some y))) ⊛ ‵ (fbor κ V)) ∷ ‵ (flft κ q) ∷ []) ∵
        updating ! $ split ! $ move ! (1 ∷ 2 ∷ []) $ bor_open ! tt $ move ! (1 ∷ []) $
        fpick ! (λ v. fsplit ! $ move ! (3 ∷ 1 ∷ []) $ res_agree ! O.coded {x = Some y} {y = v} (λ z. drop ! $
        rewrite ! 0 (λ (u : O.Denot). ‵ (fauth η (O.coded.code u))) (sym z) refl $
        rewrite ! 1 (λ (u : O.Denot). ‵ (Mem.own_at u b e)) (sym z) refl $ move ! (1 ∷ []) $ fsplit ! $ move ! (1 ∷ []) $
        fpick ! (λ kept. drop ! $ move ! (1 ∷ 0 ∷ []) $
        use1 𝓛 (‵ (fwand (fsep (fdead κ) (fseps (Q ∷ []))) (fupd V))) (field_back y kept) $
        nothing ! $ move ! (2 ∷ 0 ∷ []) $ fjoin ! $ move ! (2 ∷ 0 ∷ 1 ∷ []) $ obor_alter ! tt (Q ∷ []) $
        use1 𝓛 (‵ (fbor κ Q) ⊛ ‵ ftrue) (id⊢ 𝓤 _) $ split ! $ now ! $ keep ! (0 ∷ 2 ∷ []) $ done !)))

    -- the field is lent by the phase
    lends : (ts : Toks) → Incl (span ts) T.lives → Incl (span ts) κ → (s : Phase T.Denot)
        → ⟦ tie T h.fits d t b o s ⟧ ∗ A.bor κ V ∗ lfts 𝓛 ts ⊢ H.⇛ (⟦ tie T h.fits d t b o s ⟧ ∗ ⟦ lent T h.fits d t b o s ⟧ ∗ lfts 𝓛 ts)
    lends ts inc sp empty = 𝓛.laws.⇛_intro _
    lends ts inc sp writing = qed 𝓛 (‵ ftrue ∷ ‵ (fbor κ V) ∷ raw (lfts 𝓛 ts) ∷ []) ∵
        updating ! $ now ! $ nothing ! $ keep ! (0 ∷ 1 ∷ 3 ∷ []) $ done !
    lends ts inc sp (full y) = let Q : Fml = part_at O full_share (Some y) b e in let c = O.coded.code (Some y) in
        qed 𝓛 (‵ (fres η c) ∷ ‵ (fbor κ V) ∷ raw (lfts 𝓛 ts) ∷ []) ∵
        updating ! $ types.Tokens.res_dup ! $ move ! (0 ∷ 2 ∷ []) $ join ! $ move ! (0 ∷ 2 ∷ []) $
        use2 𝓛 (later (‵ (fbor κ Q) ⊛ raw (lfts 𝓛 ts)))
        (by_one 𝓛 κ ts sp (A.res η c ∗ A.bor κ V) (A.bor κ Q) (value_stays y)) $ await ! tt $
        use1 𝓛 (later (‵ (shared_of O (Some y) b e κ) ⊛ raw (lfts 𝓛 ts)))
        ((option_laws T L).shares 𝓛 (Some y) κ ts b e (Incl-trans inc (option_lives T)) sp) $ await ! tt $
        split ! $ now ! $ move ! (2 ∷ []) $ done !

    -- once the turn is over, what the invariant held is what it was made of
    cell_back : emp 𝓤 ⊢ ⟦ fwand (fsep (fdead κ) (fseps (I ∷ []))) (fupd Tied) ⟧
    unfolding fseps
    cell_back = qed 𝓛 [] ∵ assume ! (‵ (fsep (fdead κ) (fsep I ftrue))) $ suffices ! ⟦ Tied ⟧ (upd_i 𝓤 ⟦ Tied ⟧) $
        fsplit3 ! $ keep ! (1 ∷ []) $ fpick ! (λ s. fsplit ! $ keep ! (0 ∷ []) $ fpack ! W (tied T h.fits d t b o) s $ done !)

    -- the invariant is made, with a number greater than the book's
    turn_begins : (μ : Lft) (q : Share) → Incl μ T.lives → Incl μ κ → (A.bor κ Tied ∗ A.bor κ V) ∗ A.lft μ q
        ⊢ H.⇛ (⟦ shared_at T h.fits d b o κ ⟧ ∗ A.lft μ q)
    unfolding fseps
    turn_begins μ q inc sp = let l : Share = Share.left q in let r : Share = Share.right q in
        let Way : Fml = fwand (fsep (fdead κ) (fseps (I ∷ []))) (fupd Tied) in
        let Shut : Pr = H.⇛ ((A.bor κ I ∗ emp 𝓤) ∗ A.lft μ l ∗ (A.dead κ -∗ A.bor κ Tied)) in
        let Asks : Pr = ⟦ fseps (I ∷ []) ⟧ ∗ ⟦ Way ⟧ ∗ (A.dead κ -∗ A.dead κ) in
        qed 𝓛 ((‵ (fbor κ Tied) ⊛ ‵ (fbor κ V)) ∷ ‵ (flft μ q) ∷ []) ∵ updating ! $ split ! $ move ! (2 ∷ []) $
        use1 𝓛 (‵ (flft μ l) ⊛ ‵ (flft μ r)) (𝓛.lfts.lft_split μ q) $ split ! $ move ! (2 ∷ 0 ∷ []) $
        use2 𝓛 (later (‵ Tied ⊛ raw (Asks -∗ Shut))) (𝓛.more.bor_acc_to κ κ ((μ, l) ∷ []) Tied (I ∷ []) sp) $
        await ! tt $ split ! $ fpick ! (λ s. fsplit3 ! $ move ! (2 ∷ 5 ∷ 4 ∷ []) $
        use3 𝓛 (later (‵ (tie T h.fits d t b o s.1) ⊛ ‵ (lent T h.fits d t b o s.1) ⊛ ‵ (flft μ r)))
        (lends ((μ, r) ∷ []) inc sp s.1) $ await ! tt $ split3 ! $ move ! (3 ∷ 4 ∷ 0 ∷ []) $ fjoin3 ! $ fjoin ! $
        fpack ! W (standing T h.fits d t b o) s $ nothing ! $ move ! (1 ∷ 0 ∷ []) $
        fjoin ! $ use0 𝓛 (raw (A.dead κ -∗ A.dead κ))
        (wand_i 𝓤 (emp 𝓤) (A.dead κ) (A.dead κ) (snd∗ 𝓤 (emp 𝓤) (A.dead κ))) $
        use0 𝓛 (‵ Way) cell_back $ join ! $ move ! (1 ∷ 0 ∷ []) $ join ! $ move ! (0 ∷ 2 ∷ []) $
        use2 𝓛 (later ((‵ (fbor κ I) ⊛ ‵ ftrue) ⊛ ‵ (flft μ l) ⊛ raw (A.dead κ -∗ A.bor κ Tied)))
        (apply∗ 𝓤 Asks Shut) $ await ! tt $ split3 ! $ split ! $
        use1 𝓛 (later (some (λ (j : ℕ). given (d.book.number + 1 ≤ j) (‵ (fnamed j (fbor κ I))))))
        (named_past 𝓛 (d.book.number + 1) (fbor κ I)) $ await ! tt $ pick ! (λ j. learn ! (λ past.
        nothing ! $ fpack ! (d.book.number < j) (λ _. ftrue) (omega arith) $
        use0 𝓛 (‵ (before κ κ)) (before-Incl 𝓛 κ κ (Incl-refl κ)) $
        fjoin3 ! $ fpack ! (Turn × ℕ) (λ u. in_turn T h.fits d u.0 b o u.1 κ) (t, j) $
        move ! (2 ∷ 4 ∷ []) $ use2 𝓛 (‵ (flft μ q)) (𝓛.lfts.lft_join μ q) $ now ! $ keep ! (1 ∷ 0 ∷ []) $ done !)))

  abbrev TwoBorrows : Item 𝓤
  TwoBorrows = some (λ (η : GName). ‵ (fbor κ (Tied η)) ⊛ ‵ (fbor κ (V η)))

  -- a borrow of the slot is one of its state and one of its field
  two_borrows : (q : Share) → A.bor κ P ∗ A.lft κ q ⊢ H.⇛ (mean 𝓛 TwoBorrows ∗ A.lft κ q)
  unfolding fseps
  two_borrows q = qed 𝓛 (‵ (fbor κ P) ∷ ‵ (flft κ q) ∷ []) ∵ updating ! $ bor_open ! tt $ move ! (1 ∷ []) $
      use1 𝓛 (some (λ (s : S). Parts s ⊛ raw Joins)) apart $ pick ! (λ s. split ! $ split ! $ move ! (1 ∷ []) $
      fsplit3 ! $
      move ! (2 ∷ []) $ fpick ! (λ so. drop ! $ name_new ! tt (O.coded.code s.1) (λ η. use1 𝓛 (‵ (tie T h.fits d (t η) b o s.2)) (tied_by η s.2 s.1 so.1) $
      move ! (2 ∷ 3 ∷ 0 ∷ []) $ fjoin3 ! $ fpack ! (W η) (tied T h.fits d (t η) b o) (s.0, s.2) $ move ! (2 ∷ 1 ∷ []) $
      nothing ! $ fpack ! (Kept T h.fits d s.1) (λ _. ftrue) so.0 $ move ! (1 ∷ 0 ∷ 2 ∷ []) $ fjoin ! $
      fjoin ! $ fpack ! O.Denot (λ v. fsep ((promised T h.fits d).own_at v b e) (fauth η (O.coded.code v))) s.1 $
      nothing ! $ move ! (2 ∷ 1 ∷ 0 ∷ []) $ fjoin3 ! $ let Qs : List Fml = Tied η ∷ V η ∷ [] in move ! (1 ∷ []) $
      use1 𝓛 (‵ (fwand (fsep (fdead κ) (fseps Qs)) (fupd P))) (comes_back η) $ move ! (2 ∷ 1 ∷ 0 ∷ []) $
      obor_alter ! tt Qs $
      use1 𝓛 (‵ (fbor κ (Tied η)) ⊛ ‵ (fbor κ (V η)) ⊛ ‵ ftrue) (id⊢ 𝓤 _) $
      split3 ! $ join ! $ use1 𝓛 TwoBorrows (base.Logic.ex_i 𝓤 (λ (x : GName). A.bor κ (Tied x) ∗ A.bor κ (V x)) η) $
      now ! $ keep ! (0 ∷ 2 ∷ []) $ done !)))

  -- a borrow of the slot is shared
  slot_lent : (ts : Toks) → Incl (span ts) T.lives → Incl (span ts) κ → A.bor κ P ∗ lfts 𝓛 ts
      ⊢ H.⇛ (⟦ shared_at T h.fits d b o κ ⟧ ∗ lfts 𝓛 ts)
  slot_lent ts inc sp = let μ : Lft = span ts in
      qed 𝓛 (‵ (fbor κ P) ∷ raw (lfts 𝓛 ts) ∷ []) ∵
      updating ! $ use2 𝓛 (later (TwoBorrows ⊛ raw (lfts 𝓛 ts)))
      (by_one 𝓛 κ ts sp (A.bor κ P) (mean 𝓛 TwoBorrows) two_borrows) $ await ! tt $ split ! $ pick ! (λ η.
      move ! (1 ∷ []) $ use1 𝓛 (some (λ (q : Share). ‵ (flft μ q) ⊛ raw (A.lft μ q -∗ lfts 𝓛 ts))) (one_token 𝓛 ts) $
      pick ! (λ q. split ! $ move ! (2 ∷ 0 ∷ []) $
      use2 𝓛 (later (‵ (shared_at T h.fits d b o κ) ⊛ ‵ (flft μ q))) (turn_begins η μ q inc sp) $ await ! tt $
      split ! $ move ! (1 ∷ 2 ∷ []) $
      use2 𝓛 (raw (lfts 𝓛 ts)) (apply∗ 𝓤 (A.lft μ q) (lfts 𝓛 ts)) $ now ! $ move ! (1 ∷ 0 ∷ []) $ done !))

-- what is shared can be had twice, and for a shorter time
lent_laws : (T : RattleType) (fits : List ℕ → T.Denot → Type 0) (d : Placed) (b o : ℕ)
    → ShrLaws (shared_at T fits d b o)
lent_laws T fits d b o = record {
  contraction = λ M 𝓤 𝓛 κ. qed 𝓛 (‵ (shared_at T fits d b o κ) ∷ []) ∵
      fpick ! (λ t. use1 𝓛 (‵ (in_turn T fits d t.0 b o t.1 κ) ⊛ ‵ (in_turn T fits d t.0 b o t.1 κ))
      (turn_copied 𝓛 T fits d t.0 b o t.1 κ) $ split ! $
      fpack ! (Turn × ℕ) (λ u. in_turn T fits d u.0 b o u.1 κ) t $ move ! (1 ∷ []) $
      fpack ! (Turn × ℕ) (λ u. in_turn T fits d u.0 b o u.1 κ) t $ done !);
  mono = λ M 𝓤 𝓛 κ' κ. qed 𝓛 (‵ (before κ' κ) ∷ ‵ (shared_at T fits d b o κ) ∷ []) ∵ move ! (1 ∷ []) $
      fpick ! (λ t. fsplit ! $ move ! (2 ∷ 0 ∷ []) $
      use2 𝓛 (‵ (before κ' t.0.0)) ((ends_shr_laws t.0.0).mono M 𝓤 𝓛 κ' κ) $
      fjoin ! $ fpack ! (Turn × ℕ) (λ u. in_turn T fits d u.0 b o u.1 κ') t $ done !);
}

pub shares : (T E Q R Z : RattleType) (g : Ghosts R.Denot E.Denot Q.Denot) (h : Fits.Ghosts Z.Denot T.Denot) (L : Laws T)
    (L₁ : Laws E) (L₂ : Laws Q) (L₃ : Laws R) (L₄ : Laws Z) → statement T E Q R Z g h L L₁ L₂ L₃ L₄
shares T E Q R Z g h L L₁ L₂ L₃ L₄ = record {
  shr_laws = λ d b o. lent_laws T h.fits d b o;
  shares = λ M 𝓤 𝓛 d κ ts b o inc sp. slot_lent T E Q R Z g h L 𝓛 d b o κ ts
      (Incl-trans inc (Incl-trans (meet_⊑_left (T.lives ++ (E.lives ++ (Q.lives ++ (R.lives ++ (Z.lives ++ []))))) _)
      (meet_⊑_left T.lives (E.lives ++ (Q.lives ++ (R.lives ++ (Z.lives ++ []))))))) sp;
}
