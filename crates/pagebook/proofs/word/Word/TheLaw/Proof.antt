-- A `&` to a `Word` is made of a borrow of it: the borrow lies in an invariant whose number is greater than the book's.
use Rattle.std.proofs.Common.{ℕ, zero, ◌+◌, ◌<◌, ◌≤◌, List, [], ◌∷◌, sym, refl, arith, add-zero}
use seplogic.Ra.Ura.{Ura}
use mir.Val.{Val}
use base.Fraction.{full_share}
use base.Logic.{SProp, ent, sep, wand, upd_i, id⊢}
use base.Fml.{Lft, Share, Fml, ftrue, fsep, fseps, fex, fwand, fupd, fdead, fbor, flft, fnamed, Incl-refl}
use base.Before.{before}
use types.Logic.{Logic, sem}
use types.Owned.{named_past}
use types.Kit.{mean, ‵, raw, ◌⊛◌, some, given, later, ◌$◌, ◌∵◌, !, qed, by, move, keep, drop, use0, use1, use2, split, fsplit, fsplit3, fjoin, fjoin3, fpick}
use types.Kit.{fpack, pick, learn, show, assume, suffices, await, updating, now, rewrite, done}
use types.Tokens.{bor_open, obor_alter}
use types.Na.{before-Incl, before_dup}
use denote.RattleType.{RattleType}
use denote.Memory.{part_of, part_at, cell_at, lone}
use denote.Steps.{nothing}
use denote.SharingLaws.{ends_shr_laws}
use denote.Param.Laws.{Laws}
use denote.Struct.Struct.{Struct}
use denote.Struct.Tuple.{Tuple}
use denote.Struct.Members.{Member, row_of, raw_tys, parts_at}
use denote.Struct.Parts.{shape_of, Struct-left, left_Struct}
use Rattle.core.specs.Sync.RawAtomic.{word}
use Rattle.core.specs.contracts.marker.PhantomData as marker
use Rattle.core.proofs.cell.Borrows.{flag, by_one}
use Rattle.core.proofs.tally.Steps.{word_in, word_out}
use Rattle.pagebook.specs.Pages.{Named}
use Rattle.pagebook.specs.Owned.{word_pen, lies, lying, lent}
use Rattle.pagebook.specs.declared.rule.Rule.{Ghosts}
use Rattle.pagebook.specs.contracts.word.Word as C
use Rattle.pagebook.proofs.word.Word.TheLaw.Statement.{statement}

module _ (E P R : RattleType) (g : Ghosts R.Denot E.Denot P.Denot) {M : Type 1} {𝓤 : Ura M} (𝓛 : Logic 𝓤) (d : Named)
    (b o : ℕ) where
  open 𝓛 use {H, A as At}

  abbrev Pr : Type 2
  Pr = SProp 𝓤

  abbrev ◌⊢◌ : Pr → Pr → Type 1
  P ⊢ Q = ent 𝓤 P Q

  abbrev ◌∗◌ : Pr → Pr → Pr
  P ∗ Q = sep 𝓤 P Q

  abbrev ◌-∗◌ : Pr → Pr → Pr
  P -∗ Q = wand 𝓤 P Q

  abbrev ⟦◌⟧ : Fml → Pr
  ⟦ P ⟧ = sem 𝓛 P

  infix 26 ◌⊢◌
  infixr 35 ◌∗◌
  infixr 30 ◌-∗◌
  abbrev Mark : RattleType
  Mark = marker.the_row (Tuple (E ∷ P ∷ R ∷ []))

  abbrev members : List Member
  members = flag ∷ record { row = Mark; ty = lone Mark.mir } ∷ []

  abbrev Data : RattleType
  Data = Struct (shape_of [] members)

  -- the word where it lies, and its pen
  abbrev Written : Fml
  Written = part_at (C.the_written E P R g) full_share d b o

  abbrev Pen : ℕ → Fml
  Pen = word_pen d

  abbrev Lying : Fml
  Lying = lying d b o

  abbrev inside : List Val → ℕ → Fml
  inside vs n = fsep (Data.own_val (n, (record {}, tt)) vs) (Pen n)

  abbrev Marker : Fml
  Marker = fsep (part_at Mark full_share (record {}) b (o + 8)) ftrue

  abbrev Left : Pr
  Left = H.left full_share (mir.Syntax.ty_struct [] (raw_tys members)) (raw_tys members) b o

  -- it is its fields, with a number in the first, and the pen for that number
  opened : ⟦ Written ⟧ ⊢ mean 𝓛 (some (λ (n : ℕ). ‵ (part_at Data full_share (n, (record {}, tt)) b o) ⊛ ‵ (Pen n)))
  unfolding part_of
  opened = qed 𝓛 (‵ Written ∷ []) ∵ fpick ! (λ vs. fsplit ! $ move ! (1 ∷ []) $
      use1 𝓛 (‵ (fex ℕ (inside vs))) (id⊢ 𝓤 _) $ fpick ! (λ n. fsplit ! $ move ! (2 ∷ 0 ∷ []) $ fjoin ! $
      fpack ! (List Val) (λ us. fsep (cell_at full_share Data.mir us b o) (Data.own_val (n, (record {}, tt)) us)) vs $
      show ! (λ (y : ℕ). ⟦ part_at Data full_share (y, (record {}, tt)) b o ⟧ ∗ ⟦ Pen y ⟧) n $ done !))

  -- and the other way round
  closed : (n : ℕ) → ⟦ part_at Data full_share (n, (record {}, tt)) b o ⟧ ∗ ⟦ Pen n ⟧ ⊢ ⟦ Written ⟧
  unfolding part_of
  closed n = qed 𝓛 (‵ (part_at Data full_share (n, (record {}, tt)) b o) ∷ ‵ (Pen n) ∷ []) ∵
      fpick ! (λ vs. fsplit ! $ move ! (1 ∷ 2 ∷ []) $ fjoin ! $ fpack ! ℕ (inside vs) n $ move ! (1 ∷ 0 ∷ []) $
      fjoin ! $
      fpack ! (List Val) (λ us. fsep (cell_at full_share Data.mir us b o) (fex ℕ (inside us))) vs $ done !)

  -- once the turn is over, what the invariant held is the word again
  comes_back : (κ : Lft) → ⟦ Marker ⟧ ∗ Left ⊢ ⟦ fwand (fsep (fdead κ) (fseps (Lying ∷ []))) (fupd Written) ⟧
  unfolding fseps
  comes_back κ = qed 𝓛 (‵ Marker ∷ raw Left ∷ []) ∵ assume ! (‵ (fsep (fdead κ) (fsep Lying ftrue))) $
      suffices ! ⟦ Written ⟧ (upd_i 𝓤 ⟦ Written ⟧) $ fsplit3 ! $ keep ! (1 ∷ 3 ∷ 4 ∷ []) $ fpick ! (λ n. fsplit ! $
      rewrite ! 0 (λ (x : ℕ). ‵ (word b x n)) (sym (add-zero o)) refl $
      use1 𝓛 (‵ (part_at (row_of flag) full_share n b (o + 0))) (word_in 𝓛 b (o + 0) n) $ move ! (0 ∷ 2 ∷ []) $
      fjoin ! $ move ! (0 ∷ 2 ∷ []) $
      use2 𝓛 (‵ (part_at Data full_share (n, (record {}, tt)) b o))
      (left_Struct 𝓛 full_share [] members (n, (record {}, tt)) b o) $ by ! (closed n))

  abbrev Lent : Lft → Fml
  Lent κ = fex (Lft × ℕ) (lent d b o κ)

  -- a borrow of the word is shared
  word_lent : (κ : Lft) (q : Share) → At.bor κ Written ∗ At.lft κ q ⊢ H.⇛ (⟦ Lent κ ⟧ ∗ At.lft κ q)
  unfolding fseps
  word_lent κ q = qed 𝓛 (‵ (fbor κ Written) ∷ ‵ (flft κ q) ∷ []) ∵ updating ! $ bor_open ! tt $ move ! (1 ∷ []) $
      use1 𝓛 (some (λ (n : ℕ). ‵ (part_at Data full_share (n, (record {}, tt)) b o) ⊛ ‵ (Pen n))) opened $
      pick ! (λ n. split ! $
      use1 𝓛 (‵ (parts_at full_share members zero (n, (record {}, tt)) b o) ⊛ raw Left)
      (Struct-left 𝓛 full_share [] members (
        (λ x vs p. mathlib.Core.Path.subst denote.Struct.Members.Lone (sym p.0) tt),
        ((λ x vs p. mathlib.Core.Path.subst denote.Struct.Members.Lone (sym p.1.0) tt), tt),
      ) (n, (record {}, tt)) b o) $ split ! $ fsplit ! $
      use1 𝓛 (‵ (word b (o + 0) n)) (word_out 𝓛 b (o + 0) n) $
      rewrite ! 0 (λ (x : ℕ). ‵ (word b x n)) (add-zero o) refl $ move ! (0 ∷ 3 ∷ []) $
      fjoin ! $ fpack ! ℕ (lies d b o) n $
      nothing ! $ move ! (1 ∷ 0 ∷ []) $ fjoin ! $ move ! (1 ∷ 2 ∷ []) $
      use2 𝓛 (‵ (fwand (fsep (fdead κ) (fseps (Lying ∷ []))) (fupd Written))) (comes_back κ) $
      move ! (2 ∷ 1 ∷ 0 ∷ []) $ obor_alter ! tt (Lying ∷ []) $
      use1 𝓛 (‵ (fbor κ Lying) ⊛ ‵ ftrue) (id⊢ 𝓤 _) $
      split ! $ use1 𝓛 (later (some (λ (j : ℕ). given (d.book.number + 1 ≤ j) (‵ (fnamed j (fbor κ Lying))))))
      (named_past 𝓛 (d.book.number + 1) (fbor κ Lying)) $ await ! tt $ pick ! (λ j. learn ! (λ past.
      nothing ! $ fpack ! (d.book.number < j) (λ _. ftrue) (omega arith) $
      use0 𝓛 (‵ (before κ κ)) (before-Incl 𝓛 κ κ (Incl-refl κ)) $ fjoin3 ! $ fpack ! (Lft × ℕ) (lent d b o κ) (κ, j) $
      now ! $ keep ! (0 ∷ 2 ∷ []) $ done !)))

  -- what is shared can be had twice
  lent_twice : (κ : Lft) → ⟦ Lent κ ⟧ ⊢ ⟦ Lent κ ⟧ ∗ ⟦ Lent κ ⟧
  lent_twice κ = qed 𝓛 (‵ (Lent κ) ∷ []) ∵ fpick ! (λ t. let N : Fml = fnamed t.1 (fbor t.0 Lying) in
      fsplit3 ! $ use1 𝓛 (‵ (before κ t.0) ⊛ ‵ (before κ t.0)) (before_dup 𝓛 κ t.0) $ split ! $ move ! (2 ∷ []) $
      fpick ! (λ past. drop ! $ move ! (2 ∷ []) $
      use1 𝓛 (‵ N ⊛ ‵ N) (𝓛.invs.named_dup t.1 (fbor t.0 Lying)) $
      split ! $ nothing ! $ fpack ! (d.book.number < t.1) (λ _. ftrue) past $ move ! (3 ∷ 0 ∷ 1 ∷ []) $
      fjoin3 ! $ fpack ! (Lft × ℕ) (lent d b o κ) t $
      nothing ! $ fpack ! (d.book.number < t.1) (λ _. ftrue) past $ move ! (3 ∷ 0 ∷ 2 ∷ []) $
      fjoin3 ! $ fpack ! (Lft × ℕ) (lent d b o κ) t $ done !))

  -- and for a shorter time
  lent_shorter : (κ' κ : Lft) → ⟦ before κ' κ ⟧ ∗ ⟦ Lent κ ⟧ ⊢ ⟦ Lent κ' ⟧
  lent_shorter κ' κ = qed 𝓛 (‵ (before κ' κ) ∷ ‵ (Lent κ) ∷ []) ∵ move ! (1 ∷ []) $
      fpick ! (λ t. fsplit ! $ move ! (2 ∷ 0 ∷ []) $
      use2 𝓛 (‵ (before κ' t.0)) ((ends_shr_laws t.0).mono M 𝓤 𝓛 κ' κ) $
      fjoin ! $ fpack ! (Lft × ℕ) (lent d b o κ') t $ done !)

pub shares : (E P R : RattleType) (g : Ghosts R.Denot E.Denot P.Denot) (L : Laws E) (L' : Laws P) (L'' : Laws R)
    → statement E P R g L L' L''
shares E P R g L L' L'' = record {
  shr_laws = λ d b o. record {
    contraction = λ M 𝓤 𝓛 κ. lent_twice E P R g 𝓛 d b o κ;
    mono =
        λ M 𝓤 𝓛 κ' κ. lent_shorter E P R g 𝓛 d b o κ' κ;
  };
  shares = λ M 𝓤 𝓛 d κ ts b o inc sp. by_one 𝓛 κ ts sp (𝓛.A.bor κ (Written E P R g 𝓛 d b o))
      (sem 𝓛 (Lent E P R g 𝓛 d b o κ)) (word_lent E P R g 𝓛 d b o κ);
}
