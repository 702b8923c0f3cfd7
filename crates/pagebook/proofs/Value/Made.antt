-- The values of the machine that words, blanks and tokens are, and how they are made.
use Rattle.std.proofs.Common.{◌≡◌, ℕ, suc, ◌+◌, ◌^◌, ◌<◌, List, [], ◌∷◌, drop, slice_get, Some, refl, subst, arith, w64}
use seplogic.Ra.Ura.{Ura}
use mir.Val.{Val, vint, vstruct, vcons, vnil}
use base.Logic.{ent, sep, emp, id⊢}
use base.Fml.{Fml, ftrue, fsep, fex}
use contract.Monad.{fact_i}
use types.Logic.{Logic, sem}
use types.Kit.{‵, ◌$◌, ◌∵◌, !, qed, fjoin, fpack, use0, done}
use denote.RattleType.{RattleType}
use denote.Laws.{Typed}
use denote.Shadow.{makes_shadow}
use denote.Struct.Struct.{Struct}
use denote.Struct.Owning.{shape}
use Rattle.core.specs.contracts.marker.PhantomData as marker
use Rattle.pagebook.specs.Pages.{Book, Named, named}
use Rattle.pagebook.specs.Owned.{word_pen, blanks_own}
use Rattle.pagebook.proofs.Rows.{nothing_there, same_there}
use Rattle.pagebook.specs.declared.rule.Rule.{Ghosts}
use Rattle.pagebook.specs.contracts.word.Word as Word
use Rattle.pagebook.specs.contracts.word.Word.TheInside as Inside
use Rattle.pagebook.specs.contracts.word.Blanks as Blanks

-- a token as the machine has it
abbrev pub token_value : Val
token_value = vstruct (vcons (vstruct vnil) vnil)

module _ (X : RattleType) where
  -- a token whose marker is of X
  abbrev pub Token : RattleType
  Token = Struct record { name = []; args = []; types = []; fields = marker.the_row X ∷ [] }

  -- there is always one to be had, since it has no bytes
  pub token_made : {M : Type 1} {𝓤 : Ura M} (𝓛 : Logic 𝓤)
      → ent 𝓤 (emp 𝓤) (sem 𝓛 (Token.own_val (record {}, tt) (token_value ∷ [])))
  token_made 𝓛 = makes_shadow 𝓛 (Token.own_val (record {}, tt) (token_value ∷ []))
      (λ vss. (tt, ((λ uss. (tt, tt)), tt))) ((vstruct vnil ∷ [], tt), (refl, ((tt, (refl, tt)), tt)))

-- a word as the machine has it
abbrev pub word_value : ℕ → Val
word_value n = vstruct (vcons (vint w64 n) (vcons (vstruct vnil) vnil))

-- a number below 2 ^ 64 and a word's pen are a `Word`
pub word_made : {M : Type 1} {𝓤 : Ura M} (𝓛 : Logic 𝓤) (E P R : RattleType) (g : Ghosts R.Denot E.Denot P.Denot)
    (w : Named) (n : ℕ) → n < 2 ^ 64
    → ent 𝓤 (sem 𝓛 (word_pen w n)) (sem 𝓛 ((Word.the_row E P R g).own_val w (word_value n ∷ [])))
word_made {𝓤 = 𝓤} 𝓛 E P R g w n f = let S : RattleType = Inside.the_row E P R g in
    let vs : List Val = word_value n ∷ [] in let at : ℕ → S.Denot = λ m. record { bits = m; marker = record {} } in
    let fits : Type 0 = Typed (Word.the_row E P R g).mir vs in qed 𝓛 (‵ (word_pen w n) ∷ []) ∵
    use0 𝓛 (‵ (S.own_val (at n) vs)) (makes_shadow 𝓛 (S.own_val (at n) vs)
    (λ vss. (tt, ((tt, tt), ((λ uss. (tt, tt)), tt))))
    ((vint w64 n ∷ [], (vstruct vnil ∷ [], tt)), (refl, ((refl, f), ((tt, (refl, tt)), tt))))) $
    fjoin ! $ fpack ! ℕ (λ m. fsep (S.own_val (at m) vs) (word_pen w m)) n $
    use0 𝓛 (‵ (fex fits (λ _. ftrue))) (fact_i 𝓤 fits (emp 𝓤) ((tt, (record { fits = f }, (tt, tt))), tt)) $ done !

-- the pens of blanks are a `Blanks`
pub blanks_made : {M : Type 1} {𝓤 : Ura M} (𝓛 : Logic 𝓤) (b : Book) (k : ℕ) (ns : List ℕ)
    → ent 𝓤 (sem 𝓛 (blanks_own b k ns)) (sem 𝓛
    (Blanks.the_row.own_val (record { marker = record {}; book = b; first = k; numbers = ns }) (token_value ∷ [])))
blanks_made 𝓛 b k ns = let F = (Struct (shape Blanks.the_type)).own_val (tt, tt) (token_value ∷ []) in
    qed 𝓛 (‵ (blanks_own b k ns) ∷ []) ∵
    use0 𝓛 (‵ F) (makes_shadow 𝓛 F (λ vss. (tt, ((λ uss. (tt, tt)), tt)))
    ((vstruct vnil ∷ [], tt), (refl, ((tt, (refl, tt)), tt)))) $ done !

-- the pen of the first blank is taken out
pub blank_taken : {M : Type 1} {𝓤 : Ura M} (𝓛 : Logic 𝓤) (b : Book) (k : ℕ) (ns : List ℕ) (n : ℕ)
    → slice_get ns 0 ≡ Some n → ent 𝓤 (sem 𝓛 (blanks_own b k ns))
    (sep 𝓤 (sem 𝓛 (word_pen (named b k) n)) (sem 𝓛 (blanks_own b (k + 1) (drop 1 ns))))
blank_taken {𝓤 = 𝓤} 𝓛 b k [] n at = absurd (nothing_there 0 n at)
blank_taken {𝓤 = 𝓤} 𝓛 b k (m ∷ ns) n at = let N : ℕ → Fml = λ i. word_pen (named b k) i in
    let Rest : ℕ → Fml = λ i. blanks_own b i ns in
    subst (λ (i : ℕ). ent 𝓤 (sep 𝓤 (sem 𝓛 (N m)) (sem 𝓛 (Rest (suc k)))) (sep 𝓤 (sem 𝓛 (N i)) (sem 𝓛 (Rest (k + 1)))))
    (same_there m n at) (subst (λ (i : ℕ). ent 𝓤 (sep 𝓤 (sem 𝓛 (N m)) (sem 𝓛 (Rest (suc k))))
    (sep 𝓤 (sem 𝓛 (N m)) (sem 𝓛 (Rest i)))) (let e : suc k ≡ k + 1 = omega arith in e) (id⊢ 𝓤 _))
