-- Where a `Some` has its value, so that a task that knows it to be one may read the value without its tag.
use Rattle.std.proofs.Common.{◌≡◌, ℕ, ◌+◌, zero, [], ◌∷◌, refl, sym, subst, arith}
use seplogic.Ra.Ura.{Ura}
use mir.Syntax.{Width, w8, w16, w32, w64, w128, Ty}
use mir.Val.{bytes}
use prog.Memory.{align, up, capped}
use prog.Align.{align-bytes}
use base.Logic.{ent}
use base.Fml.{Lft}
use types.Logic.{Logic, sem}
use types.Kit.{‵, ◌$◌, ◌∵◌, !, qed, move, keep, fsplit, fsplit3, rewrite, done}
use denote.RattleType.{RattleType}
use denote.Memory.{lone, shared_of}
use Rattle.core.specs.declared.option.Option.TheVariants.{Some}
use Rattle.core.specs.contracts.option.Option.{the_row as OptionOf}

-- the value begins as many bytes after the beginning of the `Some` as its alignment has
behind : (w : Width) (e : ℕ) → e + up (bytes w) (up 1 zero + 1) ≡ capped (bytes w) + e
behind w8 e = omega arith
behind w16 e = omega arith
behind w32 e = omega arith
behind w64 e = omega arith
behind w128 e = omega arith

behind_tag : (τ : Ty) (e : ℕ) → e + up (align τ) (up 1 zero + 1) ≡ capped (align τ) + e
behind_tag τ e = subst (λ (a : ℕ). e + up a (up 1 zero + 1) ≡ capped a + e) (sym (align-bytes τ)) (behind _ e)

-- what is shared of a `Some` is shared of the value in it
pub value_in_some : {M : Type 1} {𝓤 : Ura M} (𝓛 : Logic 𝓤) (R : RattleType) (x : R.Denot) (b e : ℕ) (κ : Lft)
    → ent 𝓤 (sem 𝓛 (shared_of (OptionOf R) (Some x) b e κ))
    (sem 𝓛 (shared_of R x b (capped (align (lone R.mir)) + e) κ))
value_in_some 𝓛 R x b e κ = qed 𝓛 (‵ (shared_of (OptionOf R) (Some x) b e κ) ∷ []) ∵ fsplit ! $ fsplit3 ! $
    move ! (1 ∷ []) $ rewrite ! 0 (λ (i : ℕ). ‵ (shared_of R x b i κ)) (behind_tag (lone R.mir) e) refl $
    keep ! (0 ∷ []) $ done !
