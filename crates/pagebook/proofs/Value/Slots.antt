-- The value of the machine that a `Written` is, and that a slot has one value.
use Rattle.std.proofs.Common.{◌≡◌, ℕ, [], ◌∷◌, refl, ap}
use seplogic.Ra.Ura.{Ura}
use base.Stored.{Gv, gnil, gnum, gcons}
use base.Fml.{GName}
use base.Logic.{ent, sep}
use mir.Val.{vstruct, vnil}
use Rattle.pagebook.proofs.Value.Made.{token_value}
use types.Logic.{Logic, sem}
use types.Kit.{‵, ◌$◌, ◌∵◌, !, qed, use0, done}
use contract.Monad.{fact}
use denote.RattleType.{RattleType}
use denote.Shadow.{makes_shadow}
use denote.Struct.Struct.{Struct}
use denote.Struct.Owning.{shape}
use Rattle.core.proofs.once.Turns.{one_value}
use Rattle.pagebook.specs.Slot.{full, sign, written}
use Rattle.pagebook.specs.contracts.slot.Written as Written

-- a thread that knows what is written has a token of it
pub written_made : {M : Type 1} {𝓤 : Ura M} (𝓛 : Logic 𝓤) (R : RattleType) (γ : ℕ) (x : R.Denot)
    → ent 𝓤 (sem 𝓛 (written R γ x)) (sem 𝓛
    ((Written.the_row R).own_val (record { marker = record {}; of = γ; value = x }) (token_value ∷ [])))
written_made 𝓛 R γ x = let F = (Struct (shape (Written.the_type R))).own_val (tt, tt) (token_value ∷ []) in
    qed 𝓛 (‵ (written R γ x) ∷ []) ∵ use0 𝓛 (‵ F)
    (makes_shadow 𝓛 F (λ vss. (tt, ((λ uss. (tt, tt)), tt)))
    ((vstruct vnil ∷ [], tt), (refl, ((tt, (refl, tt)), tt)))) $ done !

-- the first of a pair, as codes have it
abbrev pub first_of : Gv → Gv
first_of (gcons a b) = a
first_of gnil = gnil
first_of (gnum n) = gnil

-- two tokens of one slot say one value
pub written_once : {M : Type 1} {𝓤 : Ura M} (𝓛 : Logic 𝓤) (R : RattleType) (γ : GName) (x y : R.Denot)
    → ent 𝓤 (sep 𝓤 (sem 𝓛 (written R γ x)) (sem 𝓛 (written R γ y))) (fact 𝓤 (x ≡ y))
written_once 𝓛 R γ x y = one_value 𝓛 record
    { code = λ (z : R.Denot). sign R (full z); inj = λ u v e. R.coded.inj u v (ap first_of e) } γ x y
