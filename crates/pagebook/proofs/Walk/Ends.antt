-- How a walk ends.
use Rattle.std.proofs.Common.{[], ◌∷◌}
use seplogic.Ra.Ura.{Ura}
use mir.Val.{Val}
use base.Logic.{ent, sep, emp}
use contract.Monad.{fact, fact_i}
use types.Logic.{Logic, sem}
use types.Kit.{‵, raw, ◌$◌, ◌∵◌, !, qed, by, move, use0, done}
use denote.Signature.{type_at}
use denote.Triple.Clauses.{Ended, Clauses, Lasts, at_exit}
use denote.Triple.Entry.{Res, alive}
use denote.Triple.Walked.{Stays, Fit, has_of, walk_of}
use Rattle.atomic_table.proofs.Walks.{leaves}

-- a walk ends with the caller's tokens, what it gives back, and what it returns, of which the clauses hold
pub ends : {M : Type 1} {𝓤 : Ura M} (𝓛 : Logic 𝓤) (T : Ended) (hs : Stays T.signature.params T.kept) (c : Clauses 𝓤 T)
    (y : (walk_of 𝓛 T hs c).Ghost) (v : Val) (r : Res T.signature y.0.0) (ws : Lasts T y.0.0 y.0.3)
    → Fit T hs y.0.0 y.0.3 ws → ent 𝓤 (emp 𝓤) ((c y.0.0 y.0.3).ensures y.1 r (at_exit T y.0.0 y.0.3 ws))
    → ent 𝓤 (sep 𝓤 (alive 𝓛 T.signature y.0.0 y.0.1)
    (sep 𝓤 (sem 𝓛 (has_of y.0.0 T.signature.params T.kept hs y.0.3 ws y.0.4))
    (sem 𝓛 ((type_at T.signature.result y.0.0).own_val r (v ∷ []))))) ((walk_of 𝓛 T hs c).post y v)
ends 𝓛 T hs c y v r ws fit told = qed 𝓛
    (raw (alive 𝓛 T.signature y.0.0 y.0.1) ∷ ‵ (has_of y.0.0 T.signature.params T.kept hs y.0.3 ws y.0.4)
    ∷ ‵ ((type_at T.signature.result y.0.0).own_val r (v ∷ [])) ∷ []) ∵
    use0 𝓛 (raw ((c y.0.0 y.0.3).ensures y.1 r (at_exit T y.0.0 y.0.3 ws))) told $ move ! (1 ∷ 2 ∷ 3 ∷ []) $
    by ! (leaves 𝓛 T hs c y v r ws fit)

-- two clauses hold
pub two : {M : Type 1} {𝓤 : Ura M} (𝓛 : Logic 𝓤) {φ ψ : Type 0} → φ → ψ → ent 𝓤 (emp 𝓤) (sep 𝓤 (fact 𝓤 φ) (fact 𝓤 ψ))
two {𝓤 = 𝓤} 𝓛 {φ} {ψ} x y = qed 𝓛 [] ∵ use0 𝓛 (raw (fact 𝓤 ψ)) (fact_i 𝓤 ψ (emp 𝓤) y) $
    use0 𝓛 (raw (fact 𝓤 φ)) (fact_i 𝓤 φ (emp 𝓤) x) $ done !

-- three clauses hold
pub three : {M : Type 1} {𝓤 : Ura M} (𝓛 : Logic 𝓤) {φ ψ χ : Type 0} → φ → ψ → χ
    → ent 𝓤 (emp 𝓤) (sep 𝓤 (fact 𝓤 φ) (sep 𝓤 (fact 𝓤 ψ) (fact 𝓤 χ)))
three {𝓤 = 𝓤} 𝓛 {φ} {ψ} {χ} x y z = qed 𝓛 [] ∵ use0 𝓛 (raw (fact 𝓤 χ)) (fact_i 𝓤 χ (emp 𝓤) z) $
    use0 𝓛 (raw (fact 𝓤 ψ)) (fact_i 𝓤 ψ (emp 𝓤) y) $ use0 𝓛 (raw (fact 𝓤 φ)) (fact_i 𝓤 φ (emp 𝓤) x) $ done !

-- four clauses hold
pub four : {M : Type 1} {𝓤 : Ura M} (𝓛 : Logic 𝓤) {φ ψ χ ω : Type 0} → φ → ψ → χ → ω
    → ent 𝓤 (emp 𝓤) (sep 𝓤 (fact 𝓤 φ) (sep 𝓤 (fact 𝓤 ψ) (sep 𝓤 (fact 𝓤 χ) (fact 𝓤 ω))))
four {𝓤 = 𝓤} 𝓛 {φ} {ψ} {χ} {ω} x y z w = qed 𝓛 [] ∵ use0 𝓛 (raw (fact 𝓤 ω)) (fact_i 𝓤 ω (emp 𝓤) w) $
    use0 𝓛 (raw (fact 𝓤 χ)) (fact_i 𝓤 χ (emp 𝓤) z) $ use0 𝓛 (raw (fact 𝓤 ψ)) (fact_i 𝓤 ψ (emp 𝓤) y) $
    use0 𝓛 (raw (fact 𝓤 φ)) (fact_i 𝓤 φ (emp 𝓤) x) $ done !
