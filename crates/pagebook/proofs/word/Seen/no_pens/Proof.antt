-- `no_pens` holds no pen.
use Rattle.std.proofs.Common.{[], ◌∷◌, refl}
use mir.Syntax.{a_type, dcons, dnil, named}
use mir.Val.{Val, vptr}
use mir.MapTy.{inst_fn}
use base.Logic.{SProp, emp, id⊢}
use base.Fml.{Fml, ftrue, fsep, flft}
use types.Kit.{‵, raw, ◌⊛◌, ◌$◌, ◌∵◌, !, qed, by, move, keep, split, fsplit, fjoin, use0}
use types.Run.{no_more, and_then, returns, enter}
use types.ByLocal.{alloc_all, pass_all, free_all, look_at, get, sets, env}
use types.Part.{agg}
use contract.Monad.{fact_i}
use contract.Running.{tables}
use denote.Exit.{yes}
use denote.RattleType.{RattleType, owns}
use denote.Signature.{types_at, plain}
use denote.Builtin.{RefOf}
use denote.Ref.{shr_vals, shr_Tells}
use denote.Steps.{nothing}
use denote.Param.{param, bounded}
use denote.Struct.Tuple.{Tuple}
use denote.Triple.Walked.{Stays, stay_dropped, walk_of, Goes-dropped}
use Rattle.atomic_table.proofs.Walks.{proved}
use Rattle.pagebook.specs.Owned.{pens_own}
use Rattle.pagebook.proofs.Value.Made.{token_value, Token, token_made}
use Rattle.pagebook.proofs.Walk.Ends.{ends}
use Rattle.pagebook.specs.contracts.word.Seen as Seen
use Rattle.pagebook.specs.contracts.word.Pens as Pens
use Rattle.pagebook.specs.contracts.word.Word as Word
use Rattle.pagebook.specs.contracts.word.Seen.no_pens.{ended, clauses}
use Rattle.pagebook.specs.contracts.word.Seen.no_pens.Key.{name as #self}
use Rattle.pagebook.proofs.word.Seen.no_pens.Statement.{statement}
use Rattle.pagebook.proofs.word.Seen.no_pens.Code as code

pub no_pens_spec : {M : Type 1} → statement M
no_pens_spec 𝓤 𝓛 𝓜 𝓡 wired E P R _ _ _ g d _ =
    let H = 𝓛.H in let A = 𝓛.A in let 𝓣 = tables 𝓤 H 𝓜 𝓡 𝓡.env in
    let E' : RattleType = param 0 E in let P' : RattleType = param 1 P in let R' : RattleType = param 2 R in
    let En = ended E P R g d in let inst = bounded (a_type ∷ a_type ∷ a_type ∷ []) (E, (P, (R, tt))) (dcons d dnil) in
    let fn = inst_fn inst code.function in let c = clauses E P R g d 𝓛 𝓜.mem 𝓡.returns in
    let ce = E'.coded in let Me : RattleType = Seen.the_row E' P' R' g in
    let Wd : RattleType = Word.the_row E' P' R' g in let All : RattleType = Tuple (E' ∷ P' ∷ R' ∷ []) in
    let cp = P'.coded in let Pn : RattleType = Pens.the_row P' in
    let hs : Stays En.signature.params En.kept =
    (stay_dropped (RefOf (0 ∷ []) tt (plain (λ _. Me)) (λ _. tt)) yes, tt) in
    proved 𝓛 En hs c 𝓜 𝓡 (Goes-dropped 𝓛 4 (RefOf (0 ∷ []) tt (plain (λ _. Me)) (λ _. tt)) yes (λ κs x f. refl), tt)
    (#self inst) fn (code.unfolded 𝓤 H 𝓜 𝓡 wired (E, (P, (R, tt))) d)
    (λ κs. (shr_vals, tt)) (λ κs. (shr_Tells (named 0) κs.0 Me, tt)) (λ κs qs bounds a gh are.
    let me = a.0.now in
    let v0 : Val = vptr a.0.ref_ptr.0 a.0.ref_ptr.1 in
    let y : (walk_of 𝓛 En hs c).Ghost = ((κs, qs, bounds, a, (v0 ∷ [], tt)), gh) in
    let Post : Val → SProp 𝓤 = (walk_of 𝓛 En hs c).post y in
    let toks : Fml = (fsep (flft κs.0 qs.0)
    (fsep (flft κs.1.0 qs.1.0) (fsep (flft κs.1.1.0 qs.1.1.0) (fsep (flft κs.1.1.1.0 qs.1.1.1.0) ftrue)))) in
    qed 𝓛 ((‵ toks ⊛ ‵ (owns (types_at En.signature.params κs) a y.0.4)) ∷ raw ((c κs a).requires gh) ∷ []) ∵
    keep ! (0 ∷ []) $ split ! $
    fsplit ! $ move ! (2 ∷ []) $ fsplit ! $ keep ! (2 ∷ 3 ∷ []) $
    enter ! 𝓣.C 𝓣.Λ fn (v0 ∷ []) Post $ alloc_all ! (λ l. pass_all ! refl ((tt, tt), tt) $ let Ev = env fn.locals l in
    use0 𝓛 (‵ (pens_own cp.code me.book [])) (id⊢ 𝓤 (emp 𝓤)) $
    use0 𝓛 (‵ ((Token (P')).own_val (record {}, tt) (token_value ∷ []))) (token_made (P') 𝓛) $
    fjoin ! $ sets ! (agg ! (no_more !)) refl (tt, tt) $
    sets ! (agg ! (and_then ! (get ! refl) (no_more !))) refl (tt, (tt, tt)) $
    move ! (1 ∷ 2 ∷ []) $ fjoin ! $ nothing ! $ nothing ! $ fjoin ! $
    returns ! (look_at ! 0 refl) $ free_all ! refl $ keep ! (1 ∷ 0 ∷ 2 ∷ []) $
    by ! (ends 𝓛 En hs c y token_value (record { marker = record {}; book = me.book; held = [] }) (tt, tt) (tt, tt)
    (fact_i 𝓤 _ (emp 𝓤) (refl, refl)))))
