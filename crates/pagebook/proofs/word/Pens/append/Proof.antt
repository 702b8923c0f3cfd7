-- `append` makes one hand of two.
use Rattle.std.proofs.Common.{List, [], ◌∷◌, ◌++◌, refl}
use mir.Syntax.{a_type, dnil, named}
use mir.Val.{Val, vunit, vptr}
use mir.MapTy.{inst_fn}
use base.Logic.{SProp, emp, id⊢}
use base.Fml.{Fml, ftrue, fsep, flft}
use types.Kit.{‵, raw, ◌⊛◌, given, ◌$◌, ◌∵◌, !, qed, by, move, keep, drop as let_go, split, fsplit, fsplit3, fjoin, fjoin3, learn, use0, use2, rewrite, feq_i}
use types.Run.{unit_lit, of_opd, returns, enter}
use types.ByLocal.{alloc_all, pass_all, free_all, look_at, sets, env}
use contract.Monad.{fact}
use contract.Running.{tables}
use denote.RattleType.{RattleType, owns}
use denote.Signature.{types_at, plain}
use denote.Ref.{mut_vals, mut_Tells}
use denote.Steps.{nothing, opens, closes}
use denote.Param.{param, bounded}
use denote.Triple.Walked.{Stays, stay_ref, walk_of, Goes-ref}
use Rattle.atomic_table.proofs.Walks.{proved}
use Rattle.pagebook.specs.Pages.{Book}
use Rattle.pagebook.specs.Owned.{pens_own}
use Rattle.pagebook.proofs.Page.Hands.{hands_joined}
use Rattle.pagebook.proofs.Walk.Ends.{ends, two}
use Rattle.pagebook.specs.contracts.word.Pens as Pens
use Rattle.pagebook.specs.contracts.word.Pens.append.{ended, clauses}
use Rattle.pagebook.specs.contracts.word.Pens.append.Key.{name as #self}
use Rattle.pagebook.proofs.word.Pens.append.Statement.{statement}
use Rattle.pagebook.proofs.word.Pens.append.Code as code

pub append_spec : {M : Type 1} → statement M
append_spec 𝓤 𝓛 𝓜 𝓡 wired P _ =
    let H = 𝓛.H in let A = 𝓛.A in let 𝓣 = tables 𝓤 H 𝓜 𝓡 𝓡.env in
    let P' : RattleType = param 0 P in
    let En = ended P in let inst = bounded (a_type ∷ []) (P, tt) dnil in let fn = inst_fn inst code.function in
    let c = clauses P 𝓛 𝓜.mem 𝓡.returns in
    let cp = P'.coded in let Pn : RattleType = Pens.the_row P' in
    let hs : Stays En.signature.params En.kept =
    (stay_ref (0 ∷ []) tt (plain (λ _. Pn)), (stay_ref (1 ∷ []) tt (plain (λ _. Pn)), tt)) in
    proved 𝓛 En hs c 𝓜 𝓡 (Goes-ref 𝓛 3 0 tt (plain (λ _. Pn)), (Goes-ref 𝓛 3 1 tt (plain (λ _. Pn)), tt))
    (#self inst) fn (code.unfolded 𝓤 H 𝓜 𝓡 wired (P, tt))
    (λ κs. (mut_vals, (mut_vals, tt))) (λ κs. (mut_Tells (named 0) κs.0 Pn, (mut_Tells (named 1) κs.1.0 Pn, tt)))
    (λ κs qs bounds a gh are.
    let me = a.0.now in let other = a.1.0.now in let δ = me.book.pages_name in
    let v0 : Val = vptr a.0.ref_ptr.0 a.0.ref_ptr.1 in let v1 : Val = vptr a.1.0.ref_ptr.0 a.1.0.ref_ptr.1 in
    let y : (walk_of 𝓛 En hs c).Ghost = ((κs, qs, bounds, a, (v0 ∷ [], (v1 ∷ [], tt))), gh) in
    let Post : Val → SProp 𝓤 = (walk_of 𝓛 En hs c).post y in
    let toks : Fml = (fsep (flft κs.0 qs.0) (fsep (flft κs.1.0 qs.1.0) (fsep (flft κs.1.1.0 qs.1.1.0) ftrue))) in
    qed 𝓛 ((‵ toks ⊛ ‵ (owns (types_at En.signature.params κs) a y.0.4)) ∷ raw (fact 𝓤 _) ∷ given _ (‵ ftrue) ∷ []) ∵
    keep ! (2 ∷ 0 ∷ []) $ learn ! (λ same. let_go ! $ split ! $
    fsplit ! $ move ! (1 ∷ []) $ fsplit ! $ move ! (3 ∷ []) $ fsplit ! $ fsplit3 ! $ move ! (3 ∷ []) $
    fsplit ! $ fsplit3 ! $ keep ! (5 ∷ 6 ∷ 1 ∷ 2 ∷ 9 ∷ 7 ∷ 8 ∷ []) $
    enter ! 𝓣.C 𝓣.Λ fn (v0 ∷ v1 ∷ []) Post $ alloc_all ! (λ l. pass_all ! refl ((tt, tt), ((tt, tt), tt)) $
    let Ev = env fn.locals l in
    move ! (0 ∷ 1 ∷ 4 ∷ []) $ opens ! tt Pn a.0.ref_ptr.0 a.0.ref_ptr.1 (λ vs0. move ! (1 ∷ []) $
    fsplit ! $ move ! (6 ∷ 7 ∷ 8 ∷ []) $ opens ! tt Pn a.1.0.ref_ptr.0 a.1.0.ref_ptr.1 (λ vs1. move ! (1 ∷ []) $
    fsplit ! $ rewrite ! 1 (λ (z : Book). ‵ (pens_own cp.code z other.held)) same refl $
    move ! (7 ∷ 1 ∷ []) $ use2 𝓛 (‵ (pens_own cp.code me.book (me.held ++ other.held)))
    (hands_joined 𝓛 δ cp me.held other.held) $ use0 𝓛 (‵ (pens_own cp.code me.book [])) (id⊢ 𝓤 (emp 𝓤)) $
    move ! (7 ∷ 1 ∷ []) $ fjoin ! $ move ! (7 ∷ 0 ∷ 8 ∷ 9 ∷ 10 ∷ []) $
    closes ! tt Pn (record { marker = record {}; book = me.book; held = me.held ++ other.held }) vs0 a.0.ref_ptr.0
    a.0.ref_ptr.1 $ move ! (4 ∷ 3 ∷ []) $ fjoin ! $ move ! (4 ∷ 0 ∷ 5 ∷ 6 ∷ 7 ∷ []) $
    closes ! tt Pn (record { marker = record {}; book = other.book; held = [] }) vs1 a.1.0.ref_ptr.0 a.1.0.ref_ptr.1 $
    sets ! (of_opd ! (unit_lit !)) refl (tt, tt) $ feq_i ! (List Val) (vunit ∷ []) (vunit ∷ []) refl $
    move ! (3 ∷ 7 ∷ []) $ fjoin ! $ move ! (6 ∷ 0 ∷ []) $
    fjoin ! $ nothing ! $ feq_i ! (List Val) (vptr a.1.0.ref_ptr.0 a.1.0.ref_ptr.1 ∷ [])
    (vptr a.1.0.ref_ptr.0 a.1.0.ref_ptr.1 ∷ []) refl $ move ! (0 ∷ 4 ∷ 5 ∷ []) $
    fjoin3 ! $ fjoin ! $ feq_i ! (List Val) (vptr a.0.ref_ptr.0 a.0.ref_ptr.1 ∷ [])
    (vptr a.0.ref_ptr.0 a.0.ref_ptr.1 ∷ []) refl $ move ! (0 ∷ 4 ∷ 5 ∷ []) $ fjoin3 ! $ fjoin ! $
    returns ! (look_at ! 0 refl) $ free_all ! refl $ keep ! (1 ∷ 0 ∷ 2 ∷ []) $
    by ! (ends 𝓛 En hs c y vunit tt (
      (record { marker = record {}; book = me.book; held = me.held ++ other.held }),
      ((record { marker = record {}; book = other.book; held = [] }), tt),
    ) (tt, (tt, tt)) (two 𝓛 (refl, refl) (refl, refl))))))))
