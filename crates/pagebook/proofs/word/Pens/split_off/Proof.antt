-- `split_off` cuts a hand in two.
use Rattle.std.proofs.Common.{ℕ, List, [], ◌∷◌, take, drop, refl, w64}
use mir.Syntax.{a_type, dnil, named}
use mir.Val.{Val, vint, vptr}
use mir.MapTy.{inst_fn}
use base.Logic.{SProp}
use base.Fml.{Fml, ftrue, fsep, flft}
use types.Kit.{‵, raw, ◌⊛◌, ◌$◌, ◌∵◌, !, qed, by, move, keep, split, fsplit, fsplit3, fjoin, fjoin3, use0, use1, feq_i}
use types.Run.{no_more, and_then, returns, enter}
use types.ByLocal.{alloc_all, pass_all, free_all, look_at, get, sets, env}
use types.Part.{agg}
use contract.Running.{tables}
use denote.Exit.{yes}
use denote.RattleType.{RattleType, owns}
use denote.Signature.{types_at, plain}
use denote.Builtin.{usize}
use denote.Ref.{mut_vals, mut_Tells}
use denote.Plain.{uint_vals, uint_Tells}
use denote.Steps.{nothing, opens, closes}
use denote.Param.{param, bounded}
use denote.Triple.Walked.{Stays, stay_dropped, stay_ref, walk_of, Goes-dropped, Goes-ref}
use Rattle.atomic_table.proofs.Walks.{proved}
use Rattle.pagebook.specs.Owned.{pens_own}
use Rattle.pagebook.proofs.Page.Hands.{hand_cut}
use Rattle.pagebook.proofs.Value.Made.{token_value, Token, token_made}
use Rattle.pagebook.proofs.Walk.Ends.{ends, two}
use Rattle.pagebook.specs.contracts.word.Pens as Pens
use Rattle.pagebook.specs.contracts.word.Pens.split_off.{ended, clauses}
use Rattle.pagebook.specs.contracts.word.Pens.split_off.Key.{name as #self}
use Rattle.pagebook.proofs.word.Pens.split_off.Statement.{statement}
use Rattle.pagebook.proofs.word.Pens.split_off.Code as code

pub split_off_spec : {M : Type 1} → statement M
split_off_spec 𝓤 𝓛 𝓜 𝓡 wired P _ =
    let H = 𝓛.H in let A = 𝓛.A in let 𝓣 = tables 𝓤 H 𝓜 𝓡 𝓡.env in
    let P' : RattleType = param 0 P in
    let En = ended P in let inst = bounded (a_type ∷ []) (P, tt) dnil in let fn = inst_fn inst code.function in
    let c = clauses P 𝓛 𝓜.mem 𝓡.returns in
    let cp = P'.coded in let Pn : RattleType = Pens.the_row P' in
    let hs : Stays En.signature.params En.kept =
    (stay_ref (0 ∷ []) tt (plain (λ _. Pn)), (stay_dropped (plain (λ _. usize)) yes, tt)) in
    proved 𝓛 En hs c 𝓜 𝓡 (Goes-ref 𝓛 2 0 tt (plain (λ _. Pn)), (Goes-dropped 𝓛 2 (plain (λ _. usize)) yes (λ κs x f. refl), tt)) (#self inst) fn
    (code.unfolded 𝓤 H 𝓜 𝓡 wired (P, tt))
    (λ κs. (mut_vals, (uint_vals w64, tt))) (λ κs. (mut_Tells (named 0) κs.0 Pn, (uint_Tells w64, tt)))
    (λ κs qs bounds a gh are.
    let me = a.0.now in let n : ℕ = a.1.0 in let δ = me.book.pages_name in
    let v0 : Val = vptr a.0.ref_ptr.0 a.0.ref_ptr.1 in let v1 : Val = vint w64 a.1.0 in
    let y : (walk_of 𝓛 En hs c).Ghost = ((κs, qs, bounds, a, (v0 ∷ [], (v1 ∷ [], tt))), gh) in
    let Post : Val → SProp 𝓤 = (walk_of 𝓛 En hs c).post y in
    let toks : Fml = (fsep (flft κs.0 qs.0) (fsep (flft κs.1.0 qs.1.0) ftrue)) in
    qed 𝓛 ((‵ toks ⊛ ‵ (owns (types_at En.signature.params κs) a y.0.4)) ∷ raw ((c κs a).requires gh) ∷ []) ∵
    keep ! (0 ∷ []) $ split ! $
    fsplit ! $ move ! (2 ∷ []) $ fsplit ! $ fsplit3 ! $ move ! (3 ∷ []) $ fsplit ! $ keep ! (3 ∷ 4 ∷ 5 ∷ 6 ∷ []) $
    enter ! 𝓣.C 𝓣.Λ fn (v0 ∷ v1 ∷ []) Post $
    alloc_all ! (λ l. pass_all ! refl ((tt, tt), ((tt, record { fits = are.1.0.1 }), tt)) $ let Ev = env fn.locals l in
    opens ! tt Pn a.0.ref_ptr.0 a.0.ref_ptr.1 (λ vs0. move ! (1 ∷ []) $ fsplit ! $ move ! (1 ∷ []) $
    use1 𝓛 (‵ (pens_own cp.code me.book (take n me.held)) ⊛ ‵ (pens_own cp.code me.book (drop n me.held)))
    (hand_cut 𝓛 δ cp n me.held) $ split ! $
    move ! (2 ∷ 0 ∷ []) $ fjoin ! $ move ! (2 ∷ 0 ∷ 3 ∷ 4 ∷ 5 ∷ []) $
    closes ! tt Pn (record { marker = record {}; book = me.book; held = take n me.held }) vs0 a.0.ref_ptr.0
    a.0.ref_ptr.1 $ use0 𝓛 (‵ ((Token (P')).own_val (record {}, tt) (token_value ∷ []))) (token_made (P') 𝓛) $
    move ! (0 ∷ 4 ∷ []) $ fjoin ! $ sets ! (agg ! (no_more !)) refl (tt, tt) $
    sets ! (agg ! (and_then ! (get ! refl) (no_more !))) refl (tt, (tt, tt)) $
    move ! (3 ∷ 4 ∷ []) $ fjoin ! $ nothing ! $ nothing ! $ fjoin ! $ feq_i ! (List Val)
    (vptr a.0.ref_ptr.0 a.0.ref_ptr.1 ∷ []) (vptr a.0.ref_ptr.0 a.0.ref_ptr.1 ∷ []) refl $ move ! (0 ∷ 4 ∷ 5 ∷ []) $
    fjoin3 ! $ fjoin ! $
    returns ! (look_at ! 0 refl) $ free_all ! refl $ keep ! (1 ∷ 0 ∷ 2 ∷ []) $
    by ! (ends 𝓛 En hs c y token_value (record { marker = record {}; book = me.book; held = drop n me.held })
    ((record { marker = record {}; book = me.book; held = take n me.held }), (tt, tt)) (tt, (tt, tt))
    (two 𝓛 (refl, refl) (refl, refl))))))
