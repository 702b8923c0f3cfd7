-- `into_inner` opens the lock at the key that it has.
use Rattle.std.proofs.Common.{◌≡◌, ◌∙◌, List, [], ◌∷◌, ◌++◌, refl, sym, ap, subst}
use Rattle.std.proofs.raw_atomic.Walks.{proved_at, leaves}
use mir.Syntax.{a_type, dcons, dnil}
use mir.Val.{Val, vstruct, vcons, vnil, of_list}
use mir.MapTy.{inst_fn}
use base.Fraction.{full_share}
use base.Logic.{SProp, ent, emp, id⊢}
use base.Fml.{Lft, ftrue, flft}
use prog.Wp.{WpFn}
use types.Kit.{‵, raw, ◌⊛◌, some, later, ◌$◌, ◌∵◌, !, qed, by, move, keep, drop, use0, use1, split, join, fsplit, fjoin, fpick, pick, suffices, await, rewrite, feq_l}
use types.Run.{stop, fld, no_more, and_then, of_opd, returns, enter}
use types.ByLocal.{alloc_all, pass_all, free_all, look_at, get, get_in, sets, lands_as}
use types.Part.{sub, whole}
use contract.Monad.{fact, fact_i}
use contract.BorrowLft.{◌⊑◌, ⊑_static}
use contract.Running.{tables}
use denote.Exit.{no}
use denote.RattleType.{RattleType, owns}
use denote.Signature.{types_at, plain}
use denote.Steps.{heard, nothing, peeks}
use denote.Laws.{Is, shows, Typed}
use denote.Memory.{lone}
use denote.Param.{param, bounded}
use denote.Param.Laws.{param_laws}
use denote.Triple.Spec.{triple_of}
use denote.Triple.Call.{calls_at}
use denote.Triple.Clauses.{Lasts, lasts}
use denote.Triple.Walked.{Stays, stay_dropped, walk_of, Goes-dropped}
use denote.Triple.Table.{framed}
use Rattle.std.proofs.cell.Inside.{one}
use Rattle.std.specs.contracts.marker.Brand as Brand
use Rattle.std.proofs.marker.Brand.TheLaws as brand
use Rattle.std.specs.contracts.sync.Mutex as M-row
use Rattle.std.proofs.sync.Mutex.TheLaws as M-laws
use Rattle.pagebook.proofs.Locks.Marker.{marker, marker_laws, dict}
use Rattle.pagebook.specs.contracts.tied.Tied as T-row
use Rattle.pagebook.proofs.tied.Tied.TheLaws as T-laws
use Rattle.pagebook.specs.declared.tied.Key as Key
use Rattle.pagebook.specs.Pages.{IsKey}
use Rattle.pagebook.proofs.Locks.Keys.{same_key}
use Rattle.pagebook.specs.contracts.tied.opened as callee
use Rattle.pagebook.proofs.tied.opened.Met.{met}
use Rattle.pagebook.specs.contracts.lock.KeyedMutex.{the_row}
use Rattle.pagebook.specs.contracts.lock.KeyedMutex.into_inner.{ended, clauses}
use Rattle.pagebook.specs.contracts.lock.KeyedMutex.into_inner.Key.{name as #self}
use Rattle.pagebook.proofs.lock.KeyedMutex.into_inner.Statement.{statement}
use Rattle.pagebook.proofs.lock.KeyedMutex.into_inner.Code as code

pub into_inner_spec : {M : Type 1} → statement M
into_inner_spec 𝓤 𝓛 𝓜 𝓡 wired T L g gd gm =
    let H = 𝓛.H in let 𝓣 = tables 𝓤 H 𝓜 𝓡 𝓡.env in let R : RattleType = param 0 T in let En = ended T g gd in
    let inst = bounded (a_type ∷ []) (T, tt) (dcons gd dnil) in let fn = inst_fn inst code.function in
    let c = clauses T g gd 𝓛 𝓜.mem 𝓡.returns in
    let self = plain (λ _. the_row R g) in let hs : Stays En.signature.params En.kept = (stay_dropped self no, tt) in
    proved_at 𝓛 En hs c 𝓜 𝓡 (Goes-dropped 𝓛 1 self no (λ κs x f. refl), tt) (#self inst) fn
    (code.unfolded 𝓤 H 𝓜 𝓡 wired (T, tt) gd)
    (λ z are. let κ : Lft = z.0.0.0 in let q = z.0.1.0 in let d = z.0.3.0 in let us : List Val = z.0.4.0 in
    let Post : Val → SProp 𝓤 = (walk_of 𝓛 En hs c).post z in
    let Run : List Val → SProp 𝓤 = λ ws. WpFn 𝓤 H 𝓣.C 𝓣.Λ fn ws Post in
    let h : Key.Ghosts Brand.the_row.Denot = record { key = d } in
    let k = triple_of 𝓛 (callee.signature T marker g gd h dict) (callee.spec T marker g gd h dict 𝓛 𝓜.mem 𝓡.returns) in
    let X : RattleType = M-row.the_row (T-row.the_row R Brand.the_row g h) in
    let LX = M-laws.the_row_laws (T-row.the_row R Brand.the_row g h)
    (T-laws.the_row_laws R Brand.the_row g h (param_laws 0 T L) brand.the_row_laws) in
    let fits : List Val → Type 0 = Typed (the_row R g).mir in
    qed 𝓛 (((‵ (flft κ q) ⊛ ‵ ftrue) ⊛ ‵ (owns (types_at En.signature.params z.0.0) z.0.3 z.0.4))
    ∷ (raw (fact 𝓤 (κ ⊑ T.lives)) ⊛ ‵ ftrue) ∷ []) ∵
    split ! $ move ! (2 ∷ []) $ split ! $ move ! (1 ∷ []) $ drop ! $ move ! (1 ∷ []) $ split ! $ move ! (1 ∷ []) $
    drop ! $ move ! (2 ∷ []) $ fsplit ! $ move ! (1 ∷ []) $ drop ! $
    fsplit ! $ fpick ! (λ typed. drop ! $ fpick ! (λ vss. fsplit ! $ feq_l ! (λ e. fsplit ! $ peeks ! X (Is X)
    (shows 𝓛 X) tt vss.0 (λ is-x. let got = one (lone X.mir) vss.0 ((LX.lawful 𝓛).typed tt vss.0 is-x) in
    let w : Val = got.0 in
    rewrite ! 0 (λ (ws : List Val). ‵ (X.own_val tt ws)) got.1 refl $ let s : Val = vstruct (vcons w vnil) in
    let es : us ≡ s ∷ [] = e ∙ ap (λ (ws : List Val). vstruct (of_list (ws ++ [])) ∷ []) got.1 in
    let y : k.Ghost = (((κ, ([], tt)), (q, (full_share, tt)), tt, (tt, tt), (w ∷ [], tt)), tt) in
    fjoin ! $ use0 𝓛 (‵ (flft [] full_share)) (𝓛.lfts.lft-nil full_share) $ nothing ! $ move ! (1 ∷ 0 ∷ []) $
    join ! $ move ! (2 ∷ 0 ∷ []) $ join ! $ join ! $
    use0 𝓛 (raw (fact 𝓤 ([] ⊑ []))) (fact_i 𝓤 ([] ⊑ []) (emp 𝓤) (⊑_static [])) $ nothing ! $ move ! (1 ∷ 0 ∷ []) $
    join ! $ move ! (2 ∷ 0 ∷ []) $ join ! $ move ! (1 ∷ 0 ∷ []) $ join ! $ use1 𝓛 (raw (k.pre y)) (id⊢ 𝓤 _) $
    suffices ! (Run (s ∷ [])) (subst (λ (ws : List Val). ent 𝓤 (Run (s ∷ [])) (Run ws)) (sym (λ i. es i ++ []))
    (id⊢ 𝓤 (Run (s ∷ [])))) $
    enter ! 𝓣.C 𝓣.Λ fn (s ∷ []) Post $ alloc_all ! (λ l. pass_all ! refl ((subst fits es typed).0, tt) $
    sets ! (of_opd ! (get_in ! (fld ! refl (stop !)) (sub ! 0 refl (whole !)))) refl got.2 $
    sets ! (of_opd ! (get ! refl)) refl got.2 $
    calls_at ! (framed 𝓤 H 𝓜 𝓣) k (met 𝓤 𝓛 𝓜 𝓡
    (code.calls-pagebook::tied::opened 𝓡.env wired) T marker L marker_laws g gd h dict gm (record {})) y
    (and_then ! (get ! refl) (no_more !)) (λ u.
    use1 𝓛 (later (some (λ (r : R.Denot).
    ((‵ (flft κ q) ⊛ ‵ (flft [] full_share) ⊛ ‵ ftrue) ⊛ ‵ (R.own_val r (u ∷ [])))
    ⊛ some (λ (ls : Lasts (callee.ended T marker g gd h dict) y.0.0 y.0.3). ‵
    (lasts (callee.ended T marker g gd h dict) y.0.0 y.0.3 ls)
    ⊛ raw (fact 𝓤 (IsKey (g.key_of r) d)))))) (id⊢ 𝓤 (k.post y u)) $
    await ! tt $ pick ! (λ r. split ! $ move ! (1 ∷ []) $ pick ! (λ ls. split ! $ drop ! $
    heard ! (IsKey (g.key_of r) d) (λ is. let e : g.key_of r ≡ d = same_key is in
    use0 𝓛 (raw (fact 𝓤 (g.key_of r ≡ d))) (fact_i 𝓤 (g.key_of r ≡ d) (emp 𝓤) e) $ move ! (1 ∷ []) $
    split ! $ split ! $ move ! (1 ∷ []) $ drop ! $ nothing ! $ move ! (1 ∷ 0 ∷ []) $ join ! $ move ! (1 ∷ []) $
    peeks ! R (Is R) (shows 𝓛 R) r (u ∷ []) (λ is-r. lands_as ! refl refl
    (((param_laws 0 T L).lawful 𝓛).typed r (u ∷ []) is-r).0 $ nothing ! $ nothing ! $ fjoin ! $
    returns ! (look_at ! 0 refl) $ free_all ! refl $ keep ! (2 ∷ 0 ∷ 1 ∷ 3 ∷ []) $
    by ! (leaves 𝓛 En hs c z u r (tt, tt) (tt, tt)))))))))))))
