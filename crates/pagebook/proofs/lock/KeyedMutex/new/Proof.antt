-- `new` makes the lock at the key of its content.
use Rattle.std.proofs.Common.{◌≡◌, List, [], ◌∷◌, ◌++◌, refl, sym, subst}
use Rattle.std.proofs.raw_atomic.Walks.{proved_at, leaves}
use mir.Syntax.{a_type, dcons, dnil}
use mir.Val.{Val, vstruct, vcons, vnil}
use mir.MapTy.{inst_fn}
use base.Fraction.{full_share}
use base.Logic.{SProp, ent, emp, id⊢}
use base.Fml.{Lft, ftrue, flft, fex}
use prog.Wp.{WpFn}
use types.Kit.{‵, raw, ◌⊛◌, some, later, ◌$◌, ◌∵◌, !, qed, by, move, keep, drop, use0, use1, split, join, fsplit, fjoin, fpack, pick, suffices, await, rewrite, feq_i}
use types.Run.{no_more, and_then, of_opd, returns, enter}
use types.ByLocal.{alloc_all, pass_all, free_all, look_at, get, sets, lands_as}
use types.Part.{agg}
use contract.Monad.{fact, fact_i}
use contract.BorrowLft.{◌⊑◌, ⊑_static}
use contract.Running.{tables}
use denote.Exit.{no}
use denote.RattleType.{RattleType, Valss, owns}
use denote.Signature.{types_at, plain}
use denote.Steps.{nothing, peeks}
use denote.Laws.{Is, shows, Typed}
use denote.Memory.{lone}
use denote.Param.{param, bounded}
use denote.Param.Laws.{param_laws}
use denote.Struct.Struct.{within}
use denote.Struct.Declared.{shape, fields}
use denote.Triple.Spec.{triple_of}
use denote.Triple.Call.{calls_at}
use denote.Triple.Clauses.{Lasts, lasts}
use denote.Triple.Walked.{Stays, stay_dropped, walk_of, Goes-dropped}
use denote.Triple.Table.{framed}
use Rattle.std.proofs.cell.Inside.{one}
use Rattle.std.specs.contracts.marker.Brand as Brand
use Rattle.std.proofs.marker.Brand.TheLaws as brand
use Rattle.std.specs.contracts.sync.Mutex as M-row
use Rattle.std.proofs.sync.Mutex.TheLaws as M-laws
use Rattle.pagebook.proofs.Locks.Marker.{marker, marker_laws, dict}
use Rattle.pagebook.specs.contracts.tied.Tied as T-row
use Rattle.pagebook.proofs.tied.Tied.TheLaws as T-laws
use Rattle.pagebook.specs.contracts.tied.LockOf as L-row
use Rattle.pagebook.proofs.tied.LockOf.TheLaws as L-laws
use Rattle.pagebook.specs.declared.tied.Key as Key
use Rattle.pagebook.specs.Pages.{IsKey}
use Rattle.pagebook.specs.contracts.tied.sealed as callee
use Rattle.pagebook.proofs.tied.sealed.Met.{met}
use Rattle.pagebook.specs.contracts.lock.KeyedMutex.{the_row}
use Rattle.pagebook.specs.contracts.lock.KeyedMutex.new.{ended, clauses}
use Rattle.pagebook.specs.contracts.lock.KeyedMutex.new.Key.{name as #self}
use Rattle.pagebook.proofs.lock.KeyedMutex.new.Statement.{statement}
use Rattle.pagebook.proofs.lock.KeyedMutex.new.Code as code

pub new_spec : {M : Type 1} → statement M
new_spec 𝓤 𝓛 𝓜 𝓡 wired T L g gd gm =
    let H = 𝓛.H in let 𝓣 = tables 𝓤 H 𝓜 𝓡 𝓡.env in let R : RattleType = param 0 T in let En = ended T g gd in
    let inst = bounded (a_type ∷ []) (T, tt) (dcons gd dnil) in let fn = inst_fn inst code.function in
    let c = clauses T g gd 𝓛 𝓜.mem 𝓡.returns in
    let value = plain (λ _. R) in let hs : Stays En.signature.params En.kept = (stay_dropped value no, tt) in
    proved_at 𝓛 En hs c 𝓜 𝓡 (Goes-dropped 𝓛 1 value no (λ κs x f. refl), tt) (#self inst) fn
    (code.unfolded 𝓤 H 𝓜 𝓡 wired (T, tt) gd)
    (λ z are. let κ : Lft = z.0.0.0 in let q = z.0.1.0 in let v : R.Denot = z.0.3.0 in let us : List Val = z.0.4.0 in
    let Post : Val → SProp 𝓤 = (walk_of 𝓛 En hs c).post z in
    let Run : List Val → SProp 𝓤 = λ ws. WpFn 𝓤 H 𝓣.C 𝓣.Λ fn ws Post in
    let h : Key.Ghosts Brand.the_row.Denot = record { key = g.key_of v } in
    let k = triple_of 𝓛 (callee.signature T marker g gd h dict) (callee.spec T marker g gd h dict 𝓛 𝓜.mem 𝓡.returns) in
    let got = one (lone R.mir) us (((param_laws 0 T L).lawful 𝓛).typed v us are.0) in let w : Val = got.0 in
    let y : k.Ghost = (((κ, ([], tt)), (q, (full_share, tt)), tt, (v, tt), (w ∷ [], tt)), tt) in
    let X : RattleType = M-row.the_row (T-row.the_row R Brand.the_row g h) in
    let LX = M-laws.the_row_laws (T-row.the_row R Brand.the_row g h)
    (T-laws.the_row_laws R Brand.the_row g h (param_laws 0 T L) brand.the_row_laws) in
    let P : RattleType = L-row.the_row R Brand.the_row g h in
    let LP = L-laws.the_row_laws R Brand.the_row g h (param_laws 0 T L) brand.the_row_laws in
    qed 𝓛 (((‵ (flft κ q) ⊛ ‵ ftrue) ⊛ ‵ (owns (types_at En.signature.params z.0.0) z.0.3 z.0.4))
    ∷ (raw (fact 𝓤 (κ ⊑ T.lives)) ⊛ ‵ ftrue) ∷ []) ∵
    split ! $ move ! (2 ∷ []) $ split ! $ move ! (1 ∷ []) $ drop ! $ move ! (1 ∷ []) $ split ! $ move ! (1 ∷ []) $
    drop ! $ move ! (2 ∷ []) $ fsplit ! $
    rewrite ! 0 (λ (ws : List Val). ‵ (R.own_val v ws)) got.1 refl $
    use0 𝓛 (‵ (flft [] full_share)) (𝓛.lfts.lft-nil full_share) $ nothing ! $ move ! (1 ∷ 0 ∷ []) $
    join ! $ move ! (3 ∷ 0 ∷ []) $ join ! $ move ! (1 ∷ 2 ∷ []) $ fjoin ! $ move ! (1 ∷ 0 ∷ []) $ join ! $
    use0 𝓛 (raw (fact 𝓤 (IsKey (g.key_of v) h.key))) (fact_i 𝓤 (IsKey (g.key_of v) h.key) (emp 𝓤) (refl, refl)) $
    use0 𝓛 (raw (fact 𝓤 ([] ⊑ []))) (fact_i 𝓤 ([] ⊑ []) (emp 𝓤) (⊑_static [])) $ join ! $ move ! (2 ∷ 0 ∷ []) $
    join ! $ move ! (1 ∷ 0 ∷ []) $ join ! $ use1 𝓛 (raw (k.pre y)) (id⊢ 𝓤 _) $
    suffices ! (Run (w ∷ [])) (subst (λ (ws : List Val). ent 𝓤 (Run (w ∷ [])) (Run ws)) (sym (λ i. got.1 i ++ []))
    (id⊢ 𝓤 (Run (w ∷ [])))) $
    enter ! 𝓣.C 𝓣.Λ fn (w ∷ []) Post $ alloc_all ! (λ l. pass_all ! refl (got.2, tt) $
    sets ! (of_opd ! (get ! refl)) refl got.2 $
    calls_at ! (framed 𝓤 H 𝓜 𝓣) k (met 𝓤 𝓛 𝓜 𝓡
    (code.calls-pagebook::tied::sealed 𝓡.env wired) T marker L marker_laws g gd h dict gm (record {})) y
    (and_then ! (get ! refl) (no_more !)) (λ u.
    use1 𝓛 (later (some (λ (r : X.Denot).
    ((‵ (flft κ q) ⊛ ‵ (flft [] full_share) ⊛ ‵ ftrue) ⊛ ‵ (X.own_val r (u ∷ [])))
    ⊛ some (λ (ls : Lasts (callee.ended T marker g gd h dict) y.0.0 y.0.3). ‵
    (lasts (callee.ended T marker g gd h dict) y.0.0 y.0.3 ls) ⊛ raw (emp 𝓤))))) (id⊢ 𝓤 (k.post y u)) $
    await ! tt $ pick ! (λ r. split ! $ move ! (1 ∷ []) $ drop ! $ split ! $ split ! $ move ! (1 ∷ []) $
    drop ! $ nothing ! $ move ! (1 ∷ 0 ∷ []) $ join ! $ move ! (1 ∷ []) $
    peeks ! X (Is X) (shows 𝓛 X) r (u ∷ []) (λ is-x. lands_as ! refl refl ((LX.lawful 𝓛).typed r (u ∷ []) is-x).0 $
    let s : Val = vstruct (vcons u vnil) in let d : P.Denot = record { lock = r } in
    nothing ! $ move ! (1 ∷ 0 ∷ []) $ fjoin ! $ feq_i ! (List Val) (s ∷ []) (s ∷ []) refl $ fjoin ! $
    fpack ! (Valss (fields (L-row.the_type R Brand.the_row g h)))
    (within (shape (L-row.the_type R Brand.the_row g h)) ((L-row.the_type R Brand.the_row g h).to d) (s ∷ []))
    (u ∷ [], tt) $ use1 𝓛 (‵ (P.own_val d (s ∷ []))) (id⊢ 𝓤 _) $
    peeks ! P (Is P) (shows 𝓛 P) d (s ∷ []) (λ is-p. let good = (LP.lawful 𝓛).typed d (s ∷ []) is-p in
    let fits : Type 0 = Typed (the_row R g).mir (s ∷ []) in
    use0 𝓛 (‵ (fex fits (λ _. ftrue))) (fact_i 𝓤 fits (emp 𝓤) good) $ fjoin ! $
    sets ! (agg ! (and_then ! (get ! refl) (no_more !))) refl good.0 $
    use0 𝓛 (raw (fact 𝓤 (g.key_of v ≡ g.key_of v))) (fact_i 𝓤 (g.key_of v ≡ g.key_of v) (emp 𝓤) refl) $
    nothing ! $ nothing ! $ fjoin ! $
    returns ! (look_at ! 0 refl) $ free_all ! refl $ keep ! (3 ∷ 0 ∷ 2 ∷ 1 ∷ []) $
    by ! (leaves 𝓛 En hs c z s (g.key_of v) (tt, tt) (tt, tt))))))))
