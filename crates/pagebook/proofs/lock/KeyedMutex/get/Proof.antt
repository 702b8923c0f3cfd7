-- `get` hands the same `&` on, at the type that names the key.
use Rattle.std.proofs.Common.{◌≡◌, List, [], ◌∷◌, refl, sym}
use Rattle.std.proofs.raw_atomic.Walks.{proved}
use mir.Syntax.{a_type, dcons, dnil, named, seq, assign, place, rv_opd, copy, return}
use mir.Val.{Val, vptr}
use mir.MapTy.{inst_fn}
use base.Logic.{SProp, id⊢}
use contract.Monad.{fact}
use contract.BorrowLft.{◌⊑◌}
use base.Fml.{Lft, Fml, fhide}
use types.Kit.{‵, raw, ◌⊛◌, at_ret, ◌$◌, ◌∵◌, !, qed, move, keep, drop, use1, split, split3, join, fsplit, fjoin, suffices, rewrite, feq_i, done}
use types.Run.{stop, of_opd, addr, first, blocks, exec, returns, enter}
use types.ByLocal.{alloc_all, pass_all, free_all, look_at, get, through, sets, sets_last, env}
use contract.Running.{tables}
use denote.Exit.{yes}
use denote.RattleType.{RattleType, owns}
use denote.Signature.{types_at, plain}
use denote.Steps.{nothing, heard}
use denote.Param.{param, bounded}
use denote.Builtin.{RefOf}
use denote.Ref.{shr_vals, shr_Tells}
use denote.Triple.Walked.{Stays, stay_dropped, walk_of, Goes-dropped, ends_at}
use Rattle.std.specs.contracts.marker.Brand as Brand
use Rattle.pagebook.proofs.Locks.Same.{shared}
use Rattle.pagebook.specs.contracts.lock.KeyedMutex.{the_row}
use Rattle.pagebook.specs.contracts.lock.KeyedMutex.get.{ended, clauses}
use Rattle.pagebook.specs.contracts.lock.KeyedMutex.get.Key.{name as #self}
use Rattle.pagebook.proofs.lock.KeyedMutex.get.Statement.{statement}
use Rattle.pagebook.proofs.lock.KeyedMutex.get.Code as code

pub get_spec : {M : Type 1} → statement M
get_spec 𝓤 𝓛 𝓜 𝓡 wired T J L LJ g gd h hd _ _ =
    let H = 𝓛.H in let 𝓣 = tables 𝓤 H 𝓜 𝓡 𝓡.env in let R : RattleType = param 0 T in let Y : RattleType = param 1 J in
    let En = ended T J g gd h hd in
    let inst = bounded (a_type ∷ a_type ∷ []) (T, (J, tt)) (dcons gd (dcons hd dnil)) in
    let fn = inst_fn inst code.function in let c = clauses T J g gd h hd 𝓛 𝓜.mem 𝓡.returns in
    let self = RefOf (0 ∷ []) tt (plain (λ _. the_row R g)) (λ _. tt) in
    let hs : Stays En.signature.params En.kept = (stay_dropped self yes, tt) in
    proved 𝓛 En hs c 𝓜 𝓡 (Goes-dropped 𝓛 3 self yes (λ κs x f. refl), tt) (#self inst) fn
    (code.unfolded 𝓤 H 𝓜 𝓡 wired (T, (J, tt)) gd hd)
    (λ κs. (shr_vals, tt)) (λ κs. (shr_Tells (named 0) κs.0 (the_row R g), tt)) (λ κs qs bounds a gh are.
    let b = a.0.ref_ptr.0 in let o = a.0.ref_ptr.1 in let p : Val = vptr b o in
    let y : (walk_of 𝓛 En hs c).Ghost = ((κs, qs, bounds, a, (p ∷ [], tt)), gh) in
    let Post : Val → SProp 𝓤 = (walk_of 𝓛 En hs c).post y in
    qed 𝓛 ((raw (denote.Triple.Entry.alive 𝓛 En.signature κs qs) ⊛ ‵ (owns (types_at En.signature.params κs) a y.0.4))
    ∷ raw ((c κs a).requires gh) ∷ []) ∵
    split ! $ move ! (2 ∷ []) $ use1 𝓛 (raw (fact 𝓤 (κs.1.0 ⊑ T.lives)) ⊛ raw (fact 𝓤 (κs.1.1.0 ⊑ J.lives))
    ⊛ raw (fact 𝓤 (a.0.now ≡ h.key))) (id⊢ 𝓤 _) $
    split3 ! $ drop ! $ drop ! $ heard ! (a.0.now ≡ h.key) (λ e. move ! (1 ∷ []) $
    fsplit ! $ fsplit ! $ keep ! (1 ∷ 3 ∷ []) $
    rewrite ! 0 (λ (s : Lft → Fml). ‵ (fhide (s κs.0)))
    (shared R Y Brand.the_row g h (record { key = a.0.now }) (sym e) b o) refl $
    enter ! 𝓣.C 𝓣.Λ fn (p ∷ []) Post $ alloc_all ! (λ l. pass_all ! refl ((tt, tt), tt) $
    first ! $ blocks ! $ sets ! (addr ! (through ! refl (stop !))) refl (tt, tt) $
    sets ! (of_opd ! (get ! refl)) refl (tt, tt) $ sets_last ! (addr ! (through ! refl (stop !))) refl (tt, tt) $
    exec ! 𝓣.C 𝓣.Λ (env fn.locals l) (seq (assign (place 0 []) (rv_opd (copy (place 2 [])))) return)
    (at_ret (env fn.locals l) Post) $ sets ! (of_opd ! (get ! refl)) refl (tt, tt) $ returns ! (look_at ! 0 refl) $
    free_all ! refl $
    suffices ! _ (ends_at 𝓛 En hs c y p (record { ref_ptr = (b, o); now = record { lock = tt } }) (tt, tt) (tt, tt)) $
    feq_i ! (List Val) (p ∷ []) (p ∷ []) refl $ fjoin ! $ nothing ! $ nothing ! $ fjoin ! $ move ! (0 ∷ 1 ∷ []) $
    join ! $ move ! (1 ∷ 0 ∷ []) $ join ! $ nothing ! $ move ! (1 ∷ []) $ done !)))
