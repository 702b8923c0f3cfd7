-- `value` lends the value that a token shows.
use Rattle.std.proofs.Common.{ℕ, ◌+◌, List, [], ◌∷◌, refl}
use mir.Syntax.{a_type, dcons, dnil, named}
use mir.Val.{Val, vptr}
use mir.MapTy.{inst_fn}
use prog.Memory.{align, capped}
use base.Before.{before}
use base.Logic.{SProp, wand, emp, apply∗}
use base.Fml.{Lft, Share, Fml, ftrue, fsep, flft}
use types.Kit.{‵, raw, ◌⊛◌, some, given, later, at_ret, ◌$◌, ◌∵◌, !, qed, by, move, keep, drop as let_go, split, fsplit, fsplit3, fjoin, fpick, pick, learn}
use types.Kit.{use1, use2, use3, await, rewrite, feq_i}
use types.Run.{stop, fld, addr, bin, align_word, of_opd, first, blocks, exec, returns, enter}
use types.ByLocal.{alloc_all, pass_all, free_all, look_at, get, through, sets, sets_last, env}
use contract.Monad.{fact, fact_i}
use contract.Running.{tables}
use contract.Shared.{Lends-one}
use denote.Exit.{yes}
use denote.RattleType.{RattleType, owns}
use denote.Signature.{types_at, plain}
use denote.Builtin.{RefOf}
use denote.Ref.{shr_vals, shr_Tells}
use denote.Memory.{lone, shared_of}
use denote.Opens.{hide, unhide}
use denote.Steps.{nothing}
use denote.Param.{param, bounded}
use denote.Param.Laws.{param_laws}
use denote.Struct.Tuple.{Tuple}
use denote.Triple.Walked.{Stays, stay_dropped, walk_of, Goes-dropped}
use Rattle.core.proofs.atomic.Steps.{tail}
use Rattle.core.proofs.option.Option.TheLaws.{the_row_laws as option_laws}
use Rattle.core.specs.contracts.option.Option.{the_row as OptionOf}
use Rattle.core.specs.declared.option.Option.TheVariants.{Some}
use Rattle.atomic_table.proofs.Walks.{proved}
use Rattle.pagebook.specs.Slot.{Placed, Turn, at, written}
use Rattle.pagebook.proofs.Value.InSome.{value_in_some}
use Rattle.pagebook.proofs.Walk.Ends.{ends}
use Rattle.pagebook.specs.contracts.word.Seen as Seen
use Rattle.pagebook.specs.contracts.word.Pens as Pens
use Rattle.pagebook.specs.contracts.word.Word as Word
use Rattle.pagebook.specs.contracts.slot.Written as Written
use Rattle.pagebook.specs.contracts.slot.Slot as Slot
use Rattle.pagebook.proofs.State.Steps as state
use Rattle.pagebook.specs.contracts.slot.Slot.value.{ended, clauses}
use Rattle.pagebook.specs.contracts.slot.Slot.value.Key.{name as #self}
use Rattle.pagebook.proofs.slot.Slot.value.Statement.{statement}
use Rattle.pagebook.proofs.slot.Slot.value.Code as code

pub value_spec : {M : Type 1} → statement M
value_spec {M} 𝓤 𝓛 𝓜 𝓡 wired T E P R V L _ _ _ _ g d fs df _ _ =
    let H = 𝓛.H in let A = 𝓛.A in let 𝓣 = tables 𝓤 H 𝓜 𝓡 𝓡.env in
    let T' : RattleType = param 0 T in let E' : RattleType = param 1 E in let P' : RattleType = param 2 P in
    let R' : RattleType = param 3 R in let V' : RattleType = param 4 V in
    let En = ended T E P R V g d fs df in let inst = bounded (a_type ∷ a_type ∷ a_type ∷ a_type ∷ a_type ∷ [])
    (T, (E, (P, (R, (V, tt))))) (dcons d (dcons df dnil)) in let fn = inst_fn inst code.function in
    let c = clauses T E P R V g d fs df 𝓛 𝓜.mem 𝓡.returns in
    let ce = E'.coded in let Me : RattleType = Seen.the_row E' P' R' g in
    let Wd : RattleType = Word.the_row E' P' R' g in let All : RattleType = Tuple (E' ∷ P' ∷ R' ∷ []) in
    let cp = P'.coded in let Pn : RattleType = Pens.the_row P' in
    let O : RattleType = OptionOf T' in let LO = option_laws T' (param_laws 0 T L) in
    let Sl : RattleType = Slot.the_row T' E' P' R' V' g fs in let W : RattleType = Written.the_row T' in
    let hs : Stays En.signature.params En.kept =
    (stay_dropped (RefOf (0 ∷ []) tt (plain (λ _. Sl)) (λ _. tt)) yes, (stay_dropped (RefOf (1 ∷ []) tt (plain (λ _. W)) (λ _. tt)) yes, tt)) in
    proved 𝓛 En hs c 𝓜 𝓡 (
      Goes-dropped 𝓛 7 (RefOf (0 ∷ []) tt (plain (λ _. Sl)) (λ _. tt)) yes (λ κs x f. refl),
      (Goes-dropped 𝓛 7 (RefOf (1 ∷ []) tt (plain (λ _. W)) (λ _. tt)) yes (λ κs x f. refl), tt),
    ) (#self inst) fn (code.unfolded 𝓤 H 𝓜 𝓡 wired (T, (E, (P, (R, (V, tt))))) d df)
    (λ κs. (shr_vals, (shr_vals, tt))) (λ κs. (shr_Tells (named 0) κs.0 Sl, (shr_Tells (named 1) κs.1.0 W, tt)))
    (λ κs qs bounds a gh are.
    let b : ℕ = a.0.ref_ptr.0 in let o : ℕ = a.0.ref_ptr.1 in let l₀ : Placed = a.0.now in let γ : ℕ = l₀.id in
    let κ : Lft = κs.0 in let q : Share = qs.0 in let e : ℕ = at T' o in
    let p : ℕ = capped (align (lone T'.mir)) + e in let x : T.Denot = a.1.0.now.value in
    let v0 : Val = vptr a.0.ref_ptr.0 a.0.ref_ptr.1 in let v1 : Val = vptr a.1.0.ref_ptr.0 a.1.0.ref_ptr.1 in
    let y : (walk_of 𝓛 En hs c).Ghost = ((κs, qs, bounds, a, (v0 ∷ [], (v1 ∷ [], tt))), gh) in
    let Post : Val → SProp 𝓤 = (walk_of 𝓛 En hs c).post y in
    let toks : Fml = (fsep (flft κs.0 qs.0)
    (fsep (flft κs.1.0 qs.1.0) (fsep (flft κs.1.1.0 qs.1.1.0)
    (fsep (flft κs.1.1.1.0 qs.1.1.1.0) (fsep (flft κs.1.1.1.1.0 qs.1.1.1.1.0)
    (fsep (flft κs.1.1.1.1.1.0 qs.1.1.1.1.1.0) (fsep (flft κs.1.1.1.1.1.1.0 qs.1.1.1.1.1.1.0) ftrue))))))) in
    qed 𝓛 ((‵ toks ⊛ ‵ (owns (types_at En.signature.params κs) a y.0.4)) ∷ raw (fact 𝓤 _) ∷ raw (fact 𝓤 _)
    ∷ raw (fact 𝓤 _) ∷ raw (fact 𝓤 _) ∷ raw (fact 𝓤 _) ∷ given _ (‵ ftrue) ∷ []) ∵ keep ! (6 ∷ 0 ∷ []) $
    learn ! (λ same. let_go ! $ split ! $
    fsplit ! $ move ! (2 ∷ []) $ fsplit ! $ fsplit ! $ move ! (2 ∷ []) $
    fsplit ! $ fsplit ! $ keep ! (4 ∷ 1 ∷ 5 ∷ 6 ∷ []) $
    move ! (1 ∷ []) $ unhide ! $ fsplit ! $ let_go ! $ rewrite ! 0 (λ (k : ℕ). ‵ (written T' k x)) same refl $
    move ! (1 ∷ []) $ unhide ! $ fpick ! (λ u₀. let t : Turn = u₀.0 in let j : ℕ = u₀.1 in let α : Lft = t.0 in
    fsplit3 ! $ move ! (1 ∷ []) $ fpick ! (λ past. let_go ! $ use1 𝓛 (‵ (before κ α) ⊛ ‵ (before κ α))
    (types.Na.before_dup 𝓛 κ α) $ split ! $
    enter ! 𝓣.C 𝓣.Λ fn (v0 ∷ v1 ∷ []) Post $ alloc_all ! (λ l. pass_all ! refl ((tt, tt), ((tt, tt), tt)) $
    let Ev = env fn.locals l in
    move ! (0 ∷ 4 ∷ []) $ use2 𝓛 (later
    (some (λ (s : Share). ‵ (flft α s) ⊛ raw (wand 𝓤 (A.lft α s) (H.⇛ (A.lft κ q)))))) (Lends-one 𝓛 𝓜 𝓡 κ α q) $
    await ! tt $ pick ! (λ s. split ! $
    move ! (3 ∷ 0 ∷ 4 ∷ []) $ use3 𝓛 (later (‵ (state.Shown 𝓛 T' fs.fits l₀ t b o x) ⊛ ‵ (flft α s)))
    (state.looks_written 𝓛 T' fs.fits l₀ t b o LO.shr_laws j s x) $ await ! tt $ split ! $ move ! (1 ∷ 2 ∷ []) $
    use2 𝓛 (later (‵ (flft κ q))) (apply∗ 𝓤 (A.lft α s) (H.⇛ (A.lft κ q))) $ await ! tt $ move ! (1 ∷ []) $
    fsplit3 ! $ fpick ! (λ fit. let_go ! $ move ! (3 ∷ 1 ∷ []) $
    use2 𝓛 (‵ (shared_of O (Some x) b e κ)) ((LO.shr_laws (Some x) b e).mono M 𝓤 𝓛 κ α) $
    use1 𝓛 (‵ (shared_of T' x b p κ)) (value_in_some 𝓛 T' x b e κ) $
    hide ! $ feq_i ! (List Val) (vptr b p ∷ []) (vptr b p ∷ []) refl $ fjoin ! $
    sets ! (addr ! (through ! refl (stop !))) refl (tt, tt) $
    first ! $ blocks ! $ sets ! (addr ! (through ! refl (fld ! refl (stop !)))) refl (tt, tt) $
    sets ! (bin ! (get ! refl) (align_word !) tt) refl (tt, tt) $ sets ! (of_opd ! (get ! refl)) refl (tt, tt) $
    sets_last ! (addr ! (through ! refl (stop !))) refl (tt, tt) $
    exec ! 𝓣.C 𝓣.Λ Ev (tail (tail fn.body)) (at_ret Ev Post) $ sets ! (of_opd ! (get ! refl)) refl (tt, tt) $
    move ! (2 ∷ 3 ∷ []) $ fjoin ! $ nothing ! $ nothing ! $ fjoin ! $ nothing ! $ fjoin ! $
    returns ! (look_at ! 0 refl) $ free_all ! refl $ keep ! (1 ∷ 0 ∷ 2 ∷ []) $
    by ! (ends 𝓛 En hs c y (vptr b p) (record { ref_ptr = (b, p); now = x }) (tt, (tt, tt)) (tt, (tt, tt))
    (fact_i 𝓤 _ (emp 𝓤) (refl, fit))))))))))
