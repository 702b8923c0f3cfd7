-- `found` makes a token of the value: by the rule the state is 2.
use Rattle.std.proofs.Common.{◌≡◌, ℕ, [], ◌∷◌, refl}
use mir.Syntax.{a_type, dcons, dnil, named}
use mir.Val.{Val, vptr}
use mir.MapTy.{inst_fn}
use base.Logic.{SProp, wand, emp, id⊢, apply∗}
use base.Fml.{Lft, Share, Fml, ftrue, fsep, fex, flft, fhide}
use types.Kit.{‵, raw, ◌⊛◌, some, given, later, ◌$◌, ◌∵◌, !, qed, by, move, keep, drop as let_go, split, group, fsplit, fsplit3, fjoin, fpick, pick, learn}
use types.Kit.{use0, use1, use2, use3, await, rewrite}
use types.Run.{no_more, and_then, returns, enter}
use types.ByLocal.{alloc_all, pass_all, free_all, look_at, get, sets, env}
use types.Part.{agg}
use contract.Monad.{fact, fact_i}
use contract.Running.{tables}
use contract.Shared.{Lends-one}
use denote.Exit.{yes}
use denote.RattleType.{RattleType, owns}
use denote.Signature.{types_at, plain}
use denote.Builtin.{RefOf}
use denote.Ref.{shr_vals, shr_Tells}
use denote.Memory.{hidden_shr}
use denote.Opens.{unhide}
use denote.Steps.{nothing}
use denote.Param.{param, bounded}
use denote.Param.Laws.{param_laws}
use denote.Struct.Tuple.{Tuple}
use denote.Struct.Lending.{lent_out}
use denote.Triple.Walked.{Stays, stay_dropped, walk_of, Goes-dropped}
use Rattle.core.proofs.option.Option.TheLaws.{the_row_laws as option_laws}
use Rattle.core.specs.contracts.option.Option.{the_row as OptionOf}
use Rattle.atomic_table.proofs.Walks.{proved}
use Rattle.pagebook.specs.Pages.{Book, View}
use Rattle.pagebook.specs.Owned.{seen_owns, pens_own}
use Rattle.pagebook.specs.Slot.{Placed, Turn}
use Rattle.pagebook.proofs.Value.Made.{token_value, Token}
use Rattle.pagebook.proofs.Value.Slots.{written_made}
use Rattle.pagebook.proofs.Book.Unchanged.{load_keeps}
use Rattle.pagebook.proofs.Walk.Ends.{ends}
use Rattle.core.specs.contracts.marker.PhantomData as marker
use Rattle.pagebook.specs.contracts.word.Seen as Seen
use Rattle.pagebook.specs.contracts.word.Pens as Pens
use Rattle.pagebook.specs.contracts.word.Word as Word
use Rattle.pagebook.specs.contracts.slot.Written as Written
use Rattle.pagebook.specs.contracts.slot.Slot as Slot
use Rattle.pagebook.proofs.State.Steps as state
use Rattle.pagebook.specs.contracts.slot.Slot.found.{ended, clauses}
use Rattle.pagebook.specs.contracts.slot.Slot.found.Key.{name as #self}
use Rattle.pagebook.proofs.slot.Slot.found.Statement.{statement}
use Rattle.pagebook.proofs.slot.Slot.found.Code as code

pub found_spec : {M : Type 1} → statement M
found_spec {M} 𝓤 𝓛 𝓜 𝓡 wired T E P R V L _ _ _ _ g d fs df _ _ =
    let H = 𝓛.H in let A = 𝓛.A in let 𝓣 = tables 𝓤 H 𝓜 𝓡 𝓡.env in
    let T' : RattleType = param 0 T in let E' : RattleType = param 1 E in let P' : RattleType = param 2 P in
    let R' : RattleType = param 3 R in let V' : RattleType = param 4 V in
    let En = ended T E P R V g d fs df in let inst = bounded (a_type ∷ a_type ∷ a_type ∷ a_type ∷ a_type ∷ [])
    (T, (E, (P, (R, (V, tt))))) (dcons d (dcons df dnil)) in let fn = inst_fn inst code.function in
    let c = clauses T E P R V g d fs df 𝓛 𝓜.mem 𝓡.returns in
    let ce = E'.coded in let Me : RattleType = Seen.the_row E' P' R' g in
    let Wd : RattleType = Word.the_row E' P' R' g in let All : RattleType = Tuple (E' ∷ P' ∷ R' ∷ []) in
    let cp = P'.coded in let Pn : RattleType = Pens.the_row P' in
    let O : RattleType = OptionOf T' in let LO = option_laws T' (param_laws 0 T L) in
    let Sl : RattleType = Slot.the_row T' E' P' R' V' g fs in let W : RattleType = Written.the_row T' in
    let hs : Stays En.signature.params En.kept =
    (stay_dropped (RefOf (0 ∷ []) tt (plain (λ _. Sl)) (λ _. tt)) yes, (stay_dropped (RefOf (1 ∷ []) tt (plain (λ _. Me)) (λ _. tt)) yes, tt)) in
    proved 𝓛 En hs c 𝓜 𝓡 (
      Goes-dropped 𝓛 7 (RefOf (0 ∷ []) tt (plain (λ _. Sl)) (λ _. tt)) yes (λ κs x f. refl),
      (Goes-dropped 𝓛 7 (RefOf (1 ∷ []) tt (plain (λ _. Me)) (λ _. tt)) yes (λ κs x f. refl), tt),
    ) (#self inst) fn (code.unfolded 𝓤 H 𝓜 𝓡 wired (T, (E, (P, (R, (V, tt))))) d df)
    (λ κs. (shr_vals, (shr_vals, tt))) (λ κs. (shr_Tells (named 0) κs.0 Sl, (shr_Tells (named 1) κs.1.0 Me, tt)))
    (λ κs qs bounds a gh are.
    let b : ℕ = a.0.ref_ptr.0 in let o : ℕ = a.0.ref_ptr.1 in let l₀ : Placed = a.0.now in let γ : ℕ = l₀.id in
    let κ : Lft = κs.0 in let q : Share = qs.0 in let me = a.1.0.now in let v : View E.Denot P.Denot = (me.log, []) in
    let then : ℕ → View E.Denot P.Denot → Type 0 = λ n u. n ≡ 2 in
    let v0 : Val = vptr a.0.ref_ptr.0 a.0.ref_ptr.1 in let v1 : Val = vptr a.1.0.ref_ptr.0 a.1.0.ref_ptr.1 in
    let y : (walk_of 𝓛 En hs c).Ghost = ((κs, qs, bounds, a, (v0 ∷ [], (v1 ∷ [], tt))), gh) in
    let Post : Val → SProp 𝓤 = (walk_of 𝓛 En hs c).post y in
    let toks : Fml = (fsep (flft κs.0 qs.0)
    (fsep (flft κs.1.0 qs.1.0) (fsep (flft κs.1.1.0 qs.1.1.0)
    (fsep (flft κs.1.1.1.0 qs.1.1.1.0) (fsep (flft κs.1.1.1.1.0 qs.1.1.1.1.0)
    (fsep (flft κs.1.1.1.1.1.0 qs.1.1.1.1.1.0) (fsep (flft κs.1.1.1.1.1.1.0 qs.1.1.1.1.1.1.0) ftrue))))))) in
    qed 𝓛 ((‵ toks ⊛ ‵ (owns (types_at En.signature.params κs) a y.0.4)) ∷ raw (fact 𝓤 _) ∷ raw (fact 𝓤 _)
    ∷ raw (fact 𝓤 _) ∷ raw (fact 𝓤 _) ∷ raw (fact 𝓤 _) ∷ given _ (‵ ftrue) ∷ given _ (‵ ftrue) ∷ []) ∵
    keep ! (6 ∷ 7 ∷ 0 ∷ []) $ learn ! (λ same. let_go ! $ learn ! (λ sure. let_go ! $ split ! $
    fsplit ! $ move ! (2 ∷ []) $ fsplit ! $ fsplit ! $ move ! (2 ∷ []) $
    fsplit ! $ fsplit ! $ keep ! (4 ∷ 1 ∷ 5 ∷ 6 ∷ []) $
    move ! (1 ∷ []) $ use1 𝓛 (‵ (hidden_shr (Token All) κs.1.0 (record {}, tt) a.1.0.ref_ptr.0 a.1.0.ref_ptr.1)
    ⊛ ‵ (fhide (seen_owns ce.code cp.code g.holds a.1.0.now.book a.1.0.now.log)))
    (lent_out 𝓛 (Seen.struct E' P' R' g)
    (Seen.the_codes E.Denot P.Denot R.Denot E'.coded P'.coded R'.coded (marker.the_row All).coded)
    (Seen.the_heap E' P' R' g) (Seen.the_lent E' P' R' g) κs.1.0 a.1.0.now a.1.0.ref_ptr.0 a.1.0.ref_ptr.1) $
    split ! $ let_go ! $ unhide ! $ rewrite ! 0
    (λ (z : Book). ‵ (seen_owns ce.code cp.code g.holds z me.log)) same refl $ move ! (1 ∷ []) $
    unhide ! $ fpick ! (λ u₀. let t : Turn = u₀.0 in let j : ℕ = u₀.1 in let α : Lft = t.0 in
    fsplit3 ! $ move ! (1 ∷ []) $ fpick ! (λ past. let_go ! $ enter ! 𝓣.C 𝓣.Λ fn (v0 ∷ v1 ∷ []) Post $
    alloc_all ! (λ l. pass_all ! refl ((tt, tt), ((tt, tt), tt)) $ let Ev = env fn.locals l in
    move ! (0 ∷ 3 ∷ []) $ use2 𝓛 (later
    (some (λ (s : Share). ‵ (flft α s) ⊛ raw (wand 𝓤 (A.lft α s) (H.⇛ (A.lft κ q)))))) (Lends-one 𝓛 𝓜 𝓡 κ α q) $
    await ! tt $ pick ! (λ s. split ! $
    use0 𝓛 (raw (emp 𝓤)) (id⊢ 𝓤 (emp 𝓤)) $ use0 𝓛 (‵ (pens_own cp.code l₀.book [])) (id⊢ 𝓤 (emp 𝓤)) $
    move ! (5 ∷ 0 ∷ 1 ∷ []) $ group ! 3 $ move ! (3 ∷ 1 ∷ 0 ∷ []) $
    use3 𝓛 (later (‵ (fex ℕ (state.seen_sure 𝓛 T' fs.fits l₀ t b o ce cp g.holds j s v past then)) ⊛ ‵ (flft α s)))
    (state.looks_sure 𝓛 T' fs.fits l₀ t b o ce cp g.holds j s v past LO.shr_laws then (λ n u so. so)
    (load_keeps g.holds me.log l₀.key 2 sure)) $ await ! tt $ split ! $
    move ! (1 ∷ 2 ∷ []) $ use2 𝓛 (later (‵ (flft κ q))) (apply∗ 𝓤 (A.lft α s) (H.⇛ (A.lft κ q))) $ await ! tt $
    move ! (1 ∷ []) $ fpick ! (λ n. fpick ! (λ w. fsplit ! $ move ! (1 ∷ []) $ fsplit ! $ move ! (1 ∷ []) $
    fpick ! (λ x. fsplit3 ! $
    move ! (1 ∷ []) $ use1 𝓛 (‵ (W.own_val (record { marker = record {}; of = γ; value = x }) (token_value ∷ [])))
    (written_made 𝓛 T' γ x) $ sets ! (agg ! (no_more !)) refl (tt, tt) $
    sets ! (agg ! (and_then ! (get ! refl) (no_more !))) refl (tt, (tt, tt)) $
    move ! (5 ∷ 6 ∷ []) $ fjoin ! $ nothing ! $ nothing ! $ fjoin ! $ nothing ! $ fjoin ! $
    returns ! (look_at ! 0 refl) $ free_all ! refl $ keep ! (1 ∷ 0 ∷ 2 ∷ []) $
    by ! (ends 𝓛 En hs c y token_value (record { marker = record {}; of = γ; value = x }) (tt, (tt, tt))
    (tt, (tt, tt)) (fact_i 𝓤 _ (emp 𝓤) refl))))))))))))
