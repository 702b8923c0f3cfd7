-- `put` writes the value, between two steps of the state and of the book.
use Rattle.std.proofs.Common.{◌≡◌, ℕ, List, [], ◌∷◌, sym, refl, subst}
use mir.Syntax.{a_type, dcons, dnil}
use mir.Val.{Val, vptr, vcons, vnil}
use mir.MapTy.{inst_fn}
use prog.Wp.{WpFn}
use base.Fraction.{full_share}
use base.Logic.{SProp, ent, wand, emp, id⊢, apply∗}
use base.Fml.{Lft, Share, Fml, ftrue, fsep, fex, flft, fbor, fnamed, Incl-trans}
use types.Kit.{‵, raw, ◌⊛◌, some, given, later, at_ret, ◌$◌, ◌∵◌, !, qed, by, move, keep, drop as let_go, split, split3, join, group, fsplit, fsplit3, fjoin}
use types.Kit.{fjoin3, fpick, pick, learn, use0, use1, use2, use3, await, rewrite, feq_i}
use types.Match.{live}
use types.Mut.{open_ref, close_ref}
use types.Run.{stop, fld, addr, lit, of_opd, no_more, and_then, first, blocks, exec, returns, enter, assigns, store_raw}
use types.ByLocal.{alloc_all, pass_all, free_all, look_at, get, through, sets, sets_last, env}
use types.Part.{agg}
use contract.Monad.{fact}
use contract.Running.{tables}
use contract.Shared.{Lends-one}
use contract.BorrowLft.{◌⊑◌, meet_⊑_left, meet_⊑_right}
use denote.Exit.{yes, no}
use denote.RattleType.{RattleType, owns}
use denote.Signature.{types_at, plain}
use denote.Builtin.{RefOf}
use denote.Memory.{lone, cell_at}
use denote.Laws.{Is, shows}
use denote.Opens.{unhide}
use denote.Steps.{nothing, opens, closes, heard, peeks}
use denote.Param.{param, bounded, layout}
use denote.Param.Laws.{param_laws}
use denote.Struct.Tuple.{Tuple}
use denote.Triple.Walked.{Stays, stay_dropped, stay_ref, walk_of, Goes-dropped, Goes-ref}
use Rattle.core.proofs.atomic.Steps.{tail}
use Rattle.core.proofs.cell.Inside.{Good, one}
use Rattle.core.proofs.option.Made.{Some-of}
use Rattle.core.proofs.option.Option.TheLaws.{the_row_laws as option_laws}
use Rattle.core.specs.contracts.option.Option.{the_row as OptionOf}
use Rattle.core.specs.declared.option.Option.TheVariants.{Some}
use Rattle.atomic_table.proofs.Walks.{proved_at}
use Rattle.pagebook.specs.Pages.{Book, View}
use Rattle.pagebook.specs.Owned.{seen_owns, pens_own}
use Rattle.pagebook.specs.Slot.{Placed, Turn, at, Cell, promised}
use Rattle.pagebook.proofs.Value.Made.{token_value}
use Rattle.pagebook.proofs.Value.Slots.{written_made}
use Rattle.pagebook.proofs.Walk.Ends.{ends, four}
use Rattle.pagebook.specs.contracts.word.Seen as Seen
use Rattle.pagebook.specs.contracts.word.Pens as Pens
use Rattle.pagebook.specs.contracts.word.Word as Word
use Rattle.pagebook.specs.contracts.slot.Written as Written
use Rattle.pagebook.specs.contracts.slot.Slot as Slot
use Rattle.pagebook.proofs.State.Steps as state
use Rattle.pagebook.specs.contracts.slot.Slot.put.{ended, clauses}
use Rattle.pagebook.specs.contracts.slot.Slot.put.Key.{name as #self}
use Rattle.pagebook.proofs.slot.Slot.put.Statement.{statement}
use Rattle.pagebook.proofs.slot.Slot.put.Code as code

pub put_spec : {M : Type 1} → statement M
put_spec {M} 𝓤 𝓛 𝓜 𝓡 wired T E P R V X B F L _ _ _ _ _ _ _ g d fs ds gb db gf df _ _ _ _ =
    let H = 𝓛.H in let A = 𝓛.A in let 𝓣 = tables 𝓤 H 𝓜 𝓡 𝓡.env in
    let T' : RattleType = param 0 T in let E' : RattleType = param 1 E in let P' : RattleType = param 2 P in
    let R' : RattleType = param 3 R in let V' : RattleType = param 4 V in let X' : RattleType = param 5 X in
    let B' : RattleType = param 6 B in let F' : RattleType = param 7 F in
    let En = ended T E P R V X B F g d fs ds gb db gf df in
    let inst = bounded (a_type ∷ a_type ∷ a_type ∷ a_type ∷ a_type ∷ a_type ∷ a_type ∷ a_type ∷ [])
    (T, (E, (P, (R, (V, (X, (B, (F, tt)))))))) (dcons d (dcons ds (dcons db (dcons df dnil)))) in
    let fn = inst_fn inst code.function in let c = clauses T E P R V X B F g d fs ds gb db gf df 𝓛 𝓜.mem 𝓡.returns in
    let ce = E'.coded in let Me : RattleType = Seen.the_row E' P' R' g in
    let Wd : RattleType = Word.the_row E' P' R' g in let All : RattleType = Tuple (E' ∷ P' ∷ R' ∷ []) in
    let cp = P'.coded in let Pn : RattleType = Pens.the_row P' in
    let O : RattleType = OptionOf T' in let LO = option_laws T' (param_laws 0 T L) in
    let Sl : RattleType = Slot.the_row T' E' P' R' V' g fs in let W : RattleType = Written.the_row T' in
    let hs : Stays En.signature.params En.kept = (
      stay_dropped (RefOf (0 ∷ []) tt (plain (λ _. Sl)) (λ _. tt)) yes,
      (
        stay_dropped (plain (λ _. T')) no,
        (
          stay_dropped (RefOf (1 ∷ []) tt (plain (λ _. X')) (λ _. tt)) yes,
          (stay_ref (2 ∷ []) tt (plain (λ _. Me)), (stay_ref (3 ∷ []) tt (plain (λ _. Pn)), tt)),
        ),
      ),
    ) in
    proved_at 𝓛 En hs c 𝓜 𝓡 (
      Goes-dropped 𝓛 12 (RefOf (0 ∷ []) tt (plain (λ _. Sl)) (λ _. tt)) yes (λ κs x f. refl),
      (
        Goes-dropped 𝓛 12 (plain (λ _. T')) no (λ κs x f. refl),
        (
          Goes-dropped 𝓛 12 (RefOf (1 ∷ []) tt (plain (λ _. X')) (λ _. tt)) yes (λ κs x f. refl),
          (Goes-ref 𝓛 12 2 tt (plain (λ _. Me)), (Goes-ref 𝓛 12 3 tt (plain (λ _. Pn)), tt)),
        ),
      ),
    ) (#self inst) fn (code.unfolded 𝓤 H 𝓜 𝓡 wired (T, (E, (P, (R, (V, (X, (B, (F, tt)))))))) d ds db df)
    (λ y₀ are. let κs = y₀.0.0 in let qs = y₀.0.1 in let a = y₀.0.3 in
    let x : T.Denot = a.1.0 in let got₀ = one (layout T) y₀.0.4.1.0
    (((param_laws 0 T L).lawful 𝓛).typed x y₀.0.4.1.0 are.1.0) in let w₀ : Val = got₀.0 in
    let good₀ : Good (layout T) w₀ = got₀.2 in let w₁ : Val = live 1 (vcons w₀ vnil) in
    let b : ℕ = a.0.ref_ptr.0 in let o : ℕ = a.0.ref_ptr.1 in let l₀ : Placed = a.0.now in let γ : ℕ = l₀.id in
    let κ : Lft = κs.0 in let q : Share = qs.0 in let e : ℕ = at T' o in let bk : Book = l₀.book in
    let τ : Lft = κs.1.1.1.1.0 in let r : Share = qs.1.1.1.1.0 in let about = a.1.1.0.now in
    let seen = a.1.1.1.0.now in let hand = a.1.1.1.1.0.now in let v : View E.Denot P.Denot = (seen.log, hand.held) in
    let then₁ : ℕ → View E.Denot P.Denot → Type 0 = λ n u. (n ≡ 0) × gb.then about v n u in
    let v0 : Val = vptr a.0.ref_ptr.0 a.0.ref_ptr.1 in let v1 : Val = w₀ in
    let v2 : Val = vptr a.1.1.0.ref_ptr.0 a.1.1.0.ref_ptr.1 in
    let v3 : Val = vptr a.1.1.1.0.ref_ptr.0 a.1.1.1.0.ref_ptr.1 in
    let v4 : Val = vptr a.1.1.1.1.0.ref_ptr.0 a.1.1.1.1.0.ref_ptr.1 in
    let toks : Fml = (fsep (flft κs.0 qs.0)
    (fsep (flft κs.1.0 qs.1.0) (fsep (flft κs.1.1.0 qs.1.1.0)
    (fsep (flft κs.1.1.1.0 qs.1.1.1.0) (fsep (flft κs.1.1.1.1.0 qs.1.1.1.1.0)
    (fsep (flft κs.1.1.1.1.1.0 qs.1.1.1.1.1.0)
    (fsep (flft κs.1.1.1.1.1.1.0 qs.1.1.1.1.1.1.0)
    (fsep (flft κs.1.1.1.1.1.1.1.0 qs.1.1.1.1.1.1.1.0)
    (fsep (flft κs.1.1.1.1.1.1.1.1.0 qs.1.1.1.1.1.1.1.1.0)
    (fsep (flft κs.1.1.1.1.1.1.1.1.1.0 qs.1.1.1.1.1.1.1.1.1.0)
    (fsep (flft κs.1.1.1.1.1.1.1.1.1.1.0 qs.1.1.1.1.1.1.1.1.1.1.0)
    (fsep (flft κs.1.1.1.1.1.1.1.1.1.1.1.0 qs.1.1.1.1.1.1.1.1.1.1.1.0) ftrue)))))))))))) in
    let At : List Val × (List Val × (List Val × (List Val × (List Val × (Unit {0})))))
    → (walk_of 𝓛 En hs c).Ghost = λ vss. ((κs, qs, y₀.0.2, a, vss), y₀.1) in
    let y : (walk_of 𝓛 En hs c).Ghost = At (v0 ∷ [], (v1 ∷ [], (v2 ∷ [], (v3 ∷ [], (v4 ∷ [], tt))))) in
    let Post : Val → SProp 𝓤 = (walk_of 𝓛 En hs c).post y in
    subst (λ (vss : List Val × (List Val × (List Val × (List Val × (List Val × (Unit {0})))))). ent 𝓤
    ((walk_of 𝓛 En hs c).pre (At vss)) (WpFn 𝓤 H 𝓣.C 𝓣.Λ fn ((walk_of 𝓛 En hs c).args (At vss))
    ((walk_of 𝓛 En hs c).post (At vss))))
    (λ i. (sym are.0.0 i, (sym got₀.1 i, (sym are.1.1.0.0 i, (sym are.1.1.1.0.0 i, (sym are.1.1.1.1.0.0 i, tt)))))) (
    qed 𝓛 ((‵ toks ⊛ ‵ (owns (types_at En.signature.params κs) a y.0.4)) ∷ raw (fact 𝓤 (τ ⊑ T.lives)) ∷ raw (fact 𝓤 _)
    ∷ raw (fact 𝓤 _) ∷ raw (fact 𝓤 _) ∷ raw (fact 𝓤 _) ∷ raw (fact 𝓤 _) ∷ raw (fact 𝓤 _) ∷ raw (fact 𝓤 _)
    ∷ given _ (‵ ftrue) ∷ given _ (‵ ftrue) ∷ given _ (‵ ftrue) ∷ given _ (‵ ftrue) ∷ given _ (‵ ftrue) ∷ []) ∵
    keep ! (9 ∷ 10 ∷ 11 ∷ 12 ∷ 13 ∷ 1 ∷ 0 ∷ []) $
    learn ! (λ this. let_go ! $ learn ! (λ that. let_go ! $ learn ! (λ law. let_go ! $ learn ! (λ laws. let_go ! $
    learn ! (λ fit. let_go ! $ heard ! (τ ⊑ T.lives) (λ inc. split ! $
    fsplit ! $ move ! (1 ∷ []) $ fsplit ! $ move ! (1 ∷ []) $ fsplit ! $ move ! (1 ∷ []) $
    fsplit ! $ move ! (1 ∷ []) $ fsplit ! $ move ! (6 ∷ []) $ fsplit ! $ fsplit ! $ move ! (2 ∷ []) $
    fsplit ! $ move ! (1 ∷ []) $ fsplit ! $ move ! (1 ∷ []) $ fsplit ! $ fsplit3 ! $ move ! (3 ∷ []) $
    fsplit ! $ fsplit3 ! $ keep ! (10 ∷ 8 ∷ 5 ∷ 6 ∷ 1 ∷ 2 ∷ 16 ∷ 15 ∷ 14 ∷ 13 ∷ 11 ∷ 12 ∷ []) $
    unhide ! $ fpick ! (λ u₀. let t : Turn = u₀.0 in let j : ℕ = u₀.1 in let α : Lft = t.0 in
    fsplit3 ! $ move ! (1 ∷ []) $ fpick ! (λ past. let_go ! $ move ! (1 ∷ []) $
    use1 𝓛 (‵ (fnamed j (fbor α (Cell T' fs.fits l₀ t b o))) ⊛ ‵ (fnamed j (fbor α (Cell T' fs.fits l₀ t b o))))
    (𝓛.invs.named_dup j (fbor α (Cell T' fs.fits l₀ t b o))) $ split ! $
    enter ! 𝓣.C 𝓣.Λ fn (v0 ∷ v1 ∷ v2 ∷ v3 ∷ v4 ∷ []) Post $
    alloc_all ! (λ l. pass_all ! refl ((tt, tt), (good₀, ((tt, tt), ((tt, tt), ((tt, tt), tt))))) $
    let Ev = env fn.locals l in
    move ! (2 ∷ 8 ∷ []) $ use2 𝓛 (later
    (some (λ (s : Share). ‵ (flft α s) ⊛ raw (wand 𝓤 (A.lft α s) (H.⇛ (A.lft κ q)))))) (Lends-one 𝓛 𝓜 𝓡 κ α q) $
    await ! tt $ pick ! (λ s. split ! $
    move ! (5 ∷ 6 ∷ 10 ∷ []) $ opens ! tt Me a.1.1.1.0.ref_ptr.0 a.1.1.1.0.ref_ptr.1 (λ vs3. move ! (1 ∷ []) $
    fsplit ! $ move ! (11 ∷ 12 ∷ 14 ∷ []) $
    opens ! tt Pn a.1.1.1.1.0.ref_ptr.0 a.1.1.1.1.0.ref_ptr.1 (λ vs4. move ! (1 ∷ []) $
    fsplit ! $ rewrite ! 7 (λ (z : Book). ‵ (seen_owns ce.code cp.code g.holds z seen.log)) this refl $
    rewrite ! 1 (λ (z : Book). ‵ (pens_own cp.code z hand.held)) that refl $
    use0 𝓛 (raw (emp 𝓤)) (id⊢ 𝓤 (emp 𝓤)) $ move ! (8 ∷ 2 ∷ 0 ∷ []) $ group ! 3 $ move ! (13 ∷ 11 ∷ 0 ∷ []) $
    use3 𝓛 (later (‵ (fex ℕ (state.begun 𝓛 T' fs.fits l₀ t b o ce cp g.holds j s v past then₁)) ⊛ ‵ (flft α s)))
    (state.begins 𝓛 T' fs.fits l₀ t b o ce cp g.holds j s v past then₁ (λ n u so. so.0) law) $ await ! tt $ split ! $
    fpick ! (λ n₁. fpick ! (λ w. fsplit ! $ fpick ! (λ so₁. let_go ! $ fsplit ! $ fsplit ! $ move ! (2 ∷ []) $
    fsplit3 ! $
    let did : gb.then about v 0 w = subst (λ (k : ℕ). gb.then about v k w) so₁.1.0 so₁.1.1 in
    let then₂ : ℕ → View E.Denot P.Denot → Type 0 = λ n u. gf.then about w n u in
    move ! (18 ∷ []) $ use1 𝓛 (‵ (O.own_val (Some x) (w₁ ∷ []))) (Some-of 𝓛 T' x w₀) $
    peeks ! O (Is O) (shows 𝓛 O) (Some x) (w₁ ∷ []) (λ is-w. let good =
    ((LO.lawful 𝓛).typed (Some x) (w₁ ∷ []) is-w).0 in move ! (2 ∷ []) $ fpick ! (λ old. move ! (0 ∷ 3 ∷ 6 ∷ []) $
    open_ref ! tt (promised T' fs.fits l₀) {b = b} {o = e} $
    use1 𝓛 (some (λ (vs : List Val). ‵ (cell_at full_share O.mir vs b e) ⊛ ‵ (O.own_val old vs)))
    (state.field_out 𝓛 T' fs.fits l₀ t b o old) $ pick ! (λ vs. split ! $ move ! (1 ∷ []) $
    peeks ! O (Is O) (shows 𝓛 O) old vs (λ is-old. let got = one (lone O.mir) vs
    ((LO.lawful 𝓛).typed old vs is-old) in
    let_go ! $ rewrite ! 0 (λ (us : List Val). ‵ (cell_at full_share O.mir us b e)) got.1 refl $
    sets ! (addr ! (through ! refl (stop !))) refl (tt, tt) $
    first ! $ blocks ! $ sets ! (addr ! (through ! refl (fld ! refl (stop !)))) refl (tt, tt) $
    sets ! (of_opd ! (get ! refl)) refl good₀ $
    sets ! (agg ! (and_then ! (lit ! tt) (and_then ! (get ! refl) (no_more !)))) refl good $
    assigns ! (of_opd ! (get ! refl)) (through ! refl (stop !)) (store_raw ! 0 refl good) $
    move ! (0 ∷ 4 ∷ []) $ use2 𝓛 (‵ ((promised T' fs.fits l₀).own_at (Some x) b e))
    (state.field_in 𝓛 T' fs.fits l₀ t b o (Some x) (w₁ ∷ []) fit) $
    close_ref ! tt (promised T' fs.fits l₀) (Some x) {b = b} {o = e} $ move ! (2 ∷ 19 ∷ []) $
    join ! $ move ! (1 ∷ 2 ∷ 0 ∷ []) $ use3 𝓛
    (later (‵ (state.ToRead 𝓛 T' fs.fits l₀ t b o x) ⊛ ‵ (flft α s) ⊛ ‵ (flft τ r)))
    (state.read_from_now 𝓛 T' fs.fits l₀ t b o O.lives (LO.shares 𝓛) ((α, s) ∷ (τ, r) ∷ [])
    (Incl-trans (meet_⊑_right α τ) (Incl-trans inc (state.option_lives T'))) (meet_⊑_left α τ) x) $ await ! tt $
    split3 ! $
    move ! (3 ∷ 0 ∷ []) $ join ! $ move ! (3 ∷ 4 ∷ 0 ∷ []) $ group ! 3 $ move ! (14 ∷ 1 ∷ 0 ∷ []) $
    use3 𝓛 (later (‵ (fex ℕ (state.ended 𝓛 T' fs.fits l₀ t b o ce cp g.holds j s w past x then₂)) ⊛ ‵ (flft α s)))
    (state.ends 𝓛 T' fs.fits l₀ t b o ce cp g.holds j s w past x fit then₂ (laws w did)) $ await ! tt $ split ! $
    fpick ! (λ n₂. fpick ! (λ w₂. fsplit ! $ fpick ! (λ so₂. let_go ! $ fsplit ! $ fsplit ! $ move ! (2 ∷ []) $
    fsplit ! $ move ! (1 ∷ []) $ fpick ! (λ one. let_go ! $
    move ! (3 ∷ 15 ∷ []) $ use2 𝓛 (later (‵ (flft κ q))) (apply∗ 𝓤 (A.lft α s) (H.⇛ (A.lft κ q))) $ await ! tt $
    move ! (10 ∷ 2 ∷ []) $ fjoin ! $ move ! (10 ∷ 0 ∷ 11 ∷ 12 ∷ 13 ∷ []) $
    closes ! tt Me (record { marker = record {}; book = bk; log = w₂.0 }) vs3 a.1.1.1.0.ref_ptr.0 a.1.1.1.0.ref_ptr.1
    $ move ! (7 ∷ 5 ∷ []) $ fjoin ! $ move ! (7 ∷ 0 ∷ 8 ∷ 9 ∷ 10 ∷ []) $
    closes ! tt Pn (record { marker = record {}; book = bk; held = w₂.1 }) vs4 a.1.1.1.1.0.ref_ptr.0
    a.1.1.1.1.0.ref_ptr.1 $
    move ! (7 ∷ []) $ use1 𝓛 (‵ (W.own_val (record { marker = record {}; of = γ; value = x }) (token_value ∷ [])))
    (written_made 𝓛 T' γ x) $ sets ! (agg ! (no_more !)) refl (tt, tt) $
    sets_last ! (agg ! (and_then ! (get ! refl) (no_more !))) refl (tt, (tt, tt)) $
    exec ! 𝓣.C 𝓣.Λ Ev (tail (tail fn.body)) (at_ret Ev Post) $ sets ! (of_opd ! (get ! refl)) refl (tt, (tt, tt)) $
    move ! (8 ∷ 10 ∷ []) $ fjoin ! $ move ! (4 ∷ 0 ∷ []) $ fjoin ! $ move ! (6 ∷ 0 ∷ []) $
    fjoin ! $ move ! (7 ∷ 0 ∷ []) $ fjoin ! $ move ! (6 ∷ 0 ∷ []) $
    fjoin ! $ nothing ! $ feq_i ! (List Val) (vptr a.1.1.1.1.0.ref_ptr.0 a.1.1.1.1.0.ref_ptr.1 ∷ [])
    (vptr a.1.1.1.1.0.ref_ptr.0 a.1.1.1.1.0.ref_ptr.1 ∷ []) refl $ move ! (0 ∷ 4 ∷ 5 ∷ []) $
    fjoin3 ! $ fjoin ! $ feq_i ! (List Val) (vptr a.1.1.1.0.ref_ptr.0 a.1.1.1.0.ref_ptr.1 ∷ [])
    (vptr a.1.1.1.0.ref_ptr.0 a.1.1.1.0.ref_ptr.1 ∷ []) refl $ move ! (0 ∷ 4 ∷ 5 ∷ []) $
    fjoin3 ! $ fjoin ! $ nothing ! $ fjoin ! $ nothing ! $ fjoin ! $ nothing ! $ fjoin ! $
    returns ! (look_at ! 0 refl) $ free_all ! refl $ keep ! (1 ∷ 0 ∷ 2 ∷ []) $
    by ! (ends 𝓛 En hs c y token_value (record { marker = record {}; of = γ; value = x })
    (tt, (tt, (tt, ((record { marker = record {}; book = bk; log = w₂.0 }), ((record { marker = record {}; book = bk; held = w₂.1 }), tt)))))
    (tt, (tt, (tt, (tt, (tt, tt))))) (four 𝓛 (sym this, sym that) (base.Growing.prefix_trans v.0 w.0 w₂.0 so₁.0 so₂.0)
    (w, did, subst (λ (k : ℕ). gf.then about w k w₂) one so₂.1) (refl, refl))))))))))))))))))))))))))))
