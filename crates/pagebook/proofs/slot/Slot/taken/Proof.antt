-- `taken` takes out the value that a token says is there.
use Rattle.std.proofs.Common.{ℕ, ◌≡◌, List, [], ◌∷◌, ◌++◌, sym, refl, ap, ◌∙◌, subst}
use mir.Syntax.{a_type, dcons, dnil}
use mir.Val.{Val, vptr, vstruct, vcons, vnil}
use mir.MapTy.{inst_fn}
use base.Logic.{SProp, ent, sep}
use prog.Wp.{WpFn}
use types.Logic.{sem}
use types.Kit.{‵, raw, ◌⊛◌, use0, use2, ◌$◌, ◌∵◌, !, qed, by, move, keep, drop, split, fsplit, fjoin, fpick, rewrite, feq_l}
use types.Run.{stop, fld, of_opd, returns, enter}
use types.ByLocal.{alloc_all, pass_all, free_all, look_at, get, get_in, sets}
use types.Part.{sub, whole}
use contract.Running.{tables}
use denote.Exit.{yes, no}
use denote.RattleType.{RattleType, owns}
use denote.Signature.{types_at, plain}
use contract.Monad.{fact, fact_i}
use base.Logic.{emp}
use denote.Steps.{nothing, heard, peeks}
use denote.Opens.{unhide}
use denote.Builtin.{RefOf}
use Rattle.core.specs.declared.option.Option.{Option}
use Rattle.core.specs.declared.option.Option.TheVariants.{Some}
use Rattle.pagebook.specs.Slot.{Placed, written}
use Rattle.pagebook.specs.contracts.slot.Written as Written
use Rattle.pagebook.proofs.State.Steps.{rests_full}
use denote.Laws.{Is, shows}
use denote.Memory.{lone}
use denote.Param.{param, bounded}
use denote.Param.Laws.{param_laws}
use denote.Triple.Walked.{Stays, stay_dropped, walk_of, Goes-dropped}
use denote.Struct.Tuple.{Tuple}
use Rattle.atomic_table.proofs.Walks.{proved_at, leaves}
use Rattle.core.specs.contracts.option.Option.{the_row as OptionOf}
use Rattle.core.proofs.option.Option.TheLaws.{the_row_laws as option_laws}
use Rattle.core.specs.contracts.marker.PhantomData as marker
use Rattle.pagebook.specs.contracts.slot.Slot.{the_row}
use mir.Val.{of_list}
use denote.Laws.{Typed}
use Rattle.core.proofs.cell.Inside.{one}
use Rattle.pagebook.specs.contracts.slot.Slot.taken.{ended, clauses}
use Rattle.pagebook.specs.contracts.slot.Slot.taken.Key.{name as #self}
use Rattle.pagebook.proofs.slot.Slot.taken.Statement.{statement}
use Rattle.pagebook.proofs.slot.Slot.taken.Code as code

pub taken_spec : {M : Type 1} → statement M
taken_spec 𝓤 𝓛 𝓜 𝓡 wired T E P Q V L LE LP LQ LV g d fs df _ _ =
    let H = 𝓛.H in let A = 𝓛.A in let 𝓣 = tables 𝓤 H 𝓜 𝓡 𝓡.env in let R : RattleType = param 0 T in
    let E' : RattleType = param 1 E in let P' : RattleType = param 2 P in let Q' : RattleType = param 3 Q in
    let V' : RattleType = param 4 V in
    let O : RattleType = OptionOf R in let LO = option_laws R (param_laws 0 T L) in let En = ended T E P Q V g d fs df in
    let inst = bounded (a_type ∷ a_type ∷ a_type ∷ a_type ∷ a_type ∷ []) (T, (E, (P, (Q, (V, tt)))))
    (dcons d (dcons df dnil)) in
    let fn = inst_fn inst code.function in let c = clauses T E P Q V g d fs df 𝓛 𝓜.mem 𝓡.returns in
    let self = plain (λ _. the_row R E' P' Q' V' g fs) in
    let token = RefOf (0 ∷ []) tt (plain (λ _. Written.the_row R)) (λ _. tt) in
    let hs : Stays En.signature.params En.kept = (stay_dropped self no, (stay_dropped token yes, tt)) in
    proved_at 𝓛 En hs c 𝓜 𝓡 (Goes-dropped 𝓛 6 self no (λ κs x f. refl), (Goes-dropped 𝓛 6 token yes (λ κs x f. refl), tt))
    (#self inst) fn (code.unfolded 𝓤 H 𝓜 𝓡 wired (T, (E, (P, (Q, (V, tt))))) d df)
    (λ y₀ are. let us : List Val = y₀.0.4.0 in let l₀ : Placed = y₀.0.3.0 in let γ : ℕ = l₀.id in
    let m = y₀.0.3.1.0 in let x : T.Denot = m.now.value in let p : Val = vptr m.ref_ptr.0 m.ref_ptr.1 in
    let toks : SProp 𝓤 = denote.Triple.Entry.alive 𝓛 En.signature y₀.0.0 y₀.0.1 in
    let At : List Val → (walk_of 𝓛 En hs c).Ghost = λ vs. ((y₀.0.0, y₀.0.1, y₀.0.2, y₀.0.3, (us, (vs, tt))), y₀.1) in
    let y : (walk_of 𝓛 En hs c).Ghost = At (p ∷ []) in let Post : Val → SProp 𝓤 = (walk_of 𝓛 En hs c).post y in
    let Told : Option T.Denot → Type 0 = λ v. (v ≡ Some x) × fs.fits l₀.about x in
    let Mark : RattleType = marker.the_row (Tuple (E' ∷ P' ∷ Q' ∷ V' ∷ [])) in
    let fits : List Val → Type 0 = Typed (the_row R E' P' Q' V' g fs).mir in
    subst (λ (vs : List Val). ent 𝓤 ((walk_of 𝓛 En hs c).pre (At vs))
    (WpFn 𝓤 H 𝓣.C 𝓣.Λ fn ((walk_of 𝓛 En hs c).args (At vs)) ((walk_of 𝓛 En hs c).post (At vs)))) (sym are.1.0.0) (
    qed 𝓛 ((raw toks ⊛ ‵ (owns (types_at En.signature.params y.0.0) y.0.3 y.0.4)) ∷ raw (fact 𝓤 _) ∷ raw (fact 𝓤 _)
    ∷ raw (fact 𝓤 _) ∷ raw (fact 𝓤 _) ∷ raw (fact 𝓤 _) ∷ raw (fact 𝓤 (m.now.of ≡ γ)) ∷ []) ∵ keep ! (6 ∷ 0 ∷ []) $
    heard ! (m.now.of ≡ γ) (λ same. split ! $ move ! (1 ∷ []) $ fsplit ! $ move ! (1 ∷ []) $
    fsplit ! $ fsplit ! $ move ! (1 ∷ []) $
    unhide ! $ fsplit ! $ drop ! $ rewrite ! 0 (λ (k : ℕ). ‵ (written R k x)) same refl $ keep ! (3 ∷ 0 ∷ 4 ∷ []) $
    fsplit ! $ fpick ! (λ typed. drop ! $
    fpick ! (λ s. fsplit ! $ move ! (1 ∷ 2 ∷ []) $
    use2 𝓛 (raw (fact 𝓤 (Told s.1))) (rests_full 𝓛 R fs.fits l₀ (y₀.0.0.0, γ) 0 0 x s) $
    heard ! (Told s.1) (λ told. fpick ! (λ vss. fsplit ! $ feq_l ! (λ e. fsplit ! $
    peeks ! O (Is O) (shows 𝓛 O) s.1 vss.0 (λ is-v. let got = one (lone O.mir) vss.0
    ((LO.lawful 𝓛).typed s.1 vss.0 is-v) in let w : Val = got.0 in
    rewrite ! 0 (λ (ws : List Val). ‵ (O.own_val s.1 ws)) got.1 refl $ move ! (1 ∷ []) $
    fsplit ! $ peeks ! Mark (Is Mark) (shows 𝓛 Mark) (record {}) vss.1.0 (λ is-m. keep ! (2 ∷ 3 ∷ []) $
    let v : Val = vstruct (vcons w (vcons (vstruct vnil) vnil)) in
    let ev : us ≡ v ∷ [] = e ∙ ap (λ (ws : List Val). vstruct (of_list (ws ++ (vss.1.0 ++ []))) ∷ []) got.1
    ∙ ap (λ (ws : List Val). vstruct (of_list (w ∷ (ws ++ []))) ∷ []) is-m.1.0 in
    by ! (subst (λ (ws : List Val). ent 𝓤 (sep 𝓤 (sem 𝓛 (O.own_val s.1 (w ∷ []))) toks)
    (WpFn 𝓤 H 𝓣.C 𝓣.Λ fn (ws ++ (p ∷ [])) Post)) (sym ev) (qed 𝓛 (‵ (O.own_val s.1 (w ∷ [])) ∷ raw toks ∷ []) ∵
    enter ! 𝓣.C 𝓣.Λ fn (v ∷ p ∷ []) Post $
    alloc_all ! (λ l. pass_all ! refl ((subst fits ev typed).0, ((tt, tt), tt)) $
    sets ! (of_opd ! (get_in ! (fld ! refl (stop !)) (sub ! 0 refl (whole !)))) refl got.2 $
    sets ! (of_opd ! (get ! refl)) refl got.2 $
    use0 𝓛 (raw (fact 𝓤 (Told s.1))) (fact_i 𝓤 (Told s.1) (emp 𝓤) told) $
    nothing ! $ nothing ! $ fjoin ! $ nothing ! $ fjoin ! $
    returns ! (look_at ! 0 refl) $ free_all ! refl $ keep ! (3 ∷ 0 ∷ 2 ∷ 1 ∷ []) $
    by ! (leaves 𝓛 En hs c y w s.1 (tt, (tt, tt)) (tt, (tt, tt))))))))))))))))
