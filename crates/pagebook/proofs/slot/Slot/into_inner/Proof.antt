-- `into_inner` takes the value out, if there is one.
use Rattle.std.proofs.Common.{◌≡◌, List, [], ◌∷◌, ◌++◌, sym, refl, ap, ◌∙◌, subst}
use mir.Syntax.{a_type, dcons, dnil}
use mir.Val.{Val, vstruct, vcons, vnil}
use mir.MapTy.{inst_fn}
use base.Logic.{SProp, ent, sep, emp}
use prog.Wp.{WpFn}
use types.Logic.{sem}
use types.Kit.{‵, raw, ◌⊛◌, ◌$◌, ◌∵◌, !, qed, by, move, keep, drop, split, fsplit, fsplit3, fjoin, fpick, use0, rewrite, feq_l}
use types.Run.{stop, fld, of_opd, returns, enter}
use types.ByLocal.{alloc_all, pass_all, free_all, look_at, get, get_in, sets}
use types.Part.{sub, whole}
use contract.Monad.{fact, fact_i}
use contract.Running.{tables}
use denote.Exit.{no}
use denote.RattleType.{RattleType, owns}
use denote.Signature.{types_at, plain}
use denote.Steps.{nothing, peeks}
use denote.Laws.{Is, shows}
use denote.Memory.{lone}
use denote.Param.{param, bounded}
use denote.Param.Laws.{param_laws}
use denote.Triple.Walked.{Stays, stay_dropped, walk_of, Goes-dropped}
use denote.Struct.Tuple.{Tuple}
use Rattle.atomic_table.proofs.Walks.{proved_at, leaves}
use Rattle.core.specs.contracts.option.Option.{the_row as OptionOf}
use Rattle.core.proofs.option.Option.TheLaws.{the_row_laws as option_laws}
use Rattle.core.specs.contracts.marker.PhantomData as marker
use Rattle.pagebook.specs.contracts.slot.Slot.{the_row}
use Rattle.pagebook.specs.Slot.{Placed}
use Rattle.core.specs.Prelude.{IfSome}
use mir.Val.{of_list}
use denote.Laws.{Typed}
use Rattle.core.proofs.cell.Inside.{one}
use Rattle.pagebook.specs.contracts.slot.Slot.into_inner.{ended, clauses}
use Rattle.pagebook.specs.contracts.slot.Slot.into_inner.Key.{name as #self}
use Rattle.pagebook.proofs.slot.Slot.into_inner.Statement.{statement}
use Rattle.pagebook.proofs.slot.Slot.into_inner.Code as code

pub into_inner_spec : {M : Type 1} → statement M
into_inner_spec 𝓤 𝓛 𝓜 𝓡 wired T E P Q V L LE LP LQ LV g d fs df _ _ =
    let H = 𝓛.H in let A = 𝓛.A in let 𝓣 = tables 𝓤 H 𝓜 𝓡 𝓡.env in let R : RattleType = param 0 T in
    let E' : RattleType = param 1 E in let P' : RattleType = param 2 P in let Q' : RattleType = param 3 Q in
    let V' : RattleType = param 4 V in
    let O : RattleType = OptionOf R in let LO = option_laws R (param_laws 0 T L) in let En = ended T E P Q V g d fs df in
    let inst = bounded (a_type ∷ a_type ∷ a_type ∷ a_type ∷ a_type ∷ []) (T, (E, (P, (Q, (V, tt)))))
    (dcons d (dcons df dnil)) in
    let fn = inst_fn inst code.function in let c = clauses T E P Q V g d fs df 𝓛 𝓜.mem 𝓡.returns in
    let self = plain (λ _. the_row R E' P' Q' V' g fs) in
    let hs : Stays En.signature.params En.kept = (stay_dropped self no, tt) in
    proved_at 𝓛 En hs c 𝓜 𝓡 (Goes-dropped 𝓛 5 self no (λ κs x f. refl), tt) (#self inst) fn
    (code.unfolded 𝓤 H 𝓜 𝓡 wired (T, (E, (P, (Q, (V, tt))))) d df)
    (λ y are. let us : List Val = y.0.4.0 in let Post : Val → SProp 𝓤 = (walk_of 𝓛 En hs c).post y in
    let l₀ : Placed = y.0.3.0 in let toks : SProp 𝓤 = denote.Triple.Entry.alive 𝓛 En.signature y.0.0 y.0.1 in
    let Mark : RattleType = marker.the_row (Tuple (E' ∷ P' ∷ Q' ∷ V' ∷ [])) in
    let fits : List Val → Type 0 = Typed (the_row R E' P' Q' V' g fs).mir in
    qed 𝓛 ((raw toks ⊛ ‵ (owns (types_at En.signature.params y.0.0) y.0.3 y.0.4)) ∷ raw ((c y.0.0 y.0.3).requires y.1)
    ∷ []) ∵ split ! $ keep ! (1 ∷ 0 ∷ []) $ fsplit ! $ fsplit ! $ fpick ! (λ typed. drop ! $
    fpick ! (λ s. fsplit ! $ move ! (1 ∷ []) $ fsplit3 ! $ move ! (2 ∷ []) $
    fpick ! (λ so. drop ! $ let Told : Type 0 = IfSome s.1 (fs.fits l₀.about) in keep ! (2 ∷ 4 ∷ []) $ fpick ! (λ vss. fsplit ! $ feq_l ! (λ e. fsplit ! $
    peeks ! O (Is O) (shows 𝓛 O) s.1 vss.0 (λ is-v. let got = one (lone O.mir) vss.0
    ((LO.lawful 𝓛).typed s.1 vss.0 is-v) in let w : Val = got.0 in
    rewrite ! 0 (λ (ws : List Val). ‵ (O.own_val s.1 ws)) got.1 refl $ move ! (1 ∷ []) $
    fsplit ! $ peeks ! Mark (Is Mark) (shows 𝓛 Mark) (record {}) vss.1.0 (λ is-m. keep ! (2 ∷ 3 ∷ []) $
    let v : Val = vstruct (vcons w (vcons (vstruct vnil) vnil)) in
    let ev : us ≡ v ∷ [] = e ∙ ap (λ (ws : List Val). vstruct (of_list (ws ++ (vss.1.0 ++ []))) ∷ []) got.1
    ∙ ap (λ (ws : List Val). vstruct (of_list (w ∷ (ws ++ []))) ∷ []) is-m.1.0 in
    by ! (subst (λ (ws : List Val). ent 𝓤 (sep 𝓤 (sem 𝓛 (O.own_val s.1 (w ∷ []))) toks)
    (WpFn 𝓤 H 𝓣.C 𝓣.Λ fn (ws ++ []) Post)) (sym ev) (qed 𝓛 (‵ (O.own_val s.1 (w ∷ [])) ∷ raw toks ∷ []) ∵
    enter ! 𝓣.C 𝓣.Λ fn (v ∷ []) Post $ alloc_all ! (λ l. pass_all ! refl ((subst fits ev typed).0, tt) $
    sets ! (of_opd ! (get_in ! (fld ! refl (stop !)) (sub ! 0 refl (whole !)))) refl got.2 $
    sets ! (of_opd ! (get ! refl)) refl got.2 $
    use0 𝓛 (raw (fact 𝓤 Told)) (fact_i 𝓤 Told (emp 𝓤) so.0) $ nothing ! $ nothing ! $ fjoin ! $
    returns ! (look_at ! 0 refl) $ free_all ! refl $ keep ! (3 ∷ 0 ∷ 2 ∷ 1 ∷ []) $
    by ! (leaves 𝓛 En hs c y w s.1 (tt, tt) (tt, tt)))))))))))))
