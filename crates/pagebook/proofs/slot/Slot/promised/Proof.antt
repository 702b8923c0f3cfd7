-- `promised` makes the first blank the state of a slot.
use Rattle.std.proofs.Common.{ℕ, ◌+◌, List, [], ◌∷◌, drop, refl}
use mir.Syntax.{a_type, dcons, dnil, named}
use mir.Val.{Val, vptr, vstruct, vcons, vnil}
use mir.MapTy.{inst_fn}
use base.Stored.{gnil}
use base.Logic.{SProp, emp, id⊢}
use base.Fml.{Fml, ftrue, fsep, fex, flft}
use types.Kit.{‵, raw, ◌⊛◌, given, ◌$◌, ◌∵◌, !, qed, by, move, keep, drop as let_go, split, fsplit, fsplit3, fjoin, fjoin3, fpack, learn, use0, use1, feq_i}
use types.Match.{live}
use types.Tokens.{name_new}
use types.Run.{lit, no_more, and_then, returns, enter}
use types.ByLocal.{alloc_all, pass_all, free_all, look_at, get, sets, env}
use types.Part.{agg}
use contract.Monad.{fact, fact_i}
use contract.Running.{tables}
use denote.Exit.{yes}
use denote.RattleType.{RattleType, owns, Valss}
use denote.Signature.{types_at, plain}
use denote.Builtin.{RefOf}
use denote.Ref.{mut_vals, mut_Tells, shr_vals, shr_Tells}
use denote.Laws.{Is, shows, Typed}
use denote.Steps.{nothing, opens, closes, peeks}
use denote.Param.{param, bounded}
use denote.Param.Laws.{param_laws}
use denote.Shadow.{makes_shadow}
use denote.Struct.Struct.{within}
use denote.Struct.Declared.{shape, fields}
use denote.Struct.Tuple.{Tuple}
use denote.Triple.Walked.{Stays, stay_dropped, stay_ref, walk_of, Goes-dropped, Goes-ref}
use Rattle.core.proofs.option.Made.{none_of}
use Rattle.core.proofs.option.Option.TheLaws.{the_row_laws as option_laws}
use Rattle.core.specs.contracts.option.Option.{the_row as OptionOf}
use Rattle.core.specs.declared.option.Option.TheVariants.{None}
use Rattle.atomic_table.proofs.Walks.{proved}
use Rattle.pagebook.specs.Pages.{Book, named as named_at}
use Rattle.pagebook.specs.Owned.{blanks_own, word_pen}
use Rattle.pagebook.specs.Slot.{Placed, Rest, resting, empty}
use Rattle.pagebook.proofs.Value.Made.{blank_taken}
use Rattle.pagebook.proofs.slot.Slot.TheInside.TheLaws.{the_row_laws as inside_laws}
use Rattle.pagebook.proofs.Walk.Ends.{ends, two}
use Rattle.core.specs.contracts.marker.PhantomData as marker
use Rattle.pagebook.specs.contracts.word.Seen as Seen
use Rattle.pagebook.specs.contracts.word.Pens as Pens
use Rattle.pagebook.specs.contracts.word.Word as Word
use Rattle.pagebook.specs.contracts.word.Blanks as Blanks
use Rattle.pagebook.specs.contracts.slot.Written as Written
use Rattle.pagebook.specs.contracts.slot.Slot as Slot
use Rattle.boxcar.specs.contracts.tag.Tag as Tag
use Rattle.pagebook.specs.contracts.slot.Slot.TheInside as Inside
use Rattle.pagebook.specs.contracts.slot.Slot.promised.{ended, clauses}
use Rattle.pagebook.specs.contracts.slot.Slot.promised.Key.{name as #self}
use Rattle.pagebook.proofs.slot.Slot.promised.Statement.{statement}
use Rattle.pagebook.proofs.slot.Slot.promised.Code as code

pub promised_spec : {M : Type 1} → statement M
promised_spec {M} 𝓤 𝓛 𝓜 𝓡 wired T E P R V L LE LP LR LV g d fs df _ _ =
    let H = 𝓛.H in let A = 𝓛.A in let 𝓣 = tables 𝓤 H 𝓜 𝓡 𝓡.env in
    let T' : RattleType = param 0 T in let E' : RattleType = param 1 E in let P' : RattleType = param 2 P in
    let R' : RattleType = param 3 R in let V' : RattleType = param 4 V in
    let En = ended T E P R V g d fs df in let inst = bounded (a_type ∷ a_type ∷ a_type ∷ a_type ∷ a_type ∷ [])
    (T, (E, (P, (R, (V, tt))))) (dcons d (dcons df dnil)) in let fn = inst_fn inst code.function in
    let c = clauses T E P R V g d fs df 𝓛 𝓜.mem 𝓡.returns in
    let ce = E'.coded in let Me : RattleType = Seen.the_row E' P' R' g in
    let Wd : RattleType = Word.the_row E' P' R' g in let All : RattleType = Tuple (E' ∷ P' ∷ R' ∷ []) in
    let Bl : RattleType = Blanks.the_row in let cp = P'.coded in let Pn : RattleType = Pens.the_row P' in
    let O : RattleType = OptionOf T' in let LO = option_laws T' (param_laws 0 T L) in
    let Sl : RattleType = Slot.the_row T' E' P' R' V' g fs in let W : RattleType = Written.the_row T' in
    let hs : Stays En.signature.params En.kept =
    (stay_ref (0 ∷ []) tt (plain (λ _. Bl)), (stay_dropped (RefOf (1 ∷ []) tt (plain (λ _. Tag.the_row)) (λ _. tt)) yes, tt)) in
    proved 𝓛 En hs c 𝓜 𝓡 (
      Goes-ref 𝓛 7 0 tt (plain (λ _. Bl)),
      (Goes-dropped 𝓛 7 (RefOf (1 ∷ []) tt (plain (λ _. Tag.the_row)) (λ _. tt)) yes (λ κs x f. refl), tt),
    ) (#self inst) fn (code.unfolded 𝓤 H 𝓜 𝓡 wired (T, (E, (P, (R, (V, tt))))) d df)
    (λ κs. (mut_vals, (shr_vals, tt))) (λ κs.
    (mut_Tells (named 0) κs.0 Bl, (shr_Tells (named 1) κs.1.0 Tag.the_row, tt))) (λ κs qs bounds a gh are.
    let bl = a.0.now in let bk : Book = bl.book in let key : ℕ = bl.first in let ns : List ℕ = a.1.0.now.numbers in
    let S : RattleType = Inside.the_row T' E' P' R' V' g fs in
    let placed : ℕ → Placed = λ γ. record { book = bk; key = key; id = γ; about = ns } in
    let Mark : RattleType = marker.the_row (Tuple (E' ∷ P' ∷ R' ∷ V' ∷ [])) in let none : Val = live 0 vnil in
    let v : Val = vstruct (vcons none (vcons (vstruct vnil) vnil)) in
    let rests : Rest T.Denot → S.Denot = λ s. record { value = s.1; marker = record {} } in
    let s₀ : Rest T.Denot = (0, None, empty) in
    let v0 : Val = vptr a.0.ref_ptr.0 a.0.ref_ptr.1 in let v1 : Val = vptr a.1.0.ref_ptr.0 a.1.0.ref_ptr.1 in
    let y : (walk_of 𝓛 En hs c).Ghost = ((κs, qs, bounds, a, (v0 ∷ [], (v1 ∷ [], tt))), gh) in
    let Post : Val → SProp 𝓤 = (walk_of 𝓛 En hs c).post y in
    let toks : Fml = (fsep (flft κs.0 qs.0)
    (fsep (flft κs.1.0 qs.1.0) (fsep (flft κs.1.1.0 qs.1.1.0)
    (fsep (flft κs.1.1.1.0 qs.1.1.1.0) (fsep (flft κs.1.1.1.1.0 qs.1.1.1.1.0)
    (fsep (flft κs.1.1.1.1.1.0 qs.1.1.1.1.1.0) (fsep (flft κs.1.1.1.1.1.1.0 qs.1.1.1.1.1.1.0) ftrue))))))) in
    qed 𝓛 ((‵ toks ⊛ ‵ (owns (types_at En.signature.params κs) a y.0.4)) ∷ raw (fact 𝓤 _) ∷ raw (fact 𝓤 _)
    ∷ raw (fact 𝓤 _) ∷ raw (fact 𝓤 _) ∷ raw (fact 𝓤 _) ∷ given _ (‵ ftrue) ∷ []) ∵ keep ! (6 ∷ 0 ∷ []) $
    learn ! (λ asked. let_go ! $ split ! $
    fsplit ! $ move ! (2 ∷ []) $ fsplit ! $ fsplit3 ! $ move ! (3 ∷ []) $ fsplit ! $ keep ! (3 ∷ 4 ∷ 5 ∷ 6 ∷ []) $
    enter ! 𝓣.C 𝓣.Λ fn (v0 ∷ v1 ∷ []) Post $ alloc_all ! (λ l. pass_all ! refl ((tt, tt), ((tt, tt), tt)) $
    let Ev = env fn.locals l in
    opens ! tt Bl a.0.ref_ptr.0 a.0.ref_ptr.1 (λ vs0. move ! (1 ∷ []) $ fsplit ! $ move ! (1 ∷ []) $
    use1 𝓛 (‵ (word_pen (named_at bk key) 0) ⊛ ‵ (blanks_own bk (key + 1) (drop 1 bl.numbers)))
    (blank_taken 𝓛 bk key bl.numbers 0 asked) $ split ! $ move ! (2 ∷ 1 ∷ []) $
    fjoin ! $ move ! (2 ∷ 0 ∷ 3 ∷ 4 ∷ 5 ∷ []) $
    closes ! tt Bl (record { marker = record {}; book = bk; first = key + 1; numbers = drop 1 bl.numbers }) vs0
    a.0.ref_ptr.0 a.0.ref_ptr.1 $
    name_new ! tt gnil (λ γ. feq_i ! ℕ 0 0 refl $ fjoin ! $ move ! (1 ∷ 0 ∷ []) $
    fjoin ! $ nothing ! $ fpack ! (Unit {0} × Unit {0}) (λ _. ftrue) (tt, tt) $ move ! (1 ∷ 0 ∷ []) $
    fjoin ! $ move ! (4 ∷ 0 ∷ []) $ fjoin ! $
    nothing ! $ use0 𝓛 (‵ (Mark.own_val (record {}) (vstruct vnil ∷ [])))
    (makes_shadow 𝓛 (Mark.own_val (record {}) (vstruct vnil ∷ [])) (λ uss. (tt, tt)) (tt, (refl, tt))) $
    fjoin ! $ use0 𝓛 (‵ (O.own_val None (none ∷ []))) (none_of 𝓛 T') $
    peeks ! O (Is O) (shows 𝓛 O) None (none ∷ []) (λ is-none. fjoin ! $ feq_i ! (List Val) (v ∷ []) (v ∷ []) refl $
    fjoin ! $ fpack ! (Valss (fields (Inside.the_type T' E' P' R' V' g fs)))
    (within (shape (Inside.the_type T' E' P' R' V' g fs)) ((Inside.the_type T' E' P' R' V' g fs).to (rests s₀))
    (v ∷ [])) (none ∷ [], (vstruct vnil ∷ [], tt)) $ use1 𝓛 (‵ (S.own_val (rests s₀) (v ∷ []))) (id⊢ 𝓤 _) $
    peeks ! S (Is S) (shows 𝓛 S) (rests s₀) (v ∷ []) (λ is-s. let good =
    (((inside_laws T' E' P' R' V' g fs (param_laws 0 T L) (param_laws 1 E LE) (param_laws 2 P LP) (param_laws 3 R LR)
    (param_laws 4 V LV)).lawful 𝓛).typed (rests s₀) (v ∷ []) is-s) in
    fjoin ! $ fpack ! (Rest T.Denot) (λ s. fsep (S.own_val (rests s) (v ∷ [])) (resting T' fs.fits (placed γ) s)) s₀ $
    let fits : Type 0 = Typed Sl.mir (v ∷ []) in use0 𝓛 (‵ (fex fits (λ _. ftrue))) (fact_i 𝓤 fits (emp 𝓤) good) $
    fjoin ! $
    sets ! (agg ! (and_then ! (lit ! tt) (no_more !))) refl ((LO.lawful 𝓛).typed None (none ∷ []) is-none).0 $
    sets ! (agg ! (no_more !)) refl (tt, tt) $
    sets ! (agg ! (and_then ! (get ! refl) (and_then ! (get ! refl) (no_more !)))) refl good.0 $
    move ! (3 ∷ 4 ∷ []) $ fjoin ! $ nothing ! $ nothing ! $ fjoin ! $ feq_i ! (List Val)
    (vptr a.0.ref_ptr.0 a.0.ref_ptr.1 ∷ []) (vptr a.0.ref_ptr.0 a.0.ref_ptr.1 ∷ []) refl $ move ! (0 ∷ 4 ∷ 5 ∷ []) $
    fjoin3 ! $ fjoin ! $
    returns ! (look_at ! 0 refl) $ free_all ! refl $ keep ! (1 ∷ 0 ∷ 2 ∷ []) $
    by ! (ends 𝓛 En hs c y v (placed γ)
    ((record { marker = record {}; book = bk; first = key + 1; numbers = drop 1 bl.numbers }), (tt, tt))
    (tt, (tt, tt)) (two 𝓛 (refl, refl, refl) (refl, refl, refl))))))))))
