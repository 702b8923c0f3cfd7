-- `learn` looks at the log, which begins with both.
use Rattle.std.proofs.Common.{ℕ, List, [], ◌∷◌, refl}
use mathlib.Core.List.{IsPrefix}
use mir.Syntax.{a_type, dcons, dnil, named}
use mir.Val.{Val, vunit, vptr}
use mir.MapTy.{inst_fn}
use base.Logic.{SProp}
use base.Fml.{Fml, ftrue, fsep, flft, fhide}
use types.Kit.{‵, raw, ◌⊛◌, some, given, later, ◌$◌, ◌∵◌, !, qed, by, move, keep, drop as let_go, split, fsplit, fsplit3, fjoin, fjoin3, pick, learn, use1}
use types.Kit.{use2, await, rewrite, feq_i}
use types.Run.{unit_lit, of_opd, returns, enter}
use types.ByLocal.{alloc_all, pass_all, free_all, look_at, sets, env}
use contract.Monad.{fact}
use contract.Running.{tables}
use denote.Exit.{yes}
use denote.RattleType.{RattleType, owns}
use denote.Signature.{types_at, plain}
use denote.Builtin.{RefOf}
use denote.Ref.{mut_vals, mut_Tells, shr_vals, shr_Tells}
use denote.Memory.{hidden_shr}
use denote.Opens.{unhide}
use denote.Steps.{nothing, opens, closes}
use denote.Param.{param, bounded}
use denote.Struct.Tuple.{Tuple}
use denote.Struct.Lending.{lent_out}
use denote.Triple.Walked.{Stays, stay_dropped, stay_ref, walk_of, Goes-dropped, Goes-ref}
use Rattle.atomic_table.proofs.Walks.{proved}
use Rattle.pagebook.specs.Pages.{Book}
use Rattle.pagebook.specs.Owned.{seen_owns, reached}
use Rattle.pagebook.proofs.Book.Steps.{learns, seen_reached}
use Rattle.pagebook.proofs.Value.Made.{Token}
use Rattle.pagebook.proofs.Walk.Ends.{ends, three}
use Rattle.core.specs.contracts.marker.PhantomData as marker
use Rattle.pagebook.specs.contracts.word.Seen as Seen
use Rattle.pagebook.specs.contracts.word.Pens as Pens
use Rattle.pagebook.specs.contracts.word.Word as Word
use Rattle.pagebook.specs.contracts.word.Seen.learn.{ended, clauses}
use Rattle.pagebook.specs.contracts.word.Seen.learn.Key.{name as #self}
use Rattle.pagebook.proofs.word.Seen.learn.Statement.{statement}
use Rattle.pagebook.proofs.word.Seen.learn.Code as code

pub learn_spec : {M : Type 1} → statement M
learn_spec 𝓤 𝓛 𝓜 𝓡 wired E P R _ _ _ g d _ =
    let H = 𝓛.H in let A = 𝓛.A in let 𝓣 = tables 𝓤 H 𝓜 𝓡 𝓡.env in
    let E' : RattleType = param 0 E in let P' : RattleType = param 1 P in let R' : RattleType = param 2 R in
    let En = ended E P R g d in let inst = bounded (a_type ∷ a_type ∷ a_type ∷ []) (E, (P, (R, tt))) (dcons d dnil) in
    let fn = inst_fn inst code.function in let c = clauses E P R g d 𝓛 𝓜.mem 𝓡.returns in
    let ce = E'.coded in let Me : RattleType = Seen.the_row E' P' R' g in
    let Wd : RattleType = Word.the_row E' P' R' g in let All : RattleType = Tuple (E' ∷ P' ∷ R' ∷ []) in
    let cp = P'.coded in let Pn : RattleType = Pens.the_row P' in
    let hs : Stays En.signature.params En.kept =
    (stay_ref (0 ∷ []) tt (plain (λ _. Me)), (stay_dropped (RefOf (1 ∷ []) tt (plain (λ _. Me)) (λ _. tt)) yes, tt)) in
    proved 𝓛 En hs c 𝓜 𝓡 (Goes-ref 𝓛 5 0 tt (plain (λ _. Me)), (Goes-dropped 𝓛 5 (RefOf (1 ∷ []) tt (plain (λ _. Me)) (λ _. tt)) yes (λ κs x f. refl), tt))
    (#self inst) fn (code.unfolded 𝓤 H 𝓜 𝓡 wired (E, (P, (R, tt))) d)
    (λ κs. (mut_vals, (shr_vals, tt))) (λ κs. (mut_Tells (named 0) κs.0 Me, (shr_Tells (named 1) κs.1.0 Me, tt)))
    (λ κs qs bounds a gh are.
    let me = a.0.now in let other = a.1.0.now in
    let v0 : Val = vptr a.0.ref_ptr.0 a.0.ref_ptr.1 in let v1 : Val = vptr a.1.0.ref_ptr.0 a.1.0.ref_ptr.1 in
    let y : (walk_of 𝓛 En hs c).Ghost = ((κs, qs, bounds, a, (v0 ∷ [], (v1 ∷ [], tt))), gh) in
    let Post : Val → SProp 𝓤 = (walk_of 𝓛 En hs c).post y in
    let toks : Fml = (fsep (flft κs.0 qs.0)
    (fsep (flft κs.1.0 qs.1.0) (fsep (flft κs.1.1.0 qs.1.1.0)
    (fsep (flft κs.1.1.1.0 qs.1.1.1.0) (fsep (flft κs.1.1.1.1.0 qs.1.1.1.1.0) ftrue))))) in
    qed 𝓛 ((‵ toks ⊛ ‵ (owns (types_at En.signature.params κs) a y.0.4)) ∷ raw (fact 𝓤 _) ∷ raw (fact 𝓤 _)
    ∷ raw (fact 𝓤 _) ∷ given _ (‵ ftrue) ∷ []) ∵ keep ! (4 ∷ 0 ∷ []) $ learn ! (λ same. let_go ! $ split ! $
    fsplit ! $ move ! (2 ∷ []) $ fsplit ! $ fsplit3 ! $ move ! (3 ∷ []) $
    fsplit ! $ fsplit ! $ keep ! (4 ∷ 5 ∷ 1 ∷ 6 ∷ 7 ∷ []) $
    enter ! 𝓣.C 𝓣.Λ fn (v0 ∷ v1 ∷ []) Post $ alloc_all ! (λ l. pass_all ! refl ((tt, tt), ((tt, tt), tt)) $
    let Ev = env fn.locals l in
    move ! (2 ∷ []) $ use1 𝓛 (‵ (hidden_shr (Token All) κs.1.0 (record {}, tt) a.1.0.ref_ptr.0 a.1.0.ref_ptr.1)
    ⊛ ‵ (fhide (seen_owns ce.code cp.code g.holds a.1.0.now.book a.1.0.now.log)))
    (lent_out 𝓛 (Seen.struct E' P' R' g)
    (Seen.the_codes E.Denot P.Denot R.Denot E'.coded P'.coded R'.coded (marker.the_row All).coded)
    (Seen.the_heap E' P' R' g) (Seen.the_lent E' P' R' g) κs.1.0 a.1.0.now a.1.0.ref_ptr.0 a.1.0.ref_ptr.1) $
    split ! $ let_go ! $ unhide ! $ use1 𝓛 (‵ (reached ce.code other.book.log_name other.log))
    (seen_reached 𝓛 ce cp g.holds other.book other.log) $
    rewrite ! 0 (λ (z : Book). ‵ (reached ce.code z.log_name other.log)) same refl $
    move ! (1 ∷ 2 ∷ 3 ∷ []) $ opens ! tt Me a.0.ref_ptr.0 a.0.ref_ptr.1 (λ vs0. move ! (1 ∷ []) $
    fsplit ! $ move ! (1 ∷ 6 ∷ []) $ use2 𝓛
    (later (some (λ (log : List E.Denot). given
    (IsPrefix me.log log × IsPrefix other.log log × ((ns : List ℕ) × (ps : List P.Denot) × g.holds ns ps log))
    (‵ (seen_owns ce.code cp.code g.holds me.book log))))) (learns 𝓛 ce cp g.holds me.book me.log other.log) $
    await ! tt $ pick ! (λ log. learn ! (λ so.
    move ! (1 ∷ 0 ∷ []) $ fjoin ! $ move ! (1 ∷ 0 ∷ 2 ∷ 3 ∷ 4 ∷ []) $
    closes ! tt Me (record { marker = record {}; book = me.book; log = log }) vs0 a.0.ref_ptr.0 a.0.ref_ptr.1 $
    sets ! (of_opd ! (unit_lit !)) refl (tt, tt) $ feq_i ! (List Val) (vunit ∷ []) (vunit ∷ []) refl $
    move ! (3 ∷ 4 ∷ []) $ fjoin ! $ nothing ! $ nothing ! $ fjoin ! $ feq_i ! (List Val)
    (vptr a.0.ref_ptr.0 a.0.ref_ptr.1 ∷ []) (vptr a.0.ref_ptr.0 a.0.ref_ptr.1 ∷ []) refl $ move ! (0 ∷ 4 ∷ 5 ∷ []) $
    fjoin3 ! $ fjoin ! $
    returns ! (look_at ! 0 refl) $ free_all ! refl $ keep ! (1 ∷ 0 ∷ 2 ∷ []) $
    by ! (ends 𝓛 En hs c y vunit tt ((record { marker = record {}; book = me.book; log = log }), (tt, tt))
    (tt, (tt, tt)) (three 𝓛 refl (so.0, so.1) so.2))))))))
