-- `note` is a step of the book alone.
use Rattle.std.proofs.Common.{List, [], ◌∷◌, sym, refl}
use mathlib.Core.List.{IsPrefix}
use mir.Syntax.{a_type, dcons, dnil, named}
use mir.Val.{Val, vunit, vptr}
use mir.MapTy.{inst_fn}
use base.Logic.{SProp}
use base.Fml.{Fml, ftrue, fsep, flft}
use types.Kit.{‵, raw, ◌⊛◌, some, given, later, ◌$◌, ◌∵◌, !, qed, by, move, keep, drop as let_go, split, fsplit, fsplit3, fjoin, fjoin3, pick, learn, use2}
use types.Kit.{await, rewrite, feq_i}
use types.Run.{unit_lit, of_opd, returns, enter}
use types.ByLocal.{alloc_all, pass_all, free_all, look_at, sets, env}
use contract.Monad.{fact}
use contract.Running.{tables}
use denote.Exit.{yes}
use denote.RattleType.{RattleType, owns}
use denote.Signature.{types_at, plain}
use denote.Builtin.{RefOf}
use denote.Ref.{mut_vals, mut_Tells, shr_vals, shr_Tells}
use denote.Steps.{nothing, opens, closes}
use denote.Param.{param, bounded}
use denote.Struct.Tuple.{Tuple}
use denote.Triple.Walked.{Stays, stay_dropped, stay_ref, walk_of, Goes-dropped, Goes-ref}
use Rattle.atomic_table.proofs.Walks.{proved}
use Rattle.pagebook.specs.Pages.{Book, View}
use Rattle.pagebook.specs.Owned.{seen_owns, pens_own}
use Rattle.pagebook.proofs.Book.Steps.{notes}
use Rattle.pagebook.proofs.Walk.Ends.{ends, three}
use Rattle.pagebook.specs.contracts.word.Seen as Seen
use Rattle.pagebook.specs.contracts.word.Pens as Pens
use Rattle.pagebook.specs.contracts.word.Word as Word
use Rattle.pagebook.specs.contracts.word.Seen.note.{ended, clauses}
use Rattle.pagebook.specs.contracts.word.Seen.note.Key.{name as #self}
use Rattle.pagebook.proofs.word.Seen.note.Statement.{statement}
use Rattle.pagebook.proofs.word.Seen.note.Code as code

pub note_spec : {M : Type 1} → statement M
note_spec 𝓤 𝓛 𝓜 𝓡 wired E P R X N _ _ _ _ _ g d gn dn _ _ =
    let H = 𝓛.H in let A = 𝓛.A in let 𝓣 = tables 𝓤 H 𝓜 𝓡 𝓡.env in
    let E' : RattleType = param 0 E in let P' : RattleType = param 1 P in let R' : RattleType = param 2 R in
    let X' : RattleType = param 3 X in let N' : RattleType = param 4 N in
    let En = ended E P R X N g d gn dn in let inst = bounded (a_type ∷ a_type ∷ a_type ∷ a_type ∷ a_type ∷ [])
    (E, (P, (R, (X, (N, tt))))) (dcons d (dcons dn dnil)) in let fn = inst_fn inst code.function in
    let c = clauses E P R X N g d gn dn 𝓛 𝓜.mem 𝓡.returns in
    let ce = E'.coded in let Me : RattleType = Seen.the_row E' P' R' g in
    let Wd : RattleType = Word.the_row E' P' R' g in let All : RattleType = Tuple (E' ∷ P' ∷ R' ∷ []) in
    let cp = P'.coded in let Pn : RattleType = Pens.the_row P' in
    let hs : Stays En.signature.params En.kept =
    (stay_ref (0 ∷ []) tt (plain (λ _. Me)), (stay_ref (1 ∷ []) tt (plain (λ _. Pn)), (stay_dropped (RefOf (2 ∷ []) tt (plain (λ _. X')) (λ _. tt)) yes, tt)))
    in
    proved 𝓛 En hs c 𝓜 𝓡 (
      Goes-ref 𝓛 8 0 tt (plain (λ _. Me)),
      (Goes-ref 𝓛 8 1 tt (plain (λ _. Pn)), (Goes-dropped 𝓛 8 (RefOf (2 ∷ []) tt (plain (λ _. X')) (λ _. tt)) yes (λ κs x f. refl), tt)),
    ) (#self inst) fn (code.unfolded 𝓤 H 𝓜 𝓡 wired (E, (P, (R, (X, (N, tt))))) d dn)
    (λ κs. (mut_vals, (mut_vals, (shr_vals, tt))))
    (λ κs. (mut_Tells (named 0) κs.0 Me, (mut_Tells (named 1) κs.1.0 Pn, (shr_Tells (named 2) κs.1.1.0 X', tt))))
    (λ κs qs bounds a gh are.
    let me = a.0.now in let hand = a.1.0.now in let v : View E.Denot P.Denot = (me.log, hand.held) in
    let then : View E.Denot P.Denot → Type 0 = gn.then a.1.1.0.now v 0 in
    let v0 : Val = vptr a.0.ref_ptr.0 a.0.ref_ptr.1 in let v1 : Val = vptr a.1.0.ref_ptr.0 a.1.0.ref_ptr.1 in
    let v2 : Val = vptr a.1.1.0.ref_ptr.0 a.1.1.0.ref_ptr.1 in
    let y : (walk_of 𝓛 En hs c).Ghost = ((κs, qs, bounds, a, (v0 ∷ [], (v1 ∷ [], (v2 ∷ [], tt)))), gh) in
    let Post : Val → SProp 𝓤 = (walk_of 𝓛 En hs c).post y in
    let toks : Fml = (fsep (flft κs.0 qs.0)
    (fsep (flft κs.1.0 qs.1.0) (fsep (flft κs.1.1.0 qs.1.1.0)
    (fsep (flft κs.1.1.1.0 qs.1.1.1.0) (fsep (flft κs.1.1.1.1.0 qs.1.1.1.1.0)
    (fsep (flft κs.1.1.1.1.1.0 qs.1.1.1.1.1.0)
    (fsep (flft κs.1.1.1.1.1.1.0 qs.1.1.1.1.1.1.0) (fsep (flft κs.1.1.1.1.1.1.1.0 qs.1.1.1.1.1.1.1.0) ftrue)))))))) in
    qed 𝓛 ((‵ toks ⊛ ‵ (owns (types_at En.signature.params κs) a y.0.4)) ∷ raw (fact 𝓤 _) ∷ raw (fact 𝓤 _)
    ∷ raw (fact 𝓤 _) ∷ raw (fact 𝓤 _) ∷ raw (fact 𝓤 _) ∷ given _ (‵ ftrue) ∷ given _ (‵ ftrue) ∷ []) ∵
    keep ! (6 ∷ 7 ∷ 0 ∷ []) $ learn ! (λ same. let_go ! $ learn ! (λ law. let_go ! $ split ! $
    fsplit ! $ move ! (1 ∷ []) $ fsplit ! $ move ! (3 ∷ []) $ fsplit ! $ fsplit3 ! $ move ! (3 ∷ []) $
    fsplit ! $ fsplit3 ! $ move ! (3 ∷ []) $ fsplit ! $ keep ! (6 ∷ 7 ∷ 3 ∷ 4 ∷ 10 ∷ 8 ∷ 9 ∷ []) $
    enter ! 𝓣.C 𝓣.Λ fn (v0 ∷ v1 ∷ v2 ∷ []) Post $
    alloc_all ! (λ l. pass_all ! refl ((tt, tt), ((tt, tt), ((tt, tt), tt))) $ let Ev = env fn.locals l in
    move ! (0 ∷ 1 ∷ 4 ∷ []) $ opens ! tt Me a.0.ref_ptr.0 a.0.ref_ptr.1 (λ vs0. move ! (1 ∷ []) $
    fsplit ! $ move ! (6 ∷ 7 ∷ 8 ∷ []) $ opens ! tt Pn a.1.0.ref_ptr.0 a.1.0.ref_ptr.1 (λ vs1. move ! (1 ∷ []) $
    fsplit ! $
    rewrite ! 1 (λ (z : Book). ‵ (pens_own cp.code z hand.held)) same refl $ move ! (7 ∷ 1 ∷ []) $
    use2 𝓛 (later (some (λ (w : View E.Denot P.Denot). given (IsPrefix me.log w.0 × then w)
    (‵ (seen_owns ce.code cp.code g.holds me.book w.0) ⊛ ‵ (pens_own cp.code me.book w.1)))))
    (notes 𝓛 ce cp g.holds me.book v then law) $ await ! tt $ pick ! (λ w. learn ! (λ so. split ! $
    move ! (7 ∷ 0 ∷ []) $ fjoin ! $ move ! (7 ∷ 0 ∷ 8 ∷ 9 ∷ 10 ∷ []) $
    closes ! tt Me (record { marker = record {}; book = me.book; log = w.0 }) vs0 a.0.ref_ptr.0 a.0.ref_ptr.1 $
    move ! (4 ∷ 3 ∷ []) $ fjoin ! $ move ! (4 ∷ 0 ∷ 5 ∷ 6 ∷ 7 ∷ []) $
    closes ! tt Pn (record { marker = record {}; book = me.book; held = w.1 }) vs1 a.1.0.ref_ptr.0 a.1.0.ref_ptr.1 $
    sets ! (of_opd ! (unit_lit !)) refl (tt, tt) $ feq_i ! (List Val) (vunit ∷ []) (vunit ∷ []) refl $
    move ! (3 ∷ 7 ∷ []) $ fjoin ! $ move ! (6 ∷ 0 ∷ []) $
    fjoin ! $ nothing ! $ nothing ! $ fjoin ! $ feq_i ! (List Val) (vptr a.1.0.ref_ptr.0 a.1.0.ref_ptr.1 ∷ [])
    (vptr a.1.0.ref_ptr.0 a.1.0.ref_ptr.1 ∷ []) refl $ move ! (0 ∷ 4 ∷ 5 ∷ []) $
    fjoin3 ! $ fjoin ! $ feq_i ! (List Val) (vptr a.0.ref_ptr.0 a.0.ref_ptr.1 ∷ [])
    (vptr a.0.ref_ptr.0 a.0.ref_ptr.1 ∷ []) refl $ move ! (0 ∷ 4 ∷ 5 ∷ []) $ fjoin3 ! $ fjoin ! $
    returns ! (look_at ! 0 refl) $ free_all ! refl $ keep ! (1 ∷ 0 ∷ 2 ∷ []) $
    by ! (ends 𝓛 En hs c y vunit tt (
      (record { marker = record {}; book = me.book; log = w.0 }),
      ((record { marker = record {}; book = me.book; held = w.1 }), (tt, tt)),
    ) (tt, (tt, (tt, tt))) (three 𝓛 (refl, sym same) so.0 so.1))))))))))
