-- `swap` is one step of the word and of the book.
use Rattle.std.proofs.Common.{ℕ, ◌^◌, List, [], ◌∷◌, sym, refl, lit<, w64}
use mir.Syntax.{a_type, dcons, dnil, named}
use mir.Val.{Val, vint, vptr}
use mir.MapTy.{inst_fn}
use base.Logic.{SProp, wand, via, apply∗}
use base.Fml.{Share, Fml, ftrue, fsep, flft}
use types.Kit.{‵, raw, ◌⊛◌, some, given, later, mean, at_ret, ◌$◌, ◌∵◌, !, qed, by, move, keep, drop as let_go, split, group, fsplit, fsplit3, fjoin, fjoin3}
use types.Kit.{fpick, pick, learn, use2, use3, await, rewrite, feq_i, flt_i}
use types.Run.{stop, addr, lit, of_opd, no_more, and_then, first, blocks, exec, Calls-last, returns, enter}
use types.ByLocal.{alloc_all, pass_all, free_all, look_at, get, through, sets, lands_last, env}
use types.Part.{agg}
use contract.Monad.{fact}
use contract.Running.{tables}
use contract.Shared.{Lends-one}
use denote.Exit.{yes}
use denote.RattleType.{RattleType, owns}
use denote.Signature.{types_at, plain}
use denote.Builtin.{RefOf, u64}
use denote.Ref.{mut_vals, mut_Tells, shr_vals, shr_Tells}
use denote.Plain.{uint_vals, uint_Tells}
use denote.RawPtr.{block_ptr}
use denote.Opens.{unhide}
use denote.Steps.{nothing, opens, closes}
use denote.Param.{param, bounded}
use denote.Struct.Tuple.{Tuple}
use denote.Triple.Walked.{Stays, stay_dropped, stay_ref, walk_of, Goes-dropped, Goes-ref}
use Rattle.core.proofs.atomic.Steps.{tail}
use Rattle.atomic_table.proofs.Walks.{proved}
use Rattle.atomic_table.proofs.Calls.{fm, seq_cst, found, finds, swaps}
use Rattle.pagebook.specs.Pages.{Book, View}
use Rattle.pagebook.specs.Owned.{seen_owns, pens_own}
use Rattle.pagebook.proofs.Book.Steps.{after, steps}
use Rattle.pagebook.proofs.Walk.Ends.{ends, three}
use Rattle.pagebook.specs.contracts.word.Seen as Seen
use Rattle.pagebook.specs.contracts.word.Pens as Pens
use Rattle.pagebook.specs.contracts.word.Word as Word
use Rattle.pagebook.specs.contracts.word.Word.swap.{ended, clauses}
use Rattle.pagebook.specs.contracts.word.Word.swap.Key.{name as #self}
use Rattle.pagebook.proofs.word.Word.swap.Statement.{statement}
use Rattle.pagebook.proofs.word.Word.swap.Code as code

pub swap_spec : {M : Type 1} → statement M
swap_spec 𝓤 𝓛 𝓜 𝓡 wired E P R X N _ _ _ _ _ g d gn dn _ _ =
    let H = 𝓛.H in let A = 𝓛.A in let 𝓣 = tables 𝓤 H 𝓜 𝓡 𝓡.env in
    let E' : RattleType = param 0 E in let P' : RattleType = param 1 P in let R' : RattleType = param 2 R in
    let X' : RattleType = param 3 X in let N' : RattleType = param 4 N in
    let En = ended E P R X N g d gn dn in let inst = bounded (a_type ∷ a_type ∷ a_type ∷ a_type ∷ a_type ∷ [])
    (E, (P, (R, (X, (N, tt))))) (dcons d (dcons dn dnil)) in let fn = inst_fn inst code.function in
    let c = clauses E P R X N g d gn dn 𝓛 𝓜.mem 𝓡.returns in
    let ce = E'.coded in let Me : RattleType = Seen.the_row E' P' R' g in
    let Wd : RattleType = Word.the_row E' P' R' g in let All : RattleType = Tuple (E' ∷ P' ∷ R' ∷ []) in
    let cp = P'.coded in let Pn : RattleType = Pens.the_row P' in
    let hs : Stays En.signature.params En.kept = (
      stay_dropped (RefOf (0 ∷ []) tt (plain (λ _. Wd)) (λ _. tt)) yes,
      (
        stay_dropped (plain (λ _. u64)) yes,
        (
          stay_dropped (RefOf (1 ∷ []) tt (plain (λ _. X')) (λ _. tt)) yes,
          (stay_ref (2 ∷ []) tt (plain (λ _. Me)), (stay_ref (3 ∷ []) tt (plain (λ _. Pn)), tt)),
        ),
      ),
    ) in
    proved 𝓛 En hs c 𝓜 𝓡 (
      Goes-dropped 𝓛 9 (RefOf (0 ∷ []) tt (plain (λ _. Wd)) (λ _. tt)) yes (λ κs x f. refl),
      (
        Goes-dropped 𝓛 9 (plain (λ _. u64)) yes (λ κs x f. refl),
        (
          Goes-dropped 𝓛 9 (RefOf (1 ∷ []) tt (plain (λ _. X')) (λ _. tt)) yes (λ κs x f. refl),
          (Goes-ref 𝓛 9 2 tt (plain (λ _. Me)), (Goes-ref 𝓛 9 3 tt (plain (λ _. Pn)), tt)),
        ),
      ),
    ) (#self inst) fn (code.unfolded 𝓤 H 𝓜 𝓡 wired (E, (P, (R, (X, (N, tt))))) d dn)
    (λ κs. (shr_vals, (uint_vals w64, (shr_vals, (mut_vals, (mut_vals, tt))))))
    (λ κs. (
      shr_Tells (named 0) κs.0 Wd,
      (uint_Tells w64, (shr_Tells (named 1) κs.1.0 X', (mut_Tells (named 2) κs.1.1.0 Me, (mut_Tells (named 3) κs.1.1.1.0 Pn, tt)))),
    )) (λ κs qs bounds a gh are.
    let bk : Book = a.0.now.book in let key : ℕ = a.0.now.key in let seen = a.1.1.1.0.now in
    let hand = a.1.1.1.1.0.now in let v : View E.Denot P.Denot = (seen.log, hand.held) in
    let f : ℕ → ℕ = λ _. a.1.0 in let then : ℕ → View E.Denot P.Denot → Type 0 = gn.then a.1.1.0.now v in
    let v0 : Val = vptr a.0.ref_ptr.0 a.0.ref_ptr.1 in let v1 : Val = vint w64 a.1.0 in
    let v2 : Val = vptr a.1.1.0.ref_ptr.0 a.1.1.0.ref_ptr.1 in
    let v3 : Val = vptr a.1.1.1.0.ref_ptr.0 a.1.1.1.0.ref_ptr.1 in
    let v4 : Val = vptr a.1.1.1.1.0.ref_ptr.0 a.1.1.1.1.0.ref_ptr.1 in
    let y : (walk_of 𝓛 En hs c).Ghost =
    ((κs, qs, bounds, a, (v0 ∷ [], (v1 ∷ [], (v2 ∷ [], (v3 ∷ [], (v4 ∷ [], tt)))))), gh) in
    let Post : Val → SProp 𝓤 = (walk_of 𝓛 En hs c).post y in
    let toks : Fml = (fsep (flft κs.0 qs.0)
    (fsep (flft κs.1.0 qs.1.0) (fsep (flft κs.1.1.0 qs.1.1.0)
    (fsep (flft κs.1.1.1.0 qs.1.1.1.0) (fsep (flft κs.1.1.1.1.0 qs.1.1.1.1.0)
    (fsep (flft κs.1.1.1.1.1.0 qs.1.1.1.1.1.0)
    (fsep (flft κs.1.1.1.1.1.1.0 qs.1.1.1.1.1.1.0)
    (fsep (flft κs.1.1.1.1.1.1.1.0 qs.1.1.1.1.1.1.1.0)
    (fsep (flft κs.1.1.1.1.1.1.1.1.0 qs.1.1.1.1.1.1.1.1.0) ftrue))))))))) in
    qed 𝓛 ((‵ toks ⊛ ‵ (owns (types_at En.signature.params κs) a y.0.4)) ∷ raw (fact 𝓤 _) ∷ raw (fact 𝓤 _)
    ∷ raw (fact 𝓤 _) ∷ raw (fact 𝓤 _) ∷ raw (fact 𝓤 _) ∷ given _ (‵ ftrue) ∷ given _ (‵ ftrue) ∷ given _ (‵ ftrue)
    ∷ []) ∵ keep ! (6 ∷ 7 ∷ 8 ∷ 0 ∷ []) $
    learn ! (λ this. let_go ! $ learn ! (λ that. let_go ! $ learn ! (λ law. let_go ! $ split ! $
    fsplit ! $ move ! (1 ∷ []) $ fsplit ! $ move ! (1 ∷ []) $ fsplit ! $ move ! (1 ∷ []) $
    fsplit ! $ move ! (5 ∷ []) $ fsplit ! $ fsplit ! $ move ! (2 ∷ []) $ fsplit ! $ move ! (1 ∷ []) $
    fsplit ! $ move ! (1 ∷ []) $ fsplit ! $ fsplit3 ! $ move ! (3 ∷ []) $
    fsplit ! $ fsplit3 ! $ keep ! (10 ∷ 5 ∷ 6 ∷ 1 ∷ 2 ∷ 15 ∷ 14 ∷ 13 ∷ 11 ∷ 12 ∷ []) $
    enter ! 𝓣.C 𝓣.Λ fn (v0 ∷ v1 ∷ v2 ∷ v3 ∷ v4 ∷ []) Post $
    alloc_all ! (λ l. pass_all ! refl ((tt, tt), ((tt, record { fits = are.1.0.1 }), ((tt, tt), ((tt, tt), ((tt, tt), tt))))) $ let Ev = env fn.locals l in
    unhide ! $ fpick ! (λ t. fsplit3 ! $ move ! (1 ∷ []) $ fpick ! (λ past. let_go ! $ move ! (0 ∷ 6 ∷ []) $
    use2 𝓛 (later (some (λ (s : Share). ‵ (flft t.0 s) ⊛ raw (wand 𝓤 (A.lft t.0 s) (H.⇛ (A.lft κs.0 qs.0))))))
    (Lends-one 𝓛 𝓜 𝓡 κs.0 t.0 qs.0) $ await ! tt $ pick ! (λ s. split ! $
    move ! (3 ∷ 4 ∷ 8 ∷ []) $ opens ! tt Me a.1.1.1.0.ref_ptr.0 a.1.1.1.0.ref_ptr.1 (λ vs3. move ! (1 ∷ []) $
    fsplit ! $ move ! (9 ∷ 10 ∷ 12 ∷ []) $
    opens ! tt Pn a.1.1.1.1.0.ref_ptr.0 a.1.1.1.1.0.ref_ptr.1 (λ vs4. move ! (1 ∷ []) $
    fsplit ! $ rewrite ! 7 (λ (z : Book). ‵ (seen_owns ce.code cp.code g.holds z seen.log)) this refl $
    rewrite ! 1 (λ (z : Book). ‵ (pens_own cp.code z hand.held)) that refl $
    let out : ℕ → Fml = λ n. fsep (flft t.0 s)
    (after 𝓛 ce cp g.holds bk key a.0.ref_ptr.0 a.0.ref_ptr.1 t.0 s t.1 v f then n) in
    first ! $ blocks ! $ sets ! (addr ! (through ! refl (stop !))) refl (tt, tt) $
    sets ! (of_opd ! (get ! refl)) refl (tt, tt) $ move ! (7 ∷ 1 ∷ []) $ group ! 2 $
    move ! (13 ∷ 11 ∷ 0 ∷ []) $ use3 𝓛 (raw
    (𝓣.C _ (vptr a.0.ref_ptr.0 a.0.ref_ptr.1 ∷ vint w64 a.1.0 ∷ seq_cst ∷ []) (λ u. mean 𝓛 (found out u))))
    (via 𝓤 _ (steps 𝓛 ce cp g.holds bk key a.0.ref_ptr.0 a.0.ref_ptr.1 t.0 s t.1 v f then past law)
    (swaps 𝓛 𝓜 𝓡 (code.calls-core::raw_atomic::swap 𝓡.env wired)
    (block_ptr a.0.ref_ptr.0 a.0.ref_ptr.1) a.1.0 are.1.0.1 out)) $
    sets ! (agg ! (and_then ! (lit ! tt) (no_more !))) refl (tt, (record { fits = lit< tt }, tt)) $
    Calls-last ! (fm 𝓛 𝓜 𝓡) (found out)
    (and_then ! (get ! refl) (and_then ! (get ! refl) (and_then ! (get ! refl) (no_more !)))) (λ u. finds ! out
    (λ n fits. lands_last ! refl (tt, record { fits = fits }) $ exec ! 𝓣.C 𝓣.Λ Ev (tail fn.body) (at_ret Ev Post) $
    sets ! (of_opd ! (get ! refl)) refl (tt, record { fits = fits }) $ fsplit ! $
    move ! (0 ∷ 12 ∷ []) $ use2 𝓛 (later (‵ (flft κs.0 qs.0))) (apply∗ 𝓤 (A.lft t.0 s) (H.⇛ (A.lft κs.0 qs.0))) $
    await ! tt $ move ! (1 ∷ []) $ fpick ! (λ w. fsplit ! $ fpick ! (λ so. let_go ! $ fsplit ! $
    move ! (8 ∷ 0 ∷ []) $ fjoin ! $ move ! (8 ∷ 0 ∷ 9 ∷ 10 ∷ 11 ∷ []) $
    closes ! tt Me (record { marker = record {}; book = bk; log = w.0 }) vs3 a.1.1.1.0.ref_ptr.0 a.1.1.1.0.ref_ptr.1 $
    move ! (5 ∷ 3 ∷ []) $ fjoin ! $ move ! (5 ∷ 0 ∷ 6 ∷ 7 ∷ 8 ∷ []) $
    closes ! tt Pn (record { marker = record {}; book = bk; held = w.1 }) vs4 a.1.1.1.1.0.ref_ptr.0
    a.1.1.1.1.0.ref_ptr.1 $
    flt_i ! n (2 ^ 64) fits $ feq_i ! (List Val) (vint w64 n ∷ []) (vint w64 n ∷ []) refl $ fjoin ! $
    move ! (3 ∷ 9 ∷ []) $ fjoin ! $ move ! (6 ∷ 0 ∷ []) $ fjoin ! $ move ! (7 ∷ 0 ∷ []) $
    fjoin ! $ move ! (6 ∷ 0 ∷ []) $ fjoin ! $ nothing ! $ feq_i ! (List Val)
    (vptr a.1.1.1.1.0.ref_ptr.0 a.1.1.1.1.0.ref_ptr.1 ∷ [])
    (vptr a.1.1.1.1.0.ref_ptr.0 a.1.1.1.1.0.ref_ptr.1 ∷ []) refl $ move ! (0 ∷ 4 ∷ 5 ∷ []) $
    fjoin3 ! $ fjoin ! $ feq_i ! (List Val) (vptr a.1.1.1.0.ref_ptr.0 a.1.1.1.0.ref_ptr.1 ∷ [])
    (vptr a.1.1.1.0.ref_ptr.0 a.1.1.1.0.ref_ptr.1 ∷ []) refl $ move ! (0 ∷ 4 ∷ 5 ∷ []) $
    fjoin3 ! $ fjoin ! $ nothing ! $ fjoin ! $ nothing ! $ fjoin ! $ nothing ! $ fjoin ! $
    returns ! (look_at ! 0 refl) $ free_all ! refl $ keep ! (1 ∷ 0 ∷ 2 ∷ []) $
    by ! (ends 𝓛 En hs c y (vint w64 n) n
    (tt, (tt, (tt, ((record { marker = record {}; book = bk; log = w.0 }), ((record { marker = record {}; book = bk; held = w.1 }), tt)))))
    (tt, (tt, (tt, (tt, (tt, tt))))) (three 𝓛 (sym this, sym that) so.0 so.1))))))))))))))))
