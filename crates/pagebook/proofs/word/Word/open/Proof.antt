-- `open` makes a book.
use Rattle.std.proofs.Common.{ℕ, List, [], ◌∷◌, ◌++◌, refl}
use mir.Syntax.{a_type, dcons, dnil, named}
use mir.Val.{Val, vptr, vstruct, vcons, vnil, of_list}
use mir.MapTy.{inst_fn}
use base.Logic.{SProp}
use base.Fml.{Fml, ftrue, fsep, feq, flft}
use types.Kit.{‵, raw, ◌⊛◌, some, given, later, ◌$◌, ◌∵◌, !, qed, by, move, keep, drop as let_go, split, split3, fsplit, fjoin, fpack, pick, learn, use0, use1}
use types.Kit.{await, feq_i}
use types.Run.{no_more, and_then, returns, enter}
use types.ByLocal.{alloc_all, pass_all, free_all, look_at, get, sets, env}
use types.Part.{agg}
use contract.Monad.{fact}
use contract.Running.{tables}
use denote.Exit.{yes}
use denote.RattleType.{RattleType, owns, Valss}
use denote.Signature.{types_at, plain}
use denote.Builtin.{RefOf}
use denote.Ref.{shr_vals, shr_Tells}
use denote.Steps.{nothing}
use denote.Param.{param, bounded}
use denote.Struct.Tuple.{Tuple}
use denote.Triple.Walked.{Stays, stay_dropped, walk_of, Goes-dropped}
use Rattle.atomic_table.proofs.Walks.{proved}
use Rattle.pagebook.specs.Pages.{Book, dealt}
use Rattle.pagebook.specs.Owned.{seen_owns, pens_own, blanks_own}
use Rattle.pagebook.proofs.Book.Opening.{book_opens}
use Rattle.pagebook.proofs.Value.Made.{token_value, Token, token_made, blanks_made}
use Rattle.pagebook.proofs.Walk.Ends.{ends, three}
use Rattle.pagebook.specs.contracts.word.Seen as Seen
use Rattle.pagebook.specs.contracts.word.Pens as Pens
use Rattle.pagebook.specs.contracts.word.Word as Word
use Rattle.pagebook.specs.contracts.word.Blanks as Blanks
use Rattle.pagebook.specs.contracts.word.Word.open.{ended, clauses}
use Rattle.pagebook.specs.contracts.word.Word.open.Key.{name as #self}
use Rattle.pagebook.proofs.word.Word.open.Statement.{statement}
use Rattle.pagebook.proofs.word.Word.open.Code as code

pub open_spec : {M : Type 1} → statement M
open_spec 𝓤 𝓛 𝓜 𝓡 wired E P R X N _ _ _ _ _ g d gn dn _ _ =
    let H = 𝓛.H in let A = 𝓛.A in let 𝓣 = tables 𝓤 H 𝓜 𝓡 𝓡.env in
    let E' : RattleType = param 0 E in let P' : RattleType = param 1 P in let R' : RattleType = param 2 R in
    let X' : RattleType = param 3 X in let N' : RattleType = param 4 N in
    let En = ended E P R X N g d gn dn in let inst = bounded (a_type ∷ a_type ∷ a_type ∷ a_type ∷ a_type ∷ [])
    (E, (P, (R, (X, (N, tt))))) (dcons d (dcons dn dnil)) in let fn = inst_fn inst code.function in
    let c = clauses E P R X N g d gn dn 𝓛 𝓜.mem 𝓡.returns in
    let ce = E'.coded in let Me : RattleType = Seen.the_row E' P' R' g in
    let Wd : RattleType = Word.the_row E' P' R' g in let All : RattleType = Tuple (E' ∷ P' ∷ R' ∷ []) in
    let cp = P'.coded in let Pn : RattleType = Pens.the_row P' in
    let hs : Stays En.signature.params En.kept =
    (stay_dropped (RefOf (0 ∷ []) tt (plain (λ _. X')) (λ _. tt)) yes, tt) in
    proved 𝓛 En hs c 𝓜 𝓡 (Goes-dropped 𝓛 6 (RefOf (0 ∷ []) tt (plain (λ _. X')) (λ _. tt)) yes (λ κs x f. refl), tt)
    (#self inst) fn (code.unfolded 𝓤 H 𝓜 𝓡 wired (E, (P, (R, (X, (N, tt))))) d dn)
    (λ κs. (shr_vals, tt)) (λ κs. (shr_Tells (named 0) κs.0 X', tt)) (λ κs qs bounds a gh are.
    let ns : List ℕ = gn.words a.0.now in let log : List E.Denot = gn.log a.0.now in
    let ps : List P.Denot = gn.pages a.0.now in
    let v0 : Val = vptr a.0.ref_ptr.0 a.0.ref_ptr.1 in
    let y : (walk_of 𝓛 En hs c).Ghost = ((κs, qs, bounds, a, (v0 ∷ [], tt)), gh) in
    let Post : Val → SProp 𝓤 = (walk_of 𝓛 En hs c).post y in
    let toks : Fml = (fsep (flft κs.0 qs.0)
    (fsep (flft κs.1.0 qs.1.0) (fsep (flft κs.1.1.0 qs.1.1.0)
    (fsep (flft κs.1.1.1.0 qs.1.1.1.0) (fsep (flft κs.1.1.1.1.0 qs.1.1.1.1.0)
    (fsep (flft κs.1.1.1.1.1.0 qs.1.1.1.1.1.0) ftrue)))))) in
    qed 𝓛 ((‵ toks ⊛ ‵ (owns (types_at En.signature.params κs) a y.0.4)) ∷ raw (fact 𝓤 _) ∷ raw (fact 𝓤 _)
    ∷ raw (fact 𝓤 _) ∷ raw (fact 𝓤 _) ∷ raw (fact 𝓤 _) ∷ given _ (‵ ftrue) ∷ []) ∵ keep ! (6 ∷ 0 ∷ []) $
    learn ! (λ asked. let_go ! $ split ! $
    move ! (1 ∷ []) $ fsplit ! $ keep ! (2 ∷ []) $
    enter ! 𝓣.C 𝓣.Λ fn (v0 ∷ []) Post $ alloc_all ! (λ l. pass_all ! refl ((tt, tt), tt) $ let Ev = env fn.locals l in
    use0 𝓛 (later (some (λ (bk : Book). ‵ (blanks_own bk 0 ns) ⊛ ‵ (seen_owns ce.code cp.code g.holds bk log)
    ⊛ ‵ (pens_own cp.code bk (dealt 0 ps []))))) (book_opens 𝓛 ce cp g.holds ns ps log asked) $ await ! tt $
    pick ! (λ bk. split3 ! $ let Bl : RattleType = Blanks.the_row in
    let w : Bl.Denot = record { marker = record {}; book = bk; first = 0; numbers = ns } in
    use1 𝓛 (‵ (Bl.own_val w (token_value ∷ []))) (blanks_made 𝓛 bk 0 ns) $
    use0 𝓛 (‵ ((Token (All)).own_val (record {}, tt) (token_value ∷ []))) (token_made (All) 𝓛) $ move ! (0 ∷ 2 ∷ []) $
    fjoin ! $ use0 𝓛 (‵ ((Token (P')).own_val (record {}, tt) (token_value ∷ []))) (token_made (P') 𝓛) $
    move ! (0 ∷ 3 ∷ []) $ fjoin ! $
    sets ! (agg ! (no_more !)) refl (tt, tt) $
    sets ! (agg ! (and_then ! (get ! refl) (no_more !))) refl (tt, (tt, tt)) $
    sets ! (agg ! (no_more !)) refl (tt, tt) $
    sets ! (agg ! (and_then ! (get ! refl) (no_more !))) refl (tt, (tt, tt)) $
    sets ! (agg ! (no_more !)) refl (tt, tt) $
    sets ! (agg ! (and_then ! (get ! refl) (no_more !))) refl (tt, (tt, tt)) $
    sets ! (agg ! (and_then ! (get ! refl) (and_then ! (get ! refl) (and_then ! (get ! refl) (no_more !))))) refl
    (tt, ((tt, tt), ((tt, tt), ((tt, tt), tt)))) $
    nothing ! $ move ! (1 ∷ 0 ∷ []) $ fjoin ! $ move ! (1 ∷ 0 ∷ []) $ fjoin ! $ move ! (1 ∷ 0 ∷ []) $
    fjoin ! $ let v : Val = vstruct (vcons token_value (vcons token_value (vcons token_value vnil))) in
    let Rs : List RattleType = Bl ∷ Me ∷ Pn ∷ [] in
    let s : Me.Denot = record { marker = record {}; book = bk; log = log } in
    let p : Pn.Denot = record { marker = record {}; book = bk; held = dealt 0 ps [] } in
    feq_i ! (List Val) (v ∷ []) (v ∷ []) refl $
    fjoin ! $ fpack ! (Valss Rs) (λ vss. fsep
    (feq (List Val) (v ∷ []) (vstruct (of_list (vss.0 ++ (vss.1.0 ++ (vss.1.1.0 ++ [])))) ∷ []))
    (owns Rs (w, (s, (p, tt))) vss)) (token_value ∷ [], (token_value ∷ [], (token_value ∷ [], tt))) $
    nothing ! $ nothing ! $ fjoin ! $
    returns ! (look_at ! 0 refl) $ free_all ! refl $ keep ! (2 ∷ 0 ∷ 1 ∷ []) $
    by ! (ends 𝓛 En hs c y v (w, s, p) (tt, tt) (tt, tt) (three 𝓛 (refl, refl) (refl, refl) (refl, refl)))))))
