-- `new` makes a word of the first blank.
use Rattle.std.proofs.Common.{ℕ, ◌+◌, List, [], ◌∷◌, drop, refl, w64}
use mir.Syntax.{a_type, dcons, dnil, named}
use mir.Val.{Val, vint, vptr}
use mir.MapTy.{inst_fn}
use base.Logic.{SProp}
use base.Fml.{Fml, ftrue, fsep, flft}
use types.Kit.{‵, raw, ◌⊛◌, given, ◌$◌, ◌∵◌, !, qed, by, move, keep, drop as let_go, split, fsplit, fsplit3, fjoin, fjoin3, learn, use1, feq_i}
use types.Run.{no_more, and_then, returns, enter}
use types.ByLocal.{alloc_all, pass_all, free_all, look_at, get, sets, env}
use types.Part.{agg}
use contract.Monad.{fact}
use contract.Running.{tables}
use denote.Exit.{yes}
use denote.RattleType.{RattleType, owns}
use denote.Signature.{types_at, plain}
use denote.Builtin.{u64}
use denote.Ref.{mut_vals, mut_Tells}
use denote.Plain.{uint_vals, uint_Tells}
use denote.Steps.{nothing, opens, closes}
use denote.Param.{param, bounded}
use denote.Struct.Tuple.{Tuple}
use denote.Triple.Walked.{Stays, stay_dropped, stay_ref, walk_of, Goes-dropped, Goes-ref}
use Rattle.atomic_table.proofs.Walks.{proved}
use Rattle.pagebook.specs.Pages.{Book, named as named_at}
use Rattle.pagebook.specs.Owned.{blanks_own, word_pen}
use Rattle.pagebook.proofs.Value.Made.{word_value, word_made, blank_taken}
use Rattle.pagebook.proofs.Walk.Ends.{ends, two}
use Rattle.pagebook.specs.contracts.word.Seen as Seen
use Rattle.pagebook.specs.contracts.word.Pens as Pens
use Rattle.pagebook.specs.contracts.word.Word as Word
use Rattle.pagebook.specs.contracts.word.Blanks as Blanks
use Rattle.pagebook.specs.contracts.word.Word.new.{ended, clauses}
use Rattle.pagebook.specs.contracts.word.Word.new.Key.{name as #self}
use Rattle.pagebook.proofs.word.Word.new.Statement.{statement}
use Rattle.pagebook.proofs.word.Word.new.Code as code

pub new_spec : {M : Type 1} → statement M
new_spec 𝓤 𝓛 𝓜 𝓡 wired E P R _ _ _ g d _ =
    let H = 𝓛.H in let A = 𝓛.A in let 𝓣 = tables 𝓤 H 𝓜 𝓡 𝓡.env in
    let E' : RattleType = param 0 E in let P' : RattleType = param 1 P in let R' : RattleType = param 2 R in
    let En = ended E P R g d in let inst = bounded (a_type ∷ a_type ∷ a_type ∷ []) (E, (P, (R, tt))) (dcons d dnil) in
    let fn = inst_fn inst code.function in let c = clauses E P R g d 𝓛 𝓜.mem 𝓡.returns in
    let ce = E'.coded in let Me : RattleType = Seen.the_row E' P' R' g in
    let Wd : RattleType = Word.the_row E' P' R' g in let All : RattleType = Tuple (E' ∷ P' ∷ R' ∷ []) in
    let Bl : RattleType = Blanks.the_row in let cp = P'.coded in let Pn : RattleType = Pens.the_row P' in
    let hs : Stays En.signature.params En.kept =
    (stay_dropped (plain (λ _. u64)) yes, (stay_ref (0 ∷ []) tt (plain (λ _. Bl)), tt)) in
    proved 𝓛 En hs c 𝓜 𝓡 (Goes-dropped 𝓛 4 (plain (λ _. u64)) yes (λ κs x f. refl), (Goes-ref 𝓛 4 0 tt (plain (λ _. Bl)), tt)) (#self inst) fn
    (code.unfolded 𝓤 H 𝓜 𝓡 wired (E, (P, (R, tt))) d)
    (λ κs. (uint_vals w64, (mut_vals, tt))) (λ κs. (uint_Tells w64, (mut_Tells (named 0) κs.0 Bl, tt)))
    (λ κs qs bounds a gh are.
    let n : ℕ = a.0 in let bl = a.1.0.now in let bk : Book = bl.book in let key : ℕ = bl.first in
    let v0 : Val = vint w64 a.0 in let v1 : Val = vptr a.1.0.ref_ptr.0 a.1.0.ref_ptr.1 in
    let y : (walk_of 𝓛 En hs c).Ghost = ((κs, qs, bounds, a, (v0 ∷ [], (v1 ∷ [], tt))), gh) in
    let Post : Val → SProp 𝓤 = (walk_of 𝓛 En hs c).post y in
    let toks : Fml = (fsep (flft κs.0 qs.0)
    (fsep (flft κs.1.0 qs.1.0) (fsep (flft κs.1.1.0 qs.1.1.0) (fsep (flft κs.1.1.1.0 qs.1.1.1.0) ftrue)))) in
    qed 𝓛 ((‵ toks ⊛ ‵ (owns (types_at En.signature.params κs) a y.0.4)) ∷ raw (fact 𝓤 _) ∷ raw (fact 𝓤 _)
    ∷ raw (fact 𝓤 _) ∷ given _ (‵ ftrue) ∷ []) ∵ keep ! (4 ∷ 0 ∷ []) $ learn ! (λ asked. let_go ! $ split ! $
    fsplit ! $ move ! (2 ∷ []) $ fsplit ! $ move ! (1 ∷ []) $ fsplit ! $ fsplit3 ! $ keep ! (1 ∷ 2 ∷ 5 ∷ 6 ∷ []) $
    enter ! 𝓣.C 𝓣.Λ fn (v0 ∷ v1 ∷ []) Post $
    alloc_all ! (λ l. pass_all ! refl ((tt, record { fits = are.0.1 }), ((tt, tt), tt)) $ let Ev = env fn.locals l in
    opens ! tt Bl a.1.0.ref_ptr.0 a.1.0.ref_ptr.1 (λ vs1. move ! (1 ∷ []) $ fsplit ! $ move ! (1 ∷ []) $
    use1 𝓛 (‵ (word_pen (named_at bk key) n) ⊛ ‵ (blanks_own bk (key + 1) (drop 1 bl.numbers)))
    (blank_taken 𝓛 bk key bl.numbers n asked) $ split ! $ move ! (2 ∷ 1 ∷ []) $
    fjoin ! $ move ! (2 ∷ 0 ∷ 3 ∷ 4 ∷ 5 ∷ []) $
    closes ! tt Bl (record { marker = record {}; book = bk; first = key + 1; numbers = drop 1 bl.numbers }) vs1
    a.1.0.ref_ptr.0 a.1.0.ref_ptr.1 $
    move ! (3 ∷ []) $ use1 𝓛 (‵ (Wd.own_val (record { book = bk; key = key }) (word_value n ∷ [])))
    (word_made 𝓛 E' P' R' g (record { book = bk; key = key }) n are.0.1) $
    sets ! (agg ! (no_more !)) refl (tt, tt) $
    sets ! (agg ! (and_then ! (get ! refl) (and_then ! (get ! refl) (no_more !)))) refl
    (tt, (record { fits = are.0.1 }, (tt, tt))) $
    move ! (3 ∷ 4 ∷ []) $ fjoin ! $ nothing ! $ feq_i ! (List Val) (vptr a.1.0.ref_ptr.0 a.1.0.ref_ptr.1 ∷ [])
    (vptr a.1.0.ref_ptr.0 a.1.0.ref_ptr.1 ∷ []) refl $ move ! (0 ∷ 4 ∷ 5 ∷ []) $
    fjoin3 ! $ fjoin ! $ nothing ! $ fjoin ! $
    returns ! (look_at ! 0 refl) $ free_all ! refl $ keep ! (1 ∷ 0 ∷ 2 ∷ []) $
    by ! (ends 𝓛 En hs c y (word_value n) (record { book = bk; key = key })
    (tt, ((record { marker = record {}; book = bk; first = key + 1; numbers = drop 1 bl.numbers }), tt))
    (tt, (tt, tt)) (two 𝓛 (refl, refl) (refl, refl, refl)))))))
