-- What was read of the lines of a script, while some are left.
use Rattle.std.proofs.Common.{◌≡◌, ℕ, ◌<◌, ◌≤◌, ◌+◌, suc, inr, arith, List, [], ◌∷◌, ◌++◌, length, drop, slice_index_or, Bor, refl, sym, ap, ◌∙◌, subst}
use Rattle.std.proofs.lemmas.List.{append_assoc, append-nil, drop_all, drop_more}
use Rattle.once_script.specs.declared.parse.Line.{Line}
use Rattle.once_script.specs.Text.{IsLine}
use Rattle.once_script.specs.Script.{texts_of, AreLines, IsStop}

-- whatever the lines from the k-th on say, comes after what was read
abbrev pub Continues : List (Bor (List ℕ)) → ℕ → List Line → Type 0
Continues all k read = (later : List Line) → AreLines (texts_of (drop k all)) later → AreLines (texts_of all) (read ++ later)

pub turn : (all : List (Bor (List ℕ))) (k : ℕ) (d : Bor (List ℕ)) (line : Line) (read read' : List Line) → k < length all
    → IsLine line (slice_index_or all k d).now → read' ≡ read ++ line ∷ [] → Continues all k read → Continues all (k + 1) read'
turn all k d line read read' within is added go later are =
    let e : read' ++ later ≡ read ++ line ∷ later = ap (λ r. r ++ later) added ∙ append_assoc read (line ∷ []) later in
    let rest : AreLines (texts_of (drop k all)) (line ∷ later) = subst (λ t. AreLines (texts_of t) (line ∷ later)) (sym (drop_more all k d within)) (line, later, is, refl, are) in
    subst (λ r. AreLines (texts_of all) r) (sym e) (go (line ∷ later) rest)

pub ends : (all : List (Bor (List ℕ))) (k : ℕ) (read : List Line) → length all ≤ k → Continues all k read → AreLines (texts_of all) read
ends all k read past go =
    let none : AreLines (texts_of (drop k all)) [] = subst (λ t. AreLines (texts_of t) []) (sym (drop_all k all past)) refl in
    subst (λ r. AreLines (texts_of all) r) (append-nil read) (go [] none)

-- where the lines from the k-th on stop, all of them stop there
abbrev pub StopsLater : List (Bor (List ℕ)) → ℕ → Type 0
StopsLater all k = (n : ℕ) → IsStop (k + 2) n (texts_of (drop k all)) → IsStop 2 n (texts_of all)

pub next : (all : List (Bor (List ℕ))) (k : ℕ) (d : Bor (List ℕ)) (line : Line) → k < length all → IsLine line (slice_index_or all k d).now → StopsLater all k → StopsLater all (k + 1)
next all k d line within is go n stop =
    let later : IsStop (suc (k + 2)) n (texts_of (drop (k + 1) all)) = subst (λ j. IsStop j n (texts_of (drop (k + 1) all))) (omega arith) stop in
    go n (subst (λ t. IsStop (k + 2) n (texts_of t)) (sym (drop_more all k d within)) (inr ((line, is), later)))
