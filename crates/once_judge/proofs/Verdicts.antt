-- One more entry, and those after the first that does not fit.
use Rattle.std.proofs.Common.{◌≡◌, ◌≤◌, ◌<◌, ◌+◌, ℕ, suc, List, [], ◌∷◌, ◌++◌, Option, Some, None, MatchOption, length, take, get_or, sym, ap, ◌∙◌, subst, arith}
use Rattle.std.proofs.lemmas.List.{append_cancel_left}
use Rattle.std.proofs.lemmas.Grind.{take_at_read, common_steps}
use Rattle.once_machine.specs.declared.record.Entry.{Entry as Written}
use Rattle.once_machine.specs.Record.{Kind, Entry, Made, made_in, is_lazy}
use Rattle.once_machine.specs.Cell.{cell}
use Rattle.once_machine.specs.Tasks.{status, is_under_way}
use Rattle.once_machine.specs.Wakers.{times_opened}
use Rattle.once_machine.specs.Refusals.{is_about}
use Rattle.once_machine.specs.Called.{IsCalled, SomebodyCalled}
use Rattle.once_machine.specs.Run.{AtEvery}
use Rattle.once_machine.specs.Shown.{entry_of, history_in}
use Rattle.once_machine.proofs.Listing.Counting.{count_within}
use Rattle.once_judge.specs.declared.calls.Calls.{Calls}
use Rattle.once_judge.specs.declared.reason.Reason.{Reason}
use Rattle.once_judge.specs.declared.verdict.Forgotten.{Forgotten}
use Rattle.once_judge.specs.Calls.{IsRunBy}
use Rattle.once_judge.specs.Seen.{Seen}
use Rattle.once_judge.specs.Legal.{IsLegalIn}
use Rattle.once_judge.specs.SeenOf.{IsSeenOf}
use Rattle.once_judge.specs.Shown.{Within, rules_of}
use Rattle.once_judge.specs.Reasons.{IsTrueIn}
use Rattle.once_judge.specs.Next.{Followed}
use Rattle.once_judge.specs.Moments.{FirstForgotten}
use Rattle.once_judge.specs.Verdict.{StopsAt, IsTrue, IsTrueAt, IsForgottenAt}
use Rattle.once_judge.proofs.Either.{run_last, run_more, fits}
use Rattle.once_judge.proofs.Sinces.{seen_after}
use Rattle.once_judge.proofs.Legality.{legal_in, legal_out, true_out}
use Rattle.once_judge.proofs.Turns.{called_in, somebody_out}

-- a record with one more entry
pub history_push : (xs : List Written) (x : Written) → history_in (xs ++ x ∷ []) ≡ entry_of x ∷ history_in xs
history_push xs x = grind (arith, common_steps)

pub history_step : (xs : List Written) (i : ℕ) (x : Written) → i < length xs → x ≡ get_or xs i x → history_in (take (i + 1) xs) ≡ entry_of x ∷ history_in (take i xs)
history_step xs i x l is = rw ((take_at_read xs i x l).1 ∙ ap (λ y. take i xs ++ y ∷ []) (sym is)) (history_push (take i xs) x)

-- the beginning of a run is one
run_begins : (c : Calls) (K : Kind) (limit : ℕ) (e h : List Entry) → IsRunBy c K limit (e ++ h) → IsRunBy c K limit h
run_begins c K limit [] h r = r
run_begins c K limit (x ∷ e) h r = run_begins c K limit e h (run_last c K limit x (e ++ h) r).1

history_append : (xs ys : List Written) → history_in (xs ++ ys) ≡ history_in ys ++ history_in xs
history_append xs ys = grind (arith, common_steps)

-- counts are within the number of entries
made_within : (h : List Entry) → length (made_in h) ≤ length h
made_within [] = omega arith
made_within (Made t ∷ h) = let i = made_within h in omega arith
made_within (e ∷ h) = let i = made_within h in omega arith

opened_within : (K : Kind) (w : ℕ) (h : List Entry) → times_opened K w h ≤ length h
opened_within K w [] = omega arith
opened_within K w (e ∷ h) = let i = opened_within K w h in grind arith

pub within : (K : Kind) (limit : ℕ) (h : List Entry) (S : Seen) → IsSeenOf K limit h S → Within S
within K limit h S k =
    let m = made_within h in let n = k.basics.now_is in record {
      about = let c = count_within (made_in h) (λ u. is_about (status K u h)) in let i = k.basics.about_is in omega arith;
      acting = let c = count_within (made_in h) (λ u. is_under_way (status K u h)) in let i = k.basics.acting_is in omega arith;
      times = λ w. let o = opened_within K w h in let i = k.basics.times_is w in omega arith;
      handed = λ w. k.basics.handed_by w;
    }

-- the judge after so many entries
pub record Judged (c : Calls) (K : Kind) (limit : ℕ) (h : List Entry) (S : Seen) : Type 0 where
  pub run : IsRunBy c K limit h
  pub seen : IsSeenOf K limit h S

pub judged_step : (c : Calls) (K : Kind) (limit : ℕ) (xs : List Written) (i : ℕ) (x : Written) (S S' : Seen) → i < length xs → x ≡ get_or xs i x
    → Judged c K limit (history_in (take i xs)) S → Followed None (rules_of c K limit) (entry_of x) S S'
    → Judged c K limit (history_in (take (i + 1) xs)) S'
judged_step c K limit xs i x S S' l is j f =
    let legal = legal_out K limit (history_in (take i xs)) S j.seen c (entry_of x) f.0 in
    let run = run_more c K limit (entry_of x) (history_in (take i xs)) legal j.run in
    let seen = seen_after K limit (entry_of x) (history_in (take i xs)) S (fits c K limit (entry_of x) (history_in (take i xs)) legal) j.seen in
    let both : Judged c K limit (entry_of x ∷ history_in (take i xs)) S' = record { run = run; seen = subst (IsSeenOf K limit (entry_of x ∷ history_in (take i xs))) (sym f.1) seen } in
    subst (λ h. Judged c K limit h S') (sym (history_step xs i x l is)) both

-- the first that does not fit
pub stops : (c : Calls) (K : Kind) (limit : ℕ) (xs : List Written) (i : ℕ) (x : Written) (S : Seen) → i < length xs → x ≡ get_or xs i x
    → Judged c K limit (history_in (take i xs)) S → (IsLegalIn c (is_lazy K) (entry_of x) S → ⊥) → StopsAt c K limit xs i
stops c K limit xs i x S l is j n = record {
  within = l;
  run = j.run;
  no_run = λ more r.
      let one : suc i ≡ i + 1 = omega arith in
      let split : history_in (take (suc i) xs ++ more) ≡ history_in more ++ (entry_of x ∷ history_in (take i xs)) =
      history_append (take (suc i) xs) more ∙ ap (λ k. history_in more ++ history_in (take k xs)) one ∙ ap (λ h. history_in more ++ h) (history_step xs i x l is) in
      let r' = run_begins c K limit (history_in more) (entry_of x ∷ history_in (take i xs)) (subst (IsRunBy c K limit) split r) in
      n (legal_in K limit (history_in (take i xs)) S j.seen c (entry_of x) (run_last c K limit (entry_of x) (history_in (take i xs)) r').0);
}

-- a reason that is true by what is kept is true of the entry
pub true_at : (c : Calls) (K : Kind) (limit : ℕ) (xs : List Written) (i : ℕ) (x : Written) (S : Seen) (r : Reason) → i < length xs → x ≡ get_or xs i x
    → Judged c K limit (history_in (take i xs)) S → IsTrueIn (is_lazy K) r (entry_of x) S → IsTrueAt K limit r i xs
true_at c K limit xs i x S r l is j t = λ e split.
    let one : suc i ≡ i + 1 = omega arith in
    let same : x ∷ [] ≡ e ∷ [] = append_cancel_left (take i xs) (x ∷ []) (e ∷ [])
    (ap (λ y. take i xs ++ y ∷ []) is ∙ sym ((take_at_read xs i x l).1) ∙ ap (λ k. take k xs) (sym one) ∙ split) in
    let its : x ≡ e = ap (λ ys. get_or ys 0 x) same in
    subst (λ y. IsTrue K limit r (entry_of y) (history_in (take i xs))) its
    (true_out K limit (history_in (take i xs)) S j.seen r (entry_of x) t)

-- the moments so far: at each some task was woken if one had to be, or there is a first at which none was
abbrev pub Watched : Kind → List Written → ℕ → Option Forgotten → Type 0
Watched K xs n None = AtEvery (SomebodyCalled K) (history_in (take n xs))
Watched K xs n (Some f) = IsForgottenAt K xs f.entry f.task × (f.entry < n)

-- at the beginning nobody waits
pub none_forgotten : (K : Kind) (xs : List Written) → Watched K xs 0 None
none_forgotten K xs = λ e u w. let z : ⊥ = cc in absurd z

-- and one moment more
pub watched_more : (c : Calls) (K : Kind) (limit : ℕ) (xs : List Written) (i : ℕ) (x : Written) (S : Seen) (o o' : Option Forgotten) → i < length xs → x ≡ get_or xs i x
    → Judged c K limit (history_in (take (i + 1) xs)) S → Watched K xs i o → FirstForgotten o o' i S → Watched K xs (i + 1) o'
watched_more c K limit xs i x S (Some f) o' l is j w r = rw r (w.0, let b = w.1 in omega arith)
watched_more c K limit xs i x S None None l is j w r =
    let here : SomebodyCalled K (history_in (take (i + 1) xs)) = somebody_out K limit (history_in (take (i + 1) xs)) S j.seen r in
    let P : List Entry → Type 0 = λ h. AtEvery (SomebodyCalled K) h in
    let step = history_step xs i x l is in
    subst P (sym step) (subst (SomebodyCalled K) step here, w)
watched_more c K limit xs i x S None (Some f) l is j w r =
    let one : i + 1 ≡ suc i = omega arith in
    let at : IsForgottenAt K xs i f.task = record {
      within = l;
      empty = ap (λ k. cell K (history_in (take k xs))) (sym one) ∙ sym j.seen.basics.cell_is ∙ r.1.0;
      waits = ap (λ k. status K f.task (history_in (take k xs))) (sym one) ∙ sym (j.seen.basics.status_is f.task) ∙ r.1.1;
      nobody = λ u c. r.1.2 u (called_in K limit (history_in (take (i + 1) xs)) S j.seen u (subst (λ k. IsCalled K u (history_in (take k xs))) (sym one) c));
      before = w;
    } in
    (subst (λ n. IsForgottenAt K xs n f.task) (sym r.0) at, let e = r.0 in omega arith)

-- what a verdict says of the moments so far
pub watched_out : (K : Kind) (xs : List Written) (n : ℕ) (o : Option Forgotten) → Watched K xs n o
    → MatchOption o (AtEvery (SomebodyCalled K) (history_in (take n xs))) (λ f. IsForgottenAt K xs f.entry f.task)
watched_out K xs n None w = w
watched_out K xs n (Some f) w = w.0
