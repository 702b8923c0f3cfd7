-- How the log grows with a step, and with one step after the other.
use Rattle.std.proofs.Common.{◌≡◌, ℕ, Bool, false, true, List, [], ◌∷◌, ◌++◌, append_assoc, reverse, refl, sym, ap, ◌∙◌}
use Rattle.std.proofs.lemmas.List.{append-nil, reverse-append}
use mathlib.Core.List.{IsPrefix}
use Rattle.once_machine.specs.Table.{Next}
use Rattle.once_machine.specs.declared.step.Progress.{Progress}
use Rattle.once_machine.specs.declared.step.Progress.TheVariants.{More, Ended}
use Rattle.once_machine.specs.Record.{Begin, DropBegin, Entry, Ran, handed_by}
use Rattle.once_machine.specs.declared.record.Ran.{Ran as Answer}
use Rattle.once_machine.specs.declared.record.Ran.TheVariants.{Error as RanError, Pending as RanPending, Value as RanValue}
use Rattle.once_machine.specs.Book.{TaskState}
use Rattle.once_machine.specs.Machine.{progress_entries}
use Rattle.async_once_cell.specs.Kept.{Grew, entries_of}
use Rattle.async_once_cell.specs.Inner.Own.{Own, Turned, told}
use Rattle.async_once_cell.specs.Record.{gave_since}
use Rattle.async_once_cell.specs.Inner.Sides.{Sided, has_given}
use Rattle.async_once_cell.specs.Walks.{AreMid, IsCall, Walked, handed}
use Rattle.async_once_cell.proofs.Desks.{prefix_on}

-- a log is a beginning of itself
pub here : (log : List Entry) → IsPrefix log log
here log = ([], append-nil log)

-- a beginning of a log that grew
pub grew_on : (es old new : List Entry) → Grew es old new → IsPrefix old new
grew_on es old new g = prefix_on old g.0 new g.1 (es, sym g.2)

-- some and then others
pub mid_append : (es fs : List Entry) → AreMid es → AreMid fs → AreMid (es ++ fs)
mid_append [] fs a b = b
mid_append (e ∷ es) fs a b = (a.0, mid_append es fs a.1 b)

-- the tasks that are handed out by the one and by the other
handed_on : (es fs : List Entry) → handed (es ++ fs) ≡ handed es ++ handed fs
handed_on [] fs = refl
handed_on (e ∷ es) fs = ap (λ X. handed_by e ++ X) (handed_on es fs) ∙ sym (append_assoc (handed_by e) (handed es) (handed fs))

-- what the one and then the other say of what an init gave
pub gave_on : (gave : Bool) (es fs : List Entry) → gave_since gave (es ++ fs) ≡ gave_since (gave_since gave es) fs
gave_on gave [] fs = refl
gave_on gave (Begin t w ∷ es) fs = gave_on false es fs
gave_on gave (DropBegin t ∷ es) fs = gave_on false es fs
gave_on gave (Ran t (RanValue v) ∷ es) fs = gave_on true es fs
gave_on gave (Ran t RanPending ∷ es) fs = gave_on gave es fs
gave_on gave (Ran t (RanError e) ∷ es) fs = gave_on gave es fs
gave_on gave (_ ∷ es) fs = gave_on gave es fs

-- there is one at most
end_reversed : (r : Progress) (t v : ℕ) (k : Answer) → reverse (progress_entries r t v k) ≡ progress_entries r t v k
end_reversed More t v k = refl
end_reversed (Ended e) t v k = refl

-- the entries of a step end with that of the call
told_ends : (t : ℕ) (k : Answer) (n : Next ℕ ℕ) (did : List Entry) → told t k n did ≡ reverse did ++ progress_entries n.progress t 0 k
told_ends t k n did = reverse-append (progress_entries n.progress t 0 k) did ∙ ap (λ l. reverse did ++ l) (end_reversed n.progress t 0 k)

module _ (x y : Sided) (v w : Own) where
  -- one step, of which this is told
  pub walked_by : (z : TaskState) (n : Next ℕ ℕ) (did : List Entry) (r : Progress) (X : List ℕ) → Turned v z (told v.number z.kept n did) w
      → r ≡ n.progress → AreMid (reverse did) → handed (reverse did) ≡ X → y.woke ≡ x.woke ++ X → has_given y ≡ gave_since (has_given x) (reverse did) → Walked x v r y w
  walked_by z n did r X d e mid out woke gave =
      let es : List Entry = told v.number z.kept n did in
      let split : es ≡ reverse did ++ progress_entries n.progress v.number 0 z.kept = told_ends v.number z.kept n did in
      let names : progress_entries n.progress v.number 0 z.kept ≡ progress_entries r w.number 0 w.task.kept =
      ap (λ p. progress_entries p v.number 0 z.kept) (sym e) ∙ ap (λ (t : ℕ). progress_entries r t 0 z.kept) (sym d.number)
      ∙ ap (λ (t : TaskState). progress_entries r w.number 0 t.kept) (sym d.task) in
      record {
        number = d.number;
        ends = (
          d.log.0 ++ reverse did,
          prefix_on v.log d.log.0 (d.log.0 ++ reverse did) d.log.1 (reverse did, refl),
          d.log.2 ∙ ap (λ l. d.log.0 ++ l) (split ∙ ap (λ l. reverse did ++ l) names) ∙ sym (append_assoc d.log.0 (reverse did) (progress_entries r w.number 0 w.task.kept)),
        );
        made = (
          reverse did,
          mid,
          d.mine ∙ ap (λ l. entries_of v.number v.log ++ l) (split ∙ ap (λ l. reverse did ++ l) names),
          woke ∙ ap (λ Y. x.woke ++ Y) (sym out),
          gave,
        );
      }

-- no step
pub walked_none : (x : Sided) (v : Own) → Walked x v More x v
walked_none x v = record {
  number = refl;
  ends = (v.log, here v.log, sym (append-nil v.log));
  made = ([], tt, sym (append-nil (entries_of v.number v.log)), sym (append-nil x.woke), refl);
}

-- one step more
pub walked_on : {x y z : Sided} {u v w : Own} {r q : Progress} → r ≡ More → Walked x u r y v → Walked y v q z w → Walked x u q z w
walked_on {x = x} {u = u} {v = v} {w = w} {r = r} {q = q} more a b =
    let end : List Entry = progress_entries q w.number 0 w.task.kept in
    let first : entries_of u.number v.log ≡ entries_of u.number u.log ++ a.made.0 =
    a.made.2 ∙ ap (λ p. entries_of u.number u.log ++ (a.made.0 ++ progress_entries p v.number 0 v.task.kept)) more ∙ ap (λ l. entries_of u.number u.log ++ l) (append-nil a.made.0) in
    record {
      number = b.number ∙ a.number;
      ends = (b.ends.0, prefix_on u.log v.log b.ends.0 (grew_on (progress_entries r v.number 0 v.task.kept) u.log v.log a.ends) b.ends.1, b.ends.2);
      made = (
        a.made.0 ++ b.made.0,
        mid_append a.made.0 b.made.0 a.made.1 b.made.1,
        ap (λ (t : ℕ). entries_of t w.log) (sym a.number) ∙ b.made.2 ∙ ap (λ (t : ℕ). entries_of t v.log ++ (b.made.0 ++ end)) a.number
            ∙ ap (λ l. l ++ (b.made.0 ++ end)) first ∙ append_assoc (entries_of u.number u.log) a.made.0 (b.made.0 ++ end)
            ∙ ap (λ l. entries_of u.number u.log ++ l) (sym (append_assoc a.made.0 b.made.0 end)),
        b.made.3 ∙ ap (λ X. X ++ handed b.made.0) a.made.3 ∙ append_assoc x.woke (handed a.made.0) (handed b.made.0) ∙ ap (λ X. x.woke ++ X) (sym (handed_on a.made.0 b.made.0)),
        b.made.4 ∙ ap (λ g. gave_since g b.made.0) a.made.4 ∙ sym (gave_on (has_given x) a.made.0 b.made.0),
      );
    }

-- a call that began by these own entries, did these things, and ended so
pub called : {t : ℕ} {e begin : Entry} {mid a c : List Entry} (r : Progress) (k : Answer) (b : List Entry) → progress_entries r t 0 k ≡ e ∷ []
    → entries_of t b ≡ entries_of t a ++ begin ∷ [] → AreMid mid → entries_of t c ≡ entries_of t b ++ (mid ++ progress_entries r t 0 k)
    → IsCall t begin e mid a c
called {t = t} {e = e} {begin = begin} {mid = mid} {a = a} r k b ends began are made = record {
  own = made ∙ ap (λ l. entries_of t b ++ (mid ++ l)) ends ∙ ap (λ l. l ++ (mid ++ e ∷ [])) began ∙ append_assoc (entries_of t a) (begin ∷ []) (mid ++ e ∷ []);
  between = are;
}
