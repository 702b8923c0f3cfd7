-- A poll that began when the cell was set ended with the value. From the record alone.
use Rattle.std.proofs.Common.{◌≡◌, ℕ, Bool, true, false, List, [], ◌∷◌, ◌++◌, append_assoc, reverse, refl, sym, ap, ◌∙◌, subst}
use Rattle.std.proofs.lemmas.List.{reverse-append}
use mathlib.Core.List.{IsPrefix}
use Rattle.once_machine.proofs.Listing.Members.{eqb_self}
use Rattle.once_machine.specs.Record.{Begin, DropBegin, End, Entry, Once, is_of}
use Rattle.once_machine.specs.declared.record.Reply.TheVariants.{Error, Full, Memory, Pending, Value}
use Rattle.once_machine.specs.Cell.{cell, is_set}
use Rattle.once_machine.specs.Tasks.{last_call, last_call_after, status}
use Rattle.once_machine.specs.Run.{IsRun}
use Rattle.once_machine.specs.declared.step.Ending.TheVariants.{Dropped as EndDropped, Error as EndError, Full as EndFull, Memory as EndMemory, Pending as EndPending, Value as EndValue}
use Rattle.once_machine.specs.declared.step.Ending.{Ending}
use Rattle.once_machine.proofs.Law.Answered.{set_answered}
use Rattle.once_machine.proofs.Shared.Worlds.{ArePlain}
use Rattle.once_machine.proofs.Told.Log.{log_is_plain}
use Rattle.once_machine.proofs.Told.Value.{set_to}
use Rattle.async_once_cell.specs.Kept.{IsKept, Sheet, most, pages_in}
use Rattle.async_once_cell.specs.Record.{IsSet}
use Rattle.async_once_cell.proofs.Desks.{prefix_on}
use Rattle.async_once_cell.proofs.Moments.Moves.Words.{some}
use Rattle.async_once_cell.proofs.Seen.{seen_run, seen_set}
use Rattle.async_once_cell.proofs.Values.{stays_set}
use Rattle.async_once_cell.specs.Walks.{Spans, end_of}

-- the last call of t began when the cell was set, and the cell is set still
record Late (t : ℕ) (h : List Entry) : Type 0 where
  set : is_set (cell Once h) ≡ true
  set_then : (last_call Once t h).set_then ≡ true

-- a poll began
late_begun : (t : ℕ) (h : List Entry) → is_set (cell Once h) ≡ true → Late t (Begin t t ∷ h)
late_begun t h set = record { set = set; set_then = rw (eqb_self t) set }

-- an entry of t
own_call : (t : ℕ) (e : Entry) (h : List Entry) → Late t h → (last_call_after e (cell Once h) (status Once t h) (last_call Once t h)).set_then ≡ true
own_call t (Begin u w) h k = k.set
own_call t (DropBegin u) h k = k.set
own_call t (End u Pending) h k = k.set_then
own_call t _ h k = k.set_then

-- any entry
call_on : (t : ℕ) (e : Entry) (h : List Entry) (b : Bool) → is_of t e ≡ b → Late t h → (last_call Once t (e ∷ h)).set_then ≡ true
call_on t e h true is k = rw is (own_call t e h k)
call_on t e h false is k = rw is k.set_then

-- the cell stays set
set_on : (e : Entry) (h : List Entry) → IsRun Once most (e ∷ h) → ArePlain (e ∷ h) → is_set (cell Once h) ≡ true → is_set (cell Once (e ∷ h)) ≡ true
set_on e h run plain set = let to = set_to (cell Once h) set in ap is_set (stays_set (e ∷ []) h to.0 run plain to.1)

late_on : (t : ℕ) (es h : List Entry) → IsRun Once most (es ++ h) → ArePlain (es ++ h) → Late t h → Late t (es ++ h)
late_on t [] h run plain k = k
late_on t (e ∷ es) h run plain k =
    let before : Late t (es ++ h) = late_on t es h run.1 plain.1 k in
    record { set = set_on e (es ++ h) run plain before.set; set_then = call_on t e (es ++ h) (is_of t e) refl before }

-- so its poll ends with the value
ends : (t : ℕ) (e : Ending) (h : List Entry) → Late t h → IsRun Once most (end_of t e ∷ h) → (e ≡ EndDropped → ⊥) → e ≡ EndValue
ends t EndValue h k run poll = refl
ends t EndPending h k run poll = let no : Pending ≡ Value _ = (set_answered Once most t Pending h run k.set_then).1.2 in cc
ends t EndError h k run poll = let no : Error 0 ≡ Value _ = (set_answered Once most t (Error 0) h run k.set_then).1.2 in cc
ends t EndMemory h k run poll = let no : Memory ≡ Value _ = (set_answered Once most t Memory h run k.set_then).1.2 in cc
ends t EndFull h k run poll = let no : Full ≡ Value _ = (set_answered Once most t Full h run k.set_then).1.2 in cc
ends t EndDropped h k run poll = absurd (poll refl)

-- the entries before some are as plain
plain_after : (es h : List Entry) → ArePlain (es ++ h) → ArePlain h
plain_after [] h plain = plain
plain_after (e ∷ es) h plain = plain_after es h plain.1

-- the newest entry first
turned : (before since : List Entry) (b e : Entry) → reverse (before ++ b ∷ (since ++ e ∷ [])) ≡ e ∷ (reverse since ++ b ∷ reverse before)
turned before since b e =
    reverse-append before (b ∷ (since ++ e ∷ []))
    ∙ ap (λ l. l ++ reverse before) (reverse-append (b ∷ since) (e ∷ []) ∙ ap (λ l. e ∷ l) (reverse-append (b ∷ []) since))
    ∙ ap (λ l. e ∷ l) (append_assoc (reverse since) (b ∷ []) (reverse before))

-- of what was seen of a record
pub late : (ns : List ℕ) (ss : List Sheet) (seen log : List Entry) → IsKept ns ss log → IsPrefix seen log
    → (t : ℕ) (e : Ending) (old : List Entry) → IsSet old → Spans t (end_of t e) old seen → (e ≡ EndDropped → ⊥) → e ≡ EndValue
late ns ss seen log kept pre t e old set s poll =
    let h : List Entry = reverse s.since ++ Begin t t ∷ reverse s.before in
    let is : reverse seen ≡ end_of t e ∷ h = ap reverse s.is ∙ turned s.before s.since (Begin t t) (end_of t e) in
    let run : IsRun Once most (end_of t e ∷ h) = subst (IsRun Once most) is (seen_run seen kept pre) in
    let all : ArePlain (reverse log) = log_is_plain most kept.word kept.has_put kept.slot (pages_in ss) log some kept.book in
    let plain : ArePlain (end_of t e ∷ h) = subst ArePlain is
    (plain_after (reverse pre.0) (reverse seen) (subst ArePlain (ap reverse (sym pre.1) ∙ reverse-append seen pre.0) all)) in
    let before : IsPrefix s.before log = prefix_on s.before seen log (Begin t t ∷ (s.since ++ end_of t e ∷ []), sym s.is) pre in
    let first_set : IsSet s.before = seen_set s.before kept before old s.after set in
    ends t e h (late_on t (reverse s.since) (Begin t t ∷ reverse s.before) run.1 plain.1 (late_begun t (reverse s.before) first_set)) run poll
