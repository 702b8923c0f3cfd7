use Rattle.std.proofs.Common.{◌==◌, map, length, arith}
use Rattle.std.proofs.lemmas.List.{map-append}
use Rattle.std.proofs.lemmas.Iterator.Consumers.{YieldsList-turn, YieldsList-end}
use Rattle.std.proofs.lemmas.Iterator.Splits.{YieldsList-from_str_split}
use Rattle.std.specs.List.{slice_split}
use Rattle.once_script.proofs.ListLemmas.{AreListed-push, listed_field}
use Rattle.once_script.proofs.parse.answers.parse_answers.Goals as goal

pub returns-in_default-clause-all : goal.returns-in_default-clause-all
returns-in_default-clause-all c = λ answers h.
    let s = c.split-field-items.ensures in
    let t = YieldsList-turn
    (YieldsList-from_str_split 32 c.args.text.now (omega arith) (rw c.into_iter-field-iterator.ensures.into_iter_gives s.text)
    (rw c.into_iter-field-iterator.ensures.into_iter_gives s.has_more) (rw c.into_iter-field-iterator.ensures.into_iter_gives s.pattern))
    c.loop-field.yielded _ c.loop-field.yielded_by _ _ c.in-Some.field c.in-Some.is c.next.ensures.steps in
    let l = listed_field answers (slice_split (λ c. c == 32) c.args.text.now) (length c.loop-field.yielded) c.in-Some.field.now h t.0 t.1 in
    absurd (c.in_default.ensures l.0 l.1)

pub loop-field-preserved : goal.loop-field-preserved
loop-field-preserved c =
    rw (c.in_ok-push.ensures.items, map-append)
    (AreListed-push c.loop-field.answers.items (map (λ field. field.now) c.loop-field.yielded) c.in-Some-parse_listed.answer c.in-Some.field.now
    c.loop-field.invariant c.in-Some-parse_listed.ensures)

pub returns-clause-read : goal.returns-clause-read
returns-clause-read c =
    let s = c.split-field-items.ensures in
    let t = YieldsList-end
    (YieldsList-from_str_split 32 c.args.text.now (omega arith) (rw c.into_iter-field-iterator.ensures.into_iter_gives s.text)
    (rw c.into_iter-field-iterator.ensures.into_iter_gives s.has_more) (rw c.into_iter-field-iterator.ensures.into_iter_gives s.pattern))
    c.loop-field.yielded _ c.loop-field.yielded_by _ _ c.in-None.is c.next.ensures.steps in
    rw (← t.0) c.loop-field.invariant
