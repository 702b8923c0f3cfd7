-- Counting in is its line of the table. A task that is counted loads the word next, unless it found the value set.
use Rattle.std.proofs.Common.{◌≡◌, ℕ, true, false, None, refl, sym, ap, ◌∙◌}
use Rattle.std.specs.Prelude.{⊤}
use Rattle.once_machine.specs.Word.{Flags, flags_of}
use Rattle.once_machine.specs.Table.{Next, after_count_in, counted, finds_ready, is_in, next_at}
use Rattle.once_machine.specs.declared.parts.Counted.{Counted}
use Rattle.once_machine.specs.declared.step.Ending.TheVariants.{Full, Value}
use Rattle.once_machine.specs.declared.step.Place.TheVariants.{CountIn as AtCountIn, WaitLoad as AtWaitLoad}
use Rattle.once_machine.specs.declared.step.Progress.TheVariants.{More}
use Rattle.once_machine.specs.declared.step.Step.TheVariants.{UnderWay}
use Rattle.async_once_cell.specs.Inner.Own.{Own}
use Rattle.async_once_cell.specs.Inner.Parts.{DidCall}
use Rattle.async_once_cell.specs.Inner.Sides.{Sided}
use Rattle.async_once_cell.specs.Inner.Ways.{Leads, closed_if, next_by}
use Rattle.async_once_cell.specs.Walks.{Stands}
use Rattle.async_once_cell.specs.declared.inner.ways.Reached.TheVariants.{Ended, Ready}
use Rattle.async_once_cell.proofs.Walk.Ways.{led, onward}
use Rattle.async_once_cell.proofs.inner.shared.Inner.locked_count_in.Goals as goal

counts : {W : Type 0} (whose : W → ℕ) {x : Sided} {v w : Own} (r : Counted) (n : Next W ⊤) → Stands whose false x v More (UnderWay (AtCountIn tt))
    → DidCall whose v (counted r) w → after_count_in (is_in r) (finds_ready r) tt ≡ n → Leads whose x v n.progress n.step (closed_if n.closes x) w
counts whose r n is did leads = led whose (AtCountIn tt) (counted r) n refl refl (is_in r, finds_ready r, refl) is did leads refl

pub returns-in-In-clause-leads : goal.returns-in-In-clause-leads
returns-in-In-clause-leads g c =
    let ready : (flags_of c.in-In.word).ready ≡ true = ap (λ (w : Flags). w.ready) (sym c.from_bits.ensures) ∙ sym c.is_ready.ensures ∙ c.if-is_ready.true in
    counts g.W.TaskWaker.whose c.counted.result (next_by Ready) c.requires.stands c.counted.ensures.did
    (ap (λ r. after_count_in (is_in r) (finds_ready r) tt) c.in-In.is ∙ ap (λ b. after_count_in true b tt) ready)

pub returns-in-Full-clause-leads : goal.returns-in-Full-clause-leads
returns-in-Full-clause-leads g c =
    counts g.W.TaskWaker.whose c.counted.result (next_by (Ended Full)) c.requires.stands c.counted.ensures.did
    (ap (λ r. after_count_in (is_in r) (finds_ready r) tt) c.in-Full.is)

pub returns-in-SeenReady-clause-leads : goal.returns-in-SeenReady-clause-leads
returns-in-SeenReady-clause-leads g c =
    counts g.W.TaskWaker.whose c.counted.result (next_by (Ended Value)) c.requires.stands c.counted.ensures.did
    (ap (λ r. after_count_in (is_in r) (finds_ready r) tt) c.in-SeenReady.is)

pub locked_wait_load-requires-clause-stands : goal.locked_wait_load-requires-clause-stands
locked_wait_load-requires-clause-stands g c =
    let unset : (flags_of c.in-In.word).ready ≡ false = ap (λ (w : Flags). w.ready) (sym c.from_bits.ensures) ∙ sym c.is_ready.ensures ∙ c.if-is_ready.false in
    (counts g.W.TaskWaker.whose c.counted.result (next_at (AtWaitLoad tt None)) c.requires.stands c.counted.ensures.did
    (ap (λ r. after_count_in (is_in r) (finds_ready r) tt) c.in-In.is ∙ ap (λ b. after_count_in true b tt) unset)).stands

pub returns-in-In-2-clause-leads : goal.returns-in-In-2-clause-leads
returns-in-In-2-clause-leads g c =
    let unset : (flags_of c.in-In.word).ready ≡ false = ap (λ (w : Flags). w.ready) (sym c.from_bits.ensures) ∙ sym c.is_ready.ensures ∙ c.if-is_ready.false in
    onward g.W.TaskWaker.whose
    (counts g.W.TaskWaker.whose c.counted.result (next_at (AtWaitLoad tt None)) c.requires.stands c.counted.ensures.did
    (ap (λ r. after_count_in (is_in r) (finds_ready r) tt) c.in-In.is ∙ ap (λ b. after_count_in true b tt) unset))
    c.locked_wait_load.ensures.leads
