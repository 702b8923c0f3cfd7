-- The load is its line of the table. If the word is not ready, the look follows.
use Rattle.std.proofs.Common.{◌≡◌, true, false, None, refl, sym, ap, ◌∙◌}
use Rattle.once_machine.specs.Word.{Flags, flags_of}
use Rattle.once_machine.specs.Table.{after_load, next_at}
use Rattle.once_machine.specs.declared.step.Place.TheVariants.{Look as AtLook}
use Rattle.async_once_cell.specs.Inner.Ways.{next_by}
use Rattle.async_once_cell.specs.declared.inner.ways.Reached.TheVariants.{Ready}
use Rattle.async_once_cell.proofs.Walk.Ways.{loaded, onward}
use Rattle.async_once_cell.proofs.inner.shared.Inner.locked_wait_load.Goals as goal

pub returns-then-is_ready-clause-leads : goal.returns-then-is_ready-clause-leads
returns-then-is_ready-clause-leads g c =
    let word = flags_of c.loaded.result in
    let ready : word.ready ≡ true = ap (λ (w : Flags). w.ready) (sym c.from_bits.ensures) ∙ sym c.is_ready.ensures ∙ c.if-is_ready.true in
    loaded g.W.TaskWaker.whose None word (next_by Ready) c.requires.stands c.loaded.ensures.did (ap (λ b. after_load b tt None) ready) refl

pub locked_look-requires-clause-stands : goal.locked_look-requires-clause-stands
locked_look-requires-clause-stands g c =
    let word = flags_of c.loaded.result in
    let unset : word.ready ≡ false = ap (λ (w : Flags). w.ready) (sym c.from_bits.ensures) ∙ sym c.is_ready.ensures ∙ c.if-is_ready.false in
    (loaded g.W.TaskWaker.whose None word (next_at (AtLook tt None)) c.requires.stands c.loaded.ensures.did (ap (λ b. after_load b tt None) unset) refl).stands

pub returns-clause-leads : goal.returns-clause-leads
returns-clause-leads g c =
    let word = flags_of c.loaded.result in
    let unset : word.ready ≡ false = ap (λ (w : Flags). w.ready) (sym c.from_bits.ensures) ∙ sym c.is_ready.ensures ∙ c.if-is_ready.false in
    onward g.W.TaskWaker.whose
    (loaded g.W.TaskWaker.whose None word (next_at (AtLook tt None)) c.requires.stands c.loaded.ensures.did (ap (λ b. after_load b tt None) unset) refl)
    c.locked_look.ensures.leads
