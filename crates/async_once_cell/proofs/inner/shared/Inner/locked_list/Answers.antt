-- The listing is its line of the table.
use Rattle.std.proofs.Common.{◌∙◌, refl, ap}
use Rattle.once_machine.specs.Table.{after_list}
use Rattle.async_once_cell.specs.Inner.Ways.{next_by}
use Rattle.async_once_cell.specs.declared.inner.ways.Reached.TheVariants.{Claimed, Ready, Refused, Waits}
use Rattle.async_once_cell.proofs.Walk.Ways.{listed, rests}
use Rattle.async_once_cell.proofs.inner.shared.Inner.locked_list.Goals as goal

pub returns-in-Ready-clause-leads : goal.returns-in-Ready-clause-leads
returns-in-Ready-clause-leads g c =
    let s = c.list-answer in
    listed g.W.TaskWaker.whose c.args.ticket s.new.ticket c.args.waker s.result.0 s.new.waker (next_by Ready)
    c.requires.stands s.ensures.did (ap (λ a. after_list a tt s.new.ticket) c.in-Ready.is) refl

pub returns-in-Claimed-clause-leads : goal.returns-in-Claimed-clause-leads
returns-in-Claimed-clause-leads g c =
    let s = c.list-answer in
    listed g.W.TaskWaker.whose c.args.ticket s.new.ticket c.args.waker s.result.0 s.new.waker (next_by Claimed)
    c.requires.stands s.ensures.did (ap (λ a. after_list a tt s.new.ticket) c.in-Claimed.is) refl

pub returns-in-Memory-clause-leads : goal.returns-in-Memory-clause-leads
returns-in-Memory-clause-leads g c =
    let s = c.list-answer in
    listed g.W.TaskWaker.whose c.args.ticket s.new.ticket c.args.waker s.result.0 s.new.waker (next_by (Refused s.new.ticket))
    c.requires.stands s.ensures.did (ap (λ a. after_list a tt s.new.ticket) c.in-Memory.is) refl

pub returns-in_default : goal.returns-in_default
returns-in_default g c =
    let s = c.list-answer in
    record {
      held = (s.ensures.book ∙ c.requires.held.0, s.ensures.desk ∙ c.requires.held.1);
      leads = listed g.W.TaskWaker.whose c.args.ticket s.new.ticket c.args.waker s.result.0 s.new.waker (next_by (Waits s.new.ticket)) c.requires.stands s.ensures.did
          (rests s.result.0 s.new.ticket c.in_default.not-Ready c.in_default.not-Claimed c.in_default.not-Memory) refl;
    }
