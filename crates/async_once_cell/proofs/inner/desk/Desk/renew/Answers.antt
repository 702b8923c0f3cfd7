-- The listing is the task's own, and its waker stays the task's.
use Rattle.std.proofs.Common.{sym, subst}
use Rattle.async_once_cell.specs.Inner.Desk.{Desked, desked}
use Rattle.async_once_cell.specs.Inner.Hands.{own_of}
use Rattle.async_once_cell.specs.Inner.Sections.{IsOwnListing}
use Rattle.async_once_cell.proofs.Desks.{found_shown, renew_fits, renew_own}
use Rattle.async_once_cell.proofs.inner.desk.Desk.renew.Goals as goal

pub invariant_of-self-2 : goal.invariant_of-self-2
invariant_of-self-2 g c =
    let whose = g.W.TaskWaker.whose in
    let fits = found_shown whose c.self.invariant.1 c.note.ensures.told.0 c.in-Some.is c.deref_mut-lists.ensures.value in (
      c.note.ensures.desk,
      renew_fits whose c.deref_mut-lists.result.now (desked c.note.new.desk.held) fits g.N.Renews.renewed c.requires.owner
          c.args.ticket _ _ c.renew.new.self c.renew.result c.renew.ensures.renewed (λ f. (c.renew.ensures.not f).0) c.renew.ensures.head,
    )

pub returns-clause-renewed : goal.returns-clause-renewed
returns-clause-renewed g c = λ r.
    let whose = g.W.TaskWaker.whose in
    let fits = found_shown whose c.self.invariant.1 c.note.ensures.told.0 c.in-Some.is c.deref_mut-lists.ensures.value in
    let t = (own_of c.args.hand.now).number in
    let own = subst (λ (e : Desked). IsOwnListing c.args.ticket t e.listings) (sym c.note.ensures.told.0) c.note.ensures.told.2 in
    renew_own whose c.deref_mut-lists.result.now (desked c.note.new.desk.held) fits g.N.Renews.renewed c.args.ticket t _ _ c.renew.new.self own (c.renew.ensures.renewed r)
