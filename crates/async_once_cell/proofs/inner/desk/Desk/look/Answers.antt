use Rattle.async_once_cell.proofs.Desks.{in_section, look_ends}
use Rattle.async_once_cell.proofs.inner.desk.Desk.look.Goals as goal

pub invariant_of-self : goal.invariant_of-self
invariant_of-self g c =
    let whose = g.W.TaskWaker.whose in
    let s = in_section whose c.self.invariant.1 c.note.ensures.told.0 c.in-Some.is c.deref_mut-lists.ensures.value c.requires.can c.note.ensures.told.1 c.see-found.ensures.told in
    let e = c.look_own.ensures in
    (c.see-found.ensures.desk, (look_ends whose c.look_own.new.ticket c.look_own.new.self c.look_own.result.0 s e.claims e.held e.stays).0)

pub returns-clause-did : goal.returns-clause-did
returns-clause-did g c =
    let whose = g.W.TaskWaker.whose in
    let s = in_section whose c.self.invariant.1 c.note.ensures.told.0 c.in-Some.is c.deref_mut-lists.ensures.value c.requires.can c.note.ensures.told.1 c.see-found.ensures.told in
    let e = c.look_own.ensures in
    ((look_ends whose c.look_own.new.ticket c.look_own.new.self c.look_own.result.0 s e.claims e.held e.stays).1, tt)
