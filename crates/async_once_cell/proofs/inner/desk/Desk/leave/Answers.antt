use Rattle.async_once_cell.proofs.Desks.{in_section, leave_ends}
use Rattle.async_once_cell.proofs.inner.desk.Desk.leave.Goals as goal

pub invariant_of-self : goal.invariant_of-self
invariant_of-self g c =
    let whose = g.W.TaskWaker.whose in
    let s = in_section whose c.self.invariant.1 c.note.ensures.told.0 c.in-Some.is c.deref_mut-lists.ensures.value c.requires.can c.note.ensures.told.1 c.see-found.ensures.told in
    let e = c.leave.ensures in
    (c.see-found.ensures.desk, (leave_ends whose c.leave.new.self s e.waker e.listings e.head).0)

pub returns-clause-did : goal.returns-clause-did
returns-clause-did g c =
    let whose = g.W.TaskWaker.whose in
    let s = in_section whose c.self.invariant.1 c.note.ensures.told.0 c.in-Some.is c.deref_mut-lists.ensures.value c.requires.can c.note.ensures.told.1 c.see-found.ensures.told in
    let e = c.leave.ensures in
    let ends = leave_ends whose c.leave.new.self s e.waker e.listings e.head in
    (ends.1, ends.2)
