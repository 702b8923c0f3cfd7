use Rattle.async_once_cell.proofs.Desks.{in_section, release_ends}
use Rattle.async_once_cell.proofs.inner.desk.Desk.release.Goals as goal

pub invariant_of-self : goal.invariant_of-self
invariant_of-self g c =
    let whose = g.W.TaskWaker.whose in
    let s = in_section whose c.self.invariant.1 c.note.ensures.told.0 c.in-Some.is c.deref_mut-lists.ensures.value c.requires.can c.note.ensures.told.1 c.mark_release.ensures.told.1 in
    let e = c.release.ensures in
    (c.mark_release.ensures.desk, (release_ends whose _ g.W.WakerId.tells_other g.met.W.TaskWaker.apart c.release.new.self c.release.result s e.listings e.head).0)

pub returns-clause-did : goal.returns-clause-did
returns-clause-did g c =
    let whose = g.W.TaskWaker.whose in
    let s = in_section whose c.self.invariant.1 c.note.ensures.told.0 c.in-Some.is c.deref_mut-lists.ensures.value c.requires.can c.note.ensures.told.1 c.mark_release.ensures.told.1 in
    let e = c.release.ensures in
    ((release_ends whose _ g.W.WakerId.tells_other g.met.W.TaskWaker.apart c.release.new.self c.release.result s e.listings e.head).1, tt)
