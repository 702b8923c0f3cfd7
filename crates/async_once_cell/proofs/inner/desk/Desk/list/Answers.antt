use Rattle.std.proofs.Common.{◌≡◌, true, false, sym, ◌∙◌, inl, inr, ⊎_elim, ap}
use Rattle.std.specs.Option.{is_some}
use Rattle.once_machine.specs.Listings.{kept_ticket}
use Rattle.async_once_cell.proofs.Desks.{in_section, list_ends, refusal_ends, roomed}
use Rattle.async_once_cell.proofs.inner.desk.Desk.list.Goals as goal

pub invariant_of-self : goal.invariant_of-self
invariant_of-self g c =
    let whose = g.W.TaskWaker.whose in
    let yes : c.room_for-room.result ≡ true = sym c.is_there-has_room.ensures ∙ c.if-has_room.true in
    let r = c.room_for-room.ensures in
    let s = roomed whose c.room_for-room.new.lists r.head r.listings yes
    (in_section whose c.self.invariant.1 c.note.ensures.told.0 c.in-Some.is c.deref_mut-lists.ensures.value c.requires.can c.note.ensures.told.1 c.see-found.ensures.told) in
    let e = c.list.ensures in (
      c.see-found.ensures.desk,
      (list_ends whose c.args.waker.now c.list.new.waker c.list.new.ticket c.list.new.self c.list.result.0 c.requires.can s
          (⊎_elim inl (λ h. inr (e.room h)) (r.room yes)) e.claims e.held e.head).0,
    )

pub returns-then-has_room-clause-did : goal.returns-then-has_room-clause-did
returns-then-has_room-clause-did g c =
    let whose = g.W.TaskWaker.whose in
    let yes : c.room_for-room.result ≡ true = sym c.is_there-has_room.ensures ∙ c.if-has_room.true in
    let r = c.room_for-room.ensures in
    let s = roomed whose c.room_for-room.new.lists r.head r.listings yes
    (in_section whose c.self.invariant.1 c.note.ensures.told.0 c.in-Some.is c.deref_mut-lists.ensures.value c.requires.can c.note.ensures.told.1 c.see-found.ensures.told) in
    let e = c.list.ensures in (
      (list_ends whose c.args.waker.now c.list.new.waker c.list.new.ticket c.list.new.self c.list.result.0 c.requires.can s
          (⊎_elim inl (λ h. inr (e.room h)) (r.room yes)) e.claims e.held e.head).1,
      tt,
    )

pub invariant_of-self-2 : goal.invariant_of-self-2
invariant_of-self-2 g c =
    let whose = g.W.TaskWaker.whose in
    let no : c.room_for-room.result ≡ false = sym c.is_there-has_room.ensures ∙ c.if-has_room.false in
    let r = c.room_for-room.ensures in
    let s = roomed whose c.room_for-room.new.lists r.head r.listings no
    (in_section whose c.self.invariant.1 c.note.ensures.told.0 c.in-Some.is c.deref_mut-lists.ensures.value c.requires.can c.note.ensures.told.1 c.see-found.ensures.told) in
    let e = c.list_without_room.ensures in (
      c.see-found.ensures.desk,
      (refusal_ends whose c.args.waker.now c.list_without_room.new.ticket c.list_without_room.new.lists c.list_without_room.result c.requires.can s
          (ap (λ xs. is_some (kept_ticket c.args.ticket.now xs)) r.listings ∙ r.none no) e.claims e.memory e.stays).0,
    )

pub returns-clause-did : goal.returns-clause-did
returns-clause-did g c =
    let whose = g.W.TaskWaker.whose in
    let no : c.room_for-room.result ≡ false = sym c.is_there-has_room.ensures ∙ c.if-has_room.false in
    let r = c.room_for-room.ensures in
    let s = roomed whose c.room_for-room.new.lists r.head r.listings no
    (in_section whose c.self.invariant.1 c.note.ensures.told.0 c.in-Some.is c.deref_mut-lists.ensures.value c.requires.can c.note.ensures.told.1 c.see-found.ensures.told) in
    let e = c.list_without_room.ensures in (
      (refusal_ends whose c.args.waker.now c.list_without_room.new.ticket c.list_without_room.new.lists c.list_without_room.result c.requires.can s
          (ap (λ xs. is_some (kept_ticket c.args.ticket.now xs)) r.listings ∙ r.none no) e.claims e.memory e.stays).1,
      tt,
    )
