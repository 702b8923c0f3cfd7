-- No listing has the ticket by which to list then.
use Rattle.std.proofs.Common.{◌≡◌, ◌≤◌, ◌∙◌, length, refl, sym, arith}
use Rattle.once_machine.proofs.Listing.Tickets.{kept_none, kept_some, member_gone, take_length, take_none}
use Rattle.once_machine.specs.Listings.{take_out}
use Rattle.once_machine.specs.Room.{listings_of}
use Rattle.once_machine.proofs.waiters.Lists.ticket_to_list_by.Goals as goal

pub returns-in-Some-clause-new : goal.returns-in-Some-clause-new
returns-in-Some-clause-new g c =
    let xs = listings_of c.args.self.now in
    let taken : listings_of c.take_out.new.self ≡ take_out c.in-Some.own.ticket xs = grind arith in
    rw (c.make_room.ensures.listings, taken) (member_gone c.in-Some.own.ticket xs)

pub returns-clause-listings : goal.returns-clause-listings
returns-clause-listings g c =
    let xs = listings_of c.args.self.now in
    let same : listings_of c.reserve.new.self ≡ xs = grind arith in
    let none = take_none c.free_ticket.result (listings_of c.reserve.new.self) c.free_ticket.ensures.new in
    c.free_ticket.ensures.listings ∙ sym none ∙ rw same

pub invariant_of-self : goal.invariant_of-self
invariant_of-self g c = record { apart = rw c.make_room.ensures.listings c.take_out.new.self.apart }

pub invariant_of-self-2 : goal.invariant_of-self-2
invariant_of-self-2 g c = record { apart = rw c.free_ticket.ensures.listings c.reserve.new.self.apart }

pub returns-in-Some-clause-memory : goal.returns-in-Some-clause-memory
returns-in-Some-clause-memory g c =
    let xs = listings_of c.args.self.now in
    let taken : listings_of c.take_out.new.self ≡ take_out c.in-Some.own.ticket xs = grind arith in
    let fewer : length (listings_of c.take_out.new.self) ≤ length xs = rw taken (take_length c.in-Some.own.ticket xs) in
    omega arith

pub returns-in-Some-clause-ticket : goal.returns-in-Some-clause-ticket
returns-in-Some-clause-ticket g c =
    let own = c.in-Some.ensures.own in
    rw (own, kept_some c.in-Some.own.ticket c.in-Some.own.waker (listings_of c.args.self.now) (sym (rw own at c.in-Some.ensures.waker))) refl

pub returns-in_err-reserve-clause-refused : goal.returns-in_err-reserve-clause-refused
returns-in_err-reserve-clause-refused g c =
    let none = kept_none c.args.ticket (listings_of c.args.self.now) (sym c.in_default.ensures.waker) in
    grind arith

pub returns-clause-ticket : goal.returns-clause-ticket
returns-clause-ticket g c =
    let none = kept_none c.args.ticket (listings_of c.args.self.now) (sym c.in_default.ensures.waker) in
    grind arith
