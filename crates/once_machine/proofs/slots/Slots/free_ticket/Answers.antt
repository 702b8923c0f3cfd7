-- The first number that is not marked is the least that is no ticket.
use Rattle.std.proofs.Common.{sym, ◌∙◌, arith}
use Rattle.once_machine.proofs.Listing.Marked.{marked_below}
use Rattle.once_machine.proofs.Listing.Least.{least_alone}
use Rattle.once_machine.specs.Listings.{tickets}
use Rattle.once_machine.specs.Slots.{listings_in}
use Rattle.once_machine.proofs.slots.Slots.free_ticket.Goals as goal

pub returns-clause-least : goal.returns-clause-least
returns-clause-least g c =
    let slots = c.args.self.now in
    let first = rw c.deref.ensures.value at c.first_unmarked-self.ensures.first in
    let before = rw c.deref.ensures.value at c.first_unmarked-self.ensures.before in
    least_alone c.first_unmarked-self.result (tickets (listings_in slots)) (sym (slots.marks c.first_unmarked-self.result) ∙ first) (λ m l. sym (slots.marks m) ∙ before m l)

pub returns-clause-mark : goal.returns-clause-mark
returns-clause-mark g c =
    let within = marked_below c.first_unmarked-self.result c.args.self.now.used.items (rw c.deref.ensures.value at c.first_unmarked-self.ensures.before) in
    omega arith
