-- A ticket has a listing if one is found.
use Rattle.std.proofs.Common.{◌∙◌}
use Rattle.std.specs.Option.{option_copied}
use Rattle.once_machine.proofs.Listing.Tickets.{found_kept, mapped_some}
use Rattle.once_machine.specs.Room.{listings_of}
use Rattle.once_machine.proofs.waiters.Lists.is_listed.Goals as goal

pub returns-in-Some : goal.returns-in-Some
returns-in-Some g c = rw c.in-Some.is (c.is_some.ensures ∙ mapped_some (λ x. x.now) c.find.result
    ∙ found_kept c.in-Some.ticket (option_copied c.find.result) (listings_of c.args.self.now) c.find.ensures)
