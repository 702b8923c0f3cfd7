use Rattle.pagebook_uses.proofs.Draw.Steps.{none_yet}
use Rattle.pagebook_uses.proofs.tickets.Counter.new.Goals as goal

pub open-blanks-requires : goal.open-blanks-requires
open-blanks-requires c = none_yet
