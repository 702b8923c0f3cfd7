use Rattle.once_machine.proofs.Law.Passed.{passed_to_one, passed_once, passed_unclaimed, passed_refused, passer_gone}
use Rattle.once_machine.proofs.laws.leaver_passes_its_turn_on.Goals as goal

pub returns : goal.returns
returns c = record { to_one = passed_to_one; once = passed_once; unclaimed = passed_unclaimed; refused = passed_refused; leaves = passer_gone }
