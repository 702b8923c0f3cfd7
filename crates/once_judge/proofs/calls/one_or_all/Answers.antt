-- Each run does what its rule asks, and is a run by the other if it does what that one asks.
use Rattle.once_judge.proofs.Either.{run_one, run_all, to_one, to_all}
use Rattle.once_judge.proofs.calls.one_or_all.Goals as goal

pub returns : goal.returns
returns c = record { one = run_one; all = run_all; to_one = to_one; to_all = to_all }
