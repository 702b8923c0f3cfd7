use Rattle.once_machine.specs.Called.{SomebodyCalled}
use Rattle.once_machine.proofs.Law.GoesOn.{at_the_newest, goes_on}
use Rattle.once_machine.proofs.laws.somebody_goes_on.Goals as goal

pub returns : goal.returns
returns c = record {
  called = λ kind limit u h r called s. goes_on kind limit u h r called s;
  promised = λ kind limit u h r promised s. goes_on kind limit u h r (at_the_newest (SomebodyCalled kind) h promised) s;
}
