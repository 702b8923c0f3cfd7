-- The list has one more task if the entry makes one.
use Rattle.once_machine.specs.Shown.{entry_of}
use Rattle.once_drained.proofs.Records.{made_none, made_some}
use Rattle.once_drained.proofs.record.push_made.Goals as goal

pub returns-in_ok-push-in-Some : goal.returns-in_ok-push-in-Some
returns-in_ok-push-in-Some c = λ t before each m.
    made_some t c.in-Some.task (entry_of c.args.entry.now) before c.args.tasks.now.items c.push.new.self.items
    c.in-Some.ensures c.in_ok-push-in-Some.ensures.items each m

pub returns-in-None : goal.returns-in-None
returns-in-None c = λ t before each m. made_none t (entry_of c.args.entry.now) before c.in-None.ensures (each m)
