-- What is proved of the machine holds of the replay.
use Rattle.std.proofs.Common.{◌≡◌, ◌+◌, ◌∷◌, sym, subst, ap, ◌∙◌, arith, take}
use Rattle.std.proofs.lemmas.Grind.{common_steps}
use Rattle.once_machine.specs.Run.{AtEvery, IsRun}
use Rattle.once_machine.specs.Called.{SomebodyCalled}
use Rattle.once_machine.specs.Inputs.{FallsInto, ends_for_memory}
use Rattle.once_machine.specs.Log.{IsLogOf, IsSound, standing_queue}
use Rattle.once_machine.specs.Machine.{history_of, log_of, queue_of}
use Rattle.once_machine.specs.Shown.{record_entries, record_lines, inputs_in, input_of, kind_of}
use Rattle.once_machine.proofs.Input.Headline.{every_run, one_is_called}
use Rattle.once_machine.proofs.Law.Nobody.{nobody_forgotten}
use Rattle.once_machine.proofs.Law.Called.{waiter_called}
use Rattle.once_machine.proofs.Law.Values.{one_value}
use Rattle.once_script.proofs.Door.Logged.{log_sound, log_stands}
use Rattle.once_script.proofs.Part.Belonging.{belongs}
use Rattle.once_script.proofs.Part.Ample.{ample_memory}
use Rattle.once_script.proofs.world.replay.Goals as goal

pub loop-input-init : goal.loop-input-init
loop-input-init c = c.new-world.ensures.after

-- the inputs so far led here
pub take-requires : goal.take-requires
take-requires c = record { reached = (kind_of c.args.kind, c.args.limit, inputs_in (take c.loop-input.input-index c.args.inputs.now), c.loop-input.invariant) }

-- and the next one leads on
pub loop-input-preserved : goal.loop-input-preserved
loop-input-preserved c =
    let before = inputs_in (take c.loop-input.input-index c.args.inputs.now) in
    let same : inputs_in (take (c.loop-input.input-index + 1) c.args.inputs.now) ≡ input_of c.input-item.result ∷ before = grind (arith, common_steps, c.input-item.is) in
    rw (same) (c.in_ok-take.ensures.after (kind_of c.args.kind) c.args.limit before c.loop-input.invariant)

pub returns : goal.returns
returns c =
    let K = kind_of c.args.kind in
    let limit = c.args.limit in
    let inputs = inputs_in c.args.inputs.now in
    let some = c.requires.some in
    let exact : record_entries c.into_record.result ≡ history_of K limit inputs = grind (arith, common_steps) in
    let lines : record_lines c.into_record.result ≡ log_of K limit inputs = grind (arith, common_steps) in
    let door : c.into_record.result.queue ≡ queue_of K limit inputs = grind (arith, common_steps) in
    let run = subst (IsRun K limit) (sym exact) (every_run K limit inputs some) in
    let called = subst (AtEvery (SomebodyCalled K)) (sym exact) (one_is_called K limit inputs some) in
    let b = belongs K limit inputs some in
    record {
      exact = exact;
      exact_log = lines;
      exact_queue = door;
      run = run;
      nobody_forgotten = nobody_forgotten K limit (record_entries c.into_record.result) run;
      one_is_called = called;
      idle = waiter_called K (record_entries c.into_record.result) called;
      one_value = one_value K limit (record_entries c.into_record.result) run;
      belongs = (b.0, subst (λ h. FallsInto K inputs h b.0) (sym exact) b.1, subst (λ l. IsLogOf K l b.0) (sym lines) b.2);
      ample = λ granted t. ap (ends_for_memory t) exact ∙ ample_memory K limit inputs t some granted;
      sound = subst IsSound (sym lines) (log_sound K limit inputs some);
      stands = ap standing_queue lines ∙ log_stands K limit inputs some ∙ sym door;
    }
