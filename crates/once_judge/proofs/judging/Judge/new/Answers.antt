-- Nothing was taken yet.
use Rattle.std.proofs.Common.{length, sym, ap, ◌∙◌, subst}
use Rattle.once_machine.specs.Shown.{kind_of}
use Rattle.once_judge.specs.Seen.{Seen}
use Rattle.once_judge.specs.Shown.{Within}
use Rattle.once_judge.proofs.Within.{within_nothing}
use Rattle.once_judge.proofs.judging.Judge.new.Goals as goal

pub invariant_of-result : goal.invariant_of-result
invariant_of-result c = record {
  within = subst Within (sym c.in_ok-new.ensures.seen) (within_nothing (kind_of c.args.kind.now));
  counts = ap (λ (S : Seen). S.now) c.in_ok-new.ensures.seen ∙ sym (ap length c.new-2.ensures.items);
}
