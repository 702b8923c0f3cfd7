-- One entry more was taken.
use Rattle.std.proofs.Common.{None, sym, ap, ◌∙◌, subst, arith}
use Rattle.std.proofs.lemmas.Grind.{common_steps}
use Rattle.once_machine.specs.Shown.{entry_of}
use Rattle.once_judge.specs.Seen.{Seen}
use Rattle.once_judge.specs.Shown.{Within, seen_of}
use Rattle.once_judge.specs.Next.{Followed}
use Rattle.once_judge.proofs.Within.{within_after}
use Rattle.once_judge.proofs.judging.Judge.take.Goals as goal

pub invariant_of-self : goal.invariant_of-self
invariant_of-self c =
    let S = seen_of c.args.self.seen in
    let told : Followed None c.args.self.seen.rules (entry_of c.args.entry) S (seen_of c.follow.new.self) = rw c.in-None.is at c.in_ok-refused.ensures.followed in
    let counts = c.args.self.counts in
    let items = c.in_ok-push-in-None.ensures.items in record {
      within = subst Within (sym told.1) (within_after c.args.self.seen.rules.limit (entry_of c.args.entry) S c.args.self.within);
      counts = ap (λ (S : Seen). S.now) told.1 ∙ (grind (arith, common_steps));
    }
