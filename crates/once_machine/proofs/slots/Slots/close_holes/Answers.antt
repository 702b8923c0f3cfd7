-- The listings are kept, and the holes are not.
use Rattle.std.proofs.Common.{◌≡◌, filter, length, ap, rules, arith}
use Rattle.std.proofs.lemmas.Fn.{filter_same}
use Rattle.once_machine.proofs.Listing.Kept.{kept_again}
use Rattle.once_machine.specs.Kept.{is_kept}
use Rattle.once_machine.proofs.slots.Slots.close_holes.Goals as goal

pub invariant_of-self : goal.invariant_of-self
invariant_of-self g c =
    let slots = c.args.self.now in
    let kept : c.retain.new.self.items ≡ filter is_kept slots.slots.items = filter_same _ _ _ (λ x b f' k. search rules) _ _ c.retain.ensures.filtered in
    let again = kept_again is_kept slots.slots.items in
    record {
      once = rw (kept, again) slots.once;
      marks = λ n. rw (kept, again) (slots.marks n);
      low = slots.low;
      within = omega arith;
      counted =
          let same : length (filter is_kept c.retain.new.self.items) ≡ length c.retain.new.self.items = rw kept (ap length again) in
          omega arith;
      called = λ n l. absurd (omega arith);
    }

pub returns-clause-slots : goal.returns-clause-slots
returns-clause-slots g c = filter_same _ _ _ (λ x b f' k. search rules) _ _ c.retain.ensures.filtered

pub returns-clause-listings : goal.returns-clause-listings
returns-clause-listings g c =
    let xs = c.args.self.now.slots.items in
    let kept : c.retain.new.self.items ≡ filter is_kept xs = filter_same _ _ _ (λ x b f' k. search rules) _ _ c.retain.ensures.filtered in
    rw kept (kept_again is_kept xs)
