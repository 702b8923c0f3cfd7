-- All listings come out, and nothing is left.
use Rattle.std.proofs.Common.{◌≡◌, [], length, refl, rules, ap, ◌∙◌, arith}
use Rattle.std.proofs.lemmas.Fn.{filter_same}
use Rattle.once_machine.proofs.slots.Slots.take_all.Goals as goal

pub invariant_of-self : goal.invariant_of-self
invariant_of-self g c =
    let none : c.replace.new.dest.items ≡ [] = ap (λ v. v.items) c.replace.ensures.after ∙ c.new.ensures.items in
    record {
      once = rw none refl;
      marks = λ n. rw (none, c.clear-2.ensures.items) refl;
      low = λ n l. absurd (omega arith);
      within = omega arith;
      counted = let empty = ap length none in omega arith;
      called = λ n l. absurd (omega arith);
    }

pub returns-clause-all : goal.returns-clause-all
returns-clause-all g c =
    let kept = filter_same _ _ _ (λ x b f' k. search rules) _ _ c.retain.ensures.filtered in
    ap (λ v. v.items) c.replace.ensures.value ∙ kept
