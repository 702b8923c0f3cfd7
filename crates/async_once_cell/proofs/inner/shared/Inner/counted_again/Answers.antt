-- A task that was not counted in for another's sake stands where it stood, now as before.
use Rattle.std.proofs.Common.{◌≡◌, ℕ, rules, [], ◌∙◌, subst}
use Rattle.once_machine.specs.Table.{counted}
use Rattle.async_once_cell.specs.Kept.{entries_of}
use Rattle.async_once_cell.specs.Inner.Own.{Own, Stayed}
use Rattle.async_once_cell.proofs.Desks.{prefix_on, went_after}
use Rattle.async_once_cell.proofs.inner.shared.Inner.counted_again.Goals as goal

-- a task that stood still twice stood still
stayed_on : (x y z : Own) → Stayed x y → Stayed y z → Stayed x z
stayed_on x y z s t = record {
  number = t.number ∙ s.number;
  task = t.task ∙ s.task;
  log = prefix_on x.log y.log z.log s.log t.log;
  mine = subst (λ (n : ℕ). entries_of n z.log ≡ entries_of n y.log) s.number t.mine ∙ s.mine;
}

pub loop-preserved : goal.loop-preserved
loop-preserved g c =
    let before = c.loop.invariant.3 in
    let after = c.in_default.ensures.did in (
      search rules,
      search rules,
      search rules,
      stayed_on _ _ _ before after,
    )

pub returns-in-Some-try_count_in : goal.returns-in-Some-try_count_in
returns-in-Some-try_count_in g c =
    record {
      book = search rules;
      did = went_after (counted c.in-Some-try_count_in.counted) [] _ _ _ c.loop.invariant.3 c.in-Some-try_count_in.ensures.did;
    }
