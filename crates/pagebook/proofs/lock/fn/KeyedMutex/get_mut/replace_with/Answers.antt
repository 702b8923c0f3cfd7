use Rattle.std.proofs.Common.{◌∙◌}
use Rattle.pagebook.proofs.lock.fn.KeyedMutex.get_mut.replace_with.Goals as goal

-- what was handed out has the lock's key, and so has what comes back
pub returns : goal.returns
returns g c =
    let value = c.into_inner.result in
    let key = c.into_inner.ensures in
    let change = c.change-value in (
      c.new.ensures ∙ c.requires.keeps value change.result key change.ensures,
      (value, change.result.0, key, change.ensures),
    )
