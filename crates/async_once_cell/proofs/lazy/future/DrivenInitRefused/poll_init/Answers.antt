use Rattle.async_once_cell.proofs.lazy.future.DrivenInitRefused.poll_init.Goals as goal

-- what is left of the future gives no other value than before
pub invariant_of-kept : goal.invariant_of-kept
invariant_of-kept g c v may_give = c.future.invariant v (c.poll_init-polled.ensures.same_values v may_give)
