-- One more waker is handed out.
use Rattle.std.proofs.Common.{◌≡◌, ◌-◌, Some, cond, take, get_or, ap, ◌∙◌, rules, arith, nat_cmp}
use Rattle.std.specs.BTreeMap.{get, is_at}
use Rattle.once_judge.specs.declared.seen.Seen.{Seen as GivenSeen}
use Rattle.once_judge.specs.Shown.{count_at}
use Rattle.once_machine.specs.Numbers.{member}
use Rattle.once_judge.proofs.Taking.{times_handed_out, stamp_handed_out, stamp_within}
use Rattle.once_judge.proofs.seen.Seen.hand_out.Goals as goal

pub loop-waker-preserved : goal.loop-waker-preserved
loop-waker-preserved c =
    let X = c.args.wakers.now in
    let i = c.loop-waker.waker-index in
    let times : c.unwrap_or-times.result ≡ count_at c.loop-waker.self.times (get_or X i 0) = search rules in (
      λ w. times_handed_out c.loop-waker.self.times c.args.self.now.times c.insert.new.self X i w (omega arith) (c.loop-waker.invariant.0 w)
          (λ q. c.in_ok-insert.ensures.updates.0 q
          ∙ ap (λ n. cond (is_at (nat_cmp (get_or X i 0)) q) (Some n) (get nat_cmp c.loop-waker.self.times q)) (c.saturating_sub.ensures ∙ ap (λ n. n - 1) times)),
      λ w. stamp_handed_out c.loop-waker.self.tasks.handed c.args.self.now.tasks.handed c.hand.new.self.handed X i w c.args.number (omega arith) (c.loop-waker.invariant.1 w)
          (c.in_ok-hand.ensures.handed w),
      c.hand.ensures.all ∙ c.loop-waker.invariant.2,
      ap {A = GivenSeen} (λ k. record k { times = c.insert.new.self; tasks = c.hand.new.self; called = c.unwrap_or-self.result }) c.loop-waker.invariant.3,
    )

pub hand-requires : goal.hand-requires
hand-requires c =
    let w = get_or c.args.wakers.now c.loop-waker.waker-index 0 in record {
      later = stamp_within (member w (take c.loop-waker.waker-index c.args.wakers.now)) c.args.number (count_at c.loop-waker.self.tasks.handed w) (count_at c.args.self.now.tasks.handed w)
          (c.loop-waker.invariant.1 w) (c.requires.later w);
    }
