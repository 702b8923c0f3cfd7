-- What an entry changes of its task.
use Rattle.std.proofs.Common.{◌≡◌, suc, cond, ◌==◌, ap, ◌∙◌}
use Rattle.std.proofs.lemmas.Result.{on_ok_weaker}
use Rattle.once_machine.specs.Shown.{entry_of}
use Rattle.once_machine.specs.Tasks.{is_under_way}
use Rattle.once_machine.specs.Refusals.{is_about}
use Rattle.once_judge.specs.Seen.{moved, counted}
use Rattle.once_judge.specs.Shown.{seen_of, task_in, task_at, count_at}
use Rattle.once_judge.proofs.Taking.{tasked_is}
use Rattle.once_judge.proofs.Entries.{moved_gone}
use Rattle.once_judge.proofs.seen.Seen.take_task.Goals as goal

pub returns-clause-seen : goal.returns-clause-seen
returns-clause-seen c =
    let S = seen_of c.args.self.now in
    let x = task_in c.task-old.result in
    let y = task_in c.moved-new.result in
    let e = entry_of c.args.entry.now in
    let r = c.put.ensures.rest in
    let o = c.in_ok-open.ensures.rest in
    let new : y ≡ moved e S.cell (suc S.now) x = c.moved-new.ensures ∙ ap (λ n. moved e S.cell n x) c.requires.next in
    let about : c.put.new.self.about ≡ counted S.about (is_about x.status) (is_about y.status) =
    ap (λ k. k.about) r ∙ ap (λ k. k.about) o ∙ c.counted-self.ensures
    ∙ ap (λ b. counted S.about b c.is_about-2.result) c.is_about.ensures ∙ ap (counted S.about (is_about x.status)) c.is_about-2.ensures in
    let acting : c.put.new.self.acting ≡ counted S.acting (is_under_way x.status) (is_under_way y.status) =
    ap (λ k. k.acting) r ∙ ap (λ k. k.acting) o ∙ c.counted-self-2.ensures
    ∙ ap (λ b. counted S.acting b c.is_under_way-2.result) c.is_under_way.ensures ∙ ap (counted S.acting (is_under_way x.status)) c.is_under_way-2.ensures in
    on_ok_weaker c.put.result
    (λ h. tasked_is S (seen_of c.put.new.self) e c.args.t x y c.opens-opens.result c.requires.its c.task-old.ensures new c.opens-opens.ensures
    (ap (λ k. k.entries) r ∙ ap (λ k. k.entries) o)
    (ap (λ k. (seen_of k).cell) r ∙ ap (λ k. (seen_of k).cell) o)
    (ap (λ k. (seen_of k).answers) r ∙ ap (λ k. (seen_of k).answers) o)
    (λ u. h u ∙ ap (λ k. cond (c.args.t == u) y (task_at k.tasks.all k.gone u)) o)
    (λ w. ap (λ k. count_at k.times w) r ∙ c.in_ok-open.ensures.times w)
    (λ w. ap (λ m. count_at m w) c.put.ensures.handed ∙ ap (λ k. count_at k.tasks.handed w) o)
    about acting
    (ap (λ k. k.crowded_at) r ∙ ap (λ k. k.crowded_at) o)
    (ap (λ k. k.acting_at) r ∙ ap (λ k. k.acting_at) o)
    (ap (λ k. k.holder) r ∙ ap (λ k. k.holder) o)
    (ap (λ k. k.held_at) r ∙ ap (λ k. k.held_at) o)
    (ap (λ k. k.other_held_at) r ∙ ap (λ k. k.other_held_at) o))
    c.put.ensures.task

pub put-requires : goal.put-requires
put-requires c =
    let S = seen_of c.args.self.now in
    record { settled = moved_gone (entry_of c.args.entry.now) S.cell c.args.number (task_in c.task-old.result) (task_in c.moved-new.result) c.moved-new.ensures }
