-- An entry is taken in four parts.
use Rattle.std.proofs.Common.{◌≡◌, ◌+◌, ◌-◌, suc, cond, ap, ◌∙◌, arith}
use Rattle.once_machine.specs.Numbers.{member, times_in}
use Rattle.once_machine.specs.Shown.{entry_of}
use Rattle.once_machine.specs.Record.{handed_by}
use Rattle.once_judge.specs.Seen.{task_of}
use Rattle.once_judge.specs.Shown.{seen_of, count_at, task_at, tasked_by, handed_out, celled, noted}
use Rattle.once_judge.proofs.Taking.{same_seen, parts_are, parts_handed}
use Rattle.once_judge.proofs.seen.Seen.take.Goals as goal

pub returns-clause-seen : goal.returns-clause-seen
returns-clause-seen c =
    let S = seen_of c.args.self.now in
    let e = entry_of c.args.entry.now in
    let limit = c.args.self.now.rules.limit in
    let T = c.take_its_task.new.self in
    let H = c.hand_out.new.self in
    let C = c.take_cell.new.self in
    let X = c.handed_by.result.now in
    let wakers : X ≡ handed_by e = c.handed_by.ensures in
    let r = c.in_ok-hand_out.ensures.rest in
    let handed : seen_of H ≡ handed_out (handed_by e) (c.args.self.now.entries + 1) (seen_of T) =
    same_seen (handed_out (handed_by e) (c.args.self.now.entries + 1) (seen_of T)) (seen_of H)
    (ap (λ k. k.entries) r) (ap (λ k. (seen_of k).cell) r) (ap (λ k. (seen_of k).answers) r)
    (λ t. ap (λ m. task_at m H.gone t) c.hand_out.ensures.all ∙ ap (λ g. task_at T.tasks.all g t) (ap (λ k. k.gone) r))
    (λ w. c.in_ok-hand_out.ensures.times w ∙ ap (λ Y. count_at T.times w - times_in w Y) wakers)
    (λ w. c.in_ok-hand_out.ensures.handed w ∙ ap (λ Y. cond (member w Y) (c.args.self.now.entries + 1) (count_at T.tasks.handed w)) wakers)
    (ap (λ k. k.about) r) (ap (λ k. k.acting) r) (ap (λ k. k.crowded_at) r) (ap (λ k. k.acting_at) r)
    (ap (λ k. k.holder) r) (ap (λ k. k.held_at) r) (ap (λ k. k.other_held_at) r) in
    let one : c.args.self.now.entries + 1 ≡ suc S.now = omega arith in
    let limits : C.rules.limit ≡ limit = ap (λ k. k.limit) (c.in_ok-take_cell.ensures.rules ∙ ap (λ k. k.rules) r ∙ c.in_ok-take_its_task.ensures.rules) in
    let n = c.args.self.now.entries + 1 in
    c.settle.ensures.seen ∙ c.note.ensures.seen ∙ ap (λ m. noted m n (seen_of C)) limits ∙ ap (noted limit n) c.in_ok-take_cell.ensures.seen
    ∙ ap (λ s. noted limit n (celled e s)) handed ∙ ap (λ s. noted limit n (celled e (handed_out (handed_by e) n s))) c.in_ok-take_its_task.ensures.seen
    ∙ ap (λ m. noted limit m (celled e (handed_out (handed_by e) m (tasked_by (task_of e) e S)))) one ∙ parts_are limit e S

-- no waker was handed out later
pub hand_out-requires : goal.hand_out-requires
hand_out-requires c = record {
  later = λ w.
      let same = ap (λ s. s.handed w) c.in_ok-take_its_task.ensures.seen ∙ parts_handed (seen_of c.args.self.now) (entry_of c.args.entry.now) w (task_of (entry_of c.args.entry.now)) in
      let before = c.requires.within.handed w in
      omega arith;
}
