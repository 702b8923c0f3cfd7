-- Lists of answers that are equal.
use Rattle.std.proofs.Common.{◌≡◌, ◌-◌, length, take, drop, sym, ap, ◌∙◌, arith}
use Rattle.std.proofs.lemmas.List.{take_all, length-drop}
use Rattle.std.proofs.lemmas.Slice.Eq.{slice_eq-Decides}
use Rattle.once_judge.proofs.Lists.{answers_decide}
use Rattle.once_judge.proofs.seen.Seen.are_left.Goals as goal

pub returns-then-self-len : goal.returns-then-self-len
returns-then-self-len c =
    let l = c.args.self.now.answers.items in
    let d = slice_eq-Decides answers_decide c.args.answers.now _ c.eq.result c.eq.ensures in
    let e : take (length c.deref.result.now - c.args.self.now.used) (drop c.args.self.now.used c.deref.result.now) ≡ drop c.args.self.now.used l =
    take_all (length c.deref.result.now - c.args.self.now.used) (drop c.args.self.now.used c.deref.result.now)
    (let k = length-drop c.args.self.now.used c.deref.result.now in omega arith) ∙ ap (drop c.args.self.now.used) c.deref.ensures.value in
    (λ r. d.0 r ∙ e, λ r. d.1 (r ∙ sym e))
