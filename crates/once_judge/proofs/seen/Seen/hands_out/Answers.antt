-- Each waker is new and open; and then each that is due stands among them.
use Rattle.std.proofs.Common.{◌≡◌, ◌≤◌, ◌<◌, ◌+◌, ℕ, Bool, true, false, cond, ◌==◌, List, length, take, get_or, refl, sym, ap, ◌∙◌, subst, arith, nat_cmp}
use Rattle.std.specs.Cmp.{unsigned_tied}
use Rattle.std.specs.BTreeSet.{contains}
use Rattle.std.proofs.lemmas.Bool.{false≢true, not-true, not-false, eqb-true}
use Rattle.std.proofs.lemmas.List.{take_all}
use Rattle.once_machine.specs.Numbers.{member, is_distinct, times_in}
use Rattle.once_judge.specs.Seen.{Seen}
use Rattle.once_judge.specs.Shown.{seen_of}
use Rattle.once_judge.proofs.Lists.{twice, twice_in, member_get, distinct_step, member_more}
use Rattle.once_judge.proofs.Handing.{all_hands, hands_not, shut}
use Rattle.once_judge.proofs.seen.Seen.hands_out.Goals as goal

pub returns-then-not-branch-clause-rule : goal.returns-then-not-branch-clause-rule
returns-then-not-branch-clause-rule c =
    let X = c.args.wakers.now in
    let i = c.loop-waker.waker-index in
    let there : contains nat_cmp c.loop-waker.among (get_or X i 0) ≡ true = not-false _ (sym c.in_ok-insert.ensures.added ∙ c.if-not-branch.true) in
    λ o. twice X i (omega arith) (sym (c.loop-waker.invariant.0 (get_or X i 0)) ∙ there) o.once

pub returns-then-not-branch-clause-reason : goal.returns-then-not-branch-clause-reason
returns-then-not-branch-clause-reason c =
    let X = c.args.wakers.now in
    let i = c.loop-waker.waker-index in
    let there : contains nat_cmp c.loop-waker.among (get_or X i 0) ≡ true = not-false _ (sym c.in_ok-insert.ensures.added ∙ c.if-not-branch.true) in
    λ e same. subst (λ Y. 2 ≤ times_in (get_or X i 0) Y) (sym same) (twice_in X i (omega arith) (sym (c.loop-waker.invariant.0 (get_or X i 0)) ∙ there))

pub returns-then-not-is_open-clause-rule : goal.returns-then-not-is_open-clause-rule
returns-then-not-is_open-clause-rule c =
    let X = c.args.wakers.now in
    let i = c.loop-waker.waker-index in
    λ o. false≢true (sym c.if-not-is_open.true ∙ c.is_open.ensures.1 (o.open_alone (get_or X i 0) (member_get X i (omega arith))))

pub returns-then-not-is_open-clause-reason : goal.returns-then-not-is_open-clause-reason
returns-then-not-is_open-clause-reason c =
    let X = c.args.wakers.now in
    let i = c.loop-waker.waker-index in
    λ e same. (
      ap (member (get_or X i 0)) same ∙ member_get X i (omega arith),
      shut ((seen_of c.args.self.now).times (get_or X i 0)) (λ o. false≢true (sym c.if-not-is_open.true ∙ c.is_open.ensures.1 o)),
    )

swap : (a b : Bool) → cond a true b ≡ cond b true a
swap true true = refl
swap true false = refl
swap false true = refl
swap false false = refl

-- one more that is open
open_more : (S : Seen) (X : List ℕ) (i q : ℕ) → i < length X → ((q : ℕ) → member q (take i X) ≡ true → 0 < S.times q) → 0 < S.times (get_or X i 0)
    → (b : Bool) → member q (take i X) ≡ b → member q (take (i + 1) X) ≡ true → 0 < S.times q
open_more S X i q l before here true is m = before q is
open_more S X i q l before here false is m =
    let e : (get_or X i 0 == q) ≡ true = rw (member_more X i q l, is) at m in
    subst (λ k. 0 < S.times k) (eqb-true (get_or X i 0) q e) here

pub loop-waker-preserved : goal.loop-waker-preserved
loop-waker-preserved c =
    let X = c.args.wakers.now in
    let i = c.loop-waker.waker-index in
    let l : i < length X = omega arith in
    let new : contains nat_cmp c.loop-waker.among (get_or X i 0) ≡ false = not-true _ (sym c.in_ok-insert.ensures.added ∙ c.if-not-branch.false) in (
      λ q. c.in_ok-insert.ensures.updates.0 q ∙ ap (λ b. cond b true (contains nat_cmp c.loop-waker.among q)) (unsigned_tied (get_or X i 0) q)
          ∙ ap (cond (get_or X i 0 == q) true) (c.loop-waker.invariant.0 q) ∙ swap (get_or X i 0 == q) (member q (take i X)) ∙ sym (member_more X i q l),
      distinct_step X i l (sym (c.loop-waker.invariant.0 (get_or X i 0)) ∙ new) c.loop-waker.invariant.1,
      λ q m. open_more (seen_of c.args.self.now) X i q l c.loop-waker.invariant.2 (c.is_open.ensures.0 c.if-not-is_open.false) (member q (take i X)) refl m,
    )

pub returns-clause-rule : goal.returns-clause-rule
returns-clause-rule c =
    let X = c.args.wakers.now in
    let i = c.loop-waker.waker-index in
    let all : take i X ≡ X = take_all i X (omega arith) in
    all_hands (seen_of c.args.self.now) X c.loop-waker.among
    (λ q. c.loop-waker.invariant.0 q ∙ ap (member q) all) (sym (ap is_distinct all) ∙ c.loop-waker.invariant.1)
    (λ q m. c.loop-waker.invariant.2 q (ap (member q) all ∙ m)) c.in-None.ensures

pub returns-in-Some-clause-rule : goal.returns-in-Some-clause-rule
returns-in-Some-clause-rule c =
    let X = c.args.wakers.now in
    let i = c.loop-waker.waker-index in
    let w = c.in-Some.waker in
    let out : member w X ≡ false = sym (ap (member w) (take_all i X (omega arith))) ∙ sym (c.loop-waker.invariant.0 w) ∙ c.in-Some.ensures.1 in
    hands_not (seen_of c.args.self.now) X c.in-Some.task w c.in-Some.ensures.0 out

pub returns-in-Some-clause-reason : goal.returns-in-Some-clause-reason
returns-in-Some-clause-reason c =
    let X = c.args.wakers.now in
    let i = c.loop-waker.waker-index in
    let w = c.in-Some.waker in
    let out : member w X ≡ false = sym (ap (member w) (take_all i X (omega arith))) ∙ sym (c.loop-waker.invariant.0 w) ∙ c.in-Some.ensures.1 in
    λ e same. (c.in-Some.ensures.0, ap (member w) same ∙ out)
