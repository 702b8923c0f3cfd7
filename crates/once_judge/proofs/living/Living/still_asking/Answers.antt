-- Each that may ask is looked at.
use Rattle.std.proofs.Common.{◌≡◌, ℕ, Bool, true, false, cond, ◌==◌, refl, sym, ap, ◌∙◌, subst, nat_cmp}
use Rattle.std.specs.List.{All}
use Rattle.std.specs.Map.Iter.{deref}
use Rattle.std.specs.Cmp.{nat_cmp_total, unsigned_tied}
use Rattle.std.specs.BTreeSet.{contains}
use Rattle.std.proofs.lemmas.Bool.{false≢true}
use Rattle.std.proofs.lemmas.List.Elements.{All-map, All-contains, All-push, All-weaker}
use Rattle.std.proofs.lemmas.Map.Iter.{iter_end}
use Rattle.std.proofs.lemmas.Map.Lookups.{exact_unsigned}
use Rattle.std.proofs.lemmas.Map.Views.{btree_set_contains_iff}
use Rattle.once_machine.proofs.Listing.Members.{eqb_self}
use Rattle.once_judge.proofs.Dues.{AsksIn}
use Rattle.once_judge.proofs.living.Living.still_asking.Goals as goal

pub returns : goal.returns
returns c =
    let h = c.into_iter-t-iterator.ensures.into_iter_gives in
    let old = c.args.self.now.asking in
    let all = iter_end deref old.keys c.loop-t.yielded c.into_iter-t-iterator.result c.loop-t.t-iterator c.next.new.self c.next.result
    h.0 c.loop-t.yielded_by c.in-None.is c.next.ensures.steps in
    let P : ℕ → Type 0 = AsksIn c.args.self.now.all c.args.self.now.handed c.loop-t.asking in
    let each : All P old.keys = subst (All P) all.0 (All-map P deref c.loop-t.yielded c.loop-t.invariant) in
    λ t a. All-contains P old.keys t each ((btree_set_contains_iff nat_cmp_total exact_unsigned old t).0 (c.args.self.now.asked t a)) a

stays_in : (b a : Bool) → a ≡ true → cond b true a ≡ true
stays_in true a e = refl
stays_in false a e = e

pub loop-t-preserved-in_ok-insert : goal.loop-t-preserved-in_ok-insert
loop-t-preserved-in_ok-insert c =
    let tasks = c.args.self.now.all in
    let handed = c.args.self.now.handed in
    let x = c.in-Some.t.now in
    let old = c.loop-t.asking in
    let new = c.insert.new.self in
    let more : (q : ℕ) → contains nat_cmp new q ≡ cond (x == q) true (contains nat_cmp old q) =
    λ q. c.in_ok-insert.ensures.updates.0 q ∙ ap (λ b. cond b true (contains nat_cmp old q)) (unsigned_tied x q) in
    All-push (λ p. AsksIn tasks handed new p.now) c.loop-t.yielded c.in-Some.t
    (All-weaker (λ p. AsksIn tasks handed old p.now) (λ p. AsksIn tasks handed new p.now)
    (λ p there asks. more p.now ∙ stays_in (x == p.now) (contains nat_cmp old p.now) (there asks)) c.loop-t.yielded c.loop-t.invariant)
    (λ asks. more x ∙ ap (λ b. cond b true (contains nat_cmp old x)) (eqb_self x))

pub loop-t-preserved : goal.loop-t-preserved
loop-t-preserved c =
    All-push (λ p. AsksIn c.args.self.now.all c.args.self.now.handed c.loop-t.asking p.now) c.loop-t.yielded c.in-Some.t c.loop-t.invariant
    (λ asks. absurd (false≢true (sym c.if-asks.false ∙ c.asks.ensures asks)))
