-- The new ticket stands among the listings, and is marked.
use Rattle.std.proofs.Common.{◌≡◌, ◌<◌, ◌++◌, ◌∷◌, [], true, filter, suc, vec_len, ◌==◌, arith}
use Rattle.std.proofs.lemmas.Bool.{ne_eqb}
use Rattle.std.proofs.lemmas.List.{length-append}
use Rattle.once_machine.proofs.Listing.Tickets.{member_push, once_push}
use Rattle.once_machine.proofs.Listing.Kept.{either_true, fails_push, kept_pushed, not_false}
use Rattle.once_machine.specs.Kept.{hole, is_kept, is_open}
use Rattle.once_machine.proofs.slots.Slots.push.Goals as goal

pub invariant_of-self : goal.invariant_of-self
invariant_of-self g c =
    let slots = c.args.self.now in
    let xs = slots.slots.items in
    let x = c.args.listing in
    let small = slots.used.small in
    let below : x.ticket < hole = omega arith in
    let kept : is_kept x ≡ true = not_false _ (ne_eqb x.ticket hole (λ e. omega arith)) in
    let pushed : c.push_reserved.new.self.items ≡ xs ++ x ∷ [] = grind arith in
    let listed = kept_pushed is_kept x xs kept in
    record {
      once = rw (pushed, listed) (once_push x (filter is_kept xs) c.requires.new slots.once);
      marks = λ n. rw (pushed, listed, member_push n x (filter is_kept xs), c.mark.ensures n, slots.marks n);
      low = λ n l. rw (c.mark.ensures n, slots.low n l) (either_true (x.ticket == n));
      within = let more : vec_len c.push_reserved.new.self ≡ suc (vec_len slots.slots) = grind arith in omega arith;
      counted =
          let more : vec_len c.push_reserved.new.self ≡ suc (vec_len slots.slots) = grind arith in
          rw (pushed, listed, length-append (filter is_kept xs) (x ∷ [])) (omega (arith, slots.counted));
      called = λ n l. rw pushed (fails_push is_open slots.uncalled xs x (omega (arith, slots.within)) slots.called n l);
    }
