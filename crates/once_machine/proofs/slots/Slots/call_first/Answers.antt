-- The first listing with a waker gives it.
use Rattle.std.proofs.Common.{filter, sym, ◌∙◌, arith}
use Rattle.std.proofs.lemmas.List.{get_or-set_other}
use Rattle.once_machine.proofs.Listing.Kept.{nobody_called, one_called, kept_open}
use Rattle.once_machine.proofs.Listing.Uncalled.{length_call, tickets_call}
use Rattle.once_machine.specs.Kept.{is_kept}
use Rattle.once_machine.proofs.slots.Slots.call_first.Goals as goal

pub returns-then-self-len-clause-waker : goal.returns-then-self-len-clause-waker
returns-then-self-len-clause-waker g c = (nobody_called is_kept c.args.self.now.slots.items (λ k d l. c.first_open-self.ensures.before k (omega arith) d)).0

pub returns-then-self-len-clause-listings : goal.returns-then-self-len-clause-listings
returns-then-self-len-clause-listings g c = (nobody_called is_kept c.args.self.now.slots.items (λ k d l. c.first_open-self.ensures.before k (omega arith) d)).1

pub invariant_of-self-2 : goal.invariant_of-self-2
invariant_of-self-2 g c =
    let slots = c.args.self.now in
    let xs = slots.slots.items in
    let i = c.first_open-self.result in
    let x = c.index_mut.result.now in
    let waits = rw (sym c.index_mut.ensures.value) at (c.first_open-self.ensures.found (omega arith) x) in
    let called = one_called is_kept i xs x c.take.new.self (omega arith) c.index_mut.ensures.value waits (λ k m. c.first_open-self.ensures.before k m x) c.take.ensures.after (kept_open _ _ waits) in
    record {
      once = rw (called.1, tickets_call (filter is_kept xs)) slots.once;
      marks = λ n. rw (called.1, tickets_call (filter is_kept xs)) (slots.marks n);
      low = slots.low;
      within = c.first_open-self.ensures.within;
      counted = rw (called.1, length_call (filter is_kept xs)) slots.counted;
      called = λ n l d. rw (get_or-set_other xs i n _ d (λ e. omega arith)) (c.first_open-self.ensures.before n l d);
    }

pub returns-clause-waker : goal.returns-clause-waker
returns-clause-waker g c =
    let xs = c.args.self.now.slots.items in
    let x = c.index_mut.result.now in
    let waits = rw (sym c.index_mut.ensures.value) at (c.first_open-self.ensures.found (omega arith) x) in
    c.take.ensures.value ∙ (one_called is_kept c.first_open-self.result xs x c.take.new.self
    (omega arith) c.index_mut.ensures.value waits
    (λ k m. c.first_open-self.ensures.before k m x) c.take.ensures.after (kept_open _ _ waits)).0

pub returns-clause-listings : goal.returns-clause-listings
returns-clause-listings g c =
    let xs = c.args.self.now.slots.items in
    let x = c.index_mut.result.now in
    let waits = rw (sym c.index_mut.ensures.value) at (c.first_open-self.ensures.found (omega arith) x) in
    (one_called is_kept c.first_open-self.result xs x c.take.new.self (omega arith) c.index_mut.ensures.value waits
    (λ k m. c.first_open-self.ensures.before k m x) c.take.ensures.after (kept_open _ _ waits)).1
