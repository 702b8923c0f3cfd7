-- A hole is put in the place of the listing, and its ticket has no mark any more.
use Rattle.std.proofs.Common.{◌≡◌, false, filter, set, Some, refl, sym, ap, ◌∙◌, ◌==◌, arith}
use Rattle.std.proofs.lemmas.Bool.{ne_eqb}
use Rattle.once_machine.proofs.Listing.Tickets.{find_none, member_take, once_take, take_none}
use Rattle.once_machine.proofs.Listing.Marked.{marked_within}
use Rattle.once_machine.proofs.Listing.Kept.{fails_set, hole_length, hole_less, kept_found, kept_member, kept_taken, not_false}
use Rattle.once_machine.specs.Kept.{is_kept, is_open}
use Rattle.once_machine.specs.Listings.{take_out}
use Rattle.once_machine.specs.Slots.{listings_in}
use Rattle.once_machine.proofs.slots.Slots.take_out.Goals as goal

pub returns-in_err-place-clause-waker : goal.returns-in_err-place-clause-waker
returns-in_err-place-clause-waker g c = rw c.from_residual.ensures (sym (find_none c.args.ticket (listings_in c.args.self.now) (c.in_err-place.ensures.none refl)))

pub returns-in_err-place-clause-listings : goal.returns-in_err-place-clause-listings
returns-in_err-place-clause-listings g c = sym (take_none c.args.ticket (listings_in c.args.self.now) (c.in_err-place.ensures.none refl))

pub invariant_of-self : goal.invariant_of-self
invariant_of-self g c =
    let slots = c.args.self.now in
    let xs = slots.slots.items in
    let n = c.args.ticket in
    let i = c.in_ok-place.place in
    let z = c.replace.new.dest in
    let p = c.in_ok-place.ensures.some in
    let at = p.1 z in
    let empty : is_kept z ≡ false = rw c.replace.ensures.after refl in
    let taken : filter is_kept (set xs i z) ≡ take_out n (filter is_kept xs) = kept_taken is_kept n i xs z z p.0 at (rw at (not_false _ p.2)) empty slots.once in
    let less = hole_less is_kept i xs z z p.0 (rw at (not_false _ p.2)) empty in
    record {
      once = rw taken (once_take n (filter is_kept xs) slots.once);
      marks = λ m. rw (taken, member_take m n (filter is_kept xs), c.unmark.ensures.marks m, slots.marks m) refl;
      low = λ m l. let apart : (n == m) ≡ false = ne_eqb n m (λ e. omega arith) in rw (c.unmark.ensures.marks m, apart) (slots.low m (omega arith));
      within = slots.within;
      counted = omega arith;
      called = fails_set is_open slots.uncalled i xs z (rw empty refl) p.0 slots.called;
    }

pub returns-clause-waker : goal.returns-clause-waker
returns-clause-waker g c =
    let slots = c.args.self.now in
    let x = c.index_mut.result.now in
    let p = c.in_ok-place.ensures.some in
    let at = p.1 x in
    ap (λ y. Some y.waker) (c.replace.ensures.value ∙ c.index_mut.ensures.value)
    ∙ sym (kept_found is_kept c.in_ok-place.place slots.slots.items x p.0 at
    (rw at (not_false _ p.2)) slots.once)

pub returns-clause-listings : goal.returns-clause-listings
returns-clause-listings g c =
    let slots = c.args.self.now in
    let z = c.replace.new.dest in
    let p = c.in_ok-place.ensures.some in
    let at = p.1 z in
    kept_taken is_kept c.args.ticket c.in_ok-place.place slots.slots.items z z p.0 at (rw at (not_false _ p.2)) (rw c.replace.ensures.after refl) slots.once

pub returns-clause-mark : goal.returns-clause-mark
returns-clause-mark g c = λ _.
    let slots = c.args.self.now in
    let p = c.in_ok-place.ensures.some in
    let at = p.1 c.replace.result in
    let marked = slots.marks c.args.ticket ∙ kept_member is_kept c.in_ok-place.place slots.slots.items c.replace.result p.0 at (rw at (not_false _ p.2)) in
    let within = marked_within c.args.ticket slots.used.items marked in
    omega arith

pub returns-clause-hole : goal.returns-clause-hole
returns-clause-hole g c = λ _.
    let xs = c.args.self.now.slots.items in
    let less = hole_length is_kept c.in_ok-place.place xs c.replace.new.dest c.in_ok-place.ensures.some.0 (rw c.replace.ensures.after refl) in
    omega arith
