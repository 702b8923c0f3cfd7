-- The listing with the ticket has the other waker, and all else is as it was.
use Rattle.std.proofs.Common.{◌≡◌, true, false, rules, filter, set, get_or, Some, refl, sym, ap, ◌∙◌}
use Rattle.std.specs.Option.{is_some, option_flatten}
use Rattle.std.proofs.lemmas.Bool.{false≢true}
use Rattle.std.proofs.lemmas.List.{get_or-set_other}
use Rattle.once_machine.proofs.Listing.Tickets.{find_none, length_renewed, tickets_renewed}
use Rattle.once_machine.proofs.Listing.Kept.{kept_found, kept_renewed, not_false}
use Rattle.once_machine.specs.Kept.{is_kept, is_open}
use Rattle.once_machine.specs.Listings.{Listing, with_waker}
use Rattle.once_machine.specs.Slots.{listings_in}
use Rattle.once_machine.proofs.slots.Slots.renew.Goals as goal

pub invariant_of-self : goal.invariant_of-self
invariant_of-self g c =
    let slots = c.args.self.now in
    let xs = slots.slots.items in
    let n = c.args.ticket in
    let i = c.in-Some.place in
    let x = c.index_mut.result.now in
    let w = c.renew.new.listed in
    let z : Listing g.row.W.Denot = record { ticket = x.ticket; waker = Some w } in
    let e = c.index_mut.ensures.value in
    let p = c.in-Some.ensures.some in
    let at = p.1 x in
    let kept : is_kept (get_or xs i x) ≡ true = rw at (not_false _ p.2) in
    let waits : is_open (get_or xs i x) ≡ true = rw kept (ap (λ (y : Listing g.row.W.Denot). is_some y.waker) (sym e) ∙ ap is_some c.in-Some-waker.is) in
    let again : is_kept z ≡ true = rw (ap (λ (y : Listing g.row.W.Denot). y.ticket) e ∙ at) (not_false _ p.2) in
    let renewed : filter is_kept (set xs i z) ≡ with_waker n w (filter is_kept xs) =
    kept_renewed is_kept n i w xs z x p.0 at kept again (ap (λ (y : Listing g.row.W.Denot). record { ticket = y.ticket; waker = Some w }) e) slots.once in
    record {
      once = rw (renewed, tickets_renewed n w (filter is_kept xs)) slots.once;
      marks = λ m. rw (renewed, tickets_renewed n w (filter is_kept xs)) (slots.marks m);
      low = slots.low;
      within = slots.within;
      counted = rw (renewed, length_renewed n w (filter is_kept xs)) slots.counted;
      called = λ m l d. rw (get_or-set_other xs i m z d (λ s. false≢true (sym (slots.called m l x) ∙ ap (λ k. is_open (get_or xs k x)) s ∙ waits))) (slots.called m l d);
    }

pub returns-clause-renewed : goal.returns-clause-renewed
returns-clause-renewed g c = λ _.
    let slots = c.args.self.now in
    let xs = slots.slots.items in
    let n = c.args.ticket in
    let i = c.in-Some.place in
    let x = c.index_mut.result.now in
    let w = c.renew.new.listed in
    let z : Listing g.row.W.Denot = record { ticket = x.ticket; waker = Some w } in
    let e = c.index_mut.ensures.value in
    let p = c.in-Some.ensures.some in
    let at = p.1 x in
    let kept : is_kept (get_or xs i x) ≡ true = rw at (not_false _ p.2) in
    let again : is_kept z ≡ true = rw (ap (λ (y : Listing g.row.W.Denot). y.ticket) e ∙ at) (not_false _ p.2) in
    let found = kept_found is_kept i xs x p.0 at kept slots.once ∙ ap (λ (y : Listing g.row.W.Denot). Some y.waker) (sym e) ∙ ap Some c.in-Some-waker.is in (
      c.in-Some-waker.waker,
      w,
      found,
      c.renew.ensures,
      kept_renewed is_kept n i w xs z x p.0 at kept again (ap (λ (y : Listing g.row.W.Denot). record { ticket = y.ticket; waker = Some w }) e) slots.once,
    )

pub returns-in_default-clause-has : goal.returns-in_default-clause-has
returns-in_default-clause-has g c =
    sym (ap (λ o. is_some (option_flatten o)) (find_none c.args.ticket (listings_in c.args.self.now) (c.place.ensures.none c.in_default.is)))

pub returns-then-not-has_waker-clause-has : goal.returns-then-not-has_waker-clause-has
returns-then-not-has_waker-clause-has g c =
    let slots = c.args.self.now in
    let x = c.index.result.now in
    let p = c.in-Some.ensures.some in
    let at = p.1 x in
    let kept : is_kept (get_or slots.slots.items c.in-Some.place x) ≡ true = rw at (not_false _ p.2) in
    let found = kept_found is_kept c.in-Some.place slots.slots.items x p.0 at kept slots.once in
    let waits : is_open (get_or slots.slots.items c.in-Some.place x) ≡ is_some (get_or slots.slots.items c.in-Some.place x).waker = rw kept refl in
    let none : c.has_waker.result ≡ false = search rules in
    sym none ∙ c.has_waker.ensures ∙ ap is_open c.index.ensures ∙ waits ∙ sym (ap (λ o. is_some (option_flatten o)) found)

pub returns-clause-has : goal.returns-clause-has
returns-clause-has g c =
    let slots = c.args.self.now in
    let xs = slots.slots.items in
    let i = c.in-Some.place in
    let x = c.index_mut.result.now in
    let e = c.index_mut.ensures.value in
    let p = c.in-Some.ensures.some in
    let at = p.1 x in
    let kept : is_kept (get_or xs i x) ≡ true = rw at (not_false _ p.2) in
    let found = kept_found is_kept i xs x p.0 at kept slots.once ∙ ap (λ (y : Listing g.row.W.Denot). Some y.waker) (sym e) ∙ ap Some c.in-Some-waker.is in
    sym (ap (λ o. is_some (option_flatten o)) found)
