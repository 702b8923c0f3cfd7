-- All leave, each waker once.
use Rattle.std.proofs.Common.{refl, sym, ◌∙◌, rules}
use Rattle.once_machine.proofs.waiters.Lists.release.Goals as goal

pub once_each-requires : goal.once_each-requires
once_each-requires g c = record { apart = λ m. rw c.take_all-listings.ensures.all (c.args.self.now.apart (sym c.replace-mixed.ensures.value ∙ m)) }

pub returns-clause-listings : goal.returns-clause-listings
returns-clause-listings g c = rw c.if-not-ready.false (c.once_each.new.listings, refl, rw c.take_all-listings.ensures.all at c.once_each.ensures, c.take_all-listings.ensures.none)

pub returns-then-not-ready-clause-listings : goal.returns-then-not-ready-clause-listings
returns-then-not-ready-clause-listings g c = search rules

pub returns-then-not-ready-clause-head : goal.returns-then-not-ready-clause-head
returns-then-not-ready-clause-head g c = search rules
