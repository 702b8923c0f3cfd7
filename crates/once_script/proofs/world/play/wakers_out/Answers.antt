-- All listings that leave give their wakers, in their order.
use Rattle.std.proofs.Common.{◌≡◌, ℕ, List, [], ◌∷◌, ◌∙◌, Option, Some, None, IfOk, refl, ap, subst, rules, tests}
use Rattle.std.specs.List.{cons_option, filter_map}
use Rattle.std.proofs.lemmas.Iterator.{items_from_collect}
use Rattle.std.proofs.lemmas.Iterator.Adapters.{YieldsList-from_vec}
use Rattle.std.proofs.lemmas.Iterator.Consumers.{YieldsList-from_filter_map}
use Rattle.once_machine.specs.declared.waiters.Listing.{Listing}
use Rattle.once_machine.specs.Listings.{wakers_of}
use Rattle.once_script.proofs.world.play.wakers_out.Goals as goal

-- a waker before others
one_waker : (w : Option ℕ) (ws : List ℕ) → cons_option w ws ≡ cons_option w ws
one_waker (Some w) ws = refl
one_waker None ws = refl

-- the wakers of a list are its listings, filtered
filtered : (xs : List (Listing ℕ)) → filter_map (λ x. x.waker) xs ≡ wakers_of xs
filtered [] = refl
filtered (x ∷ xs) = one_waker x.waker (filter_map (λ x. x.waker) xs) ∙ ap (cons_option x.waker) (filtered xs)

pub returns-in-All : goal.returns-in-All
returns-in-All c =
    let xs = c.in-All.listings.items in
    let items : IfOk c.collect-in-All.result (λ X. X.items ≡ filter_map (λ x. x.waker) xs) =
    items_from_collect _ c.collect-in-All.ensures.ran (YieldsList-from_filter_map _ (λ x. x.waker)
    (YieldsList-from_vec xs (search rules) (search rules)) c.filter_map.ensures.closure
    (λ x r q k. search (rules, tests))) in
    rw c.in-All.is (subst (λ ws. IfOk c.collect-in-All.result (λ X. X.items ≡ ws)) (filtered xs) items)
