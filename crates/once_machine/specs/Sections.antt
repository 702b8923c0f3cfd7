-- What a section under the cell's lock sees, answers and leaves.
use Rattle.std.specs.Prelude.{◌≡◌, ℕ, ◌<◌, ◌⊎◌, Bool, true, false, List, [], ◌∷◌, Option, Some, None}
use Rattle.std.specs.List.{cons_option}
use Rattle.std.specs.Prelude.{IfSome, All, HoldsAt, length}
use Rattle.std.specs.declared.vec.Vec.{Vec}
use Rattle.std.specs.declared.alloc.Global.{Global}
use Rattle.once_machine.specs.declared.waiters.Answer.{Answer}
use Rattle.once_machine.specs.declared.step.Out.{Out}
use Rattle.once_machine.specs.Listings.{Listing, find_listing, kept_ticket, ticket_for}
use Rattle.once_machine.specs.Listings.{list_with, first_waker, call_first, with_waker}

module _ {W : Type 0} (same : W → W → Type 0) where
  -- some waker of the list was told to be the same
  abbrev pub IsAmong : W → List W → Type 0
  IsAmong waker seen = (k : ℕ) × (k < length seen) × HoldsAt (λ w. same w waker) seen k

module _ {W : Type 0} (other : W → W → Type 0) where
  -- each waker of the list was told to be another
  abbrev pub IsOther : W → List W → Type 0
  IsOther waker seen = All (λ w. other w waker) seen

  -- the wakers of two listings, if both have one, were told to be other
  abbrev pub AreApart : Listing W → Listing W → Type 0
  AreApart x y = IfSome y.waker (λ w. IfSome x.waker (λ v. other v w))

module _ {W : Type 0} (same other : W → W → Type 0) where
  -- a Look while some task holds, by the current waker and the own listing: whether that has the same waker
  abbrev pub DidLook : Option W → Option (Option W) → Answer W → Type 0
  DidLook (Some w) (Some (Some v)) answer =
      ((answer ≡ Answer.Listed) × same v w) ⊎ ((answer ≡ Answer.Held) × other v w)
  DidLook _ _ answer = answer ≡ Answer.Held

module _ {W : Type 0} where
  -- a List while some task holds: the own listing is taken out, and one with the waker goes to the end; or there
  -- was none, and no memory for one
  abbrev pub DidList : Option ℕ → W → List (Listing W) → Answer W → Option ℕ → Option W → List (Listing W) → Type 0
  DidList ticket w xs answer ticket' waker' xs' =
      ((answer ≡ Answer.Listed) × (ticket' ≡ Some (ticket_for ticket xs)) × (waker' ≡ None)
      × (xs' ≡ list_with (ticket_for ticket xs) w xs))
      ⊎ ((answer ≡ Answer.Memory) × (kept_ticket ticket xs ≡ None) × (ticket' ≡ ticket) × (waker' ≡ Some w)
      × (xs' ≡ xs))

module _ {W N : Type 0} (renewed : N → W → N → W → Type 0) where
  -- the listing with the ticket had a waker, and has the one that was left in its place
  abbrev pub Renewed : ℕ → List (Listing W) → N → List (Listing W) → N → Type 0
  Renewed n xs s xs' t = (v w : W) × (find_listing n xs ≡ Some (Some v)) × renewed s v t w × (xs' ≡ with_waker n w xs)

module _ {W : Type 0} (same other : W → W → Type 0) where
  -- the waker that leaves a listing, by those of the listings before: none if it was woken, or if an earlier
  -- waker is the same
  abbrev pub HandsBy : List W → Option W → Option W → Type 0
  HandsBy seen None out = out ≡ None
  HandsBy seen (Some w) out = ((out ≡ None) × IsAmong same w seen) ⊎ ((out ≡ Some w) × IsOther other w seen)

  -- all listings leave, in their order
  abbrev pub HandsAll : List W → List (Listing W) → List (Listing W) → Type 0
  HandsAll seen [] [] = Unit {0}
  HandsAll seen (x ∷ xs) (y ∷ ys) =
      (y.ticket ≡ x.ticket) × HandsBy seen x.waker y.waker × HandsAll (cons_option x.waker seen) xs ys
  HandsAll seen _ _ = ⊥

  -- a release, by whether the value is set: it wakes the first listing that was not woken, or all leave
  abbrev pub Releases : Bool → List (Listing W) → Out W → List (Listing W) → Type 0
  Releases false xs out xs' = (out ≡ Out.One (first_waker xs)) × (xs' ≡ call_first xs)
  Releases true xs out xs' = (X : Vec (Listing W) Global) × (out ≡ Out.All X) × ∥ HandsAll [] xs X.items ∥₁ × (xs' ≡ [])
