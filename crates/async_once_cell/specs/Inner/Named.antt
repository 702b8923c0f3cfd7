-- What a list of waiters shows on the queue's page: the same listings.
-- Each waker is told by the number of the task whose it is.
use Rattle.std.specs.Prelude.{◌≡◌, ℕ, List, [], ◌∷◌, map, Option}
use Rattle.std.specs.Option.{option_map, option_to_list}
use Rattle.once_machine.specs.declared.waiters.Listing.{Listing}
use Rattle.once_machine.specs.declared.waiters.Answer.{Answer}
use Rattle.once_machine.specs.declared.waiters.Answer.TheVariants.{Released, Left}
use Rattle.once_machine.specs.declared.step.Out.{Out}
use Rattle.once_machine.specs.declared.step.Out.TheVariants.{One, All}
use Rattle.once_machine.specs.Listings.{wakers_of}

module _ {W : Type 0} (whose : W → ℕ) where
  -- one listing
  abbrev pub named_listing : Listing W → Listing ℕ
  named_listing x = record { ticket = x.ticket; waker = option_map whose x.waker }

  -- the listings in their order
  abbrev pub named : List (Listing W) → List (Listing ℕ)
  named [] = []
  named (x ∷ xs) = named_listing x ∷ named xs

  -- the task of the waker, if there is one, as a list
  abbrev pub named_one : Option W → List ℕ
  named_one o = option_to_list (option_map whose o)

  -- the tasks whose wakers a release hands out, in their order
  abbrev pub named_out : Out W → List ℕ
  named_out (One o) = named_one o
  named_out (All X) = map whose (wakers_of X.items)

  -- those whose wakers an answer of a section hands out
  abbrev pub handed_in : Answer W → List ℕ
  handed_in (Released out) = named_out out
  handed_in (Left next) = named_one next
  handed_in _ = []

module _ {W N : Type 0} (whose : W → ℕ) (renewed : N → W → N → W → Type 0) where
  -- a waker that is renewed stays the same task's
  abbrev pub KeepsOwner : Type 0
  KeepsOwner = (s : N) (v : W) (t : N) (w : W) → renewed s v t w → whose w ≡ whose v

  -- a waker of this task was renewed
  abbrev pub HasRenewed : ℕ → N → N → Type 0
  HasRenewed n s t = (v w : W) × (whose v ≡ n) × renewed s v t w
