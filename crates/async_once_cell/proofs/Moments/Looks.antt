-- A look at the list is the look of the machine on the page: the same answer, flag, listings and ticket.
use Rattle.std.proofs.Common.{◌≡◌, ℕ, Bool, true, false, cond, Some, refl, sym, ap, ◌∙◌}
use Rattle.std.specs.Option.{is_some, option_flatten}
use Rattle.once_machine.specs.declared.word.Sees.{Sees}
use Rattle.once_machine.specs.declared.word.Sees.TheVariants.{Set, Free, Taken}
use Rattle.once_machine.specs.declared.waiters.Answer.{Answer}
use Rattle.once_machine.specs.declared.waiters.Answer.TheVariants.{Listed, Held}
use Rattle.once_machine.specs.Claims.{Claims, Claimant}
use Rattle.once_machine.specs.Listings.{own_listing}
use Rattle.once_machine.specs.Machine.{head_after, look_answer, looked_list, looked_ticket}
use Rattle.async_once_cell.specs.Inner.Named.{named}
use Rattle.async_once_cell.specs.Inner.Steps.{answer_as}
use Rattle.async_once_cell.proofs.Moments.Named.{uncalled_named, without_named}

module _ {W : Type 0} (whose : W → ℕ) where
  -- what a look leaves, by the answer a of the machine
  pub record LookShown (a : Answer ℕ) (s : Claimant W) (result : Answer W) (t : Claimant W) : Type 0 where
    pub answer : answer_as result ≡ a
    pub flag : t.head ≡ head_after a s.head
    pub listings : named whose t.listings ≡ looked_list a s.ticket (named whose s.listings)
    pub ticket : t.ticket ≡ looked_ticket a s.ticket

  -- while some task holds, all stays as it was, by whether the own listing has a waker
  look_held : (l : Bool) (s : Claimant W) (result : Answer W) (t : Claimant W) → result ≡ cond l Listed Held → t ≡ s
      → LookShown (look_answer (Some Taken) l) s result t
  look_held true s result t a e = rw (a, e) record { answer = refl; flag = refl; listings = refl; ticket = refl }
  look_held false s result t a e = rw (a, e) record { answer = refl; flag = refl; listings = refl; ticket = refl }

  -- from what `look_own` tells, by what is seen
  pub look_shown : (seen : Sees) (s : Claimant W) (result : Answer W) (t : Claimant W) → Claims seen s result t
      → (seen ≡ Sees.Taken → result ≡ cond (is_some (option_flatten (own_listing s.ticket s.listings))) Listed Held)
      → (seen ≡ Sees.Taken → t ≡ s)
      → LookShown (look_answer (Some seen) (is_some (option_flatten (own_listing s.ticket (named whose s.listings))))) s result t
  look_shown Set s result t claims held stays = rw (claims.0, claims.1) record { answer = refl; flag = refl; listings = refl; ticket = refl }
  look_shown Free s result t claims held stays = rw (claims.0, claims.1) record { answer = refl; flag = refl; listings = sym (without_named whose s.ticket s.listings); ticket = refl }
  look_shown Taken s result t claims held stays =
      look_held (is_some (option_flatten (own_listing s.ticket (named whose s.listings)))) s result t
      (held refl ∙ ap (λ b. cond b Listed Held) (sym (uncalled_named whose s.ticket s.listings))) (stays refl)
