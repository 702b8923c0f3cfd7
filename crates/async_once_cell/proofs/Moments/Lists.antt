-- A call to list oneself is the listing of the machine on the page, whether room was made before the load or was refused.
use Rattle.std.proofs.Common.{◌≡◌, ◌⊎◌, ℕ, Bool, true, false, ◌||◌, Option, Some, ⊎_elim, refl, sym, ap, ◌∙◌}
use Rattle.std.specs.Option.{is_some}
use Rattle.std.proofs.lemmas.Bool.{true≢false}
use Rattle.once_machine.specs.declared.word.Sees.{Sees}
use Rattle.once_machine.specs.declared.word.Sees.TheVariants.{Set, Free, Taken}
use Rattle.once_machine.specs.declared.waiters.Answer.{Answer}
use Rattle.once_machine.specs.declared.waiters.Answer.TheVariants.{Memory}
use Rattle.once_machine.specs.Claims.{Claims, Claimant}
use Rattle.once_machine.specs.Listings.{kept_ticket}
use Rattle.once_machine.specs.Sections.{DidList}
use Rattle.once_machine.specs.Machine.{head_after, list_answer, listed_list, listed_ticket}
use Rattle.async_once_cell.specs.Inner.Named.{named}
use Rattle.async_once_cell.specs.Inner.Steps.{answer_as}
use Rattle.async_once_cell.proofs.Moments.Named.{kept_named, list_named, ticket_named, without_named}

-- with memory granted there is room
or_true : (b : Bool) → (b || true) ≡ true
or_true true = refl
or_true false = refl

module _ {W : Type 0} (whose : W → ℕ) where
  -- what a listing of the task v leaves, by the answer a of the machine
  pub record ListShown (v : ℕ) (a : Answer ℕ) (s : Claimant W) (result : Answer W) (t : Claimant W) : Type 0 where
    pub answer : answer_as result ≡ a
    pub flag : t.head ≡ head_after a s.head
    pub listings : named whose t.listings ≡ listed_list a s.ticket v (named whose s.listings)
    pub ticket : t.ticket ≡ listed_ticket a s.ticket (named whose s.listings)

  -- by what is seen, if there is room
  granted_by : (seen : Sees) (s : Claimant W) (w : W) (w' : Option W) (result : Answer W) (t : Claimant W)
      → (is_some (kept_ticket s.ticket s.listings) ≡ true) ⊎ (result ≡ Memory → ⊥) → Claims seen s result t
      → (seen ≡ Sees.Taken → DidList s.ticket w s.listings result t.ticket w' t.listings) → (seen ≡ Sees.Taken → t.head ≡ s.head)
      → ListShown (whose w) (list_answer (Some seen) true) s result t
  granted_by Set s w w' result t fits claims held head = rw (claims.0, claims.1) record { answer = refl; flag = refl; listings = refl; ticket = refl }
  granted_by Free s w w' result t fits claims held head = rw (claims.0, claims.1) record { answer = refl; flag = refl; listings = sym (without_named whose s.ticket s.listings); ticket = refl }
  granted_by Taken s w w' result t fits claims held head = ⊎_elim
      (λ d. record {
        answer = ap answer_as d.0;
        flag = head refl;
        listings = ap (named whose) d.3 ∙ sym (list_named whose s.ticket w s.listings);
        ticket = d.1 ∙ ap (λ (n : ℕ). Some n) (sym (ticket_named whose s.ticket s.listings));
      })
      (λ d. absurd (⊎_elim (λ e. true≢false (sym e ∙ ap (λ (o : Option ℕ). is_some o) d.1)) (λ n. n d.0) fits))
      (held refl)

  -- from what `list` tells, if the own ticket has a listing, or memory cannot be refused any more
  pub list_shown : (seen : Sees) (s : Claimant W) (w : W) (w' : Option W) (result : Answer W) (t : Claimant W)
      → (is_some (kept_ticket s.ticket s.listings) ≡ true) ⊎ (result ≡ Memory → ⊥) → Claims seen s result t
      → (seen ≡ Sees.Taken → DidList s.ticket w s.listings result t.ticket w' t.listings) → (seen ≡ Sees.Taken → t.head ≡ s.head)
      → ListShown (whose w) (list_answer (Some seen) (is_some (kept_ticket s.ticket (named whose s.listings)) || true)) s result t
  list_shown seen s w w' result t fits claims held head =
      rw (or_true (is_some (kept_ticket s.ticket (named whose s.listings)))) (granted_by seen s w w' result t fits claims held head)

  -- by what is seen, if there is no room
  refused_by : (seen : Sees) (s : Claimant W) (v : ℕ) (result : Answer W) (t : Claimant W) → Claims seen s result t
      → (seen ≡ Sees.Taken → result ≡ Memory) → (seen ≡ Sees.Taken → t ≡ s) → ListShown v (list_answer (Some seen) false) s result t
  refused_by Set s v result t claims held stays = rw (claims.0, claims.1) record { answer = refl; flag = refl; listings = refl; ticket = refl }
  refused_by Free s v result t claims held stays = rw (claims.0, claims.1) record { answer = refl; flag = refl; listings = sym (without_named whose s.ticket s.listings); ticket = refl }
  refused_by Taken s v result t claims held stays = rw (held refl, stays refl) record { answer = refl; flag = refl; listings = refl; ticket = refl }

  -- from what `list_without_room` tells: the own ticket has no listing, and room was refused
  pub refusal_shown : (seen : Sees) (s : Claimant W) (v : ℕ) (result : Answer W) (t : Claimant W)
      → is_some (kept_ticket s.ticket s.listings) ≡ false → Claims seen s result t
      → (seen ≡ Sees.Taken → result ≡ Memory) → (seen ≡ Sees.Taken → t ≡ s)
      → ListShown v (list_answer (Some seen) (is_some (kept_ticket s.ticket (named whose s.listings)) || false)) s result t
  refusal_shown seen s v result t gone claims held stays =
      let none : is_some (kept_ticket s.ticket (named whose s.listings)) ≡ false = ap (λ (o : Option ℕ). is_some o) (kept_named whose s.ticket s.listings) ∙ gone in
      rw none (refused_by seen s v result t claims held stays)
