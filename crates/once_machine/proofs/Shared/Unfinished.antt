-- Each unfinished task has an entry.
use Rattle.std.proofs.Common.{◌≤◌, ℕ, List, [], ◌∷◌, length, suc, arith}
use Rattle.std.proofs.lemmas.Grind.{common_steps}
use Rattle.once_machine.specs.Record.{Entry, Kind, made_in}
use Rattle.once_machine.specs.Machine.{World}
use Rattle.once_machine.proofs.Invariant.Fits.{Fits, is_alive}
use Rattle.once_machine.proofs.Listing.Counting.{count_within}

-- an entry makes one task or none
made_step : (e : Entry) (h : List Entry) → length (made_in (e ∷ h)) ≤ suc (length (made_in h))
made_step e h = grind (arith, common_steps)

-- a history has no fewer entries than tasks that were made
made_within : (h : List Entry) → length (made_in h) ≤ length h
made_within [] = omega arith
made_within (e ∷ h) = let step = made_step e h in let ih = made_within h in omega (arith, step, ih)

-- no fewer entries than tasks that are not finished
pub unfinished_within : (K : Kind) (limit : ℕ) (w : World) → Fits K limit w → w.unfinished ≤ length w.history
unfinished_within K limit w f =
    let alive = count_within (made_in w.history) (λ n. is_alive (w.tasks n)) in
    let made = made_within w.history in
    rw f.unfinished_is (omega (arith, alive, made))
