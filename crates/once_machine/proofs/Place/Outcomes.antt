-- The kinds of outcome: a call goes on, ends, waits, claims; and what a claim and a listing leave of what is shared.
use Rattle.std.specs.Prelude.{ℕ, true, [], ◌∷◌, Option}
use Rattle.once_machine.specs.Table.{next_at, next_rest, next_end}
use Rattle.once_machine.specs.Record.{Answer, Claim}
use Rattle.once_machine.specs.Machine.{AtRun, Ending, SharedState, Outcome, Place, RestWait, list_with, list_without, outcome_of}

-- the call goes on, and nothing is recorded
abbrev pub goes_to : SharedState → Answer → Place ℕ ℕ → Outcome
goes_to c k p = outcome_of c 0 k [] (next_at p)

-- the call ends for good
abbrev pub ends : SharedState → ℕ → Answer → Ending → Outcome
ends c t k e = outcome_of c t k [] (next_end e)

-- the poll ends Pending, and waits
abbrev pub waits : SharedState → ℕ → Answer → ℕ → Option ℕ → Outcome
waits c t k q n = outcome_of c t k [] (next_rest (RestWait q n))

-- the task claims the right
abbrev pub claims : SharedState → ℕ → Answer → Option ℕ → Outcome
claims c t k by = outcome_of c t k (Claim t ∷ []) (next_at (AtRun by))

-- a claim under the lock, by the ticket of the task that claims
abbrev pub claim_shared : SharedState → Option ℕ → SharedState
claim_shared c n = record c { head = true; listings = list_without n c.listings }

-- a waker is listed with this ticket
abbrev pub listing_shared : SharedState → ℕ → ℕ → SharedState
listing_shared c n w = record c { listings = list_with n w c.listings }
