-- The rule of two words that change in turn, and what each step tells.
use Rattle.std.specs.Prelude.{◌≡◌, ℕ, zero, suc, ◌+◌, ◌≤◌, Bool, true, not, if◌then◌else◌, List, [], ◌∷◌, ◌++◌, length}
use Rattle.pagebook.specs.Pages.{View}
use Rattle.pagebook_uses.specs.declared.turns.Hit.{Hit}
use Rattle.pagebook_uses.specs.declared.turns.Hit.TheVariants.{Ping, Pong}

-- whether the player who begins has its turn after so many hits
abbrev pub pings_next : ℕ → Bool
pings_next zero = true
pings_next (suc n) = not (pings_next n)

-- a rally of so many hits
abbrev pub rally : ℕ → List Hit
rally zero = []
rally (suc n) = rally n ++ (if pings_next n then Ping else Pong) ∷ []

-- the rule
pub record IsRally (ns : List ℕ) (ps : List ℕ) (log : List Hit) : Type 0 where
  pub pings : ℕ  -- how often the one that begins has hit
  pub pongs : ℕ  -- how often the other has
  pub words : ns ≡ pings ∷ pongs ∷ []  -- the words count both
  pub pages : ps ≡ pings ∷ pongs ∷ []  -- so do the pages
  pub turn : (pongs ≤ pings) × (pings ≤ suc pongs)  -- neither is ahead by more than its turn
  pub hits : log ≡ rally (pings + pongs)  -- the log is a rally of all hits

-- Nothing changed, and if the other's word is this player's, as many hits were seen as both have
abbrev pub Looked : ℕ → View Hit ℕ → ℕ → View Hit ℕ → Type 0
Looked mine v n w = (w.1 ≡ v.1) × (n ≡ mine → length w.0 ≡ mine + mine)

-- Nothing changed, and if the other's word is not this player's, the other hit once more
abbrev pub LookedBack : ℕ → View Hit ℕ → ℕ → View Hit ℕ → Type 0
LookedBack mine v n w = (w.1 ≡ v.1) × ((n ≡ mine → ⊥) → length w.0 ≡ suc (mine + mine))

-- the player who begins hit, and has one hit more than the other
abbrev pub Pinged : ℕ → View Hit ℕ → ℕ → View Hit ℕ → Type 0
Pinged mine v n w = (w.1 ≡ (0, suc mine) ∷ []) × (w.0 ≡ rally (suc (mine + mine)))

-- the other hit, and has as many hits now
abbrev pub Ponged : ℕ → View Hit ℕ → ℕ → View Hit ℕ → Type 0
Ponged mine v n w = (w.1 ≡ (1, suc mine) ∷ []) × (w.0 ≡ rally (suc (suc (mine + mine))))

-- nothing changed, and the log is a rally of all hits of both
abbrev pub Ended : ℕ × ℕ → View Hit ℕ → ℕ → View Hit ℕ → Type 0
Ended both v n w = (w.0 ≡ rally (both.0 + both.1)) × (both.1 ≤ both.0) × (both.0 ≤ suc both.1)
