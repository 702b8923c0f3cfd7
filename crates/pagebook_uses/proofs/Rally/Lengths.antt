-- Rallies: how long they are, and whose turn it is after them.
use Rattle.std.proofs.Common.{◌≡◌, ℕ, zero, suc, ◌+◌, Bool, true, false, not, cond, [], ◌∷◌, length, refl, ap, ◌∙◌, arith, length-append}
use Rattle.pagebook_uses.specs.Turns.{pings_next, rally}
use Rattle.pagebook_uses.specs.declared.turns.Hit.TheVariants.{Ping, Pong}

-- a rally is as long as it has hits
pub rally_long : (n : ℕ) → length (rally n) ≡ n
rally_long zero = refl
rally_long (suc n) = omega (
  arith,
  length-append (rally n) (cond (pings_next n) Ping Pong ∷ []),
  rally_long n,
)

-- two turns on it is the same player's turn
two_on : (b : Bool) → not (not b) ≡ b
two_on true = refl
two_on false = refl

-- after as many hits of both, the player who begins has its turn
pub even_pings : (n : ℕ) → pings_next (n + n) ≡ true
even_pings zero = refl
even_pings (suc n) = ap pings_next (twice n) ∙ (two_on (pings_next (n + n)) ∙ even_pings n)
  where
    twice : (m : ℕ) → suc m + suc m ≡ suc (suc (m + m))
    twice m = omega arith
