-- A side whose calls tell what is told of it by what is told of it: each call tells that.
use Rattle.std.proofs.Common.{ℕ}
use Rattle.async_once_cell.specs.Inner.Sides.{IsTold, Sided, sided_tells}

pub sided_told : {S W : Type 0} (whose : W → ℕ) (state : S → Sided) → IsTold whose state (sided_tells whose state)
sided_told whose state = record {
  run = λ s a t d. d;
  close = λ s t d. d;
  put = λ s t d. d;
  copy = λ s c t d. d;
  wake = λ s out t d. d;
}
