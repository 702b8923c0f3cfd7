-- Two keys are one if they name the same book and the same numbers.
use mathlib.Core.Path.{◌≡◌}
use Rattle.pagebook.specs.Pages.{IsKey, LockKey}

pub same_key : {j k : LockKey} → IsKey j k → j ≡ k
same_key is = λ i. record { book = is.0 i; about = is.1 i }
