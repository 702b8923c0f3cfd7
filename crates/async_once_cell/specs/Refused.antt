-- What the refusals and errors of a poll print, and which other errors a refusal becomes.
use Rattle.std.specs.Prelude.{ℕ, List, Option, Some, None, codes, Result, Ok, Err}
use Rattle.std.specs.declared.io.ErrorKind.{ErrorKind}
use Rattle.std.specs.declared.io.ErrorKind.TheVariants.{OutOfMemory, Other}
use Rattle.async_once_cell.specs.declared.error.Refused.{Refused}
use Rattle.async_once_cell.specs.declared.error.Refused.TheVariants.{Memory, Full}
use Rattle.async_once_cell.specs.declared.error.InitError.{InitError}
use Rattle.async_once_cell.specs.declared.error.InitError.TheVariants.{Init, Memory as NoMemory, Full as TooMany}

-- what a refusal prints
abbrev pub message : Refused → List ℕ
message Memory = codes "out of memory"
message Full = codes "too many waiters"

-- with the text of the init's error
abbrev pub message_of : {E : Type 0} → (E → Option (List ℕ)) → InitError E → Option (List ℕ)
message_of text (Init e) = text e
message_of text NoMemory = Some (message Memory)
message_of text TooMany = Some (message Full)

-- the kind of the `io::Error` that a refusal becomes
abbrev pub kind_of : Refused → ErrorKind
kind_of Memory = OutOfMemory
kind_of Full = Other

-- a refusal as the error of a poll
abbrev pub error_of : {E : Type 0} → Refused → InitError E
error_of Memory = NoMemory
error_of Full = TooMany

-- the error of the init, or else the refusal
abbrev pub own_error : {E : Type 0} → InitError E → Result E Refused
own_error (Init e) = Ok e
own_error NoMemory = Err Memory
own_error TooMany = Err Full

-- what the init gave, if its own error is told
abbrev pub given_error : {T E : Type 0} → InitError E → Option (Result T E)
given_error (Init e) = Some (Err e)
given_error _ = None
