-- With which status and message a program gives up.
use Rattle.std.specs.Prelude.{ℕ, List, ◌++◌, ◌≡◌, ◌↔◌, ◌≢◌, codes}
use Rattle.std.specs.Fmt.{decimal}
use Rattle.std.specs.IoError.{error_kind}
use Rattle.std.specs.declared.io.Error.{Error}
use Rattle.std.specs.declared.io.ErrorKind.TheVariants.{OutOfMemory}
use Rattle.once_script.specs.declared.fault.Fault.{Fault}
use Rattle.once_script.specs.declared.fault.Fault.TheVariants.{Unreadable, Io, Memory}

-- the status that the process ends with
abbrev pub status_of : Fault → ℕ
status_of (Unreadable line) = 2
status_of Io = 3
status_of Memory = 4

-- the line on standard error
abbrev pub message : Fault → List ℕ
message (Unreadable line) = codes "once_replay: line " ++ decimal line ++ codes " is unreadable"
message Io = codes "once_replay: input or output failed"
message Memory = codes "once_replay: out of memory"

-- the fault that an error of a read or a write is
pub record Reports (error : Error) (fault : Fault) : Type 0 where
  pub memory : (fault ≡ Memory) ↔ (error_kind error ≡ OutOfMemory)  -- it is Memory for the kind OutOfMemory
  pub other : (fault ≡ Io) ↔ (error_kind error ≢ OutOfMemory)  -- it is Io for all other kinds
