-- The calls that are one step of the word: what the number that is found there tells, and which number they leave.
use Rattle.std.specs.Prelude.{◌<◌, ◌+◌, ◌-◌, ◌%◌, ◌^◌, ◌==◌, if◌then◌else◌, ℕ}
use prog.Atomic.{either}
use Rattle.once_machine.specs.Word.{flags_of}
use Rattle.once_machine.specs.Table.{Call, Load, Quick, Fast, AddOne, CountOut}
use Rattle.once_machine.specs.Table.{Told, Loaded, TriedQuick, TriedFast, Added, CountedOut, Refused}

-- these calls are
abbrev pub IsWordCall : Call ℕ ℕ → Type 0
IsWordCall Load = Unit {0}
IsWordCall Quick = Unit {0}
IsWordCall (Fast fills) = Unit {0}
IsWordCall AddOne = Unit {0}
IsWordCall CountOut = Unit {0}
IsWordCall _ = ⊥

-- what the number tells
abbrev pub found : Call ℕ ℕ → ℕ → Told ℕ ℕ
found Load n = Loaded (flags_of n)
found Quick n = TriedQuick (n == 0)
found (Fast fills) n = TriedFast fills (n == 2 ^ 62)
found AddOne n = Added
found CountOut n = CountedOut (flags_of (n - 1))
found _ n = Refused

-- which number is left, modulo 2 ^ 64
abbrev pub word_after : Call ℕ ℕ → ℕ → ℕ
word_after Quick n = either (n == 0) (2 ^ 62) n
word_after (Fast fills) n = either (n == 2 ^ 62) (if fills then 2 ^ 63 else 0) n
word_after AddOne n = (n + 1) % 2 ^ 64
word_after CountOut n = (n + (2 ^ 64 - 1)) % 2 ^ 64
word_after _ n = n

-- what is known of the number: a task that counts out was counted
abbrev pub IsFound : Call ℕ ℕ → ℕ → Type 0
IsFound CountOut n = 0 < n
IsFound _ n = Unit {0}
