use Rattle.std.proofs.Common.{◌≡◌, ◌*◌, map, take}
use Rattle.std.specs.Prelude.{All}
use Rattle.memo_table.specs.declared.ask.TheConstants.{KEYS}
use Rattle.memo_table.proofs.ask.ask_all.Given as goal

-- the answers so far are of the keys so far, and each value is ten times its key
abbrev pub invariant-loop-key : goal.invariant-loop-key
invariant-loop-key g l =
    (map (λ answer. answer.key) l.told.items ≡ take l.key-index KEYS) × All (λ answer. answer.value ≡ answer.key * 10) l.told.items
