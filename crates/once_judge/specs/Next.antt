-- The next entry, by what the program keeps.
use Rattle.std.specs.Prelude.{◌≡◌, Option, Some, None}
use Rattle.once_machine.specs.Record.{Entry}
use Rattle.once_judge.specs.declared.reason.Reason.{Reason}
use Rattle.once_judge.specs.declared.seen.Rules.{Rules}
use Rattle.once_judge.specs.declared.seen.Seen.{Seen as GivenSeen}
use Rattle.once_judge.specs.Seen.{Seen, after}
use Rattle.once_judge.specs.Legal.{IsLegalIn}
use Rattle.once_judge.specs.Reasons.{IsTrueIn}
use Rattle.once_judge.specs.Shown.{seen_of}

-- the entry may come next
abbrev pub MayFollow : Entry → GivenSeen → Type 0
MayFollow e k = IsLegalIn k.rules.calls k.rules.lazy e (seen_of k)

-- the reason is true of the entry
abbrev pub IsReason : Reason → Entry → GivenSeen → Type 0
IsReason reason e k = IsTrueIn k.rules.lazy reason e (seen_of k)

-- the entry was taken, or for this reason it was not
abbrev pub Followed : Option Reason → Rules → Entry → Seen → Seen → Type 0
Followed None rules e S S' = IsLegalIn rules.calls rules.lazy e S × (S' ≡ after rules.limit e S)
Followed (Some r) rules e S S' = (IsLegalIn rules.calls rules.lazy e S → ⊥) × IsTrueIn rules.lazy r e S × (S' ≡ S)
