-- The word of a cell: a count and two flags, and what they say of the right.
use Rattle.std.specs.Prelude.{ℕ, Bool, true, false, if◌then◌else◌, not, ◌||◌, ◌%◌, ◌^◌, ◌==◌, nat_le}
use Rattle.once_machine.specs.declared.word.Sees.{Sees}
use Rattle.once_machine.specs.declared.word.Sees.TheVariants.{Set, Free, Taken}

-- a word, taken apart
pub record Flags : Type 0 where
  pub count : ℕ  -- how many are counted in
  pub quick : Bool  -- whether a quick claim holds
  pub ready : Bool  -- whether the value is set

-- what a word says: the count below 2 ^ 62, the quick flag at it, the ready flag above
abbrev pub flags_of : ℕ → Flags
flags_of word = record { count = word % 2 ^ 62; quick = nat_le (2 ^ 62) (word % 2 ^ 63); ready = nat_le (2 ^ 63) word }

-- the flags alone, nobody being counted
abbrev pub flags_alone : Bool → Bool → Flags
flags_alone quick ready = record { count = 0; quick = quick; ready = ready }

-- the word is NEW
abbrev pub is_zero : Flags → Bool
is_zero f = if f.count == 0 then (if f.quick then false else not f.ready) else false

-- the word is exactly the quick bit
abbrev pub is_quick_bit : Flags → Bool
is_quick_bit f = if f.count == 0 then (if f.ready then false else f.quick) else false

-- the word is exactly the ready bit
abbrev pub is_ready_bit : Flags → Bool
is_ready_bit f = if f.count == 0 then (if f.quick then false else f.ready) else false

-- what is seen, by whether the value is set and whether some task holds
abbrev pub sees_by : Bool → Bool → Sees
sees_by true _ = Set
sees_by false false = Free
sees_by false true = Taken

-- what the word and the flag beside the list say of the right: some task holds if the quick flag or that one stands
abbrev pub sees : Flags → Bool → Sees
sees f head = sees_by f.ready (f.quick || head)

-- the value is not set, and nobody holds
abbrev pub is_free : Sees → Bool
is_free Free = true
is_free _ = false
