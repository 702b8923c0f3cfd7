-- What a record tells. A list of entries is a history here: the newest entry stands first.
use Rattle.std.specs.Prelude.{ℕ, Bool, true, false, not, ◌==◌, List, [], ◌∷◌, Option}
pub use Rattle.once_machine.specs.declared.record.Ran.{Ran as Answer}
pub use Rattle.once_machine.specs.declared.record.Ran.TheVariants.{Pending as RanPending, Value as RanValue}
pub use Rattle.once_machine.specs.declared.record.Ran.TheVariants.{Error as RanError}
pub use Rattle.once_machine.specs.declared.record.Reply.{Reply}
pub use Rattle.once_machine.specs.declared.record.Reply.TheVariants.{Pending, Value, Error, Memory, Full}

-- the kinds of cell
pub data Kind : Type 0 where
  Once : Kind  -- it is empty, and each caller brings an init
  OnceWith : (value : ℕ) → Kind  -- it has this value, and each caller brings an init
  -- it is empty, and owns one init that gives these answers: None is pending, and Some v is the value v
  Lazy : (answers : List (Option ℕ)) → Kind
  LazyWith : (value : ℕ) → Kind  -- it is of those that own an init, and has this value

-- what the owner of the cell may do with it
pub data OwnerCall : Type 0 where
  Take : OwnerCall  -- it takes the value out
  Write : (value : ℕ) → OwnerCall  -- it writes another value if one is set
  Parts : OwnerCall  -- it takes a lazy cell apart
  ReplaceValue : (value : ℕ) → OwnerCall  -- it puts a lazy cell with this value in its place
  ReplaceAnswers : (answers : List (Option ℕ)) → OwnerCall  -- it puts one with an init of these answers there

-- what the owner is given
pub data Got : Type 0 where
  GotNone : Got  -- no value was set
  GotValue : (value : ℕ) → Got  -- the value that was set
  GotAnswers : (answers : List (Option ℕ)) → Got  -- the answers that the init has left

-- one entry of a record
pub data Entry : Type 0 where
  Made : (task : ℕ) → Entry  -- the task was made
  Begin : (task : ℕ) → (waker : ℕ) → Entry  -- a poll of the task began, with this waker
  Claim : (task : ℕ) → Entry  -- the task got the right
  Ran : (task : ℕ) → (answer : Answer) → Entry  -- the task polled its init, which answered this
  Free : (task : ℕ) → (wakers : List ℕ) → Entry  -- a release: it gave the right back, and handed these out
  Fill : (task : ℕ) → (value : ℕ) → (wakers : List ℕ) → Entry  -- a release that set this value
  Pass : (task : ℕ) → (wakers : List ℕ) → Entry  -- it was woken as a waiter, left, and passed its turn on to these
  End : (task : ℕ) → (reply : Reply) → Entry  -- the poll of the task ended, and answered this
  DropBegin : (task : ℕ) → Entry  -- a drop of the task began
  DropEnd : (task : ℕ) → Entry  -- the drop ended
  Look : (found : Option ℕ) → Entry  -- somebody looked for the value, and found this
  Own : (owner_call : OwnerCall) → (got : Got) → Entry  -- the owner made this call, and was given this

-- whether the entry is one of the task
abbrev pub is_of : ℕ → Entry → Bool
is_of t (Made u) = u == t
is_of t (Begin u w) = u == t
is_of t (Claim u) = u == t
is_of t (Ran u a) = u == t
is_of t (Free u X) = u == t
is_of t (Fill u v X) = u == t
is_of t (Pass u X) = u == t
is_of t (End u r) = u == t
is_of t (DropBegin u) = u == t
is_of t (DropEnd u) = u == t
is_of t (Look found) = false
is_of t (Own o g) = false

-- the wakers that the entry hands out
abbrev pub handed_by : Entry → List ℕ
handed_by (Free t X) = X
handed_by (Fill t v X) = X
handed_by (Pass t X) = X
handed_by _ = []

-- the tasks that were made
abbrev pub made_in : List Entry → List ℕ
made_in [] = []
made_in (Made t ∷ before) = t ∷ made_in before
made_in (_ ∷ before) = made_in before

-- the kind is lazy
abbrev pub is_lazy : Kind → Bool
is_lazy (Lazy l) = true
is_lazy (LazyWith v) = true
is_lazy _ = false

-- which owner's calls a kind has
abbrev pub has_call : Kind → OwnerCall → Bool
has_call kind Take = not (is_lazy kind)
has_call kind (Write v) = true
has_call kind Parts = is_lazy kind
has_call kind (ReplaceValue v) = is_lazy kind
has_call kind (ReplaceAnswers l) = is_lazy kind

-- the owner's calls that put another cell in the place of this one: all but Write
abbrev pub replaces : OwnerCall → Bool
replaces (Write v) = false
replaces _ = true

-- the entry is an owner's call
abbrev pub is_own : Entry → Bool
is_own (Own o g) = true
is_own _ = false

-- the entry is an owner's call that replaces the cell
abbrev pub is_replacing : Entry → Bool
is_replacing (Own o g) = replaces o
is_replacing _ = false
