-- Each call of a core and its side tells, leaves and lets see what the machine says. `grind` goes through the calls.
use Rattle.std.proofs.Common.{◌≡◌, ℕ, Bool, true, false, List, ◌++◌, None, refl, arith, reverse}
use Rattle.std.proofs.lemmas.Bool.Decides.{nat_tests}
use Rattle.std.proofs.lemmas.Grind.{common_steps}
use Rattle.once_machine.specs.Ops.{HasWaker}
use Rattle.once_machine.specs.declared.log.QueueLine.{QueueLine}
use Rattle.once_machine.specs.declared.waiters.Op.TheVariants.{Look as LookOp, List as ListOp}
use Rattle.once_machine.specs.declared.waiters.Op.TheVariants.{Release as ReleaseOp, Leave as LeaveOp}
use Rattle.once_machine.specs.declared.waiters.Answer.{Answer as SectionAnswer}
use Rattle.once_machine.specs.declared.waiters.Answer.TheVariants.{Left, Gone}
use Rattle.once_script.specs.declared.world.side.ReplaySide.{ReplaySide}
use Rattle.once_script.specs.Core.{CoreState}
use Rattle.once_machine.specs.Table.{Call, Load, Quick, Fast, CountIn, AddOne, CountOut, DoorGet, DoorPut, DoorTake}
use Rattle.once_machine.specs.Table.{Section, Refuse, Run, Put, SideDid, Tells}
use Rattle.once_machine.specs.Table.{Told, Loaded, TriedQuick, TriedFast, CountedIn, Added, CountedOut, Got, PutQueue, Taken}
use Rattle.once_machine.specs.Table.{Was, Refused, Ran, PutValue}
use Rattle.once_machine.specs.Machine.{answer, call_lines, hands, is_claim, keeps, left_by, records}
use Rattle.once_script.specs.Side.{next_of}
use Rattle.once_script.specs.WorldShown.{claim_entries, freed_entries, handed_entries, ran_entries}
use Rattle.once_script.proofs.Listing.Handed.{released_list, released_wakers}
use Rattle.once_script.proofs.Exactness.Outcomes.{IsSetUp, NumberCall, shared_by, side_tells}

-- the call that told this
abbrev pub call_of : Told ℕ ℕ → Call ℕ ℕ
call_of (Loaded w) = Load
call_of (TriedQuick won) = Quick
call_of (TriedFast fills won) = Fast fills
call_of (CountedIn is_in ready) = CountIn
call_of Added = AddOne
call_of (CountedOut w) = CountOut
call_of (Got q) = DoorGet
call_of (PutQueue q) = DoorPut
call_of (Taken stood) = DoorTake
call_of (Was q op a o) = Section q op
call_of Refused = Refuse
call_of (Ran a) = Run
call_of PutValue = Put

-- a call tells one thing, and that is of this call
pub told_one : (call : Call ℕ ℕ) (T : Told ℕ ℕ → Type 0) → Tells call T → (e : Told ℕ ℕ) × (call_of e ≡ call) × T e
told_one Load T (w, t) = (Loaded w, refl, t)
told_one Quick T (won, t) = (TriedQuick won, refl, t)
told_one (Fast fills) T (won, t) = (TriedFast fills won, refl, t)
told_one CountIn T (is_in, ready, t) = (CountedIn is_in ready, refl, t)
told_one AddOne T t = (Added, refl, t)
told_one CountOut T (w, t) = (CountedOut w, refl, t)
told_one DoorGet T (q, t) = (Got q, refl, t)
told_one DoorPut T (q, t) = (PutQueue q, refl, t)
told_one DoorTake T (stood, t) = (Taken stood, refl, t)
told_one (Section q op) T (a, o, t) = (Was q op a o, refl, t)
told_one Refuse T t = (Refused, refl, t)
told_one Run T (a, t) = (Ran a, refl, t)
told_one Put T t = (PutValue, refl, t)

-- a section's answer without the wakers that it hands out
abbrev nameless_answer : SectionAnswer ℕ → SectionAnswer ℕ
nameless_answer Gone = Gone
nameless_answer a = Left None

-- what is told, as the machine tells it: there the wakers that a section hands out stand apart, in `hands`
abbrev pub nameless : Told ℕ ℕ → Told ℕ ℕ
nameless (Was q (ReleaseOp fills) a o) = Was q (ReleaseOp fills) (nameless_answer a) o
nameless (Was q (LeaveOp k) a o) = Was q (LeaveOp k) (nameless_answer a) o
nameless e = e

-- a call to list oneself brings a waker
abbrev pub Brings : Call ℕ ℕ → Type 0
Brings (Section q op) = HasWaker op
Brings _ = Unit {0}

-- a call that told this gave the right back by the fast release
abbrev pub freed_by : Told ℕ ℕ → Bool
freed_by (TriedFast fills won) = won
freed_by _ = false

-- it claimed the right
abbrev pub claimed_by : Told ℕ ℕ → Bool
claimed_by (TriedQuick won) = won
claimed_by (Was q (LookOp k) a o) = is_claim a
claimed_by (Was q (ListOp k w) a o) = is_claim a
claimed_by _ = false

-- it took the task's listing out
abbrev pub leaving_by : Told ℕ ℕ → Bool
leaving_by (Was q (LeaveOp k) a o) = true
leaving_by _ = false

-- what the machine says that a call tells of this core, with this side
abbrev pub says : CoreState ℕ → ReplaySide → Call ℕ ℕ → Told ℕ ℕ
says s c = answer (record { limit = s.limit; waker = c.waker; init = next_of c; granted = c.granted }) (shared_by s c)

-- core and side went on as the machine says of a call that told e, with these lines logged
pub record IsCall (e : Told ℕ ℕ) (lines : List QueueLine) (s : CoreState ℕ) (c : ReplaySide) (s' : CoreState ℕ)
    (c' : ReplaySide) : Type 0 where
  pub shared : shared_by s' c' ≡ left_by e c.kept (shared_by s c)
  pub kept : c'.kept ≡ keeps e (next_of c) c.kept
  pub seen : (n : ℕ) → handed_entries (leaving_by e) c'.handed n c'.kept ++ freed_entries (freed_by e) n c'.kept
      ++ ran_entries c'.ran n ++ claim_entries (claimed_by e) n ≡ records e (next_of c) n c.kept (hands e (shared_by s c))
  pub log : reverse s'.log ≡ lines ++ reverse s.log
  pub limit : s'.limit ≡ s.limit
  pub lazy_is : c'.lazy ≡ c.lazy

-- a call, after which the init was closed or not
module _ (s : CoreState ℕ) (c : ReplaySide) (set_up : IsSetUp s c) (s' : CoreState ℕ) (c' : ReplaySide) (closes : Bool) where
  -- what it tells
  pub told_exact : (e : Told ℕ ℕ) → Brings (call_of e) → NumberCall s e s' → SideDid side_tells e closes c c'
      → nameless e ≡ says s c (call_of e)
  told_exact e b d z =
      let granted = set_up.granted in let current = set_up.current in grind (arith, nat_tests, common_steps, granted, current)

  -- what it leaves
  left_exact : (e : Told ℕ ℕ) → Brings (call_of e) → NumberCall s e s' → SideDid side_tells e closes c c'
      → shared_by s' c' ≡ left_by (nameless e) c.kept (shared_by s c)
  left_exact (Was q (ReleaseOp fills) a o) b d z =
      let here = d.here in let gone = d.gone in grind (arith, nat_tests, common_steps, here, gone, released_list)
  left_exact (Was q op a o) b d z = let here = d.here in let gone = d.gone in grind (arith, nat_tests, common_steps, here, gone)
  left_exact e b d z = let granted = set_up.granted in let bare = set_up.bare in grind (arith, nat_tests, common_steps, granted, bare)

  -- and all else
  pub call_exact : (e : Told ℕ ℕ) → Brings (call_of e) → NumberCall s e s' → SideDid side_tells e closes c c'
      → IsCall (nameless e) (call_lines c.granted (shared_by s c) (call_of e)) s c s' c'
  call_exact e b d z =
      let granted = set_up.granted in
      let ran = set_up.ran in
      let handed = set_up.handed in
      record {
        shared = left_exact e b d z;
        kept = grind (arith, common_steps);
        seen = λ n. grind (arith, common_steps, ran, handed, released_wakers);
        log = grind (arith, common_steps, granted);
        limit = grind (arith, common_steps);
        lazy_is = grind (arith, common_steps);
      }
