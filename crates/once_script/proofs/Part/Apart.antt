-- The entries of one task's step begin no call, and refuse nobody else memory.
use Rattle.std.proofs.Common.{◌≡◌, ◌≢◌, ℕ, false, List, [], ◌∷◌, refl, ◌∙◌, arith}
use Rattle.std.proofs.lemmas.Bool.Decides.{nat_tests}
use Rattle.std.proofs.lemmas.Grind.{common_steps}
use Rattle.once_machine.specs.Record.{Entry, Kind}
use Rattle.once_machine.specs.declared.record.Ran.{Ran as Answer}
use Rattle.once_machine.specs.Inputs.{AreOfStep, IsOfStep, begins_call, ends_for_memory}

-- an entry of a step begins no call
begins_step : (K : Kind) (n t : ℕ) (a : Answer) (e : Entry) (r : List Entry) → IsOfStep K n a e → begins_call t (e ∷ r) ≡ begins_call t r
begins_step K n t a e r s = grind (arith, nat_tests, common_steps)

-- they begin no call
pub step_begins : (K : Kind) (n t : ℕ) (a : Answer) (part : List Entry) → AreOfStep K n a part → begins_call t part ≡ false
step_begins K n t a [] s = refl
step_begins K n t a (e ∷ []) s = begins_step K n t a e [] s
step_begins K n t a (e ∷ f ∷ []) s = begins_step K n t a e (f ∷ []) s.0 ∙ begins_step K n t a f [] s.1
step_begins K n t a (e ∷ f ∷ k ∷ more) s = absurd s

-- an entry of a step of n ends no poll of another task
memory_step : (K : Kind) (n t : ℕ) (a : Answer) (e : Entry) (r : List Entry) → n ≢ t → IsOfStep K n a e → ends_for_memory t (e ∷ r) ≡ ends_for_memory t r
memory_step K n t a e r d s = grind (arith, nat_tests, common_steps)

-- they end no poll of another task
pub step_memory : (K : Kind) (n t : ℕ) (a : Answer) (part : List Entry) → n ≢ t → AreOfStep K n a part → ends_for_memory t part ≡ false
step_memory K n t a [] d s = refl
step_memory K n t a (e ∷ []) d s = memory_step K n t a e [] d s
step_memory K n t a (e ∷ f ∷ []) d s = memory_step K n t a e (f ∷ []) d s.0 ∙ memory_step K n t a f [] d s.1
step_memory K n t a (e ∷ f ∷ k ∷ more) d s = absurd s
