-- If every step is given memory, no poll ends for want of it.
use Rattle.std.proofs.Common.{◌≡◌, ◌<◌, ℕ, Bool, true, false, cond, ⊎_elim, List, [], ◌∷◌, ◌++◌, refl, sym, ap, ◌∙◌, arith}
use Rattle.std.proofs.lemmas.Grind.{common_steps}
use Rattle.std.proofs.lemmas.Bool.{false≢true, cases_Bool}
use Rattle.std.proofs.lemmas.Bool.Decides.{nat_tests}
use Rattle.once_machine.specs.Record.{Entry, Kind}
use Rattle.once_machine.specs.Inputs.{Always, FallsInto, Input, Part, WantsMemoryOnlyUngranted, all_granted, begins_call, ends_for_memory, entries_of, gos, inputs_of, is_fitting_go, is_ungranted}
use Rattle.once_machine.specs.Machine.{history_of}
use Rattle.once_script.proofs.Part.Belonging.{belongs}

-- a poll ends for want of memory in the one part or the other
ends_for_memory-append : (t : ℕ) (xs ys : List Entry) → ends_for_memory t (xs ++ ys) ≡ cond (ends_for_memory t xs) true (ends_for_memory t ys)
ends_for_memory-append t [] ys = refl
ends_for_memory-append t (e ∷ xs) ys = let ih = ends_for_memory-append t xs ys in grind (arith, nat_tests, common_steps)

-- one more that is given memory
granted_after : (begins fits : Bool) (i : Input) (g : List Input) → is_ungranted i ≡ false → all_granted g ≡ true
    → all_granted (cond begins [] (cond fits (i ∷ g) g)) ≡ true
granted_after true fits i g a b = refl
granted_after false true i g a b = rw a b
granted_after false false i g a b = b

-- if every step is given memory, each Go of a call is
always_granted : (K : Kind) (t : ℕ) (parts : List Part) → all_granted (inputs_of parts) ≡ true → all_granted (gos K t parts) ≡ true
always_granted K t [] g = refl
always_granted K t (p ∷ before) g =
    let here : is_ungranted p.input ≡ false = grind arith in
    let rest : all_granted (inputs_of before) ≡ true = grind arith in
    granted_after (begins_call t p.entries) (is_fitting_go K t p.input (entries_of before)) p.input (gos K t before) here (always_granted K t before rest)

-- no part ends a poll for want of memory then
no_memory : (K : Kind) (t : ℕ) (parts : List Part) → Always (WantsMemoryOnlyUngranted K) parts
    → all_granted (inputs_of parts) ≡ true → ends_for_memory t (entries_of parts) ≡ false
no_memory K t [] a g = refl
no_memory K t (p ∷ before) a g =
    let rest : all_granted (inputs_of before) ≡ true = grind arith in
    let ih = no_memory K t before a.1 rest in
    let here : ends_for_memory t p.entries ≡ false = ⊎_elim (λ e. absurd (false≢true (sym (a.0 t e) ∙ always_granted K t (p ∷ before) g))) (λ e. e) (cases_Bool (ends_for_memory t p.entries)) in
    ends_for_memory-append t p.entries (entries_of before) ∙ rw here ih

-- if every step is given memory, no record that belongs to these inputs has a poll that ended for want of it
granted_memory : (kind : Kind) (inputs : List Input) (h : List Entry) (t : ℕ) → (parts : List Part) × FallsInto kind inputs h parts → all_granted inputs ≡ true → ends_for_memory t h ≡ false
granted_memory kind inputs h t b g = let f = b.1 in rw (← f.entries_are) (no_memory kind t b.0 f.memory (ap all_granted f.inputs_are ∙ g))

-- if every step is given memory, the record has no poll that ended for want of it
pub ample_memory : (kind : Kind) (limit : ℕ) (inputs : List Input) (t : ℕ) → 0 < limit → all_granted inputs ≡ true
    → ends_for_memory t (history_of kind limit inputs) ≡ false
ample_memory kind limit inputs t some g = let b = belongs kind limit inputs some in granted_memory kind inputs (history_of kind limit inputs) t (b.0, b.1) g
