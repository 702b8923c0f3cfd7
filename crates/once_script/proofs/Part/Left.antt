-- A call under way has a step left, and sixteen at most. `grind` goes through the places.
use Rattle.std.proofs.Common.{◌≡◌, ◌≤◌, ◌<◌, ℕ, true, arith}
use Rattle.once_machine.specs.Machine.{in_call, left_of}
use Rattle.once_machine.specs.declared.step.Step.{Step}

pub left_some : (s : Step ℕ ℕ) → in_call s ≡ true → 0 < left_of s
left_some s e = grind arith

pub left_most : (s : Step ℕ ℕ) → left_of s ≤ 16
left_most s = grind arith
