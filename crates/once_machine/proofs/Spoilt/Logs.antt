-- Queue logs with one thing wrong: none is sound.
use Rattle.std.proofs.Common.{◌≡◌, ℕ, [], ◌∷◌, Option, Some, refl, sym, arith}
use Rattle.std.proofs.lemmas.Bool.{false≢true}
use Rattle.once_machine.specs.Machine.{EnteredLine, PutLine, TakenLine}
use Rattle.once_machine.proofs.History.Cells.{none_some}
use Rattle.once_machine.proofs.Rows.Order.{newest_first}
use Rattle.once_machine.proofs.Spoilt.Records.{SpoiltLog}

other_queue : ◌≡◌ {A = Option ℕ} (Some 1) (Some 2) → ⊥
other_queue e = let n : ◌≡◌ {A = ℕ} 1 2 = cc in omega arith

-- a queue is entered after it was taken out
entered_when_gone : SpoiltLog (newest_first (PutLine 1 ∷ EnteredLine 1 ∷ TakenLine 1 ∷ EnteredLine 1 ∷ []))
entered_when_gone = ((refl, (refl, (refl, refl, tt))), λ s. none_some 1 s.0)

-- a queue is put while another stands at the door
put_beside_another : SpoiltLog (newest_first (PutLine 1 ∷ EnteredLine 1 ∷ PutLine 2 ∷ []))
put_beside_another = ((refl, (refl, refl, tt)), λ s. none_some 1 (sym s.0))

-- a queue that was taken out is put again
put_again : SpoiltLog (newest_first (PutLine 1 ∷ TakenLine 1 ∷ PutLine 1 ∷ []))
put_again = ((refl, (refl, refl, tt)), λ s. false≢true (sym s.1))

-- another queue is taken out than stands there
another_taken_out : SpoiltLog (newest_first (PutLine 1 ∷ TakenLine 2 ∷ []))
another_taken_out = ((refl, refl, tt), λ s. other_queue s.0)

-- another queue is entered than stands there
another_entered : SpoiltLog (newest_first (PutLine 1 ∷ EnteredLine 2 ∷ []))
another_entered = ((refl, refl, tt), λ s. other_queue s.0)

-- a queue is taken out twice
taken_out_twice : SpoiltLog (newest_first (PutLine 1 ∷ TakenLine 1 ∷ TakenLine 1 ∷ []))
taken_out_twice = ((refl, (refl, refl, tt)), λ s. none_some 1 s.0)
