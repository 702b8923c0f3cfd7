-- What a side may hand over fits what is promised of the value of the cell, after a call of the side too.
use Rattle.std.proofs.Common.{◌≡◌, ℕ, List, sym, subst}
use Rattle.pagebook.specs.Slot.{Placed}
use Rattle.async_once_cell.specs.Inner.Sides.{GivesFit}

pub fits_on : {S T : Type 0} {stays : S → S → Type 0} {hands : S → T → Type 0} {has_slot : S → ℕ → Type 0} (fits : List ℕ → T → Type 0)
    → ((s t : S) → stays s t → (value : T) → hands t value → hands s value) → ((s t : S) → stays s t → (n : ℕ) → has_slot s n → has_slot t n)
    → {s t : S} {c d : Placed} → GivesFit hands has_slot fits s c → stays s t → d ≡ c → GivesFit hands has_slot fits t d
fits_on {has_slot = has_slot} fits on slot_on {s} {t} {c} has kept same = λ value h.
    let before = has value (on s t kept value h) in
    subst (λ (p : Placed). fits p.about value × has_slot t p.id) (sym same) (before.0, slot_on s t kept c.id before.1)

-- and by a call of the parts alone, which leaves the cell
pub fits_there : {S T : Type 0} (hands : S → T → Type 0) (has_slot : S → ℕ → Type 0) (fits : List ℕ → T → Type 0) {s : S} {c d : Placed}
    → GivesFit hands has_slot fits s c → d ≡ c → GivesFit hands has_slot fits s d
fits_there hands has_slot fits {s} has same = λ value h. subst (λ (p : Placed). fits p.about value × has_slot s p.id) (sym same) (has value h)
