-- Hands: what a hand says of the book, how its pages are set, and how pages are added.
use Rattle.std.proofs.Common.{◌≡◌, ℕ, zero, suc, List, [], ◌∷◌, ◌++◌, length, set, slice_get, sym, refl, ◌∙◌, arith, length-set, length-append, Some, take, drop as skip, append_assoc, append-nil}
use native.Mathlib.Decide.{ℕ_discrete}
use seplogic.Ra.Ura.{Ura}
use base.Share.{three_quarters}
use base.Stored.{Coded}
use base.Logic.{SProp, ent, sep, guard, upd, via, guard_i, snd∗, upd_i, upd_mono, upd_trans}
use base.Fml.{Fml}
use types.Logic.{Logic, sem}
use types.Kit.{‵, raw, ◌⊛◌, given, ◌$◌, ◌∵◌, !, qed, by, move, split, join, learn, check, frame, done, use1, use2, suffices, settle}
use denote.Steps.{nothing}
use Rattle.pagebook.specs.Pages.{Held, Apart, Agrees, rewritten, put, extended, dealt}
use Rattle.pagebook.specs.Owned.{part, kept, pens}
use Rattle.pagebook.proofs.Page.Parts.{other_page, pen_tells, pen_writes, page_added}

module _ {M : Type 1} {𝓤 : Ura M} (𝓛 : Logic 𝓤) (δ : ℕ) where
  abbrev Pr : Type 2
  Pr = SProp 𝓤

  abbrev ◌⊢◌ : Pr → Pr → Type 1
  P ⊢ Q = ent 𝓤 P Q

  abbrev ◌∗◌ : Pr → Pr → Pr
  P ∗ Q = sep 𝓤 P Q

  abbrev ⟦◌⟧ : Fml → Pr
  ⟦ P ⟧ = sem 𝓛 P

  infix 26 ◌⊢◌
  infixr 35 ◌∗◌
  module _ {P : Type 0} (cp : Coded P) where
    abbrev Pages : ℕ → List P → Fml
    Pages k xs = kept cp.code δ k xs

    abbrev Pen : ℕ → P → Fml
    Pen j x = part δ j three_quarters (cp.code x)

    abbrev Hand : Held P → Fml
    Hand h = pens cp.code δ h

    -- a page whose pen is held beside a hand is not in the hand
    pens_apart : (k : ℕ) (x : P) (h : Held P) → ⟦ Pen k x ⟧ ∗ ⟦ Hand h ⟧
        ⊢ guard 𝓤 (Apart k h) (⟦ Pen k x ⟧ ∗ ⟦ Hand h ⟧)
    pens_apart k x [] = guard_i 𝓤 (Unit {0}) (⟦ Pen k x ⟧ ∗ ⟦ Hand [] ⟧) tt
    pens_apart k x (e ∷ es) = qed 𝓛 (‵ (Pen k x) ∷ (‵ (Pen e.0 e.1) ⊛ ‵ (Hand es)) ∷ []) ∵ move ! (1 ∷ []) $
        split ! $ move ! (2 ∷ 1 ∷ []) $
        use2 𝓛 (given (Apart k es) (‵ (Pen k x) ⊛ ‵ (Hand es))) (pens_apart k x es) $
        learn ! (λ rest. split ! $ move ! (0 ∷ 2 ∷ []) $
        use2 𝓛 (given (k ≡ e.0 → ⊥) (‵ (Pen k x) ⊛ ‵ (Pen e.0 e.1)))
        (other_page 𝓛 δ k e.0 (cp.code x) (cp.code e.1) (ℕ_discrete k e.0)) $
        learn ! (λ un. check ! (un, rest) $ split ! $ done !))

    -- a hand agrees with the book
    pub hand_agrees : (h : Held P) (ps : List P) → ⟦ Pages 0 ps ⟧ ∗ ⟦ Hand h ⟧
        ⊢ guard 𝓤 (Agrees h ps) (⟦ Pages 0 ps ⟧ ∗ ⟦ Hand h ⟧)
    hand_agrees [] ps = guard_i 𝓤 (Unit {0}) (⟦ Pages 0 ps ⟧ ∗ ⟦ Hand [] ⟧) tt
    hand_agrees (e ∷ es) ps = qed 𝓛 (‵ (Pages 0 ps) ∷ (‵ (Pen e.0 e.1) ⊛ ‵ (Hand es)) ∷ []) ∵ move ! (1 ∷ []) $
        split ! $
        use2 𝓛 (given (Apart e.0 es) (‵ (Pen e.0 e.1) ⊛ ‵ (Hand es))) (pens_apart e.0 e.1 es) $
        learn ! (λ un. split ! $ move ! (2 ∷ 0 ∷ []) $
        use2 𝓛 (given (slice_get ps e.0 ≡ Some e.1) (‵ (Pages 0 ps) ⊛ ‵ (Pen e.0 e.1)))
        (pen_tells 𝓛 δ cp ps 0 e.0 e.0 e.1 (omega arith)) $ learn ! (λ at. split ! $ move ! (0 ∷ 2 ∷ []) $
        use2 𝓛 (given (Agrees es ps) (‵ (Pages 0 ps) ⊛ ‵ (Hand es))) (hand_agrees es ps) $
        learn ! (λ rest. split ! $ check ! (at, (un, rest)) $ move ! (0 ∷ 2 ∷ 1 ∷ []) $ done !)))

    -- the pages in a hand are set
    hand_writes : (ys : List P) (h : Held P) (ps : List P) → ⟦ Pages 0 ps ⟧ ∗ ⟦ Hand h ⟧
        ⊢ upd 𝓤 (⟦ Pages 0 (put ys h ps) ⟧ ∗ ⟦ Hand (rewritten ys h) ⟧)
    hand_writes [] h ps = upd_i 𝓤 (⟦ Pages 0 ps ⟧ ∗ ⟦ Hand h ⟧)
    hand_writes (y ∷ ys) [] ps = upd_i 𝓤 (⟦ Pages 0 ps ⟧ ∗ ⟦ Hand [] ⟧)
    hand_writes (y ∷ ys) (e ∷ es) ps = let qs : List P = set ps e.0 y in
        let Z : Pr = ⟦ Pages 0 (put ys es qs) ⟧ ∗ (⟦ Pen e.0 y ⟧ ∗ ⟦ Hand (rewritten ys es) ⟧) in
        qed 𝓛 (‵ (Pages 0 ps) ∷ (‵ (Pen e.0 e.1) ⊛ ‵ (Hand es)) ∷ []) ∵ move ! (1 ∷ []) $
        split ! $ move ! (2 ∷ 0 ∷ []) $
        use2 𝓛 (raw (upd 𝓤 (⟦ Pages 0 qs ⟧ ∗ ⟦ Pen e.0 y ⟧))) (pen_writes 𝓛 δ cp ps 0 e.0 e.0 e.1 y (omega arith)) $
        settle 𝓛 Z (‵ (Pages 0 qs) ⊛ ‵ (Pen e.0 y)) $ split ! $ move ! (0 ∷ 2 ∷ []) $
        use2 𝓛 (raw (upd 𝓤 (⟦ Pages 0 (put ys es qs) ⟧ ∗ ⟦ Hand (rewritten ys es) ⟧))) (hand_writes ys es qs) $
        settle 𝓛 Z (‵ (Pages 0 (put ys es qs)) ⊛ ‵ (Hand (rewritten ys es))) $ suffices ! _ (upd_i 𝓤 Z) $ split ! $
        move ! (0 ∷ 2 ∷ 1 ∷ []) $ done !

    -- pages are added, and their pens come before the others
    pub pages_dealt : (bs ps : List P) (h : Held P) (k : ℕ) → k ≡ length ps → ⟦ Pages 0 ps ⟧ ∗ ⟦ Hand h ⟧
        ⊢ upd 𝓤 (⟦ Pages 0 (extended bs ps) ⟧ ∗ ⟦ Hand (dealt k bs h) ⟧)
    pages_dealt [] ps h k e = upd_i 𝓤 (⟦ Pages 0 ps ⟧ ∗ ⟦ Hand h ⟧)
    pages_dealt (a ∷ bs) ps h k e = let qs : List P = ps ++ a ∷ [] in
        let Z : Pr = ⟦ Pages 0 (extended bs qs) ⟧ ∗ (⟦ Pen k a ⟧ ∗ ⟦ Hand (dealt (suc k) bs h) ⟧) in
        qed 𝓛 (‵ (Pages 0 ps) ∷ ‵ (Hand h) ∷ []) ∵
        use1 𝓛 (raw (upd 𝓤 (⟦ Pages 0 qs ⟧ ∗ ⟦ Pen k a ⟧))) (page_added 𝓛 δ cp ps 0 k a (omega arith)) $
        settle 𝓛 Z (‵ (Pages 0 qs) ⊛ ‵ (Pen k a)) $ split ! $ move ! (0 ∷ 2 ∷ []) $
        use2 𝓛 (raw (upd 𝓤 (⟦ Pages 0 (extended bs qs) ⟧ ∗ ⟦ Hand (dealt (suc k) bs h) ⟧)))
        (pages_dealt bs qs h (suc k) (omega (arith, length-append ps (a ∷ [])))) $
        settle 𝓛 Z (‵ (Pages 0 (extended bs qs)) ⊛ ‵ (Hand (dealt (suc k) bs h))) $ suffices ! _ (upd_i 𝓤 Z) $
        split ! $ move ! (0 ∷ 2 ∷ 1 ∷ []) $ done !

    -- new pages come behind the others
    pub extended_joins : (bs ps : List P) → extended bs ps ≡ ps ++ bs
    extended_joins [] ps = sym (append-nil ps)
    extended_joins (a ∷ bs) ps = extended_joins bs (ps ++ a ∷ []) ∙ append_assoc ps (a ∷ []) bs

    -- two hands are one
    pub hands_joined : (h i : Held P) → ⟦ Hand h ⟧ ∗ ⟦ Hand i ⟧ ⊢ ⟦ Hand (h ++ i) ⟧
    hands_joined [] i = snd∗ 𝓤 ⟦ Hand [] ⟧ ⟦ Hand i ⟧
    hands_joined (e ∷ es) i = qed 𝓛 ((‵ (Pen e.0 e.1) ⊛ ‵ (Hand es)) ∷ ‵ (Hand i) ∷ []) ∵
        split ! $ frame ! $ by ! (hands_joined es i)

    -- a hand is cut in two
    pub hand_cut : (n : ℕ) (h : Held P) → ⟦ Hand h ⟧ ⊢ ⟦ Hand (take n h) ⟧ ∗ ⟦ Hand (skip n h) ⟧
    hand_cut zero h = qed 𝓛 (‵ (Hand h) ∷ []) ∵ nothing ! $ done !
    hand_cut (suc n) [] = qed 𝓛 (‵ (Hand []) ∷ []) ∵ nothing ! $ done !
    hand_cut (suc n) (e ∷ es) = qed 𝓛 (‵ (Pen e.0 e.1) ∷ ‵ (Hand es) ∷ []) ∵ move ! (1 ∷ []) $
        use1 𝓛 (‵ (Hand (take n es)) ⊛ ‵ (Hand (skip n es))) (hand_cut n es) $ split ! $ move ! (2 ∷ 0 ∷ []) $
        join ! $ done !

    -- pages that are set are as many as before
    put_length : (ys : List P) (h : Held P) (ps : List P) → length (put ys h ps) ≡ length ps
    put_length [] h ps = refl
    put_length (y ∷ ys) [] ps = refl
    put_length (y ∷ ys) (e ∷ es) ps = put_length ys es (set ps e.0 y) ∙ length-set ps e.0 y

    -- pages of a hand are set, and others are added: the two ways in which a step changes pages
    pub pages_turn : (ys bs : List P) (h : Held P) (ps : List P) → ⟦ Pages 0 ps ⟧ ∗ ⟦ Hand h ⟧
        ⊢ upd 𝓤 (⟦ Pages 0 (extended bs (put ys h ps)) ⟧ ∗ ⟦ Hand (dealt (length ps) bs (rewritten ys h)) ⟧)
    pages_turn ys bs h ps = let Z : Pr = ⟦ Pages 0 (extended bs (put ys h ps)) ⟧
        ∗ ⟦ Hand (dealt (length ps) bs (rewritten ys h)) ⟧ in
        via 𝓤 (upd 𝓤 (⟦ Pages 0 (put ys h ps) ⟧ ∗ ⟦ Hand (rewritten ys h) ⟧)) (hand_writes ys h ps)
        (via 𝓤 (upd 𝓤 (upd 𝓤 Z)) (upd_mono 𝓤
        (pages_dealt bs (put ys h ps) (rewritten ys h) (length ps) (sym (put_length ys h ps)))) (upd_trans 𝓤 Z))
