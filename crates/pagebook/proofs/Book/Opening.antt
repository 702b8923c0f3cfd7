-- A book is opened: its first words, pages and log get names of their own, and the invariant a number.
use Rattle.std.proofs.Common.{ℕ, ◌≤◌, List, [], ◌∷◌, map, refl, subst}
use seplogic.Ra.Ura.{Ura}
use base.Fraction.{full_share}
use base.Stored.{gnil, gnum, Coded, coded_ℕ}
use base.Logic.{SProp, ent, sep, ex, emp, id⊢, via, upd_mono}
use base.Fml.{Fml, fnamed}
use base.Growing.{latest}
use types.Logic.{Logic, sem}
use types.Owned.{basic, named_past}
use types.Keyed.{entries_new}
use types.Growing.{latest_new}
use types.Kit.{‵, ◌⊛◌, some, given, later, ◌$◌, ◌∵◌, !, qed, move, split, pick, learn, show, done, use0, use1, use2, use3, updating, await, now}
use denote.Steps.{nothing}
use Rattle.pagebook.specs.Pages.{Book, extended, dealt}
use Rattle.pagebook.specs.Owned.{page_algebra, unused, kept, pens, pens_own, log_order, seen_owns}
use Rattle.pagebook.proofs.Page.Hands.{pages_dealt, extended_joins}
use Rattle.pagebook.proofs.Book.Steps.{Log, Had, Inside, log_reached, inside_closed, seen_closed}

module _ {M : Type 1} {𝓤 : Ura M} (𝓛 : Logic 𝓤) where
  open 𝓛 use {H, A as At}

  abbrev Pr : Type 2
  Pr = SProp 𝓤

  abbrev ◌⊢◌ : Pr → Pr → Type 1
  P ⊢ Q = ent 𝓤 P Q

  abbrev ◌∗◌ : Pr → Pr → Pr
  P ∗ Q = sep 𝓤 P Q

  abbrev ⟦◌⟧ : Fml → Pr
  ⟦ P ⟧ = sem 𝓛 P

  infix 26 ◌⊢◌
  infixr 35 ◌∗◌
  module _ {P : Type 0} (cp : Coded P) (ps : List P) where
    -- a row of pages and all their pens
    abbrev Dealt : ℕ → Pr
    Dealt δ = ⟦ kept cp.code δ 0 ps ⟧ ∗ ⟦ pens cp.code δ (dealt 0 ps []) ⟧

    -- new pages of an empty row are the row
    in_order : (δ : ℕ) → ⟦ kept cp.code δ 0 (extended ps []) ⟧ ∗ ⟦ pens cp.code δ (dealt 0 ps []) ⟧ ⊢ Dealt δ
    in_order δ = subst (λ (qs : List P). ⟦ kept cp.code δ 0 (extended ps []) ⟧ ∗ ⟦ pens cp.code δ (dealt 0 ps []) ⟧
        ⊢ ⟦ kept cp.code δ 0 qs ⟧ ∗ ⟦ pens cp.code δ (dealt 0 ps []) ⟧) (extended_joins 𝓛 δ cp ps []) (id⊢ 𝓤 _)

    -- a row of pages under a new name
    row_dealt : emp 𝓤 ⊢ H.⇛ (ex 𝓤 Dealt)
    row_dealt = qed 𝓛 [] ∵ updating ! $ use0 𝓛 (later (some (λ (δ : ℕ). ‵ (unused δ 0))))
        (via 𝓤 _ (entries_new page_algebra 𝓛 0 (λ _. (full_share, gnil))) (basic 𝓛 _)) $ await ! tt $
        pick ! (λ δ. nothing ! $ move ! (1 ∷ 0 ∷ []) $
        use2 𝓛 (later (‵ (kept cp.code δ 0 ps) ⊛ ‵ (pens cp.code δ (dealt 0 ps []))))
        (via 𝓤 _ (pages_dealt 𝓛 δ cp ps [] [] 0 refl) (via 𝓤 _ (upd_mono 𝓤 (in_order δ)) (basic 𝓛 _))) $ await ! tt $
        now ! $ show ! Dealt δ $ split ! $ done !)

  module _ {E P : Type 0} (ce : Coded E) (cp : Coded P) (holds : List ℕ → List P → List E → Type 0) (ns : List ℕ)
      (ps : List P) (log : List E) where
    -- the pens of the words, the first `Seen`, and the pens of the pages
    abbrev pub Opened : Book → Pr
    Opened bk = ⟦ pens gnum bk.words_name (dealt 0 ns []) ⟧ ∗ ⟦ seen_owns ce.code cp.code holds bk log ⟧
        ∗ ⟦ pens_own cp.code bk (dealt 0 ps []) ⟧

    -- a new book of which the rule holds
    pub book_opens : holds ns ps log → emp 𝓤 ⊢ H.⇛ (ex 𝓤 Opened)
    book_opens so = qed 𝓛 [] ∵ updating ! $
        use0 𝓛 (later (some (λ (ω : ℕ). ‵ (kept gnum ω 0 ns) ⊛ ‵ (pens gnum ω (dealt 0 ns [])))))
        (row_dealt coded_ℕ ns) $ await ! tt $ pick ! (λ ω. split ! $
        use0 𝓛 (later (some (λ (δ : ℕ). ‵ (kept cp.code δ 0 ps) ⊛ ‵ (pens cp.code δ (dealt 0 ps [])))))
        (row_dealt cp ps) $ await ! tt $ pick ! (λ δ. split ! $
        use0 𝓛 (later (some (λ (η : ℕ). ‵ (latest log_order full_share η (map ce.code log)))))
        (via 𝓤 _ (latest_new log_order 𝓛 (map ce.code log)) (basic 𝓛 _)) $ await ! tt $ pick ! (λ η.
        let b₀ : Book = record { number = 0; words_name = ω; pages_name = δ; log_name = η } in
        use1 𝓛 (‵ (Log 𝓛 ce cp holds b₀ log) ⊛ ‵ (Had 𝓛 ce cp holds b₀ log)) (log_reached 𝓛 ce cp holds b₀ log) $
        split ! $ move ! (4 ∷ 2 ∷ 0 ∷ []) $
        use3 𝓛 (‵ (Inside 𝓛 ce cp holds b₀)) (inside_closed 𝓛 ce cp holds b₀ ns ps log so) $
        use1 𝓛 (later (some (λ (j : ℕ). given (0 ≤ j) (‵ (fnamed j (Inside 𝓛 ce cp holds b₀))))))
        (named_past 𝓛 0 (Inside 𝓛 ce cp holds b₀)) $ await ! tt $ pick ! (λ j. learn ! (λ _.
        let bk : Book = record { number = j; words_name = ω; pages_name = δ; log_name = η } in
        use2 𝓛 (‵ (seen_owns ce.code cp.code holds bk log)) (seen_closed 𝓛 ce cp holds bk log) $
        now ! $ show ! Opened bk $ move ! (2 ∷ 0 ∷ 1 ∷ []) $ done !)))))
