-- What each step does with the ghost state of a book: it looks at words, pages and log, which fit what the thread knows, and changes them together.
use Rattle.std.proofs.Common.{◌≡◌, ℕ, ◌<◌, List, [], ◌∷◌, ◌++◌, map, length, set, slice_get, Some, refl, arith}
use mathlib.Core.List.{IsPrefix, mem-cons, not-mem-nil}
use mathlib.Core.Logic.Or
use mathlib.Core.HLevel.{⊥_prop}
use seplogic.Ra.Ura.{Ura}
use base.Fraction.{full_share}
use base.Stored.{gnum, Coded, coded_ℕ}
use base.Logic.{SProp, ent, sep, ex, guard, upd, id⊢, upd_i}
use base.Fml.{Lft, Share, Fml, ftrue, fsep, fex, flft, fbor, finv, fnamed}
use base.Growing.{latest}
use base.Several.{Apart}
use types.Logic.{Logic, sem}
use types.Growing.{latest_grows, latest_shows, latest_bounds, at_least_dup}
use types.Kit.{Item, ‵, raw, ◌⊛◌, some, given, mean, ◌$◌, ◌∵◌, !, qed, by, move, keep, drop, split, split3, group, fsplit, fsplit3, fjoin, fjoin3, fpick}
use types.Kit.{fpack, pick, learn, show, check, frame, each, assume, suffices, settle, done, use1, use2, use3}
use denote.RawPtr.{block_ptr}
use denote.Steps.{nothing}
use Rattle.core.specs.Sync.RawAtomic.{word, asks, always}
use Rattle.core.proofs.raw_atomic.Asked.{borrowed_with, LiesWith, AgainWith}
use Rattle.pagebook.specs.Pages.{Book, Named, named, Held, View, Agrees, rewritten, put, extended, dealt, Keeps, Moves, Notes}
use Rattle.pagebook.specs.Owned.{known, kept, pens_own, log_order, word_pen, reached, state, inside, seen_owns, lies, lying}
use Rattle.pagebook.proofs.Page.Parts.{pen_tells, pen_writes}
use Rattle.pagebook.proofs.Page.Hands.{hand_agrees, pages_turn}
use Rattle.pagebook.proofs.Book.Codes.{prefix_of_codes, codes_joined}

-- two invariants with different numbers can be open at once
two_apart : (i j : ℕ) (P Q : Fml) → ¬ (i ≡ j) → Apart ((i, P) ∷ (j, Q) ∷ [])
two_apart i j P Q ne = ((λ m. Or.elim ⊥_prop ((mem-cons {a = i} {b = j} {l = []}).0 m) ne (λ x. not-mem-nil x)), ((λ m. not-mem-nil m), tt))

module _ {M : Type 1} {𝓤 : Ura M} (𝓛 : Logic 𝓤) where
  open 𝓛 use {H, A as At}

  abbrev Pr : Type 2
  Pr = SProp 𝓤

  abbrev ◌⊢◌ : Pr → Pr → Type 1
  P ⊢ Q = ent 𝓤 P Q

  abbrev ◌∗◌ : Pr → Pr → Pr
  P ∗ Q = sep 𝓤 P Q

  abbrev ⟦◌⟧ : Fml → Pr
  ⟦ P ⟧ = sem 𝓛 P

  infix 26 ◌⊢◌
  infixr 35 ◌∗◌
  module _ {E P : Type 0} (ce : Coded E) (cp : Coded P) (holds : List ℕ → List P → List E → Type 0) (bk : Book) where
    -- what the book's invariant holds
    abbrev pub Inside : Fml
    Inside = inside ce.code cp.code holds bk

    -- the book is there, for good
    abbrev There : Fml
    There = fnamed bk.number Inside

    -- the log began so
    abbrev pub Had : List E → Fml
    Had = reached ce.code bk.log_name

    -- the log, as the book has it
    abbrev pub Log : List E → Fml
    Log log = latest log_order full_share bk.log_name (map ce.code log)

    -- the book's parts of its words
    abbrev Words : List ℕ → Fml
    Words ns = kept gnum bk.words_name 0 ns

    -- the book's parts of its pages
    abbrev Pages : List P → Fml
    Pages ps = kept cp.code bk.pages_name 0 ps

    -- the pens that a thread brings
    abbrev Hand : Held P → Fml
    Hand h = pens_own cp.code bk h

    -- what a `Seen` owns
    abbrev Knows : List E → Fml
    Knows = seen_owns ce.code cp.code holds bk

    abbrev State : Type 0
    State = List ℕ × (List P × List E)

    -- a `Seen` is the book and a log that it reached
    seen_opened : (log : List E) → ⟦ Knows log ⟧ ⊢ ⟦ There ⟧ ∗ ⟦ Had log ⟧
    unfolding Rattle.pagebook.specs.Owned.sealed
    seen_opened log = id⊢ 𝓤 _

    -- and the other way round
    pub seen_closed : (log : List E) → ⟦ There ⟧ ∗ ⟦ Had log ⟧ ⊢ ⟦ Knows log ⟧
    unfolding Rattle.pagebook.specs.Owned.sealed
    seen_closed log = id⊢ 𝓤 _

    -- it can be had twice
    pub seen_copied : (log : List E) → ⟦ Knows log ⟧ ⊢ ⟦ Knows log ⟧ ∗ ⟦ Knows log ⟧
    seen_copied log = qed 𝓛 (‵ (Knows log) ∷ []) ∵ use1 𝓛 (‵ There ⊛ ‵ (Had log)) (seen_opened log) $
        split ! $ use1 𝓛 (‵ There ⊛ ‵ There) (𝓛.invs.named_dup bk.number Inside) $ split ! $ move ! (2 ∷ []) $
        use1 𝓛 (‵ (Had log) ⊛ ‵ (Had log)) (at_least_dup log_order 𝓛 bk.log_name (map ce.code log)) $
        split ! $ move ! (2 ∷ 0 ∷ []) $ use2 𝓛 (‵ (Knows log)) (seen_closed log) $ frame ! $ move ! (1 ∷ 0 ∷ []) $
        by ! (seen_closed log)

    -- it says that the book is there, and is not used up by that
    seen_there : (log : List E) → ⟦ Knows log ⟧ ⊢ ⟦ There ⟧ ∗ ⟦ Knows log ⟧
    seen_there log = qed 𝓛 (‵ (Knows log) ∷ []) ∵ use1 𝓛 (‵ There ⊛ ‵ (Had log)) (seen_opened log) $ split ! $
        use1 𝓛 (‵ There ⊛ ‵ There) (𝓛.invs.named_dup bk.number Inside) $ split ! $ frame ! $ by ! (seen_closed log)

    -- it says what the log began with
    pub seen_reached : (log : List E) → ⟦ Knows log ⟧ ⊢ ⟦ Had log ⟧
    seen_reached log = qed 𝓛 (‵ (Knows log) ∷ []) ∵ use1 𝓛 (‵ There ⊛ ‵ (Had log)) (seen_opened log) $
        split ! $ drop ! $ done !

    -- what was seen of the log is how it begins
    log_begins : (log l : List E) → ⟦ Log log ⟧ ∗ ⟦ Had l ⟧ ⊢ guard 𝓤 (IsPrefix l log) (⟦ Log log ⟧ ∗ ⟦ Had l ⟧)
    log_begins log l = qed 𝓛 (‵ (Log log) ∷ ‵ (Had l) ∷ []) ∵
        use2 𝓛 (given (IsPrefix (map ce.code l) (map ce.code log)) (‵ (Log log) ⊛ ‵ (Had l)))
        (latest_bounds log_order 𝓛 full_share bk.log_name (map ce.code log) (map ce.code l)) $
        learn ! (λ p. check ! (prefix_of_codes ce l log p.0 p.1) $ done !)

    -- what the log is may be seen of it
    pub log_reached : (log : List E) → ⟦ Log log ⟧ ⊢ ⟦ Log log ⟧ ∗ ⟦ Had log ⟧
    log_reached log = latest_shows log_order 𝓛 full_share bk.log_name (map ce.code log) (map ce.code log)
        (log_order.same (map ce.code log))

    -- entries are added behind the others
    log_grows : (log more : List E) → ⟦ Log log ⟧ ⊢ upd 𝓤 ⟦ Log (log ++ more) ⟧
    log_grows log more = latest_grows log_order 𝓛 bk.log_name (map ce.code log) (map ce.code (log ++ more))
        (map ce.code more, codes_joined ce log more)

    -- words, pages and a log of which the rule holds are a book
    pub inside_closed : (ns : List ℕ) (ps : List P) (log : List E) → holds ns ps log → ⟦ Words ns ⟧ ∗ ⟦ Pages ps ⟧
        ∗ ⟦ Log log ⟧ ⊢ ⟦ Inside ⟧
    inside_closed ns ps log so = qed 𝓛 (‵ (Words ns) ∷ ‵ (Pages ps) ∷ ‵ (Log log) ∷ []) ∵
        nothing ! $ fpack ! (holds ns ps log) (λ _. ftrue) so $ move ! (3 ∷ 0 ∷ []) $ fjoin ! $
        move ! (1 ∷ 2 ∷ 0 ∷ []) $ fjoin3 ! $ fpack ! State (state ce.code cp.code holds bk) (ns, (ps, log)) $ done !

    -- what the book is like for a thread that has seen the log l
    abbrev Looks : List E → State → Pr
    Looks l s = guard 𝓤 (holds s.0 s.1.0 s.1.1 × IsPrefix l s.1.1) (⟦ Words s.0 ⟧ ∗ ⟦ Pages s.1.0 ⟧ ∗ ⟦ Log s.1.1 ⟧)

    -- the other way round, beside what was seen of the log
    inside_opened : (l : List E) → ⟦ Inside ⟧ ∗ ⟦ Had l ⟧ ⊢ ex 𝓤 (Looks l)
    inside_opened l = qed 𝓛 (‵ Inside ∷ ‵ (Had l) ∷ []) ∵ fpick ! (λ s. fsplit3 ! $ move ! (2 ∷ []) $
        fsplit ! $ move ! (1 ∷ []) $ fpick ! (λ so. drop ! $ move ! (0 ∷ 3 ∷ []) $
        use2 𝓛 (given (IsPrefix l s.1.1) (‵ (Log s.1.1) ⊛ ‵ (Had l))) (log_begins s.1.1 l) $
        learn ! (λ p. split ! $ show ! (Looks l) s $ check ! (so, p) $ keep ! (2 ∷ 3 ∷ 0 ∷ []) $ done !)))

    abbrev Opening : List E → Item 𝓤
    Opening l = some (λ (s : State). given (holds s.0 s.1.0 s.1.1 × IsPrefix l s.1.1)
        (‵ (Words s.0) ⊛ ‵ (Pages s.1.0) ⊛ ‵ (Log s.1.1)))

    -- the log that is told to a thread that has seen two
    abbrev pub Learned : List E → List E → List E → Pr
    Learned x y log = guard 𝓤 (IsPrefix x log × IsPrefix y log × ((ns : List ℕ) × (ps : List P) × holds ns ps log)) ⟦
        Knows log ⟧

    -- a thread that has seen two logs of a book learns one that begins with both, and of which the rule holds
    pub learns : (x y : List E) → ⟦ Knows x ⟧ ∗ ⟦ Had y ⟧ ⊢ H.⇛ (ex 𝓤 (Learned x y))
    learns x y = let Z : Pr = ex 𝓤 (Learned x y) in
        qed 𝓛 (‵ (Knows x) ∷ ‵ (Had y) ∷ []) ∵ use1 𝓛 (‵ There ⊛ ‵ (Had x)) (seen_opened x) $ split ! $
        use1 𝓛 (‵ There ⊛ ‵ There) (𝓛.invs.named_dup bk.number Inside) $
        split ! $ use1 𝓛 (‵ (finv Inside)) (𝓛.invs.named_inv bk.number Inside) $
        suffices ! _ (𝓛.invs.inv_acc Inside Z) $ frame ! $ assume ! (‵ Inside) $
        suffices ! _ (upd_i 𝓤 (⟦ Inside ⟧ ∗ Z)) $ move ! (0 ∷ 2 ∷ []) $ use2 𝓛 (Opening x) (inside_opened x) $
        pick ! (λ s. learn ! (λ so. split3 ! $ move ! (2 ∷ 4 ∷ []) $
        use2 𝓛 (given (IsPrefix y s.1.1) (‵ (Log s.1.1) ⊛ ‵ (Had y))) (log_begins s.1.1 y) $
        learn ! (λ q. split ! $ use1 𝓛 (‵ (Log s.1.1) ⊛ ‵ (Had s.1.1)) (log_reached s.1.1) $
        split ! $ move ! (3 ∷ 4 ∷ 0 ∷ []) $
        use3 𝓛 (‵ Inside) (inside_closed s.0 s.1.0 s.1.1 so.0) $ frame ! $ show ! (Learned x y) s.1.1 $
        check ! (so.1, q, (s.0, s.1.0, so.0)) $ keep ! (2 ∷ 0 ∷ []) $ by ! (seen_closed s.1.1))))

    module _ (v : View E P) where
      -- what a thread sees after a step with these new values, pages and entries
      abbrev view_of : List P → List P → List E → List P → List E → View E P
      view_of ys bs more ps log = (log ++ more, dealt (length ps) bs (rewritten ys v.1))

      -- a step whose law gives a way on: pages, words and log go along, and the rule holds again
      state_turns : (then : View E P → Type 0) (ns : List ℕ) (ps : List P) (log : List E)
          (go : Keeps holds v ns then ps log)
          → ⟦ Pages ps ⟧ ∗ ⟦ Hand v.1 ⟧ ∗ ⟦ Words ns ⟧ ∗ ⟦ Log log ⟧ ∗ ⟦ There ⟧
          ⊢ upd 𝓤 (⟦ Inside ⟧ ∗ ⟦ Knows (view_of go.0 go.1 go.2 ps log).0 ⟧
          ∗ ⟦ Hand (view_of go.0 go.1 go.2 ps log).1 ⟧)
      state_turns then ns ps log go = let qs : List P = extended go.1 (put go.0 v.1 ps) in
          let u : View E P = view_of go.0 go.1 go.2 ps log in let Z : Pr = ⟦ Inside ⟧ ∗ ⟦ Knows u.0 ⟧ ∗ ⟦ Hand u.1 ⟧ in
          qed 𝓛 (‵ (Pages ps) ∷ ‵ (Hand v.1) ∷ ‵ (Words ns) ∷ ‵ (Log log) ∷ ‵ There ∷ []) ∵
          use2 𝓛 (raw (upd 𝓤 (⟦ Pages qs ⟧ ∗ ⟦ Hand u.1 ⟧))) (pages_turn 𝓛 bk.pages_name cp go.0 go.1 v.1 ps) $
          settle 𝓛 Z (‵ (Pages qs) ⊛ ‵ (Hand u.1)) $ split ! $ move ! (3 ∷ []) $
          use1 𝓛 (raw (upd 𝓤 ⟦ Log u.0 ⟧)) (log_grows log go.2) $ settle 𝓛 Z (‵ (Log u.0)) $
          use1 𝓛 (‵ (Log u.0) ⊛ ‵ (Had u.0)) (log_reached u.0) $ split ! $
          suffices ! _ (upd_i 𝓤 Z) $ move ! (4 ∷ 2 ∷ 0 ∷ []) $ use3 𝓛 (‵ Inside) (inside_closed ns qs u.0 go.3) $
          frame ! $ move ! (2 ∷ 0 ∷ []) $ use2 𝓛 (‵ (Knows u.0)) (seen_closed u.0) $ done !

    module _ (v : View E P) (then : View E P → Type 0) where
      -- what a note leaves
      abbrev pub Noted : View E P → Pr
      Noted u = guard 𝓤 (IsPrefix v.0 u.0 × then u) (⟦ Knows u.0 ⟧ ∗ ⟦ Hand u.1 ⟧)

      -- a step with no word
      pub notes : Notes holds v then → ⟦ Knows v.0 ⟧ ∗ ⟦ Hand v.1 ⟧ ⊢ H.⇛ (ex 𝓤 Noted)
      notes law = let Z : Pr = ex 𝓤 Noted in let W : Pr = ⟦ Inside ⟧ ∗ Z in
          qed 𝓛 (‵ (Knows v.0) ∷ ‵ (Hand v.1) ∷ []) ∵ use1 𝓛 (‵ There ⊛ ‵ (Had v.0)) (seen_opened v.0) $ split ! $
          use1 𝓛 (‵ There ⊛ ‵ There) (𝓛.invs.named_dup bk.number Inside) $
          split ! $ use1 𝓛 (‵ (finv Inside)) (𝓛.invs.named_inv bk.number Inside) $
          suffices ! _ (𝓛.invs.inv_acc Inside Z) $ frame ! $ assume ! (‵ Inside) $ move ! (0 ∷ 2 ∷ []) $
          use2 𝓛 (Opening v.0) (inside_opened v.0) $ pick ! (λ s. learn ! (λ so. split3 ! $ move ! (1 ∷ 4 ∷ []) $
          let ns : List ℕ = s.0 in let ps : List P = s.1.0 in let log : List E = s.1.1 in
          use2 𝓛 (given (Agrees v.1 ps) (‵ (Pages ps) ⊛ ‵ (Hand v.1))) (hand_agrees 𝓛 bk.pages_name cp v.1 ps) $
          learn ! (λ ag. split ! $ let go = law.goes ns ps log so.0 so.1 ag in
          let u : View E P = view_of v go.0 go.1 go.2 ps log in
          group ! 5 $ use1 𝓛 (raw (upd 𝓤 (⟦ Inside ⟧ ∗ ⟦ Knows u.0 ⟧ ∗ ⟦ Hand u.1 ⟧)))
          (state_turns v then ns ps log go) $ settle 𝓛 W (‵ Inside ⊛ ‵ (Knows u.0) ⊛ ‵ (Hand u.1)) $
          split3 ! $ suffices ! _ (upd_i 𝓤 W) $ frame ! $ show ! Noted u $
          check ! (base.Growing.prefix_trans v.0 log u.0 so.1 (go.2, refl), go.4) $ done !)))

    module _ (k : ℕ) (v : View E P) (f : ℕ → ℕ) (then : ℕ → View E P → Type 0) where
      abbrev w : Named
      w = named bk k

      -- what a step of a word leaves, if it found n
      abbrev pub Turned : ℕ → View E P → Pr
      Turned n u = guard 𝓤 (IsPrefix v.0 u.0 × then n u)
          (⟦ Inside ⟧ ∗ ⟦ word_pen w (f n) ⟧ ∗ ⟦ Knows u.0 ⟧ ∗ ⟦ Hand u.1 ⟧)

      abbrev Turning : ℕ → Item 𝓤
      Turning n = some (λ (u : View E P). given (IsPrefix v.0 u.0 × then n u)
          (‵ Inside ⊛ ‵ (word_pen w (f n)) ⊛ ‵ (Knows u.0) ⊛ ‵ (Hand u.1)))

      -- While the book is open, the pen of a word is all that a step of the word needs: no memory has to change
      word_turns : Moves holds v k f then → (n : ℕ) → ⟦ Inside ⟧ ∗ ⟦ Knows v.0 ⟧ ∗ ⟦ Hand v.1 ⟧ ∗ ⟦ word_pen w n ⟧
          ⊢ upd 𝓤 (ex 𝓤 (Turned n))
      word_turns law n = let ω : ℕ = bk.words_name in let n' : ℕ = f n in let Z : Pr = ex 𝓤 (Turned n) in
          qed 𝓛 (‵ Inside ∷ ‵ (Knows v.0) ∷ ‵ (Hand v.1) ∷ ‵ (word_pen w n) ∷ []) ∵ move ! (1 ∷ []) $
          use1 𝓛 (‵ There ⊛ ‵ (Had v.0)) (seen_opened v.0) $ split ! $ move ! (2 ∷ 1 ∷ []) $
          use2 𝓛 (Opening v.0) (inside_opened v.0) $
          pick ! (λ s. learn ! (λ so. split3 ! $ let ns : List ℕ = s.0 in let ps : List P = s.1.0 in
          let log : List E = s.1.1 in move ! (0 ∷ 5 ∷ []) $
          use2 𝓛 (given (slice_get ns k ≡ Some n) (‵ (Words ns) ⊛ ‵ (word_pen w n)))
          (pen_tells 𝓛 ω coded_ℕ ns 0 k k n (omega arith)) $ learn ! (λ at. split ! $ move ! (2 ∷ 5 ∷ []) $
          use2 𝓛 (given (Agrees v.1 ps) (‵ (Pages ps) ⊛ ‵ (Hand v.1))) (hand_agrees 𝓛 bk.pages_name cp v.1 ps) $
          learn ! (λ ag. split ! $
          let go = law.goes ns n ps log so.0 at so.1 ag in let ms : List ℕ = set ns k n' in
          let u : View E P = view_of v go.0 go.1 go.2 ps log in move ! (2 ∷ 3 ∷ []) $
          use2 𝓛 (raw (upd 𝓤 (⟦ Words ms ⟧ ∗ ⟦ word_pen w n' ⟧)))
          (pen_writes 𝓛 ω coded_ℕ ns 0 k k n n' (omega arith)) $
          settle 𝓛 Z (‵ (Words ms) ⊛ ‵ (word_pen w n')) $ split ! $ move ! (2 ∷ 3 ∷ 0 ∷ 4 ∷ 5 ∷ []) $ group ! 5 $
          use1 𝓛 (raw (upd 𝓤 (⟦ Inside ⟧ ∗ ⟦ Knows u.0 ⟧ ∗ ⟦ Hand u.1 ⟧))) (state_turns v (then n) ms ps log go) $
          settle 𝓛 Z (‵ Inside ⊛ ‵ (Knows u.0) ⊛ ‵ (Hand u.1)) $ split3 ! $ suffices ! _ (upd_i 𝓤 Z) $
          show ! (Turned n) u $ check ! (base.Growing.prefix_trans v.0 log u.0 so.1 (go.2, refl), go.4) $
          move ! (0 ∷ 3 ∷ []) $ done !))))

      module _ (also : ℕ → Fml) where
        abbrev pub next_beside : ℕ → View E P → Fml
        next_beside n u = fsep (known (IsPrefix v.0 u.0 × then n u)) (fsep (fsep (Knows u.0) (Hand u.1)) (also n))

        abbrev pub after_beside : ℕ → Fml
        after_beside n = fex (View E P) (next_beside n)

        module _ (κ : Lft) (q : Share) (i : ℕ) (I : Fml) (W : Type 0) (beside : ℕ → W → Fml) (X : Pr) where
          abbrev Into : ℕ → W → Pr
          Into n s = ⟦ beside (f n) s ⟧ ∗ ⟦ also n ⟧

          -- One step of a word without bytes. An invariant I holds its pen, and more beside it, which changes along
          -- and gives `also`
          pub steps_beside : bk.number < i → Moves holds v k f then
              → ⟦ I ⟧ ⊢ mean 𝓛 (some (λ (z : ℕ × W). ‵ (word_pen w z.0) ⊛ ‵ (beside z.0 z.1)))
              → ((n : ℕ) (s : W) → ⟦ word_pen w n ⟧ ∗ ⟦ beside n s ⟧ ⊢ ⟦ I ⟧)
              → ((n : ℕ) (s : W) (u : View E P) → then n u → ⟦ beside n s ⟧ ∗ X ⊢ upd 𝓤 (ex 𝓤 (Into n)))
              → At.named i (fbor κ I) ∗ At.lft κ q ∗ ⟦ Knows v.0 ⟧ ∗ ⟦ Hand v.1 ⟧ ∗ X
              ⊢ H.⇛ (⟦ fex ℕ after_beside ⟧ ∗ At.lft κ q)
          steps_beside past law apart puts along = let Ps : List (ℕ × Fml) = (bk.number, Inside) ∷ [] in
              let Q : Pr = ⟦ fex ℕ after_beside ⟧ in let R : Pr = ⟦ I ⟧ ∗ ⟦ fsep Inside ftrue ⟧ ∗ Q in
              qed 𝓛 (‵ (fnamed i (fbor κ I)) ∷ ‵ (flft κ q) ∷ ‵ (Knows v.0) ∷ ‵ (Hand v.1) ∷ raw X ∷ []) ∵
              move ! (2 ∷ []) $ use1 𝓛 (‵ There ⊛ ‵ (Knows v.0)) (seen_there v.0) $ split ! $
              nothing ! $ move ! (1 ∷ 0 ∷ []) $ fjoin ! $ move ! (2 ∷ 0 ∷ []) $ fjoin ! $ move ! (0 ∷ 2 ∷ []) $
              suffices ! _ (𝓛.invs.invs_bor_acc i κ q I Ps Q (two_apart i bk.number (fbor κ I) Inside
              (λ (x : i ≡ bk.number). omega arith))) $ frame ! $ frame ! $ assume ! (‵ I ⊛ ‵ (fsep Inside ftrue)) $
              split ! $ move ! (1 ∷ []) $ fsplit ! $ move ! (2 ∷ []) $
              use1 𝓛 (some (λ (z : ℕ × W). ‵ (word_pen w z.0) ⊛ ‵ (beside z.0 z.1))) apart $
              pick ! (λ z. let n : ℕ = z.0 in split ! $ move ! (2 ∷ 4 ∷ 5 ∷ 0 ∷ []) $ group ! 4 $
              use1 𝓛 (raw (upd 𝓤 (ex 𝓤 (Turned n)))) (word_turns law n) $ settle 𝓛 R (Turning n) $
              pick ! (λ u. learn ! (λ so. split ! $ move ! (1 ∷ []) $ split3 ! $ move ! (4 ∷ 6 ∷ []) $
              use2 𝓛 (raw (upd 𝓤 (ex 𝓤 (Into n)))) (along n z.1 u so.1) $
              settle 𝓛 R (some (λ (y : W). ‵ (beside (f n) y) ⊛ ‵ (also n))) $
              pick ! (λ y. split ! $ suffices ! _ (upd_i 𝓤 R) $ move ! (2 ∷ 0 ∷ []) $
              use2 𝓛 (‵ I) (puts (f n) y) $ frame ! $ move ! (3 ∷ 4 ∷ []) $ fjoin ! $ frame ! $
              move ! (1 ∷ 2 ∷ 0 ∷ []) $ fjoin ! $ fjoin ! $
              nothing ! $ fpack ! (IsPrefix v.0 u.0 × then n u) (λ _. ftrue) so $ fjoin ! $
              fpack ! (View E P) (next_beside n) u $ fpack ! ℕ after_beside n $ done !))))

    module _ (k b o : ℕ) (κ : Lft) (q : Share) (i : ℕ) (v : View E P) (f : ℕ → ℕ) (then : ℕ → View E P → Type 0) where
      abbrev I : Fml
      I = lying (named bk k) b o

      abbrev pub next : ℕ → View E P → Fml
      next n u = fsep (known (IsPrefix v.0 u.0 × then n u)) (fsep (Knows u.0) (Hand u.1))

      abbrev pub after : ℕ → Fml
      after n = fex (View E P) (next n)

      -- One step of a `Word`: its bytes and its pen, which an invariant holds, change at once
      steps_to : bk.number < i → Moves holds v k f then → (out : ℕ → Fml) → ((n : ℕ) → ⟦ after n ⟧ ⊢ ⟦ out n ⟧)
          → At.named i (fbor κ I) ∗ At.lft κ q ∗ ⟦ Knows v.0 ⟧ ∗ ⟦ Hand v.1 ⟧
          ⊢ asks 𝓛 (block_ptr b o) f always (λ n. fsep (flft κ q) (out n))
      steps_to past law out gives = let Y = ‵ (Knows v.0) ⊛ ‵ (Hand v.1) in
          let G : Pr = ex 𝓤 (LiesWith 𝓛 κ q I b o f always out Inside) in
          qed 𝓛 (‵ (fnamed i (fbor κ I)) ∷ ‵ (flft κ q) ∷ ‵ (Knows v.0) ∷ ‵ (Hand v.1) ∷ []) ∵ move ! (2 ∷ []) $
          use1 𝓛 (‵ There ⊛ ‵ (Knows v.0)) (seen_there v.0) $ split ! $ move ! (2 ∷ 0 ∷ 3 ∷ []) $
          by ! (borrowed_with 𝓛 κ q I b o f always out i bk.number Inside (λ (x : bk.number ≡ i). omega arith)
          (mean 𝓛 Y) (qed 𝓛 (‵ I ∷ ‵ Inside ∷ ‵ (Knows v.0) ∷ ‵ (Hand v.1) ∷ []) ∵
          fpick ! (λ n. fsplit ! $ move ! (2 ∷ 3 ∷ 4 ∷ 1 ∷ []) $ group ! 4 $
          use1 𝓛 (raw (upd 𝓤 (ex 𝓤 (Turned k v f then n)))) (word_turns k v f then law n) $
          settle 𝓛 G (Turning k v f then n) $
          pick ! (λ u. learn ! (λ so. split ! $ move ! (1 ∷ []) $ split3 ! $ suffices ! _ (upd_i 𝓤 G) $
          move ! (4 ∷ []) $ show ! (LiesWith 𝓛 κ q I b o f always out Inside) n $
          frame ! $ each ! (λ (_ : Unit {0}). AgainWith 𝓛 κ q I b o f always out Inside n)
          (λ _. assume ! (‵ (word b o (f n))) $ let Z : Pr = ⟦ I ⟧ ∗ ⟦ Inside ⟧ ∗ ⟦ out n ⟧ in
          suffices ! _ (upd_i 𝓤 Z) $ move ! (0 ∷ 1 ∷ []) $ fjoin ! $ fpack ! ℕ (lies (named bk k) b o) (f n) $ frame ! $
          move ! (2 ∷ []) $ frame ! $ fjoin ! $
          nothing ! $ fpack ! (IsPrefix v.0 u.0 × then n u) (λ _. ftrue) so $ fjoin ! $
          fpack ! (View E P) (next n) u $ use1 𝓛 (‵ (out n)) (gives n) $ done !))))))

      pub steps : bk.number < i → Moves holds v k f then → At.named i (fbor κ I) ∗ At.lft κ q ∗ ⟦ Knows v.0 ⟧
          ∗ ⟦ Hand v.1 ⟧ ⊢ asks 𝓛 (block_ptr b o) f always (λ n. fsep (flft κ q) (after n))
      steps past law = steps_to past law after (λ n. id⊢ 𝓤 _)

      -- the same, if the number found is not told
      pub steps_untold : bk.number < i → Moves holds v k f then → At.named i (fbor κ I) ∗ At.lft κ q ∗ ⟦ Knows v.0 ⟧
          ∗ ⟦ Hand v.1 ⟧ ⊢ asks 𝓛 (block_ptr b o) f always (λ _. fsep (flft κ q) (fex ℕ after))
      steps_untold past law = steps_to past law (λ _. fex ℕ after) (λ n. base.Logic.ex_i 𝓤 (λ (m : ℕ). ⟦ after m ⟧) n)
