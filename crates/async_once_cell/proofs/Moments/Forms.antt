-- From what a step makes of the machine's pages to a move of the book, for any hand.
use Rattle.std.proofs.Common.{◌≡◌, ℕ, zero, suc, Bool, inl, inr, ⊎_elim, List, [], ◌∷◌, ◌++◌, Option, Some, slice_get, slice_set, refl, sym, ap, ◌∙◌, subst}
use Rattle.std.proofs.lemmas.Bool.{cases_eq, false≢true}
use Rattle.std.proofs.lemmas.List.{append-nil}
use Rattle.pagebook.specs.Pages.{Agrees, Apart, Held, Moves, Notes, put, rewritten}
use Rattle.once_machine.specs.Record.{Entry}
use Rattle.once_machine.specs.Book.{IsBook, Page, TaskState}
use Rattle.once_machine.proofs.Moment.Pages.{set_here, set_other}
use Rattle.async_once_cell.specs.Kept.{Adds, IsKept, IsState, Leaves, Sheet, entries_on, most, pages_in, sheet, sheets, writing_sheet}
use Rattle.async_once_cell.proofs.Moments.Mine.{OnlyOf, on_append}

-- the pages of a hand stand in the list
abbrev pub AreOn : Held Page → List Page → Type 0
AreOn [] ps = Unit {0}
AreOn (e ∷ h) ps = (slice_get ps e.0 ≡ Some e.1) × AreOn h ps

-- the page on a sheet, whether that writes or not
pub page_of : (ss : List Sheet) (k : ℕ) (s : Sheet) → slice_get ss k ≡ Some s → slice_get (pages_in ss) k ≡ Some s.page
page_of [] k s e = let no : ⊥ = cc in absurd no
page_of (z ∷ ss) zero s e = let same : z ≡ s = cc in ap (λ (s : Sheet). Some s.page) same
page_of (z ∷ ss) (suc k) s e = page_of ss k s e

-- a hand that agrees with the book
pub are_on : (seen : List Entry) (h : Held Page) (ss : List Sheet) → Agrees (sheets seen h) ss → AreOn h (pages_in ss)
are_on seen [] ss a = tt
are_on seen (e ∷ h) ss a = (page_of ss e.0 (sheet (entries_on e.0 seen) e.1) a.0, are_on seen h ss a.1.1)

-- one sheet is set
pub page_put : (ss : List Sheet) (k : ℕ) (s : Sheet) → pages_in (slice_set ss k s) ≡ slice_set (pages_in ss) k s.page
page_put [] k s = refl
page_put (z ∷ ss) zero s = refl
page_put (z ∷ ss) (suc k) s = ap (λ (xs : List Page). z.page ∷ xs) (page_put ss k s)

-- a page that is set to what it is
pub set_same : {X : Type 0} (xs : List X) (k : ℕ) (x : X) → slice_get xs k ≡ Some x → slice_set xs k x ≡ xs
set_same [] k x e = refl
set_same (y ∷ xs) zero x e = let same : y ≡ x = cc in ap (λ z. z ∷ xs) (sym same)
set_same (y ∷ xs) (suc k) x e = ap (λ zs. y ∷ zs) (set_same xs k x e)

-- the sheets of a hand whose first pages are set to these, with this log
abbrev sheets_set : List Entry → List Page → Held Page → List Sheet
sheets_set log ys [] = []
sheets_set log [] (e ∷ h) = sheet (entries_on e.0 log) e.1 ∷ sheets_set log [] h
sheets_set log (y ∷ ys) (e ∷ h) = sheet (entries_on e.0 log) y ∷ sheets_set log ys h

-- a hand agrees with the book after another page was set
agrees_set : (es : Held Sheet) (k : ℕ) (y : Sheet) (ss : List Sheet) → Apart k es → Agrees es ss → Agrees es (slice_set ss k y)
agrees_set [] k y ss a b = tt
agrees_set (e ∷ es) k y ss a b = (set_other ss k e.0 y a.0 ∙ b.0, (b.1.0, agrees_set es k y ss a.1 b.1.1))

module _ (seen log : List Entry) where
  -- all sheets of a hand are set
  put_pages : (ys : List Page) (h : Held Page) (ss : List Sheet) → Agrees (sheets seen h) ss → pages_in (put (sheets_set log ys h) (sheets seen h) ss) ≡ put ys h (pages_in ss)
  put_pages [] [] ss a = refl
  put_pages (y ∷ ys) [] ss a = refl
  put_pages [] (e ∷ h) ss a =
      let s : Sheet = sheet (entries_on e.0 log) e.1 in
      put_pages [] h (slice_set ss e.0 s) (agrees_set (sheets seen h) e.0 s ss a.1.0 a.1.1)
      ∙ page_put ss e.0 s ∙ set_same (pages_in ss) e.0 e.1 (page_of ss e.0 (sheet (entries_on e.0 seen) e.1) a.0)
  put_pages (y ∷ ys) (e ∷ h) ss a =
      let s : Sheet = sheet (entries_on e.0 log) y in
      put_pages ys h (slice_set ss e.0 s) (agrees_set (sheets seen h) e.0 s ss a.1.0 a.1.1)
      ∙ ap (put ys h) (page_put ss e.0 s)

  -- the hand afterwards
  hand_after : (ys : List Page) (h : Held Page) → rewritten (sheets_set log ys h) (sheets seen h) ≡ sheets log (rewritten ys h)
  hand_after [] [] = refl
  hand_after (y ∷ ys) [] = refl
  hand_after [] (e ∷ h) = ap (λ (xs : Held Sheet). (e.0, sheet (entries_on e.0 log) e.1) ∷ xs) (hand_after [] h)
  hand_after (y ∷ ys) (e ∷ h) = ap (λ (xs : Held Sheet). (e.0, sheet (entries_on e.0 log) y) ∷ xs) (hand_after ys h)

-- a sheet that does not write is not one that does
pub apart : (es fs : List Entry) (p : Page) (x : TaskState) → ◌≡◌ {A = Option Sheet} (Some (sheet es p)) (Some (writing_sheet fs x)) → ⊥
apart es fs p x e = let same : sheet es p ≡ writing_sheet fs x = cc in false≢true (ap (λ (s : Sheet). s.writing) same)

module _ (seen log : List Entry) where
  -- a task that writes goes on writing while others change their pages
  writer_stays : (ys : List Page) (h : Held Page) (ss : List Sheet) (j : ℕ) (fs : List Entry) (x : TaskState) → Agrees (sheets seen h) ss → slice_get ss j ≡ Some (writing_sheet fs x)
      → slice_get (put (sheets_set log ys h) (sheets seen h) ss) j ≡ Some (writing_sheet fs x)
  writer_stays [] [] ss j fs x a w = w
  writer_stays (y ∷ ys) [] ss j fs x a w = w
  writer_stays [] (e ∷ h) ss j fs x a w =
      let s : Sheet = sheet (entries_on e.0 log) e.1 in
      writer_stays [] h (slice_set ss e.0 s) j fs x (agrees_set (sheets seen h) e.0 s ss a.1.0 a.1.1)
      (set_other ss e.0 j s (λ n. apart (entries_on e.0 seen) fs e.1 x (sym a.0 ∙ ap (slice_get ss) n ∙ w)) ∙ w)
  writer_stays (y ∷ ys) (e ∷ h) ss j fs x a w =
      let s : Sheet = sheet (entries_on e.0 log) y in
      writer_stays ys h (slice_set ss e.0 s) j fs x (agrees_set (sheets seen h) e.0 s ss a.1.0 a.1.1)
      (set_other ss e.0 j s (λ n. apart (entries_on e.0 seen) fs e.1 x (sym a.0 ∙ ap (slice_get ss) n ∙ w)) ∙ w)

  -- so the state of the slot stays
  state_stays : {k : ℕ} {slot : Bool} (ys : List Page) (h : Held Page) (ss : List Sheet) → Agrees (sheets seen h) ss → IsState k slot ss → IsState k slot (put (sheets_set log ys h) (sheets seen h) ss)
  state_stays ys h ss a (inl s) = inl s
  state_stays ys h ss a (inr (inl s)) = inr (inl s)
  state_stays ys h ss a (inr (inr s)) = inr (inr (s.0, s.1, s.2, s.3, s.4, s.5, writer_stays ys h ss (suc (suc s.2)) s.5 s.3 a s.6, s.7))

module _ (seen log es : List Entry) where
  -- what the task of this page added is told by the log now and by what was seen
  abbrev longer : List Entry
  longer = log ++ es

  -- all pages but those of the hand have their entries
  abbrev Others : Held Page → List Sheet → Type 0
  Others h ss = (k : ℕ) (s : Sheet) → slice_get ss k ≡ Some s → Apart k h → s.entries ≡ entries_on k longer

  -- one more has them once its page is set
  other_set : (h : Held Page) (ss : List Sheet) (e : ℕ × Page) (y : Page) → slice_get ss e.0 ≡ Some (sheet (entries_on e.0 seen) e.1) → Others (e ∷ h) ss
      → Others h (slice_set ss e.0 (sheet (entries_on e.0 longer) y))
  other_set h ss e y there o k s at apart = ⊎_elim
      (λ same.
      let now : ◌≡◌ {A = Option Sheet} (Some (sheet (entries_on e.0 longer) y)) (Some s) =
      sym (set_here ss e.0 (sheet (entries_on e.0 seen) e.1) (sheet (entries_on e.0 longer) y) there) ∙ ap (slice_get (slice_set ss e.0 (sheet (entries_on e.0 longer) y))) same ∙ at in
      let is : sheet (entries_on e.0 longer) y ≡ s = cc in
      ap (λ (s : Sheet). s.entries) (sym is) ∙ ap (λ j. entries_on j longer) same)
      (λ n. o k s (sym (set_other ss e.0 k (sheet (entries_on e.0 longer) y) n) ∙ at) ((λ i. n (sym i)), apart))
      (cases_eq e.0 k)

  -- so all have them once all pages of the hand are set
  all_set : (ys : List Page) (h : Held Page) (ss : List Sheet) → Agrees (sheets seen h) ss → Others h ss
      → Others [] (put (sheets_set longer ys h) (sheets seen h) ss)
  all_set [] [] ss a o = o
  all_set (y ∷ ys) [] ss a o = o
  all_set [] (e ∷ h) ss a o =
      let s : Sheet = sheet (entries_on e.0 longer) e.1 in
      all_set [] h (slice_set ss e.0 s) (agrees_set (sheets seen h) e.0 s ss a.1.0 a.1.1) (other_set h ss e e.1 a.0 o)
  all_set (y ∷ ys) (e ∷ h) ss a o =
      let s : Sheet = sheet (entries_on e.0 longer) y in
      all_set ys h (slice_set ss e.0 s) (agrees_set (sheets seen h) e.0 s ss a.1.0 a.1.1) (other_set h ss e y a.0 o)

  -- what the hand's tasks added
  pub adds : (h : Held Page) (ss : List Sheet) → Agrees (sheets seen h) ss → ((k : ℕ) (s : Sheet) → slice_get ss k ≡ Some s → s.entries ≡ entries_on k log) → Adds seen h es longer
  adds [] ss a are = tt
  adds (e ∷ h) ss a are = (
    on_append e.0 log es ∙ ap (λ l. l ++ entries_on e.0 es) (sym (are e.0 (sheet (entries_on e.0 seen) e.1) a.0)),
    adds h ss a.1.1 are,
  )

-- the words of the book
word_at : (w put k n : ℕ) (ns : List ℕ) → ns ≡ w ∷ put ∷ k ∷ [] → slice_get ns 0 ≡ Some n → w ≡ n
word_at w put k n ns e at = let same : ◌≡◌ {A = Option ℕ} (Some w) (Some n) = ap (λ xs. slice_get xs 0) (sym e) ∙ at in cc

-- and the one that says whether a queue was put
put_at : (w put k n : ℕ) (ns : List ℕ) → ns ≡ w ∷ put ∷ k ∷ [] → slice_get ns 1 ≡ Some n → put ≡ n
put_at w put k n ns e at = let same : ◌≡◌ {A = Option ℕ} (Some put) (Some n) = ap (λ xs. slice_get xs 1) (sym e) ∙ at in cc

module _ (seen : List Entry) (h : Held Page) where
  -- after a step that adds entries of the hand's tasks alone, each page has its entries
  all_entries : (log es : List Entry) (ys : List Page) (ss : List Sheet) → OnlyOf h es → Agrees (sheets seen h) ss → ((k : ℕ) (s : Sheet) → slice_get ss k ≡ Some s → s.entries ≡ entries_on k log)
      → (k : ℕ) (s : Sheet) → slice_get (put (sheets_set (log ++ es) ys h) (sheets seen h) ss) k ≡ Some s → s.entries ≡ entries_on k (log ++ es)
  all_entries log es ys ss only a are k s at =
      let others : Others seen log es h ss = λ k s at apart. are k s at ∙ sym (append-nil (entries_on k log)) ∙ ap (λ l. entries_on k log ++ l) (sym (only k apart)) ∙ sym (on_append k log es) in
      all_set seen log es ys h ss a others k s at tt

  -- a step of the cell's word, and what it tells of the log after it
  pub telling_moves : (f : ℕ → ℕ) (ys : ℕ → List Page) (es : ℕ → List Entry) (P : ℕ → List Entry → Type 0) → ((n : ℕ) → OnlyOf h (es n))
      → ((n has_put : ℕ) (slot : Bool) (pages : List Page) (log : List Entry) → IsBook most n has_put slot pages log → AreOn h pages
      → P n (log ++ es n) × IsBook most (f n) has_put slot (put (ys n) h pages) (log ++ es n))
      → Moves IsKept (seen, sheets seen h) 0 f (λ n v. P n v.0 × Leaves seen h (ys n) (es n) v)
  telling_moves f ys es P only goes = record {
    goes = λ ns n ss log k at pre a.
        let same : k.word ≡ n = word_at k.word k.has_put k.state n ns k.words_are at in
        let r = goes n k.has_put k.slot (pages_in ss) log (subst (λ w. IsBook most w k.has_put k.slot (pages_in ss) log) same k.book) (are_on seen h ss a) in (
          sheets_set (log ++ es n) (ys n) h,
          [],
          es n,
          record {
            word = f n;
            has_put = k.has_put;
            state = k.state;
            slot = k.slot;
            words_are = ap (λ xs. slice_set xs 0 (f n)) k.words_are;
            book = subst (λ ps. IsBook most (f n) k.has_put k.slot ps (log ++ es n)) (sym (put_pages seen (log ++ es n) (ys n) h ss a)) r.1;
            state_is = state_stays seen (log ++ es n) (ys n) h ss a k.state_is;
            entries_are = all_entries log (es n) (ys n) ss (only n) a k.entries_are;
          },
          (r.0, (hand_after seen (log ++ es n) (ys n) h, (log, pre, refl), adds seen log (es n) h ss a k.entries_are)),
        );
  }

  -- the same with what it tells of the number found
  pub moves : (f : ℕ → ℕ) (ys : ℕ → List Page) (es : ℕ → List Entry) (P : ℕ → Type 0) → ((n : ℕ) → OnlyOf h (es n))
      → ((n has_put : ℕ) (slot : Bool) (pages : List Page) (log : List Entry) → IsBook most n has_put slot pages log → AreOn h pages
      → P n × IsBook most (f n) has_put slot (put (ys n) h pages) (log ++ es n))
      → Moves IsKept (seen, sheets seen h) 0 f (λ n v. P n × Leaves seen h (ys n) (es n) v)
  moves f ys es P only goes = telling_moves f ys es (λ n log. P n) only goes

  -- a step of the word that says whether a queue was ever put
  pub put_moves : (f : ℕ → ℕ) (ys : ℕ → List Page) (es : ℕ → List Entry) → ((n : ℕ) → OnlyOf h (es n))
      → ((n has_put : ℕ) (slot : Bool) (pages : List Page) (log : List Entry) → IsBook most n has_put slot pages log → AreOn h pages
      → IsBook most n (f has_put) slot (put (ys has_put) h pages) (log ++ es has_put))
      → Moves IsKept (seen, sheets seen h) 1 f (λ k v. Leaves seen h (ys k) (es k) v)
  put_moves f ys es only goes = record {
    goes = λ ns n ss log k at pre a.
        let same : k.has_put ≡ n = put_at k.word k.has_put k.state n ns k.words_are at in
        let r = goes k.word n k.slot (pages_in ss) log (subst (λ p. IsBook most k.word p k.slot (pages_in ss) log) same k.book) (are_on seen h ss a) in (
          sheets_set (log ++ es n) (ys n) h,
          [],
          es n,
          record {
            word = k.word;
            has_put = f n;
            state = k.state;
            slot = k.slot;
            words_are = ap (λ xs. slice_set xs 1 (f n)) k.words_are;
            book = subst (λ ps. IsBook most k.word (f n) k.slot ps (log ++ es n)) (sym (put_pages seen (log ++ es n) (ys n) h ss a)) r;
            state_is = state_stays seen (log ++ es n) (ys n) h ss a k.state_is;
            entries_are = all_entries log (es n) (ys n) ss (only n) a k.entries_are;
          },
          (hand_after seen (log ++ es n) (ys n) h, (log, pre, refl), adds seen log (es n) h ss a k.entries_are),
        );
  }

  -- a note, which touches no word
  pub notes : (ys : List Page) (es : List Entry) (P : Type 0) → OnlyOf h es
      → ((n has_put : ℕ) (slot : Bool) (pages : List Page) (log : List Entry) → IsBook most n has_put slot pages log → AreOn h pages
      → P × IsBook most n has_put slot (put ys h pages) (log ++ es))
      → Notes IsKept (seen, sheets seen h) (λ v. P × Leaves seen h ys es v)
  notes ys es P only goes = record {
    goes = λ ns ss log k pre a.
        let r = goes k.word k.has_put k.slot (pages_in ss) log k.book (are_on seen h ss a) in (
          sheets_set (log ++ es) ys h,
          [],
          es,
          record {
            word = k.word;
            has_put = k.has_put;
            state = k.state;
            slot = k.slot;
            words_are = k.words_are;
            book = subst (λ ps. IsBook most k.word k.has_put k.slot ps (log ++ es)) (sym (put_pages seen (log ++ es) ys h ss a)) r.1;
            state_is = state_stays seen (log ++ es) ys h ss a k.state_is;
            entries_are = all_entries log es ys ss only a k.entries_are;
          },
          (r.0, (hand_after seen (log ++ es) ys h, (log, pre, refl), adds seen log es h ss a k.entries_are)),
        );
  }
