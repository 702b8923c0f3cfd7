-- What steps without bytes can't tell. No function needs it: it says why the value of a `Slot` is ordered before the threads that read it.
use Rattle.std.proofs.Common.{◌≡◌, ◌∙◌, ℕ, List, ◌++◌, [], Some, set, slice_get, append-nil}
use mathlib.Core.List.{IsPrefix}
use Rattle.pagebook.specs.Pages.{View, Agrees, Moves, Notes, Sure}
use Rattle.pagebook.proofs.Rows.{get_set_other}

module _ {E P : Type 0} (holds : List ℕ → List P → List E → Type 0) (v : View E P) (k m : ℕ) where
  -- by the rule the view says that the word k is m
  abbrev Known : Type 0
  Known = (ns : List ℕ) (n : ℕ) (ps : List P) (log : List E) → holds ns ps log → slice_get ns k ≡ Some n
      → IsPrefix v.0 log → Agrees v.1 ps → n ≡ m

  -- If what a note tells says the number of a word, then the view with which the note was made said it before. So a
  -- thread that came to know that the state of a slot is 2 stepped a `Word`, or was told by a thread that knew
  pub note_tells_no_number : (then : View E P → Type 0) → Notes holds v then
      → ((w : View E P) → then w → Sure holds w.0 k m) → Known
  note_tells_no_number then law tells ns n ps log so at pre ag = let go = law.goes ns ps log so pre ag in
      (tells _ go.4).is ns n _ (log ++ go.2) go.3 at ([], append-nil (log ++ go.2))

  -- The same of a step of the state of another slot. What number it finds follows from the view: `put` asks for that
  pub put_tells_no_number : (j i : ℕ) (f : ℕ → ℕ) (then : ℕ → View E P → Type 0) → (j ≡ k → ⊥)
      → ((ns : List ℕ) (ps : List P) (log : List E) → holds ns ps log → IsPrefix v.0 log → Agrees v.1 ps
      → slice_get ns j ≡ Some i) → Moves holds v j f then → ((w : View E P) → then i w → Sure holds w.0 k m) → Known
  put_tells_no_number j i f then other known law tells ns n ps log so at pre ag =
      let go = law.goes ns i ps log so (known ns ps log so pre ag) pre ag in
      (tells _ go.4).is (set ns j (f i)) n _ (log ++ go.2) go.3 (get_set_other ns j k (f i) other ∙ at)
      ([], append-nil (log ++ go.2))
