-- What words and tokens own may go to another thread: it names no thread.
use Rattle.std.proofs.Common.{ℕ, suc, List, [], ◌∷◌}
use base.Fraction.{full_share}
use base.Stored.{Gv, gnil, gnum}
use base.Growing.{latest, at_least}
use base.Shift.{Keyless}
use types.Keyed.{entry_keyless, entries_keyless}
use Rattle.pagebook.specs.Pages.{Book, Named, Held}
use Rattle.pagebook.specs.Owned.{page_algebra, word_pen, kept, pens, seen_owns}

-- the pen of a word
pub word_pen_keyless : (w : Named) (n : ℕ) → Keyless (word_pen w n)
word_pen_keyless w n = entry_keyless page_algebra w.book.words_name w.key _

-- the book's parts
kept_keyless : {P : Type 0} (c : P → Gv) (δ k : ℕ) (ps : List P) → Keyless (kept c δ k ps)
kept_keyless c δ k [] = entries_keyless page_algebra δ k (λ _. (full_share, gnil))
kept_keyless c δ k (x ∷ xs) = (entry_keyless page_algebra δ k _, kept_keyless c δ (suc k) xs)

module _ {P : Type 0} (c : P → Gv) where
  -- the pens in a hand
  pub pens_keyless : (δ : ℕ) (h : Held P) → Keyless (pens c δ h)
  pens_keyless δ [] = tt
  pens_keyless δ (e ∷ es) = (entry_keyless page_algebra δ e.0 _, pens_keyless δ es)

  -- a `Seen`, whatever the rule is
  pub seen_keyless : {E : Type 0} (d : E → Gv) (holds : List ℕ → List P → List E → Type 0) (b : Book) (log : List E)
      → Keyless (seen_owns d c holds b log)
  unfolding Rattle.pagebook.specs.Owned.sealed latest at_least
  seen_keyless d holds b log = ((λ s. (kept_keyless gnum b.words_name 0 s.0, (kept_keyless c b.pages_name 0 s.1.0, (tt, λ _. tt)))), tt)
