-- What a word and the tokens of a book own.
-- Each page lies in two parts under one name: the book keeps a quarter of it, and three quarters are its pen.
-- A thread that has both may change it, and one that has either knows its value.
-- The words lie in the same way under a name of their own; the pen of a word is in the `Word`.
-- The book's part is an invariant for good. It has no bytes.
-- A word that is shared is an invariant too, with a greater number, so that a step can open both.
use Rattle.core.specs.Prelude.{ℕ, suc, ◌<◌, List, [], ◌∷◌, map}
use base.Fraction.{full_share}
use base.Share.{quarter, three_quarters}
use base.Stored.{Gv, gnil, gnum, Coded}
use base.Algebra.{Algebra}
use base.SetCodes.{coded}
use base.Algebras.{both, shares, agreed}
use base.Growing.{Order, prefixes, latest, at_least}
use base.Before.{before}
use base.Fml.{Lft, Share, Fml, ftrue, ffalse, fsep, fex, fbor, fnamed}
use types.Keyed.{entry, entries_from}
use denote.RawPtr.{Ptr, block_ptr, null_ptr}
use Rattle.core.specs.Sync.RawAtomic.{word}
use Rattle.pagebook.specs.Pages.{Book, Named, Held, dealt}

-- the fact φ
abbrev pub known : Type 0 → Fml
known φ = fex φ (λ _. ftrue)

-- ghost values as they are: pages and entries are kept by their codes, so that the algebras name no type parameter
abbrev pub as_coded : Coded Gv
as_coded = record { code = λ g. g; inj = λ x y p. p }

-- a share of a page, and its value, on which all that have a share agree
abbrev pub page_algebra : Algebra
page_algebra = both shares (agreed (coded as_coded))

-- the part q of the page k, whose value is g
abbrev pub part : ℕ → ℕ → Share → Gv → Fml
part δ k q g = entry page_algebra δ k (q, g)

-- all pages from k on, which nobody uses yet
abbrev pub unused : ℕ → ℕ → Fml
unused δ k = entries_from page_algebra δ k (λ _. (full_share, gnil))

-- logs, by how they begin
abbrev pub log_order : Order (List Gv)
log_order = prefixes as_coded

-- It means F x, and does not unfold by itself, so that a search for `Send` finds the rule in what a token owns
unfoldable pub sealed : (X : Type 1) → X → (X → Fml) → Fml
sealed X x F = F x

-- a word's own pen: its value is n
abbrev pub word_pen : Named → ℕ → Fml
word_pen w n = part w.book.words_name w.key three_quarters (gnum n)

module _ {P : Type 0} (c : P → Gv) where
  -- the book's part of each page from k on
  abbrev pub kept : ℕ → ℕ → List P → Fml
  kept δ k [] = unused δ k
  kept δ k (x ∷ xs) = fsep (part δ k quarter (c x)) (kept δ (suc k) xs)

  -- the pens in a hand
  abbrev pub pens : ℕ → Held P → Fml
  pens δ [] = ftrue
  pens δ (e ∷ es) = fsep (part δ e.0 three_quarters (c e.1)) (pens δ es)

  abbrev pub pens_own : Book → Held P → Fml
  pens_own b h = pens b.pages_name h

-- the pens of blanks, which are words of which nothing is made yet: their keys are k and those after it
abbrev pub blanks_own : Book → ℕ → List ℕ → Fml
blanks_own b k ns = pens gnum b.words_name (dealt k ns [])

-- the log began so at some moment, and does from then on
abbrev pub reached : {E : Type 0} → (E → Gv) → ℕ → List E → Fml
reached c η log = at_least log_order η (map c log)

module _ {E P : Type 0} (c : E → Gv) (d : P → Gv) where
  abbrev pub Law : Type 1
  Law = List ℕ → List P → List E → Type 0

  -- the book holds these words, these pages and this log, and the rule holds of them
  abbrev pub state : Law → Book → List ℕ × (List P × List E) → Fml
  state holds b s = fsep (kept gnum b.words_name 0 s.0) (fsep (kept d b.pages_name 0 s.1.0)
      (fsep (latest log_order full_share b.log_name (map c s.1.1)) (known (holds s.0 s.1.0 s.1.1))))

  -- what the book's invariant holds
  abbrev pub inside : Law → Book → Fml
  inside holds b = fex (List ℕ × (List P × List E)) (state holds b)

  abbrev pub knows : Book → List E → Law → Fml
  knows b log holds = fsep (fnamed b.number (inside holds b)) (reached c b.log_name log)

  abbrev pub seen_owns : Law → Book → List E → Fml
  seen_owns holds b log = sealed Law holds (knows b log)

-- the word lies in memory with the value n, and the book says n
abbrev pub lies : Named → ℕ → ℕ → ℕ → Fml
lies w b o n = fsep (word b o n) (word_pen w n)

-- it lies there with some value
abbrev pub lying : Named → ℕ → ℕ → Fml
lying w b o = fex ℕ (lies w b o)

-- the turn t is a lifetime within which the word is lent, and the number of the invariant that holds it
abbrev pub lent : Named → ℕ → ℕ → Lft → Lft × ℕ → Fml
lent w b o κ t = fsep (before κ t.0) (fsep (known (w.book.number < t.1)) (fnamed t.1 (fbor t.0 (lying w b o))))

-- what a `&` to a word is
abbrev pub word_shares : Named → Ptr → Lft → Fml
word_shares w (block_ptr b o) κ = fex (Lft × ℕ) (lent w b o κ)
word_shares w null_ptr κ = ffalse
