-- A book as plain data, and what one step may do to it: to the values of its words, to its pages, and to its log.
use Rattle.core.specs.Prelude.{◌≡◌, ℕ, suc, List, [], ◌∷◌, ◌++◌, length, slice_get, slice_set}
use mathlib.Core.List.{IsPrefix}
use base.Stored.{Coded, coded×, coded_ℕ, coded_list, coded_via}
use Rattle.core.specs.declared.option.Option.TheVariants.{Some}

-- which book it is
pub record Book : Type 0 where
  pub number : ℕ  -- of the invariant that holds the book
  pub words_name : ℕ  -- under which the values of its words lie
  pub pages_name : ℕ  -- under which its pages lie
  pub log_name : ℕ  -- under which its log lies

abbrev pub book_coded : Coded Book
book_coded = coded_via (coded× (coded× coded_ℕ coded_ℕ) (coded× coded_ℕ coded_ℕ))
    (λ (b : Book). ((b.number, b.words_name), (b.pages_name, b.log_name)))
    (λ x y e i. record { number = (e i).0.0; words_name = (e i).0.1; pages_name = (e i).1.0; log_name = (e i).1.1 })

-- which word of which book it is
pub record Named : Type 0 where
  pub book : Book  -- its book
  pub key : ℕ  -- its place among the words, from 0

-- the word k of the book b
abbrev pub named : Book → ℕ → Named
named b k = record { book = b; key = k }

abbrev pub named_coded : Coded Named
named_coded = coded_via (coded× book_coded coded_ℕ) (λ (w : Named). (w.book, w.key))
    (λ x y e i. record { book = (e i).0; key = (e i).1 })

-- what a lock's content is known by: the book that it is of, and the numbers about which it promises something
pub record LockKey : Type 0 where
  pub book : Book
  pub about : List ℕ

abbrev pub lock_key_coded : Coded LockKey
lock_key_coded = coded_via (coded× book_coded (coded_list coded_ℕ)) (λ (k : LockKey). (k.book, k.about))
    (λ x y e i. record { book = (e i).0; about = (e i).1 })

-- the key of what is of this book, and promises nothing
abbrev pub of_book : Book → LockKey
of_book b = record { book = b; about = [] }

-- the key of what is of no book that is ever made, and promises something about these numbers
abbrev pub of_numbers : List ℕ → LockKey
of_numbers about = record {
  book = record { number = 0; words_name = 0; pages_name = 0; log_name = 0 };
  about = about;
}

-- two keys are the same
abbrev pub IsKey : LockKey → LockKey → Type 0
IsKey j k = (j.book ≡ k.book) × (j.about ≡ k.about)

-- a hand: the pages whose pens are in it, each by its number in the book, with its value
abbrev pub Held : Type 0 → Type 0
Held P = List (ℕ × P)

abbrev pub held_coded : {P : Type 0} → Coded P → Coded (Held P)
held_coded c = coded_list (coded× coded_ℕ c)

-- what a thread brings to a step: how much of the log it has seen, and its hand
abbrev pub View : Type 0 → Type 0 → Type 0
View E P = List E × Held P

module _ {P : Type 0} where
  -- the page k is not in the hand
  abbrev pub Apart : ℕ → Held P → Type 0
  Apart k [] = Unit {0}
  Apart k (e ∷ es) = (k ≡ e.0 → ⊥) × Apart k es

  -- the hand's pages stand in the book with the values that the hand says, and none of them is in the hand twice
  abbrev pub Agrees : Held P → List P → Type 0
  Agrees [] ps = Unit {0}
  Agrees (e ∷ es) ps = (slice_get ps e.0 ≡ Some e.1) × (Apart e.0 es × Agrees es ps)

  -- the hand whose first pages got the values `ys`. The others stay
  abbrev pub rewritten : List P → Held P → Held P
  rewritten [] h = h
  rewritten (y ∷ ys) [] = []
  rewritten (y ∷ ys) (e ∷ es) = (e.0, y) ∷ rewritten ys es

  -- the book's pages after that
  abbrev pub put : List P → Held P → List P → List P
  put [] h ps = ps
  put (y ∷ ys) [] ps = ps
  put (y ∷ ys) (e ∷ es) ps = put ys es (slice_set ps e.0 y)

  -- the book's pages with new ones behind them
  abbrev pub extended : List P → List P → List P
  extended [] ps = ps
  extended (a ∷ bs) ps = extended bs (ps ++ a ∷ [])

  -- the hand with the pens of new pages before the others, if the first new page has the number k
  abbrev pub dealt : ℕ → List P → Held P → Held P
  dealt k [] h = h
  dealt k (a ∷ bs) h = (k, a) ∷ dealt (suc k) bs h

module _ {E P : Type 0} (holds : List ℕ → List P → List E → Type 0) (v : View E P) where
  -- With these words the rule can be kept: there are new values `ys` for the hand's first pages, new pages `bs` and
  -- new entries `more` after which it holds, and `then` holds of the view after them
  abbrev pub Keeps : List ℕ → (View E P → Type 0) → List P → List E → Type 0
  Keeps ns then ps log = (ys : List P) × (bs : List P) × (more : List E)
      × holds ns (extended bs (put ys v.1 ps)) (log ++ more)
      × then (log ++ more, dealt (length ps) bs (rewritten ys v.1))

  -- If the rule holds and the view fits the book, the step keeps the rule by which the word k becomes `f` of the
  -- number `n` found there, and `then n` holds after it
  pub record Moves (k : ℕ) (f : ℕ → ℕ) (then : ℕ → View E P → Type 0) : Type 0 where
    pub goes : (ns : List ℕ) (n : ℕ) (ps : List P) (log : List E)
        → holds ns ps log → slice_get ns k ≡ Some n → IsPrefix v.0 log → Agrees v.1 ps
        → Keeps (slice_set ns k (f n)) (then n) ps log

  -- the same for a step that touches no word
  pub record Notes (then : View E P → Type 0) : Type 0 where
    pub goes : (ns : List ℕ) (ps : List P) (log : List E)
        → holds ns ps log → IsPrefix v.0 log → Agrees v.1 ps → Keeps ns then ps log

-- A thread that has seen so much of the log knows by the rule that the word k is m
pub record Sure {E P : Type 0} (holds : List ℕ → List P → List E → Type 0) (seen : List E) (k m : ℕ) : Type 0 where
  pub is : (ns : List ℕ) (n : ℕ) (ps : List P) (log : List E)
      → holds ns ps log → slice_get ns k ≡ Some n → IsPrefix seen log → n ≡ m
