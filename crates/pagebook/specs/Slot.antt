-- What a `Slot` owns and shares.
-- Its state is a word of a book, without bytes: 0 while the slot is empty, 1 while one thread writes it, and 2 from
-- then on. So nobody reads it: the rule of the book, or a token, says what it is.
-- Each time the slot is lent it takes a turn. One invariant, whose number is greater than the book's, then holds the
-- word's pen and, by its phase, the right to write the value, or the value to be read.
use Rattle.core.specs.Prelude.{◌≡◌, ℕ, ◌+◌, ◌<◌, List, IfSome}
use base.Stored.{Gv, gnil, gcons, Coded, coded×, coded_ℕ, coded_list, coded_via}
use base.Fraction.{full_share}
use base.Fml.{Lft, GName, Fml, ftrue, ffalse, feq, fsep, fex, fobs, fauth, fres, fbor, fnamed}
use base.Before.{before}
use prog.Memory.{up, align}
use types.SemTy.{SemTy, Body}
use denote.RattleType.{RattleType}
use denote.Memory.{mem, lone, part_at, shared_of}
use denote.RawPtr.{Ptr, block_ptr, null_ptr}
use Rattle.core.specs.declared.option.Option.{Option}
use Rattle.core.specs.declared.option.Option.TheVariants.{Some}
use Rattle.core.specs.contracts.option.Option.{the_row as OptionOf}
use Rattle.pagebook.specs.Pages.{Book, book_coded, Named}
use Rattle.pagebook.specs.Owned.{known, word_pen}

-- which slot it is
pub record Placed : Type 0 where
  pub book : Book  -- the book that has its state as a word
  pub key : ℕ  -- the place of its state among the book's words
  pub id : GName  -- the name under which its value is told
  pub about : List ℕ  -- what is promised of its value, is promised about these numbers

abbrev pub placed_coded : Coded Placed
placed_coded = coded_via (coded× book_coded (coded× coded_ℕ (coded× coded_ℕ (coded_list coded_ℕ))))
    (λ (l : Placed). (l.book, (l.key, (l.id, l.about))))
    (λ x y e i. record { book = (e i).0; key = (e i).1.0; id = (e i).1.1.0; about = (e i).1.1.1 })

-- the word that is its state
abbrev pub word_of : Placed → Named
word_of l = record { book = l.book; key = l.key }

-- how far the slot is
pub data Phase (X : Type 0) : Type 0 where
  empty : Phase X  -- nobody writes it yet
  writing : Phase X  -- one thread does
  full : X → Phase X  -- it has this value from now on

-- a slot at rest: the state's number, what lies in the field, and the phase
abbrev pub Rest : Type 0 → Type 0
Rest X = ℕ × Option X × Phase X

-- a lifetime within which the slot is lent, and a name that tells what lies in the field in that time
abbrev pub Turn : Type 0
Turn = Lft × GName

module _ (R : RattleType) where
  -- a phase, as the slot's name tells it
  abbrev pub sign : Phase R.Denot → Gv
  sign empty = gnil
  sign writing = gnil
  sign (full x) = gcons (R.coded.code x) gnil

  -- what a `Written` owns: the value of the slot γ is x, for good
  abbrev pub written : GName → R.Denot → Fml
  written γ x = fres γ (sign (full x))

  -- if the slot is full, its value lies in the field
  abbrev pub Filled : Option R.Denot → Phase R.Denot → Type 0
  Filled v empty = Unit {0}
  Filled v writing = Unit {0}
  Filled v (full x) = v ≡ Some x

  -- where the field lies, in a slot at o
  abbrev pub at : ℕ → ℕ
  at o = o + up (align (lone (OptionOf R).mir)) 0

  -- fits: what is promised of a value, by the numbers that it is promised about
  module _ (fits : List ℕ → R.Denot → Type 0) (l : Placed) where
    -- what lies in the field is as promised
    abbrev pub Kept : Option R.Denot → Type 0
    Kept v = IfSome v (fits l.about)

    -- the state's number says the phase. While the slot is empty, a thread that has this may begin to write
    abbrev pub told : ℕ → Phase R.Denot → Fml
    told n empty = fsep (feq ℕ n 0) (fobs l.id gnil)
    told n writing = feq ℕ n 1
    told n (full x) = fsep (known ((n ≡ 2) × fits l.about x)) (written l.id x)

    -- the slot's name tells the phase
    abbrev pub tracked : ℕ → Phase R.Denot → Fml
    tracked n s = fsep (fauth l.id (sign s)) (told n s)

    -- what a slot at rest owns beside its field
    abbrev pub resting : Rest R.Denot → Fml
    resting s = fsep (word_pen (word_of l) s.0) (fsep (tracked s.0 s.2) (known (Kept s.1 × Filled s.1 s.2)))

    -- the field's memory, in which no value lies but one that is as promised
    abbrev pub promised : SemTy
    promised = record {
      rep = Option R.Denot;
      coded = (OptionOf R).coded;
      size = (mem (OptionOf R)).size;
      own_at = λ v b o. fsep (part_at (OptionOf R) full_share v b o) (known (Kept v));
    }

    module _ (t : Turn) (b o : ℕ) where
      -- the field, with some value, which the turn's name tells
      abbrev pub Field : Fml
      Field = Body promised b (at o) t.1

      -- what is known of the field in this phase
      abbrev pub tie : Phase R.Denot → Fml
      tie empty = fex (Option R.Denot) (λ v. fobs t.1 ((OptionOf R).coded.code v))
      tie writing = ftrue
      tie (full x) = fres t.1 ((OptionOf R).coded.code (Some x))

      -- the field itself: to be written by the first thread that begins, and to be read by all once it is full
      abbrev pub lent : Phase R.Denot → Fml
      lent empty = fbor t.0 Field
      lent writing = ftrue
      lent (full x) = shared_of (OptionOf R) (Some x) b (at o) t.0

      abbrev pub tied : ℕ × Phase R.Denot → Fml
      tied s = fsep (word_pen (word_of l) s.0) (fsep (tracked s.0 s.1) (tie s.1))

      abbrev pub standing : ℕ × Phase R.Denot → Fml
      standing s = fsep (tied s) (lent s.1)

      -- what the invariant holds
      abbrev pub Cell : Fml
      Cell = fex (ℕ × Phase R.Denot) standing

      -- the invariant with the number j, while κ lasts
      abbrev pub in_turn : ℕ → Lft → Fml
      in_turn j κ = fsep (before κ t.0) (fsep (known (l.book.number < j)) (fnamed j (fbor t.0 Cell)))

    abbrev pub shared_at : ℕ → ℕ → Lft → Fml
    shared_at b o κ = fex (Turn × ℕ) (λ u. in_turn u.0 b o u.1 κ)

    -- what a `&` to a slot is
    abbrev pub shared : Ptr → Lft → Fml
    shared (block_ptr b o) κ = shared_at b o κ
    shared null_ptr κ = ffalse
