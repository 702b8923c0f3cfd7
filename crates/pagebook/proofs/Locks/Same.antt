-- What a lock shares is the same at any type that gives its key.
use mathlib.Core.Path.{◌≡◌, refl, sym, ap, ◌∙◌}
use mathlib.Core.Equiv.{Iso}
use Prim.Native.Nat.{ℕ}
use base.Fml.{Lft, Fml}
use base.Stored.{Coded-set}
use base.Fraction.{full_share}
use denote.RattleType.{RattleType}
use denote.Memory.{part_of, part_at}
use Rattle.std.specs.contracts.sync.Mutex as M-row
use Rattle.std.specs.Sync.Mutex.Ownership.{value_if_unlocked, mutex_shares}
use denote.RawPtr.{block_ptr}
use Rattle.std.specs.RefCell.Ownership.{value_offset}
use mir.Syntax.{w64, ty_int}
use mir.Val.{vint}
use prog.Memory.{up, align}
use denote.Memory.{lone}
use mathlib.Core.Bool.{Bool}
use Prim.Native.Nat.{◌+◌}
use mathlib.Core.List.{[]}
use base.Fml.{fex, fsep, fat, fbor}
use denote.Sharing.{beside, some, ends, always, nothing, one}
use base.Fml.{fleft}
use mir.Raw.{raw, raws}
use denote.Struct.Struct.{to_tys}
use mathlib.Core.List.{◌++◌}
use Rattle.pagebook.specs.contracts.tied.Tied as T-row
use Rattle.pagebook.specs.contracts.tied.LockOf as L-row
use denote.Model.Placed.{some_Along}
use base.Stored.{coded_list, coded_ℕ}
use Rattle.pagebook.specs.Pages.{LockKey, book_coded}
use Rattle.pagebook.specs.declared.tied.Keyed as Keyed
use Rattle.pagebook.specs.declared.tied.Key as Key
use Rattle.pagebook.specs.declared.tied.Tied.{Tied}

module _ (X Y Z : Type 0) (g : Keyed.Ghosts X) (h : Key.Ghosts Y) (k : Key.Ghosts Z) (e : h.key ≡ k.key) where
  -- a value that has the key of the one has that of the other
  abbrev pub there : Tied X Y g h → Tied X Z g k
  there t = record {
    value = t.value;
    of = record {};
    book_is = t.book_is ∙ ap (λ (k : LockKey). k.book) e;
    about_is = t.about_is ∙ ap (λ (k : LockKey). k.about) e;
  }

  -- and the other way round
  abbrev pub back : Tied X Z g k → Tied X Y g h
  back t = record {
    value = t.value;
    of = record {};
    book_is = t.book_is ∙ ap (λ (k : LockKey). k.book) (sym e);
    about_is = t.about_is ∙ ap (λ (k : LockKey). k.about) (sym e);
  }

  -- there and back is the same value
  pub there-back : (t : Tied X Z g k) → there (back t) ≡ t
  there-back t = λ i. record {
    value = t.value;
    of = record {};
    book_is = Coded-set book_coded _ _ (there (back t)).book_is t.book_is i;
    about_is = Coded-set (coded_list coded_ℕ) _ _ (there (back t)).about_is t.about_is i;
  }

  -- back and there too
  pub back-there : (t : Tied X Y g h) → back (there t) ≡ t
  back-there t = λ i. record {
    value = t.value;
    of = record {};
    book_is = Coded-set book_coded _ _ (back (there t)).book_is t.book_is i;
    about_is = Coded-set (coded_list coded_ℕ) _ _ (back (there t)).about_is t.about_is i;
  }

  -- so the two types have the same values
  pub iso : Iso (Tied X Y g h) (Tied X Z g k)
  iso = record { fun = there; inv = back; rinv = there-back; linv = back-there }

module _ (R Y Z : RattleType) (g : Keyed.Ghosts R.Denot) (h : Key.Ghosts Y.Denot) (k : Key.Ghosts Z.Denot)
    (e : h.key ≡ k.key) (b o : ℕ) where
  abbrev at-h : Tied R.Denot Y.Denot g h → Fml
  at-h t = part_at (T-row.the_row R Y g h) full_share t b o

  abbrev at-k : Tied R.Denot Z.Denot g k → Fml
  at-k t = part_at (T-row.the_row R Z g k) full_share t b o

  -- which lie in memory in the same way
  pub each : (t : Tied R.Denot Y.Denot g h) → at-k (there R.Denot Y.Denot Z.Denot g h k e t) ≡ at-h t
  unfolding part_of
  each t = refl

  -- what lies in the lock is the same
  pub cell : base.Fml.fex (Tied R.Denot Z.Denot g k) at-k ≡ base.Fml.fex (Tied R.Denot Y.Denot g h) at-h
  unfolding iso
  cell = some_Along (iso R.Denot Y.Denot Z.Denot g h k e) at-h at-k each

  -- where the lock lies in the struct
  abbrev at : ℕ
  at = o + up (align (lone (M-row.the_row (T-row.the_row R Y g h)).mir)) 0

module _ (R Y Z : RattleType) (g : Keyed.Ghosts R.Denot) (h : Key.Ghosts Y.Denot) (k : Key.Ghosts Z.Denot)
    (e : h.key ≡ k.key) (b o : ℕ) where
  -- what a lock shares, by what lies in it
  abbrev holds : Fml → Lft → Fml
  holds P = some Lft (λ α. beside (ends α)
      (always (fbor α (fex (ℕ × Bool) (λ s. fsep (fat full_share (ty_int w64) b (o + 0) (vint w64 s.0))
      (value_if_unlocked α P s.0 s.1))))))

  -- it is the same
  pub mutex_same : mutex_shares (T-row.the_row R Z g k) (block_ptr b o) ≡ mutex_shares (T-row.the_row R Y g h)
      (block_ptr b o)
  mutex_same = ap holds (cell R Y Z g h k e b (o + value_offset (T-row.the_row R Y g h)))

module _ (R Y Z : RattleType) (g : Keyed.Ghosts R.Denot) (h : Key.Ghosts Y.Denot) (k : Key.Ghosts Z.Denot)
    (e : h.key ≡ k.key) (b o : ℕ) where
  -- and so is what the struct around it shares
  pub shared : (L-row.the_row R Z g k).shr_at (record { lock = tt }) b o ≡ (L-row.the_row R Y g h).shr_at
      (record { lock = tt }) b o
  shared = ap (λ (f : Lft → Fml). beside (beside f nothing)
      (one (λ q. fleft q (raw (lone (L-row.the_row R Y g h).mir))
      (raws (to_tys ((M-row.the_row (T-row.the_row R Y g h)).mir ++ []))) b o)))
      (mutex_same R Y Z g h k e b (at R Y Z g h k e b o))
