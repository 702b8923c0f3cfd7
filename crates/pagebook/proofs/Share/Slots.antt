-- A `Slot` may go to another thread if its value may, and be shared if its value may do both. A `Written` holds a name alone.
use Rattle.std.proofs.Common.{ℕ, List}
use base.Fraction.{full_share}
use base.Shift.{Keyless}
use denote.RattleType.{RattleType}
use denote.Param.Send.{IsSend, IsSync, part_keyless, sendable}
use denote.Struct.Owning
use denote.Struct.Struct
use Rattle.core.specs.declared.option.Option.TheVariants.{Some}
use Rattle.core.specs.contracts.option.Option.{the_row as OptionOf}
use Rattle.core.proofs.atomic.Sent.{chain-Keyless}
use Rattle.pagebook.specs.Slot.{Placed, Phase, empty, writing, full, Turn, at, told, tie, lent, word_of}
use Rattle.pagebook.specs.declared.rule.Rule.{Ghosts}
use Rattle.pagebook.specs.declared.rule.Fits as Fits
use Rattle.pagebook.specs.contracts.slot.Slot as Slot
use Rattle.pagebook.specs.contracts.slot.Written as Written
use Rattle.pagebook.proofs.Share.Keyless.{word_pen_keyless}

module _ (R : RattleType) (fits : List ℕ → R.Denot → Type 0) (l : Placed) where
  -- what the state says
  told_keyless : (n : ℕ) (s : Phase R.Denot) → Keyless (told R fits l n s)
  told_keyless n empty = (tt, tt)
  told_keyless n writing = tt
  told_keyless n (full x) = ((λ _. tt), tt)

  -- what is known of the field
  tie_keyless : (t : Turn) (b o : ℕ) (s : Phase R.Denot) → Keyless (tie R fits l t b o s)
  tie_keyless t b o empty = λ v. tt
  tie_keyless t b o writing = tt
  tie_keyless t b o (full x) = tt

  module _ (s : IsSend R) (y : IsSync R) where
    -- the field may go to another thread
    option_send : IsSend (OptionOf R)
    option_send = search sendable depth 12

    -- and be shared
    option_sync : IsSync (OptionOf R)
    option_sync = search sendable depth 12

    -- so may what the invariant holds of it
    lent_keyless : (t : Turn) (b o : ℕ) (p : Phase R.Denot) → Keyless (lent R fits l t b o p)
    lent_keyless t b o empty = λ u. ((part_keyless (OptionOf R) option_send full_share u b (at R o), λ _. tt), tt)
    lent_keyless t b o writing = tt
    lent_keyless t b o (full x) = option_sync.shared (Some x) b (at R o) t.0

-- a slot is shared
pub slot_sync : (T E P R V : RattleType) (g : Ghosts R.Denot E.Denot P.Denot)
    (h : Fits.Ghosts V.Denot T.Denot) → IsSend T → IsSync T
    → IsSync (Slot.the_row T E P R V g h)
slot_sync T E P R V g h s y = record {
  shared = λ d b o κ z. (
    (λ νs. chain-Keyless νs κ z.0.0),
    (
      (λ _. tt),
      λ u. (
        (word_pen_keyless (word_of d) u.0, ((tt, told_keyless T h.fits d u.0 u.1), tie_keyless T h.fits d z.0 b o u.1)),
        lent_keyless T h.fits d s y z.0 b o u.1,
      ),
    ),
  );
}

-- a slot is sent
pub slot_send : (T E P R V : RattleType) (g : Ghosts R.Denot E.Denot P.Denot)
    (h : Fits.Ghosts V.Denot T.Denot) → IsSend T
    → IsSend (Slot.the_row T E P R V g h)
slot_send T E P R V g h s = let o : IsSend (OptionOf T) = search sendable depth 12 in record {
  owned = λ d vs. ((λ _. tt), λ u. ((λ vss. (tt, (o.owned u.1 vss.0, ((λ uss. (tt, tt)), tt)))), (word_pen_keyless (word_of d) u.0, ((tt, told_keyless T h.fits d u.0 u.2), λ _. tt))));
  leaving = λ k d w. tt;
}

-- a `Written` is sent
pub written_send : (R : RattleType) → IsSend (Written.the_row R)
written_send R = record { owned = λ d vs. ((λ vss. (tt, ((λ uss. (tt, tt)), tt))), tt); leaving = λ k f vs. tt }

-- and shared
pub written_sync : (R : RattleType) → IsSync (Written.the_row R)
written_sync R = let fields : IsSync
    (denote.Struct.Struct.Struct (denote.Struct.Owning.shape (Written.the_type R))) = search sendable depth 20 in
    record { shared = λ d b o κ. (fields.shared (tt, tt) b o κ, tt) }
