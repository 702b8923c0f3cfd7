-- What a section hands out if wakers are numbers, from what the comparisons of wakers tell.
use Rattle.std.proofs.Common.{◌≡◌, ◌≢◌, ℕ, ◌<◌, Bool, true, false, cond, ◌==◌, inl, inr, List, [], ◌∷◌, Option, Some, None, length, slice_index_or, zero, suc, refl, sym, ap, ◌∙◌, arith}
use Rattle.std.specs.List.{cons_option}
use Rattle.std.proofs.lemmas.Bool.{ne_eqb}
use Rattle.std.proofs.lemmas.Bool.Decides.{nat_tests}
use Rattle.once_machine.specs.declared.step.Out.{Out}
use Rattle.once_machine.specs.declared.waiters.Listing.{Listing}
use Rattle.once_machine.specs.Listings.{all_out, out_by, wakers_of}
use Rattle.once_machine.specs.Sections.{HandsAll, HandsBy, IsAmong, IsOther, Releases}
use Rattle.once_machine.specs.Numbers.{member}
use Rattle.once_machine.specs.Machine.{release_wakers, release_list}
use Rattle.once_script.specs.WorldShown.{wakers_in}
use mathlib.Core.Logic.{∥∥₁_elim}
use base.Stored.{Coded-set, coded_list, coded_ℕ}

-- what stands at some place of a list is one of it
at_member : (w : ℕ) (xs : List ℕ) (k d : ℕ) → k < length xs → slice_index_or xs k d ≡ w → member w xs ≡ true
at_member w [] k d l e = absurd (omega arith)
at_member w (x ∷ xs) zero d l e = grind (arith, nat_tests)
at_member w (x ∷ xs) (suc k) d l e = let ih = at_member w xs k d (omega arith) e in grind arith

-- a waker that was told to be the same as one of the list stands there
among_member : (w : ℕ) (xs : List ℕ) → IsAmong (λ a b. a ≡ b) w xs → member w xs ≡ true
among_member w xs i = at_member w xs i.0 0 i.1 (i.2 0)

-- a waker that was told to be another than each of the list does not
other_member : (w : ℕ) (xs : List ℕ) → IsOther (λ a b. a ≢ b) w xs → member w xs ≡ false
other_member w [] o = refl
other_member w (x ∷ xs) o =
    let apart : x ≢ w = o 0 0 (omega arith) in
    let rest = other_member w xs (λ k d l. o (suc k) d (omega arith)) in
    rw (ne_eqb x w apart) rest

-- a waker that was seen before changes nothing of what was seen
seen_again : (w v : ℕ) (xs : List ℕ) → member w xs ≡ true → member v (w ∷ xs) ≡ member v xs
seen_again w v xs m = grind (arith, nat_tests)

-- one listing leaves, if what comes after it is told by the wakers that were seen until then
hands_by : (o out : Option ℕ) (seen before rest : List ℕ) (after : List ℕ → List ℕ)
    → ((w : ℕ) → member w seen ≡ member w before) → HandsBy (λ a b. a ≡ b) (λ a b. a ≢ b) seen o out
    → ((now : List ℕ) → ((w : ℕ) → member w (cons_option o seen) ≡ member w now) → rest ≡ after now)
    → cons_option out rest ≡ out_by o after before
hands_by None out seen before rest after same d told = rw d (told before same)
hands_by (Some w) out seen before rest after same (inl d) told =
    let m = among_member w seen d.1 in
    rw (d.0, sym (same w) ∙ m) (told before (λ v. seen_again w v seen m ∙ same v))
hands_by (Some w) out seen before rest after same (inr d) told =
    rw (d.0, sym (same w) ∙ other_member w seen d.1) (ap (λ ws. w ∷ ws) (told (w ∷ before) (λ v. ap (cond (w == v) true) (same v))))

-- all listings leave, and each waker is handed out once
hands_all : (xs ys : List (Listing ℕ)) (seen before : List ℕ) → ((w : ℕ) → member w seen ≡ member w before)
    → HandsAll (λ a b. a ≡ b) (λ a b. a ≢ b) seen xs ys → wakers_of ys ≡ all_out xs before
hands_all [] [] seen before same d = refl
hands_all (x ∷ xs) (y ∷ ys) seen before same d = hands_by x.waker y.waker seen before (wakers_of ys) (all_out xs) same d.1 (λ now e. hands_all xs ys (cons_option x.waker seen) now e d.2)
hands_all _ _ seen before same d = absurd d

-- the wakers that a release hands out are the machine's
pub released_wakers : (ready : Bool) (xs rest : List (Listing ℕ)) (out : Out ℕ)
    → Releases (λ a b. a ≡ b) (λ a b. a ≢ b) ready xs out rest → wakers_in out ≡ release_wakers ready xs
released_wakers false xs rest out d = ap wakers_in d.0
released_wakers true xs rest out (X, is, all, none) = ap wakers_in is ∙ ∥∥₁_elim all (Coded-set (coded_list coded_ℕ) _ _) (hands_all xs X.items [] [] (λ w. refl))

-- and so are the listings that it leaves
pub released_list : (ready : Bool) (xs rest : List (Listing ℕ)) (out : Out ℕ)
    → Releases (λ a b. a ≡ b) (λ a b. a ≢ b) ready xs out rest → rest ≡ release_list ready xs
released_list false xs rest out d = d.1
released_list true xs rest out (X, is, all, none) = none
