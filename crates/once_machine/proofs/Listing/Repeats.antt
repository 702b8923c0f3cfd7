-- What leaves the listings if each waker that is the same as one before it is taken away, from the last listing to the first.
use Rattle.std.proofs.Common.{◌≡◌, ◌<◌, ◌≤◌, ℕ, zero, suc, List, [], ◌∷◌, Option, Some, None, All, IfSome, length, get_or, set, take, drop, refl, sym, ap, ◌∙◌, inl, inr, arith, ◌++◌}
use Rattle.std.proofs.Math.Seq.{drop-cons, take-suc}
use Rattle.std.proofs.lemmas.List.{get_or_default, get_or-set_same, get_or-take, take-take, take-set, length-set, drop-set-lt}
use Rattle.std.specs.List.{HoldsAt, cons_option}
use Rattle.std.specs.Option.{MatchOption}
use Rattle.once_machine.specs.Listings.{Listing}
use Rattle.once_machine.specs.Sections.{HandsAll, HandsBy, IsAmong, IsOther}

module _ {W : Type 0} where
  -- the wakers of the listings, the last first, before those that were seen
  abbrev pub seen_after : List W → List (Listing W) → List W
  seen_after seen [] = seen
  seen_after seen (x ∷ xs) = seen_after (cons_option x.waker seen) xs

module _ {W : Type 0} (same : W → W → Type 0) (w : W) where
  among_more : (v : W) (seen : List W) → IsAmong same w seen → IsAmong same w (v ∷ seen)
  among_more v seen a = (suc a.0, omega (arith, a.1), a.2)

  among_by : (o : Option W) (seen : List W) → IsAmong same w seen → IsAmong same w (cons_option o seen)
  among_by (Some v) seen a = among_more v seen a
  among_by None seen a = a

  among_after : (xs : List (Listing W)) (seen : List W) → IsAmong same w seen → IsAmong same w (seen_after seen xs)
  among_after [] seen a = a
  among_after (x ∷ xs) seen a = among_after xs (cons_option x.waker seen) (among_by x.waker seen a)

  among_here : (o : Option W) (seen : List W) → MatchOption o ⊥ (λ v. same v w) → IsAmong same w (cons_option o seen)
  among_here (Some v) seen s = (0, omega arith, λ d. s)
  among_here None seen s = absurd s

  -- a waker that was told to be the same as one of the listings
  among_seen : (k : ℕ) (xs : List (Listing W)) (seen : List W) → k < length xs
      → HoldsAt (λ x. MatchOption x.waker ⊥ (λ v. same v w)) xs k → IsAmong same w (seen_after seen xs)
  among_seen k [] seen l s = absurd (omega arith)
  among_seen zero (x ∷ xs) seen l s = among_after xs (cons_option x.waker seen) (among_here x.waker seen (s x))
  among_seen (suc k) (x ∷ xs) seen l s = among_seen k xs (cons_option x.waker seen) (omega arith) s

module _ {W : Type 0} (other : W → W → Type 0) (w : W) where
  other_more : (v : W) (seen : List W) → other v w → IsOther other w seen → IsOther other w (v ∷ seen)
  other_more v seen o rest zero d l = o
  other_more v seen o rest (suc k) d l = rest k d (omega arith)

  -- a waker that is other than those seen, and than the next
  pub other_by : (o : Option W) (seen : List W) → IfSome o (λ v. other v w) → IsOther other w seen → IsOther other w (cons_option o seen)
  other_by (Some v) seen o rest = other_more v seen o rest
  other_by None seen o rest = rest

  -- a waker that was told to be another than each of the listings
  other_seen : (xs : List (Listing W)) (seen : List W) → All (λ x. IfSome x.waker (λ v. other v w)) xs
      → IsOther other w seen → IsOther other w (seen_after seen xs)
  other_seen [] seen all rest = rest
  other_seen (x ∷ xs) seen all rest = other_seen xs (cons_option x.waker seen) (λ k d l. all (suc k) d (omega arith)) (other_by x.waker seen (all 0 x (omega arith)) rest)

module _ {W : Type 0} (same other : W → W → Type 0) where
  -- what the comparisons with those before tell of what a listing hands out
  pub hands_nothing : (o : Option W) (before : List (Listing W))
      → MatchOption o ⊥ (λ w. (k : ℕ) × (k < length before) × HoldsAt (λ x. MatchOption x.waker ⊥ (λ v. same v w)) before k)
      → HandsBy same other (seen_after [] before) o None
  hands_nothing (Some w) before found = inl (refl, among_seen same w found.0 before [] found.1 found.2)
  hands_nothing None before found = refl

  pub hands_itself : (o : Option W) (before : List (Listing W))
      → IfSome o (λ w. All (λ x. IfSome x.waker (λ v. other v w)) before)
      → HandsBy same other (seen_after [] before) o o
  hands_itself (Some w) before all = inr (refl, other_seen other w before [] all (λ k d l. absurd (omega arith)))
  hands_itself None before all = refl

  seen_push : (x : Listing W) (xs : List (Listing W)) (seen : List W) → seen_after seen (xs ++ x ∷ []) ≡ cons_option x.waker (seen_after seen xs)
  seen_push x [] seen = refl
  seen_push x (y ∷ xs) seen = seen_push x xs (cons_option y.waker seen)

  -- one listing more from the end
  hands_more : (i : ℕ) (xs ys : List (Listing W)) (d : Listing W) → i < length xs → i < length ys → (get_or ys i d).ticket ≡ (get_or xs i d).ticket
      → HandsBy same other (seen_after [] (take i xs)) (get_or xs i d).waker (get_or ys i d).waker
      → HandsAll same other (seen_after [] (take (suc i) xs)) (drop (suc i) xs) (drop (suc i) ys)
      → HandsAll same other (seen_after [] (take i xs)) (drop i xs) (drop i ys)
  hands_more i xs ys d lx ly ticket hands rest =
      let seen = ap (seen_after []) (take-suc xs i d lx) ∙ seen_push (get_or xs i d) (take i xs) [] in
      rw (drop-cons xs i d lx, drop-cons ys i d ly) (ticket, hands, rw seen at rest)

  -- before place e all is as it was, and from there on each waker was handed out once
  pub record Handed (e : ℕ) (xs ys : List (Listing W)) : Type 0 where
    pub within : e ≤ length xs
    pub same_length : length ys ≡ length xs
    pub front : take e ys ≡ take e xs
    pub back : HandsAll same other (seen_after [] (take e xs)) (drop e xs) (drop e ys)

  one_less : (i : ℕ) (xs ys : List (Listing W)) → Handed (suc i) xs ys → take i ys ≡ take i xs
  one_less i xs ys h = sym (take-take i (suc i) ys (omega arith)) ∙ ap (take i) h.front ∙ take-take i (suc i) xs (omega arith)

  last_same : (i : ℕ) (xs ys : List (Listing W)) (d : Listing W) → Handed (suc i) xs ys → get_or ys i d ≡ get_or xs i d
  last_same i xs ys d h = sym (get_or-take (suc i) ys i d (omega arith)) ∙ ap (λ (l : List (Listing W)). get_or l i d) h.front ∙ get_or-take (suc i) xs i d (omega arith)

  -- a listing whose waker stays, and one whose waker is taken away
  pub handed_keeps : (i : ℕ) (xs ys : List (Listing W)) (x : Listing W) → Handed (suc i) xs ys → x ≡ get_or ys i x
      → IfSome x.waker (λ w. All (λ y. IfSome y.waker (λ v. other v w)) (take i ys))
      → Handed i xs ys
  handed_keeps i xs ys x h is hands =
      let w = h.within in let n = h.same_length in
      let f = one_less i xs ys h in
      let s : get_or xs i x ≡ x = sym (is ∙ last_same i xs ys x h) in
      record {
        within = omega arith;
        same_length = n;
        front = f;
        back = hands_more i xs ys x (omega arith) (omega arith) (rw (s, ← is) refl) (rw (s, ← is, ← f) (hands_itself x.waker (take i ys) hands)) h.back;
      }

  pub handed_clears : (i : ℕ) (xs ys : List (Listing W)) (x y : Listing W) → Handed (suc i) xs ys → x ≡ get_or ys i x → y ≡ get_or ys i y
      → MatchOption x.waker ⊥ (λ w. (k : ℕ) × (k < length (take i ys)) × HoldsAt (λ z. MatchOption z.waker ⊥ (λ v. same v w)) (take i ys) k)
      → Handed i xs (set ys i (record { ticket = y.ticket; waker = None }))
  handed_clears i xs ys x y h is_x is_y found =
      let w = h.within in let n = h.same_length in
      let f = one_less i xs ys h in
      let z : Listing W = record { ticket = y.ticket; waker = None } in
      let s : get_or xs i x ≡ x = sym (is_x ∙ last_same i xs ys x h) in
      let t : y ≡ x = is_y ∙ get_or_default ys i y x (omega arith) ∙ sym is_x in
      let new = get_or-set_same ys i z x (omega arith) in
      let l = length-set ys i z in
      record {
        within = omega arith;
        same_length = l ∙ n;
        front = take-set ys i z ∙ f;
        back = hands_more i xs (set ys i z) x (omega arith) (omega arith)
            (rw (new, s) (ap (λ (v : Listing W). v.ticket) t))
            (rw (new, s, ← f) (hands_nothing x.waker (take i ys) found))
            (rw (drop-set-lt (suc i) ys i z (omega arith)) h.back);
      }
