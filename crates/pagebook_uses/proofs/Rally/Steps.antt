-- Each step of the two words keeps their rule.
use Rattle.std.proofs.Common.{◌≡◌, ℕ, suc, ◌+◌, ◌≤◌, not, cond, List, [], ◌∷◌, ◌++◌, length, set, slice_get, refl, sym, ap, ◌∙◌, subst, arith, length-append, append-nil, Some}
use mathlib.Core.List.{IsPrefix}
use Rattle.pagebook.specs.Pages.{View, Held, Moves, Notes}
use Rattle.pagebook.proofs.Rows.{same_there}
use Rattle.pagebook_uses.specs.declared.turns.Hit.{Hit}
use Rattle.pagebook_uses.specs.declared.turns.Hit.TheVariants.{Ping, Pong}
use Rattle.pagebook_uses.specs.Turns.{rally, IsRally, Looked, LookedBack, Pinged, Ponged, Ended}
use Rattle.pagebook_uses.proofs.Rally.Lengths.{rally_long, even_pings}

-- what stands at a place of a row of two
at_place : (xs : List ℕ) (a b k x y : ℕ) → xs ≡ a ∷ b ∷ [] → slice_get xs k ≡ Some x → slice_get (a ∷ b ∷ []) k ≡ Some y
    → x ≡ y
at_place xs a b k x y is at there = same_there x y (sym at ∙ (ap (λ (ys : List ℕ). slice_get ys k) is ∙ there))

-- the log has a hit for each
log_long : (log : List Hit) (n : ℕ) → log ≡ rally n → length log ≡ n
log_long log n is = ap length is ∙ rally_long n

-- a log that was seen is no longer than the log
seen_shorter : (seen log : List Hit) → IsPrefix seen log → length seen ≤ length log
seen_shorter seen log pre = let long : length seen + length pre.0 ≡ length log = sym (length-append seen pre.0) ∙ ap length pre.1 in
    omega (arith, long)

-- a step that changes nothing keeps the rule
stays : (ns ps : List ℕ) (k n : ℕ) (log : List Hit) → IsRally ns ps log → slice_get ns k ≡ Some n → IsRally (set ns k n) ps (log ++ [])
stays ns ps k n log kept at = record {
  pings = kept.pings;
  pongs = kept.pongs;
  words = Rattle.pagebook.proofs.Rows.set_found ns k n at ∙ kept.words;
  pages = kept.pages;
  turn = kept.turn;
  hits = append-nil log ∙ kept.hits;
}

looks_at : (seen : List Hit) (mine : ℕ) → let v : View Hit ℕ = (seen, (0, mine) ∷ []) in Moves IsRally v 1 (λ n. n) (Looked mine v)
looks_at seen mine = record {
  goes = λ ns n ps log kept at pre ag.
      let pings : mine ≡ kept.pings = at_place ps kept.pings kept.pongs 0 mine kept.pings kept.pages ag.0 refl in
      let pongs : n ≡ kept.pongs = at_place ns kept.pings kept.pongs 1 n kept.pongs kept.words at refl in
      let long = log_long log (kept.pings + kept.pongs) kept.hits in
      let same : length (log ++ []) ≡ length log = ap length (append-nil log) in
      ([], [], [], stays ns ps 1 n log kept at, (refl, λ even. omega (arith, pings, pongs, long, same, even)));
}

pub looks : (seen : List Hit) (h : Held ℕ) (mine : ℕ) → (0, mine) ∷ [] ≡ h
    → Moves IsRally (seen, h) 1 (λ n. n) (Looked mine (seen, h))
looks seen h mine is = subst (λ (i : Held ℕ). Moves IsRally (seen, i) 1 (λ n. n) (Looked mine (seen, i))) is
    (looks_at seen mine)

looks_back_at : (seen : List Hit) (mine : ℕ) → let v : View Hit ℕ = (seen, (1, mine) ∷ []) in
    Moves IsRally v 0 (λ n. n) (LookedBack mine v)
looks_back_at seen mine = record {
  goes = λ ns n ps log kept at pre ag.
      let pongs : mine ≡ kept.pongs = at_place ps kept.pings kept.pongs 1 mine kept.pongs kept.pages ag.0 refl in
      let pings : n ≡ kept.pings = at_place ns kept.pings kept.pongs 0 n kept.pings kept.words at refl in
      let long = log_long log (kept.pings + kept.pongs) kept.hits in
      let same : length (log ++ []) ≡ length log = ap length (append-nil log) in (
        [],
        [],
        [],
        stays ns ps 0 n log kept at,
        (refl, λ odd. omega (arith, pings, pongs, long, same, odd, kept.turn.0, kept.turn.1)),
      );
}

pub looks_back : (seen : List Hit) (h : Held ℕ) (mine : ℕ) → (1, mine) ∷ [] ≡ h
    → Moves IsRally (seen, h) 0 (λ n. n) (LookedBack mine (seen, h))
looks_back seen h mine is = subst (λ (i : Held ℕ). Moves IsRally (seen, i) 0 (λ n. n) (LookedBack mine (seen, i))) is
    (looks_back_at seen mine)

-- the player who begins hits after a rally with as many hits of both
pinged : (log : List Hit) (n : ℕ) → log ≡ rally (n + n) → log ++ Ping ∷ [] ≡ rally (suc (n + n))
pinged log n is = ap (λ (l : List Hit). l ++ Ping ∷ []) is
    ∙ ap (λ b. rally (n + n) ++ cond b Ping Pong ∷ []) (sym (even_pings n))

-- the other hits after one hit more
ponged : (log : List Hit) (n : ℕ) → log ≡ rally (suc (n + n)) → log ++ Pong ∷ [] ≡ rally (suc (suc (n + n)))
ponged log n is = ap (λ (l : List Hit). l ++ Pong ∷ []) is
    ∙ ap (λ b. rally (suc (n + n)) ++ cond (not b) Ping Pong ∷ []) (sym (even_pings n))

pings_at : (seen : List Hit) (mine : ℕ) → length seen ≡ mine + mine → let v : View Hit ℕ = (seen, (0, mine) ∷ []) in
    Moves IsRally v 0 (λ _. suc mine) (Pinged mine v)
pings_at seen mine saw = record {
  goes = λ ns n ps log kept at pre ag.
      let pings : mine ≡ kept.pings = at_place ps kept.pings kept.pongs 0 mine kept.pings kept.pages ag.0 refl in
      let long = log_long log (kept.pings + kept.pongs) kept.hits in
      let pongs : kept.pongs ≡ mine = omega (arith, pings, long, saw, seen_shorter seen log pre, kept.turn.0) in
      let sum : kept.pings + kept.pongs ≡ mine + mine = omega (arith, pings, pongs) in
      let both : log ≡ rally (mine + mine) = kept.hits ∙ ap rally sum in
      let more = pinged log mine both in
      let all : suc (mine + mine) ≡ suc mine + mine = omega arith in (
        suc mine ∷ [],
        [],
        Ping ∷ [],
        record {
          pings = suc mine;
          pongs = mine;
          words = ap (λ (ms : List ℕ). set ms 0 (suc mine)) kept.words ∙ ap (λ (m : ℕ). suc mine ∷ m ∷ []) pongs;
          pages = ap (λ (qs : List ℕ). set qs 0 (suc mine)) kept.pages ∙ ap (λ (m : ℕ). suc mine ∷ m ∷ []) pongs;
          turn = (omega arith, omega arith);
          hits = more ∙ ap rally all;
        },
        (refl, more),
      );
}

pub pings : (seen : List Hit) (h : Held ℕ) (mine m : ℕ) → length seen ≡ mine + mine → m ≡ suc mine → (0, mine) ∷ [] ≡ h
    → Moves IsRally (seen, h) 0 (λ _. m) (Pinged mine (seen, h))
pings seen h mine m saw one is = subst (λ (k : ℕ). Moves IsRally (seen, h) 0 (λ _. k) (Pinged mine (seen, h))) (sym one)
    (subst (λ (i : Held ℕ). Moves IsRally (seen, i) 0 (λ _. suc mine) (Pinged mine (seen, i))) is (pings_at seen mine saw))

pongs_at : (seen : List Hit) (mine : ℕ) → length seen ≡ suc (mine + mine)
    → let v : View Hit ℕ = (seen, (1, mine) ∷ []) in Moves IsRally v 1 (λ _. suc mine) (Ponged mine v)
pongs_at seen mine saw = record {
  goes = λ ns n ps log kept at pre ag.
      let pongs : mine ≡ kept.pongs = at_place ps kept.pings kept.pongs 1 mine kept.pongs kept.pages ag.0 refl in
      let long = log_long log (kept.pings + kept.pongs) kept.hits in
      let pings : kept.pings ≡ suc mine = omega (arith, pongs, long, saw, seen_shorter seen log pre, kept.turn.1) in
      let sum : kept.pings + kept.pongs ≡ suc (mine + mine) = omega (arith, pings, pongs) in
      let odd : log ≡ rally (suc (mine + mine)) = kept.hits ∙ ap rally sum in
      let more = ponged log mine odd in
      let all : suc (suc (mine + mine)) ≡ suc mine + suc mine = omega arith in (
        suc mine ∷ [],
        [],
        Pong ∷ [],
        record {
          pings = suc mine;
          pongs = suc mine;
          words = ap (λ (ms : List ℕ). set ms 1 (suc mine)) kept.words ∙ ap (λ (m : ℕ). m ∷ suc mine ∷ []) pings;
          pages = ap (λ (qs : List ℕ). set qs 1 (suc mine)) kept.pages ∙ ap (λ (m : ℕ). m ∷ suc mine ∷ []) pings;
          turn = (omega arith, omega arith);
          hits = more ∙ ap rally all;
        },
        (refl, more),
      );
}

pub pongs : (seen : List Hit) (h : Held ℕ) (mine m : ℕ) → length seen ≡ suc (mine + mine) → m ≡ suc mine → (1, mine) ∷ [] ≡ h
    → Moves IsRally (seen, h) 1 (λ _. m) (Ponged mine (seen, h))
pongs seen h mine m saw one is = subst (λ (k : ℕ). Moves IsRally (seen, h) 1 (λ _. k) (Ponged mine (seen, h))) (sym one)
    (subst (λ (i : Held ℕ). Moves IsRally (seen, i) 1 (λ _. suc mine) (Ponged mine (seen, i))) is (pongs_at seen mine saw))

ends_at : (seen : List Hit) (x y : ℕ) → let v : View Hit ℕ = (seen, (0, x) ∷ (1, y) ∷ []) in Notes IsRally v (Ended (x, y) v 0)
ends_at seen x y = record {
  goes = λ ns ps log kept pre ag.
      let pings : x ≡ kept.pings = at_place ps kept.pings kept.pongs 0 x kept.pings kept.pages ag.0 refl in
      let pongs : y ≡ kept.pongs = at_place ps kept.pings kept.pongs 1 y kept.pongs kept.pages ag.1.1.0 refl in
      let sum : kept.pings + kept.pongs ≡ x + y = omega (arith, pings, pongs) in
      let hits : log ++ [] ≡ rally (x + y) = append-nil log ∙ (kept.hits ∙ ap rally sum) in
      let still : IsRally ns ps (log ++ []) = record {
        pings = kept.pings;
        pongs = kept.pongs;
        words = kept.words;
        pages = kept.pages;
        turn = kept.turn;
        hits = append-nil log ∙ kept.hits;
      } in
      let last : y ≤ x = omega (arith, pings, pongs, kept.turn.0) in
      ([], [], [], still, (hits, last, omega (arith, pings, pongs, kept.turn.1)));
}

pub ends : (seen : List Hit) (h : Held ℕ) (x y : ℕ) → (0, x) ∷ (1, y) ∷ [] ≡ h → Notes IsRally (seen, h) (Ended (x, y) (seen, h) 0)
ends seen h x y is = subst (λ (i : Held ℕ). Notes IsRally (seen, i) (Ended (x, y) (seen, i) 0)) is (ends_at seen x y)
