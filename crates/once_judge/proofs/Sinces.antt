-- What was so since a poll began is right after one more entry; and so all that is kept is.
use Rattle.std.proofs.Common.{◌≡◌, ◌≢◌, ◌≤◌, ℕ, suc, Bool, true, false, cond, ◌==◌, ◌||◌, ◌⊎◌, inl, ⊎_elim, List, [], ◌∷◌, refl, sym, ap, ◌∙◌, subst, arith, ltb, leb, Decides}
use Rattle.std.proofs.lemmas.Bool.{false≢true, ne_eqb, eqb-false, ltb-true, lt-ltb}
use Rattle.std.proofs.lemmas.Bool.Decides.{nat_tests, Decides-or, Decides-like}
use Rattle.once_machine.specs.Numbers.{member, bit, how_many}
use Rattle.once_machine.specs.declared.record.Reply.{Reply}
use Rattle.once_machine.specs.declared.record.Reply.TheVariants.{Pending}
use Rattle.once_machine.specs.Record.{Kind, Entry, End, Look, Own, is_of, made_in}
use Rattle.once_machine.specs.Cell.{Cell, Empty, Held, SetTo, cell, cell_after}
use Rattle.once_machine.specs.Tasks.{Status, Unmade, Polling, status, status_after, pending_status, is_gone, is_under_way}
use Rattle.once_machine.specs.Wakers.{is_held_by_other}
use Rattle.once_machine.specs.Refusals.{is_about, is_begin_of, Since, OtherHolds, OtherActs, IsCrowded, crowd}
use Rattle.once_machine.proofs.Listing.Members.{eqb_self}
use Rattle.once_machine.proofs.Listing.Counting.{count_change, count_some, count_positive}
use Rattle.once_judge.specs.Seen.{Seen, after, begins_poll, holder_after, held_after, other_after, other_held, nothing_seen}
use Rattle.once_judge.specs.Legal.{held_since, acted_since, crowded_since}
use Rattle.once_judge.specs.SeenOf.{Basics, Sinces, IsSeenOf, is_made}
use Rattle.once_judge.proofs.Entries.{moved_stays}
use Rattle.once_judge.proofs.Either.{Fits}
use Rattle.once_judge.proofs.Basics.{basics_after}

-- an entry that begins no poll of t
pub since_goes_on : (t : ℕ) (P : List Entry → Type 0) (e : Entry) (h : List Entry) (old now new : Bool) → is_begin_of t e ≡ false
    → Decides old (Since t P h) → Decides now (P (e ∷ h)) → new ≡ (now || old) → Decides new (Since t P (e ∷ h))
since_goes_on t P e h old now new n d p is =
    let both : Decides (now || old) (P (e ∷ h) ⊎ Since t P h) = Decides-or now old p d in
    rw (is, n) both

-- one that does
pub since_begins : (t : ℕ) (P : List Entry → Type 0) (e : Entry) (h : List Entry) (now new : Bool) → is_begin_of t e ≡ true
    → Decides now (P (e ∷ h)) → new ≡ now → Decides new (Since t P (e ∷ h))
since_begins t P e h now new n p is =
    let both : Decides now (P (e ∷ h) ⊎ ⊥) = Decides-like now (λ a. inl a) (λ s. ⊎_elim (λ a. a) (λ a. absurd a) s) p in
    rw (is, n) both

-- an end leaves its task at rest
pending_rests : (t : ℕ) (c : Cell) → pending_status t c ≢ Polling
pending_rests t Empty e = grind arith
pending_rests t (Held u) e = grind (arith, nat_tests)
pending_rests t (SetTo v) e = grind arith

end_rests : (t : ℕ) (r : Reply) (c : Cell) (s : Status) → status_after (End t r) c s ≢ Polling
end_rests t Pending c s e = pending_rests t c e
end_rests t _ c s e = grind arith

end_before : (K : Kind) (t u : ℕ) (r : Reply) (h : List Entry) (b : Bool) → (u == t) ≡ b → status K t (End u r ∷ h) ≡ Polling → status K t h ≡ Polling
end_before K t u r h true is s = absurd (end_rests u r (cell K h) (status K t h) (rw is at s))
end_before K t u r h false is s = rw is at s

-- a task that is polled after an entry, which does not begin its poll, was polled before
polled_before : (K : Kind) (t : ℕ) (e : Entry) (h : List Entry) → is_begin_of t e ≡ false → status K t (e ∷ h) ≡ Polling → status K t h ≡ Polling
polled_before K t (End u r) h n s = end_before K t u r h (u == t) refl s
polled_before K t (Look r) h n s = s
polled_before K t (Own o g) h n s = s
polled_before K t _ h n s = grind arith

begun_at : (t : ℕ) (n at : ℕ) (e : Entry) (b : Bool) → is_begin_of t e ≡ b → cond (is_of t e) (cond (begins_poll e) n at) at ≡ cond b n at
begun_at t n at e b is = grind arith

module _ (kind : Kind) (limit : ℕ) (e : Entry) (h : List Entry) (S : Seen) (k : Basics kind h S) (k' : Basics kind (e ∷ h) (after limit e S)) where
  begun_of : (t : ℕ) (b : Bool) → is_begin_of t e ≡ b → (o : Bool) → is_of t e ≡ o → status kind t (e ∷ h) ≡ Polling
      → ((after limit e S).task t).begun ≡ cond b (suc S.now) (S.task t).begun
  begun_of t b is true o polled =
      let s : status_after e (cell kind h) (status kind t h) ≡ Polling = rw o at polled in
      let g : is_gone (status_after e S.cell (S.task t).status) ≡ false =
      ap is_gone (ap (λ c. status_after e c (S.task t).status) k.cell_is ∙ ap (status_after e (cell kind h)) (k.status_is t) ∙ s) in
      let a = begun_at t (suc S.now) (S.task t).begun e b is in
      rw o (ap (λ x. x.begun) (moved_stays e S.cell (suc S.now) (S.task t) g) ∙ (rw o at a))
  begun_of t b is false o polled = rw o (let a = begun_at t (suc S.now) (S.task t).begun e b is in rw o at a)

  begun_by : (t : ℕ) (b : Bool) → is_begin_of t e ≡ b → status kind t (e ∷ h) ≡ Polling → ((after limit e S).task t).begun ≡ cond b (suc S.now) (S.task t).begun
  begun_by t b is polled = begun_of t b is (is_of t e) refl polled

  -- another task holds now
  held_decides : (t : ℕ) (c : Cell) → Decides (is_held_by_other t c) ((u : ℕ) × (t ≢ u) × (c ≡ Held u))
  held_decides t Empty = (λ n. absurd (false≢true n), λ w. grind (arith, w.2))
  held_decides t (SetTo v) = (λ n. absurd (false≢true n), λ w. grind (arith, w.2))
  held_decides t (Held u) = (λ n. (u, (λ same. grind (arith, nat_tests)), refl), λ w. let same : u ≡ w.0 = let x = w.2 in cc in let ne = w.1 in grind (arith, nat_tests))

  -- when another task than t held last
  other_by : (t : ℕ) (c : Cell) → cond (t == holder_after c S.holder) (other_after c S.holder S.held_at S.other_held_at) (held_after c (suc S.now) S.held_at)
      ≡ cond (is_held_by_other t c) (suc S.now) (other_held t S)
  other_by t Empty = refl
  other_by t (SetTo v) = refl
  other_by t (Held u) = grind (arith, nat_tests)

  other_now : (t : ℕ) → other_held t (after limit e S) ≡ cond (is_held_by_other t (cell_after e S.cell)) (suc S.now) (other_held t S)
  other_now t = other_by t (cell_after e S.cell)

  other_within : (t : ℕ) → other_held t S ≤ S.now
  other_within t = let a = k.held_by in let b = k.other_by in grind arith

  holds_decides : (t : ℕ) → Decides (is_held_by_other t (cell_after e S.cell)) (OtherHolds kind t (e ∷ h))
  holds_decides t = let P : Cell → Type 0 = λ c. Decides (is_held_by_other t (cell_after e S.cell)) ((u : ℕ) × (t ≢ u) × (c ≡ Held u)) in
      subst P k'.cell_is (held_decides t (cell_after e S.cell))

  -- stamps
  stamp_begins : (p : Bool) (at : ℕ) → at ≤ S.now → leb (suc S.now) (cond p (suc S.now) at) ≡ p
  stamp_begins true at w = grind (arith, nat_tests)
  stamp_begins false at w = grind (arith, nat_tests)

  stamp_goes_on : (p : Bool) (begun at : ℕ) → begun ≤ S.now → leb begun (cond p (suc S.now) at) ≡ (p || leb begun at)
  stamp_goes_on true begun at w = grind (arith, nat_tests)
  stamp_goes_on false begun at w = refl

  held_by_begin : (t : ℕ) (b : Bool) → is_begin_of t e ≡ b → status kind t (e ∷ h) ≡ Polling
      → held_since t (after limit e S) ≡ cond b (is_held_by_other t (cell_after e S.cell)) (is_held_by_other t (cell_after e S.cell) || held_since t S)
  held_by_begin t true is polled = rw (other_now t, begun_by t true is polled) (stamp_begins (is_held_by_other t (cell_after e S.cell)) (other_held t S) (other_within t))
  held_by_begin t false is polled = rw (other_now t, begun_by t false is polled) (stamp_goes_on (is_held_by_other t (cell_after e S.cell)) (S.task t).begun (other_held t S) (k.begun_by t))

  held_since_now : (s : Sinces kind limit h S) (t : ℕ) (b : Bool) → is_begin_of t e ≡ b → status kind t (e ∷ h) ≡ Polling
      → Decides (held_since t (after limit e S)) (Since t (OtherHolds kind t) (e ∷ h))
  held_since_now s t true is polled =
      since_begins t (OtherHolds kind t) e h (is_held_by_other t (cell_after e S.cell)) (held_since t (after limit e S)) is (holds_decides t) (held_by_begin t true is polled)
  held_since_now s t false is polled = since_goes_on t (OtherHolds kind t) e h (held_since t S) (is_held_by_other t (cell_after e S.cell)) (held_since t (after limit e S)) is
      (s.held t (polled_before kind t e h is polled)) (holds_decides t) (held_by_begin t false is polled)

  -- another is in a call
  acting_change : (t : ℕ) → status kind t (e ∷ h) ≡ Polling
      → (after limit e S).acting ≡ suc (how_many (λ u. cond (u == t) false (is_under_way (status kind u (e ∷ h)))) (made_in (e ∷ h)))
  acting_change t polled =
      let p = λ (u : ℕ). is_under_way (status kind u (e ∷ h)) in
      let q = λ (u : ℕ). cond (u == t) false (is_under_way (status kind u (e ∷ h))) in
      let there : member t (made_in (e ∷ h)) ≡ true = k'.made_is t ∙ ap is_made polled in
      let apart : (u : ℕ) → t ≢ u → p u ≡ q u = λ u ne. rw (ne_eqb u t (λ same. ne (sym same))) refl in
      let change = count_change t (made_in (e ∷ h)) p q k'.distinct there apart in
      let pt : bit (p t) ≡ 1 = ap (λ s. bit (is_under_way s)) polled in
      let qt : bit (q t) ≡ 0 = rw (eqb_self t) refl in
      let is = k'.acting_is in
      omega arith

  acts_made : (s : Status) → is_under_way s ≡ true → is_made s ≡ true
  acts_made Unmade a = a
  acts_made _ a = refl

  other_of : (t u : ℕ) (b a : Bool) → (u == t) ≡ b → cond b false a ≡ true → (t ≢ u) × (a ≡ true)
  other_of t u true a is c = absurd (false≢true c)
  other_of t u false a is c = (λ same. eqb-false u t is (sym same), c)

  acting_decides : (t : ℕ) → status kind t (e ∷ h) ≡ Polling
      → Decides (ltb 1 (after limit e S).acting) ((u : ℕ) × (t ≢ u) × (is_under_way (status kind u (e ∷ h)) ≡ true))
  acting_decides t polled =
      let q = λ (u : ℕ). cond (u == t) false (is_under_way (status kind u (e ∷ h))) in
      let change = acting_change t polled in (
        λ n. let more = ltb-true 1 (after limit e S).acting n in
            let some = count_some (made_in (e ∷ h)) q (omega arith) in
            let o = other_of t some.0 (some.0 == t) (is_under_way (status kind some.0 (e ∷ h))) refl some.1 in
            (some.0, o.0, o.1),
        λ w. let m : member w.0 (made_in (e ∷ h)) ≡ true = k'.made_is w.0 ∙ acts_made (status kind w.0 (e ∷ h)) w.2 in
            let qu : q w.0 ≡ true = rw (ne_eqb w.0 t (λ same. w.1 (sym same))) w.2 in
            let positive = count_positive w.0 (made_in (e ∷ h)) q m qu in
            lt-ltb 1 (after limit e S).acting (omega arith),
      )

  acts_decides : (t : ℕ) → status kind t (e ∷ h) ≡ Polling
      → Decides (is_held_by_other t (cell_after e S.cell) || ltb 1 (after limit e S).acting) (OtherActs kind t (e ∷ h))
  acts_decides t polled = Decides-or (is_held_by_other t (cell_after e S.cell)) (ltb 1 (after limit e S).acting) (holds_decides t) (acting_decides t polled)

  four : (a b c d : Bool) → ((a || b) || (c || d)) ≡ ((a || c) || (b || d))
  four true b c d = refl
  four false true true d = refl
  four false true false d = refl
  four false false c d = refl

  acted_by_begin : (t : ℕ) (b : Bool) → is_begin_of t e ≡ b → status kind t (e ∷ h) ≡ Polling
      → acted_since t (after limit e S) ≡ cond b (is_held_by_other t (cell_after e S.cell) || ltb 1 (after limit e S).acting)
      ((is_held_by_other t (cell_after e S.cell) || ltb 1 (after limit e S).acting) || acted_since t S)
  acted_by_begin t true is polled =
      let a = held_by_begin t true is polled in
      let c : leb ((after limit e S).task t).begun (after limit e S).acting_at ≡ ltb 1 (after limit e S).acting =
      rw (begun_by t true is polled) (stamp_begins (ltb 1 (after limit e S).acting) S.acting_at k.acting_by) in
      ap (λ x. x || leb ((after limit e S).task t).begun (after limit e S).acting_at) a ∙ ap (λ x. is_held_by_other t (cell_after e S.cell) || x) c
  acted_by_begin t false is polled =
      let a = held_by_begin t false is polled in
      let c : leb ((after limit e S).task t).begun (after limit e S).acting_at ≡ (ltb 1 (after limit e S).acting || leb (S.task t).begun S.acting_at) =
      rw (begun_by t false is polled) (stamp_goes_on (ltb 1 (after limit e S).acting) (S.task t).begun S.acting_at (k.begun_by t)) in
      ap (λ x. x || leb ((after limit e S).task t).begun (after limit e S).acting_at) a ∙ ap (λ x. (is_held_by_other t (cell_after e S.cell) || held_since t S) || x) c
      ∙ four (is_held_by_other t (cell_after e S.cell)) (held_since t S) (ltb 1 (after limit e S).acting) (leb (S.task t).begun S.acting_at)

  acted_since_now : (s : Sinces kind limit h S) (t : ℕ) (b : Bool) → is_begin_of t e ≡ b → status kind t (e ∷ h) ≡ Polling
      → Decides (acted_since t (after limit e S)) (Since t (OtherActs kind t) (e ∷ h))
  acted_since_now s t true is polled =
      since_begins t (OtherActs kind t) e h (is_held_by_other t (cell_after e S.cell) || ltb 1 (after limit e S).acting)
      (acted_since t (after limit e S)) is (acts_decides t polled) (acted_by_begin t true is polled)
  acted_since_now s t false is polled =
      since_goes_on t (OtherActs kind t) e h (acted_since t S) (is_held_by_other t (cell_after e S.cell) || ltb 1 (after limit e S).acting) (acted_since t (after limit e S)) is
      (s.acted t (polled_before kind t e h is polled)) (acts_decides t polled) (acted_by_begin t false is polled)

  -- the crowd
  crowd_change : (t : ℕ) → status kind t (e ∷ h) ≡ Polling → (after limit e S).about ≡ suc (crowd kind t (e ∷ h))
  crowd_change t polled =
      let p = λ (u : ℕ). is_about (status kind u (e ∷ h)) in
      let q = λ (u : ℕ). cond (u == t) false (is_about (status kind u (e ∷ h))) in
      let there : member t (made_in (e ∷ h)) ≡ true = k'.made_is t ∙ ap is_made polled in
      let apart : (u : ℕ) → t ≢ u → p u ≡ q u = λ u ne. rw (ne_eqb u t (λ same. ne (sym same))) refl in
      let change = count_change t (made_in (e ∷ h)) p q k'.distinct there apart in
      let pt : bit (p t) ≡ 1 = ap (λ s. bit (is_about s)) polled in
      let qt : bit (q t) ≡ 0 = rw (eqb_self t) refl in
      let is = k'.about_is in
      omega arith

  crowd_decides : (t : ℕ) → status kind t (e ∷ h) ≡ Polling → Decides (ltb limit (after limit e S).about) (IsCrowded kind limit t (e ∷ h))
  crowd_decides t polled =
      let change = crowd_change t polled in
      (λ n. let more = ltb-true limit (after limit e S).about n in omega arith, λ w. lt-ltb limit (after limit e S).about (omega arith))

  crowded_by_begin : (t : ℕ) (b : Bool) → is_begin_of t e ≡ b → status kind t (e ∷ h) ≡ Polling
      → crowded_since t (after limit e S) ≡ cond b (ltb limit (after limit e S).about) (ltb limit (after limit e S).about || crowded_since t S)
  crowded_by_begin t true is polled = rw (begun_by t true is polled) (stamp_begins (ltb limit (after limit e S).about) S.crowded_at k.crowded_by)
  crowded_by_begin t false is polled = rw (begun_by t false is polled) (stamp_goes_on (ltb limit (after limit e S).about) (S.task t).begun S.crowded_at (k.begun_by t))

  crowded_since_now : (s : Sinces kind limit h S) (t : ℕ) (b : Bool) → is_begin_of t e ≡ b → status kind t (e ∷ h) ≡ Polling
      → Decides (crowded_since t (after limit e S)) (Since t (IsCrowded kind limit t) (e ∷ h))
  crowded_since_now s t true is polled =
      since_begins t (IsCrowded kind limit t) e h (ltb limit (after limit e S).about) (crowded_since t (after limit e S)) is (crowd_decides t polled) (crowded_by_begin t true is polled)
  crowded_since_now s t false is polled = since_goes_on t (IsCrowded kind limit t) e h (crowded_since t S) (ltb limit (after limit e S).about) (crowded_since t (after limit e S)) is
      (s.crowded t (polled_before kind t e h is polled)) (crowd_decides t polled) (crowded_by_begin t false is polled)

-- what is kept stays right after one more entry that may come next
pub seen_after : (kind : Kind) (limit : ℕ) (e : Entry) (h : List Entry) (S : Seen) → Fits kind e h → IsSeenOf kind limit h S → IsSeenOf kind limit (e ∷ h) (after limit e S)
seen_after kind limit e h S f k =
    let k' = basics_after kind limit e h S f k.basics in record {
      basics = k';
      sinces = record {
        held = λ t polled. held_since_now kind limit e h S k.basics k' k.sinces t (is_begin_of t e) refl polled;
        acted = λ t polled. acted_since_now kind limit e h S k.basics k' k.sinces t (is_begin_of t e) refl polled;
        crowded = λ t polled. crowded_since_now kind limit e h S k.basics k' k.sinces t (is_begin_of t e) refl polled;
      };
    }

-- and is right at first
pub seen_none : (kind : Kind) (limit : ℕ) → IsSeenOf kind limit [] (nothing_seen kind)
seen_none kind limit = record {
  basics = record {
    now_is = refl;
    cell_is = refl;
    answers_are = refl;
    status_is = λ t. refl;
    call_is = λ t g. refl;
    ended_by = λ t. omega arith;
    begun_by = λ t. omega arith;
    handed_by = λ w. omega arith;
    crowded_by = omega arith;
    acting_by = omega arith;
    held_by = omega arith;
    other_by = omega arith;
    times_is = λ w. refl;
    stood = λ t w s. absurd (false≢true s);
    made_is = λ t. refl;
    distinct = refl;
    about_is = refl;
    acting_is = refl;
  };
  sinces = record {
    held = λ t polled. absurd (let z : ⊥ = cc in z);
    acted = λ t polled. absurd (let z : ⊥ = cc in z);
    crowded = λ t polled. absurd (let z : ⊥ = cc in z);
  };
}
