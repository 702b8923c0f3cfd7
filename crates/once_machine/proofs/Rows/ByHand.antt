-- Some rows are runs by hand: each entry in its turn, from the newest to the oldest, without the machine.
use Rattle.std.proofs.Common.{◌≡◌, ◌≢◌, ℕ, true, inl, List, [], ◌∷◌, refl, subst, arith}
use Rattle.std.proofs.lemmas.Bool.{false≢true}
use Rattle.std.proofs.lemmas.Bool.Decides.{nat_tests}
use Rattle.once_machine.specs.Numbers.{member}
use Rattle.once_machine.specs.Record.{Begin, Claim, End, Entry, Kind, Lazy, LazyWith, Made, Once, OnceWith, Pending, Ran, RanPending, RanValue}
use Rattle.once_machine.specs.Tasks.{Polling, Unmade, Waiting, last_call, status}
use Rattle.once_machine.specs.Wakers.{HandsOut, IsOpen}
use Rattle.once_machine.specs.Run.{IsRun}
use Rattle.once_machine.proofs.Rows.Order.{newest_first}
use Rattle.once_machine.proofs.Rows.Tasks.{by_two, not_waiting}
use Rattle.once_machine.proofs.Rows.Plain.{plain_path_record, slow_path_record}
use Rattle.once_machine.proofs.Rows.Refused.{limit_of_the_count_record, queue_refused_record}
use Rattle.once_machine.proofs.Rows.Owners.{lazy_answers_used_up_record, repeat_after_emptying_record, replacements_record}

pub two_not_one : ◌≢◌ {A = ℕ} 2 1
two_not_one e = omega arith

-- if t waits, its waker is in X
abbrev pub Covers : Kind → List ℕ → List Entry → ℕ → Type 0
Covers K X h t = status K t h ≡ Waiting → member (last_call K t h).waker X ≡ true

-- such a list may be handed out, if all its wakers are open
pub may_hand : (K : Kind) (h : List Entry) → ((t : ℕ) → Covers K [] h t) → HandsOut K [] h
may_hand K h c = record { once = refl; due = λ w d. subst (λ (v : ℕ). member v [] ≡ true) d.2 (c d.0 d.1); open_alone = λ w m. absurd (false≢true m) }

may_hand_one : (K : Kind) (x : ℕ) (h : List Entry) → ((t : ℕ) → Covers K (x ∷ []) h t) → IsOpen K x h → HandsOut K (x ∷ []) h
may_hand_one K x h c o = record {
  once = refl;
  due = λ w d. subst (λ (v : ℕ). member v (x ∷ []) ≡ true) d.2 (c d.0 d.1);
  open_alone = λ w m. subst (λ (v : ℕ). IsOpen K v h) (let e : x ≡ w = grind (arith, nat_tests) in e) o;
}

-- before the fill of the plain path nobody waits
abbrev plain_fill : List Entry
plain_fill = newest_first (Made 1 ∷ Begin 1 7 ∷ Claim 1 ∷ Ran 1 (RanValue 4) ∷ [])

plain_covers : (t : ℕ) → Covers Once [] plain_fill t
plain_covers =
    by_two (λ t. Covers Once [] plain_fill t) (λ w. absurd (not_waiting Once 1 plain_fill Polling refl refl w))
    (λ w. absurd (not_waiting Once 2 plain_fill Unmade refl refl w))
    (λ t n m w. absurd (not_waiting Once t plain_fill Unmade (rw n refl) refl w))

plain_path_by_hand : IsRun Once 8 plain_path_record
plain_path_by_hand = (
  (refl, refl, inl refl),
  (
    tt,
    (
      refl,
      (
        (refl, (refl, refl), inl refl),
        (
          (refl, refl, refl, may_hand Once plain_fill plain_covers),
          ((refl, refl, refl, tt), ((refl, refl, refl, refl), (tt, (refl, tt)))),
        ),
      ),
    ),
  ),
)

-- before the fill of the slow path the second task waits
abbrev slow_fill : List Entry
slow_fill = newest_first (Made 1 ∷ Made 2 ∷ Begin 1 7 ∷ Claim 1 ∷ Ran 1 RanPending ∷ End 1 Pending ∷ Begin 2 7 ∷ End 2 Pending ∷ Begin 2 7 ∷ End 2 Pending ∷ Begin 1 7 ∷ Ran 1 (RanValue 2) ∷ [])

slow_covers : (t : ℕ) → Covers Once (7 ∷ []) slow_fill t
slow_covers =
    by_two (λ t. Covers Once (7 ∷ []) slow_fill t) (λ w. absurd (not_waiting Once 1 slow_fill Polling refl refl w))
    (λ w. refl) (λ t n m w. absurd (not_waiting Once t slow_fill Unmade (rw (n, m) refl) refl w))

slow_path_by_hand : IsRun Once 8 slow_path_record
slow_path_by_hand = (
  (refl, refl, inl refl),
  (
    tt,
    (
      (refl, (refl, refl), inl refl),
      (
        (refl, refl, refl, may_hand_one Once 7 slow_fill slow_covers (omega arith)),
        (
          (refl, refl, refl, tt),
          (
            tt,
            (
              (refl, (1, two_not_one, refl), inl refl),
              (
                tt,
                (
                  (refl, (1, two_not_one, refl), inl refl),
                  (
                    tt,
                    (
                      (refl, refl, inl refl),
                      (
                        (refl, refl, refl, tt),
                        ((refl, refl, refl, refl), (tt, (refl, (refl, tt)))),
                      ),
                    ),
                  ),
                ),
              ),
            ),
          ),
        ),
      ),
    ),
  ),
)

-- the third task finds the place full: the second waits and the first holds
limit_of_the_count_by_hand : IsRun Once 1 limit_of_the_count_record
limit_of_the_count_by_hand = (
  (refl, (refl, refl, inl (omega arith), refl), inl refl),
  (
    tt,
    (
      (refl, (1, two_not_one, refl), inl refl),
      (
        tt,
        (
          (refl, refl, inl refl),
          (
            (refl, refl, refl, tt),
            ((refl, refl, refl, refl), (tt, (refl, (refl, (refl, tt))))),
          ),
        ),
      ),
    ),
  ),
)

-- the second task is refused memory: the first holds
queue_refused_by_hand : IsRun Once 8 queue_refused_record
queue_refused_by_hand =
    ((refl, (refl, (refl, inl (inl (1, two_not_one, refl)))), inl refl), (tt, ((refl, refl, inl refl), ((refl, refl, refl, tt), ((refl, refl, refl, refl), (tt, (refl, (refl, tt))))))))

-- the owner's calls and looks
repeat_after_emptying_by_hand : IsRun (OnceWith 5) 8 repeat_after_emptying_record
repeat_after_emptying_by_hand = ((refl, refl, refl), ((refl, refl, refl), (refl, ((refl, refl, refl), ((refl, refl, refl), (refl, tt))))))

-- a lazy cell is replaced twice and taken apart
replacements_by_hand : IsRun (LazyWith 7) 8 replacements_record
replacements_by_hand = ((refl, refl, refl), ((refl, refl, refl), (refl, ((refl, refl, refl), tt))))

-- an init without answers left is pending
lazy_answers_used_up_by_hand : IsRun (Lazy []) 8 lazy_answers_used_up_record
lazy_answers_used_up_by_hand = ((refl, refl, inl refl), ((refl, refl, refl, refl), (tt, ((refl, refl, inl refl), ((refl, refl, refl, refl), ((refl, refl, refl, refl), (tt, (refl, tt))))))))
