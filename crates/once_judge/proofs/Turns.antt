-- What is kept tells whether some task was woken.
use Rattle.std.proofs.Common.{◌≡◌, ℕ, true, inl, inr, ⊎_elim, List, refl, sym, ap, ◌∙◌, ltb}
use Rattle.once_machine.specs.Numbers.{member}
use Rattle.once_machine.specs.Record.{Kind, Entry}
use Rattle.once_machine.specs.Tasks.{Status, Polling, Dropping, Waiting, status, last_call, is_under_way}
use Rattle.once_machine.specs.Wakers.{handed_since}
use Rattle.once_machine.specs.Called.{IsCalled, SomebodyCalled}
use Rattle.once_machine.specs.Crowd.{is_waiting}
use Rattle.once_judge.specs.Seen.{Seen}
use Rattle.once_judge.specs.Legal.{IsCalledIn, SomebodyCalledIn}
use Rattle.once_judge.specs.SeenOf.{IsSeenOf, stands}
use Rattle.once_judge.proofs.Entries.{stands_stays, acts_stays}

-- a task in a call that it began while waiting stands
turn_stands : (s began : Status) → is_under_way s ≡ true → began ≡ Waiting → stands s began ≡ true
turn_stands Polling began a b = ap is_waiting b
turn_stands Dropping began a b = ap is_waiting b
turn_stands Waiting began a b = refl
turn_stands _ began a b = a

module _ (K : Kind) (limit : ℕ) (h : List Entry) (S : Seen) (seen : IsSeenOf K limit h S) where
  -- whether the waker of a task that stands was handed out
  handed_is : (t : ℕ) → stands (status K t h) (last_call K t h).began ≡ true
      → member (last_call K t h).listed (handed_since t h) ≡ ltb (S.task t).ended (S.handed (S.task t).call.listed)
  handed_is t s = seen.basics.stood t (last_call K t h).listed s
      ∙ ap (λ c. ltb (S.task t).ended (S.handed c.listed)) (sym (seen.basics.call_is t (stands_stays (status K t h) (last_call K t h).began s)))

  -- a task that was woken as the history says was woken as what is kept says, and the other way round
  pub called_in : (t : ℕ) → IsCalled K t h → IsCalledIn t S
  called_in t c = ⊎_elim
      (λ w. (inl (seen.basics.status_is t ∙ w), sym (handed_is t (rw w refl)) ∙ c.1))
      (λ w. (
        inr (
          ap is_under_way (seen.basics.status_is t) ∙ w.under_way,
          ap (λ x. x.began) (seen.basics.call_is t (acts_stays (status K t h) w.under_way)) ∙ w.began,
          ap (λ x. x.claimed) (seen.basics.call_is t (acts_stays (status K t h) w.under_way)) ∙ w.unclaimed,
          ap (λ x. x.passed) (seen.basics.call_is t (acts_stays (status K t h) w.under_way)) ∙ w.unpassed,
        ),
        sym (handed_is t (turn_stands (status K t h) (last_call K t h).began w.under_way w.began)) ∙ c.1,
      )) c.0

  called_out : (t : ℕ) → IsCalledIn t S → IsCalled K t h
  called_out t c = ⊎_elim
      (λ w. let s : status K t h ≡ Waiting = sym (seen.basics.status_is t) ∙ w in (inl s, handed_is t (rw s refl) ∙ c.1))
      (λ w. let a : is_under_way (status K t h) ≡ true = ap is_under_way (sym (seen.basics.status_is t)) ∙ w.0 in
      let b : (last_call K t h).began ≡ Waiting = ap (λ x. x.began) (sym (seen.basics.call_is t (acts_stays (status K t h) a))) ∙ w.1 in (
        inr (record {
          under_way = a;
          began = b;
          unclaimed = ap (λ x. x.claimed) (sym (seen.basics.call_is t (acts_stays (status K t h) a))) ∙ w.2;
          unpassed = ap (λ x. x.passed) (sym (seen.basics.call_is t (acts_stays (status K t h) a))) ∙ w.3;
        }),
        handed_is t (turn_stands (status K t h) (last_call K t h).began a b) ∙ c.1,
      )) c.0

  -- so both say the same of whether some task was woken
  pub somebody_in : SomebodyCalled K h → SomebodyCalledIn S
  somebody_in s = λ c u w. let f = s (sym seen.basics.cell_is ∙ c) u (sym (seen.basics.status_is u) ∙ w) in (f.0, called_in f.0 f.1)

  pub somebody_out : SomebodyCalledIn S → SomebodyCalled K h
  somebody_out s = λ c u w. let f = s (seen.basics.cell_is ∙ c) u (seen.basics.status_is u ∙ w) in (f.0, called_out f.0 f.1)
