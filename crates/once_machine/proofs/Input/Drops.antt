-- The drop of a task that was never polled: a task that was woken still counts as woken between its two entries.
use Rattle.std.proofs.Common.{◌≡◌, ◌≢◌, ℕ, ⊎_elim, inl, inr, List, [], ◌∷◌, refl, sym, ap, ◌∙◌, subst}
use Rattle.std.proofs.lemmas.Bool.{false≢true}
use Rattle.once_machine.specs.Record.{DropBegin, Entry, Kind}
use Rattle.once_machine.specs.Tasks.{Dropping, Fresh, LastCall, Waiting, is_under_way, last_call, status}
use Rattle.once_machine.specs.Run.{AtEvery, IsLegal}
use Rattle.once_machine.specs.Called.{HasTurn, IsCalled, SomebodyCalled}
use Rattle.once_machine.proofs.History.Others.{Keeps, legal_keeps}
use Rattle.once_machine.proofs.History.Waiters.{waited}
use Rattle.once_machine.proofs.Place.Builders.{of_other}

-- what holds at every moment holds now
pub now : (P : List Entry → Type 0) (h : List Entry) → AtEvery P h → P h
now P [] a = a
now P (e ∷ h) a = a.0

fresh_waits : Fresh ≡ Waiting → ⊥
fresh_waits e = cc

dropping_awake : Dropping ≢ Waiting
dropping_awake e = cc

turn_kept : (K : Kind) (v : ℕ) (h h' : List Entry) → Keeps K v h h' → HasTurn K v h → HasTurn K v h'
turn_kept K v h h' k t = record {
  under_way = ap is_under_way k.status_is ∙ t.under_way;
  began = ap (λ (x : LastCall). x.began) k.call_is ∙ t.began;
  unclaimed = ap (λ (x : LastCall). x.claimed) k.call_is ∙ t.unclaimed;
  unpassed = ap (λ (x : LastCall). x.passed) k.call_is ∙ t.unpassed;
}

-- a woken task still counts as woken after an entry of another
called_kept : (K : Kind) (v : ℕ) (h h' : List Entry) → Keeps K v h h' → IsCalled K v h → IsCalled K v h'
called_kept K v h h' k c = (
  ⊎_elim (λ s. inl (k.status_is ∙ s)) (λ t. inr (turn_kept K v h h' k t)) c.0,
  rw k.call_is (k.handed (last_call K v h).listed c.1),
)

fresh_uncalled : (K : Kind) (t : ℕ) (h : List Entry) → status K t h ≡ Fresh → IsCalled K t h → ⊥
fresh_uncalled K t h f c = ⊎_elim (λ s. fresh_waits (sym f ∙ s)) (λ s. false≢true (ap is_under_way (sym f) ∙ s.under_way)) c.0

-- the moment between the two entries of the drop of a task that was never polled
pub drop_moment : (K : Kind) (limit t : ℕ) (h : List Entry) → status K t h ≡ Fresh → IsLegal K limit (DropBegin t) h
    → SomebodyCalled K h → SomebodyCalled K (DropBegin t ∷ h)
drop_moment K limit t h f legal before = λ e u s.
    let v = before e u (waited K (DropBegin t) h (λ u is. dropping_awake) u s) in
    let d : t ≢ v.0 = λ x. fresh_uncalled K t h f (subst (λ i. IsCalled K i h) (sym x) v.1) in
    (v.0, called_kept K v.0 h (DropBegin t ∷ h) (legal_keeps K v.0 (DropBegin t) limit h (of_other t v.0 d) legal refl) v.1)
