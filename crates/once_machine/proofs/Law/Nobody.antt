-- If the cell is set, no waiting task is forgotten: from the run alone.
use Rattle.std.proofs.Common.{◌≡◌, ◌≢◌, ℕ, Bool, true, false, ⊎_elim, List, [], ◌∷◌, ◌++◌, refl, sym, ap, ◌∙◌, arith}
use Rattle.std.proofs.lemmas.Bool.{false≢true}
use Rattle.once_machine.specs.Numbers.{member}
use Rattle.once_machine.specs.Record.{Claim, End, Entry, Fill, Free, Got, Kind, Own, OwnerCall, Pass, Pending, Ran, Reply, handed_by, is_of}
use Rattle.once_machine.specs.Cell.{Cell, Empty, Held, SetTo, cell, is_set}
use Rattle.once_machine.specs.Tasks.{Waiting, all_gone, is_gone, last_call, pending_status, status, status_after}
use Rattle.once_machine.specs.Wakers.{HandsOut, IsDue, handed_since}
use Rattle.once_machine.specs.Run.{AtEvery, IsRun, NobodyForgotten}
use Rattle.once_machine.proofs.Listing.Members.{member-append}
use Rattle.once_machine.proofs.Place.Builders.{polls_not_waits}
use Rattle.once_machine.proofs.History.Others.{no_end}
use Rattle.once_machine.proofs.Law.Unmade.{over_all}

module _ (K : Kind) (e : Entry) (h : List Entry) (w : ℕ) where
  -- by whether the entry is of the task
  due_by : (u : ℕ) (b : Bool) → is_of u e ≡ b → handed_by e ≡ []
      → (is_of u e ≡ true → status_after e (cell K h) (status K u h) ≢ Waiting)
      → status K u (e ∷ h) ≡ Waiting → (last_call K u (e ∷ h)).waker ≡ w → member w (handed_since u (e ∷ h)) ≡ false → IsDue K w h
  due_by u true is none awake s k m = absurd (awake is (rw is at s))
  due_by u false is none awake s k m = (u, rw is at s, rw is at k, rw (no_end u e is, none) at m)

  -- a step that hands nothing out, leaves the cell and makes nobody wait leaves nobody owed
  due_kept : handed_by e ≡ []
      → ((u : ℕ) → is_of u e ≡ true → status_after e (cell K h) (status K u h) ≢ Waiting) → IsDue K w (e ∷ h)
      → IsDue K w h
  due_kept none awake d = due_by d.0 (is_of d.0 e) refl none (awake d.0) d.1 d.2 d.3

  module _ {X : List ℕ} (all : handed_by e ≡ X) (o : HandsOut K X h) where
    -- by whether the release is of the task
    release_by : (u : ℕ) (b : Bool) → is_of u e ≡ b
        → (is_of u e ≡ true → status_after e (cell K h) (status K u h) ≢ Waiting)
        → status K u (e ∷ h) ≡ Waiting → (last_call K u (e ∷ h)).waker ≡ w → member w (handed_since u (e ∷ h)) ≡ false → ⊥
    release_by u true is awake s k m = awake is (rw is at s)
    release_by u false is awake s k m =
        let s' : status K u h ≡ Waiting = rw is at s in
        let k' : (last_call K u h).waker ≡ w = rw is at k in
        let m' : member w (X ++ handed_since u h) ≡ false = rw (no_end u e is, all) at m in
        let p = member-append w X (handed_since u h) in
        let none : member w (handed_since u h) ≡ false = grind arith in
        let out : member w X ≡ false = grind arith in
        false≢true (sym out ∙ o.due w (u, s', k', none))

    -- a release leaves nobody owed
    release_due : ((u : ℕ) → is_of u e ≡ true → status_after e (cell K h) (status K u h) ≢ Waiting) → IsDue K w (e ∷ h) → ⊥
    release_due awake d = release_by d.0 (is_of d.0 e) refl (awake d.0) d.1 d.2 d.3

-- a poll ends Pending and waits only while another holds
pending_awake : (t : ℕ) (c : Cell) → is_set c ≡ true → pending_status t c ≡ Waiting → ⊥
pending_awake t Empty n w = grind arith
pending_awake t (SetTo v) n w = grind arith
pending_awake t (Held u) n w = false≢true n

-- no other end leaves a task waiting
ended_awake : (K : Kind) (t : ℕ) (r : Reply) (h : List Entry) → is_set (cell K h) ≡ true → (u : ℕ)
    → is_of u (End t r) ≡ true → status_after (End t r) (cell K h) (status K u h) ≢ Waiting
ended_awake K t Pending h n u is w = pending_awake t (cell K h) n w
ended_awake K t r h n u is w = grind arith

module _ (K : Kind) (limit w : ℕ) where
  -- if all tasks are gone, nobody waits
  owned_due : (o : OwnerCall) (g : Got) (h : List Entry) → IsRun K limit h → all_gone K h ≡ true → IsDue K w (Own o g ∷ h) → ⊥
  owned_due o g h r a d =
      let s : status K d.0 h ≡ Waiting = d.1 in
      ⊎_elim (λ e. let z : ⊥ = cc in z) (λ e. false≢true (sym (ap is_gone s) ∙ e)) (over_all K limit d.0 h r a)

  -- if the cell is set, nobody is owed a waker
  nobody_owed : (h : List Entry) → IsRun K limit h → is_set (cell K h) ≡ true → IsDue K w h → ⊥
  nobody_owed [] r n d = grind (arith, d.1)
  nobody_owed (Claim t ∷ h) r n d = false≢true n
  nobody_owed (Ran t a ∷ h) r n d = false≢true (ap is_set (sym r.0.0) ∙ n)
  nobody_owed (Free t X ∷ h) r n d = false≢true n
  nobody_owed (Fill t v X ∷ h) r n d = release_due K (Fill t v X) h w refl r.0.3 (λ u is. polls_not_waits K t u h is r.0.1) d
  nobody_owed (Pass t X ∷ h) r n d = false≢true (ap is_set (sym r.0.0) ∙ n)
  nobody_owed (End t r' ∷ h) r n d = nobody_owed h r.1 n (due_kept K (End t r') h w refl (ended_awake K t r' h n) d)
  nobody_owed (Own o g ∷ h) r n d = owned_due o g h r.1 r.0.0 d
  nobody_owed (e ∷ h) r n d = nobody_owed h r.1 n (due_kept K e h w refl (λ u is. grind arith) d)

-- at every moment at which the cell is set, no waiting task is forgotten
pub nobody_forgotten : (kind : Kind) (limit : ℕ) (h : List Entry) → IsRun kind limit h → AtEvery (NobodyForgotten kind) h
nobody_forgotten kind limit [] r = λ n w d. nobody_owed kind limit w [] r n d
nobody_forgotten kind limit (e ∷ h) r = (λ n w d. nobody_owed kind limit w (e ∷ h) r n d, nobody_forgotten kind limit h r.1)
