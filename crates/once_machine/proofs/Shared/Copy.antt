-- The copy of a waker is refused: only the place of its task changes, and what held of the world still holds.
use Rattle.std.proofs.Common.{◌≡◌, ℕ, ⊎_elim, List, Option, Some, None, refl, sym, ap, subst}
use Rattle.std.proofs.lemmas.Bool.{cases_eq, ne_eqb}
use Rattle.once_machine.proofs.Listing.Members.{eqb_self}
use Rattle.once_machine.specs.Record.{Entry, Once}
use Rattle.once_machine.specs.Book.{refuse_world, refused_step}
use Rattle.once_machine.specs.Machine.{AtList, EndMemory, Finished, Place, Resting, SharedState, Step, Task, UnderWay, World, is_finished, leave_place, put_task}
use Rattle.once_machine.proofs.Invariant.Facts.{AtPlace, AtStep}
use Rattle.once_machine.proofs.Invariant.Fits.{Fits}
use Rattle.once_machine.proofs.Invariant.Moves.{Moves, moved_fits, puts}
use Rattle.once_machine.proofs.Place.Sections.{refused_at}
use Rattle.once_machine.proofs.Input.Headline.{task_before, task_fits}
use Rattle.once_machine.proofs.Shared.Queue.{EntersFirst, leave_first}
use Rattle.once_machine.proofs.Shared.Worlds.{Unowned, enters_of, moved_unowned}

-- a task that is put where it stands
put_same : (t : ℕ) (x : Task) (tasks : ℕ → Option Task) → tasks t ≡ Some x → put_task t x tasks ≡ tasks
put_same t x tasks found = λ i u. same u i
  where
    same : (u : ℕ) → put_task t x tasks u ≡ tasks u
    same u = ⊎_elim
        (λ e. subst (λ v. put_task t x tasks v ≡ tasks v) e (rw (eqb_self t) (sym found)))
        (λ n. rw (ne_eqb t u n) refl)
        (cases_eq t u)

module _ (P : World → Type 0) (w : World) (t : ℕ) (x : Task) (found : w.tasks t ≡ Some x) (holds : P w) where
  -- the world with t at the step s
  abbrev At : Step ℕ ℕ → World
  At s = record w { tasks = put_task t (record x { step = s }) w.tasks }

  -- if t stands at s already, what held still holds
  stays : (s : Step ℕ ℕ) → x.step ≡ s → P (At s)
  stays s at = subst (λ s. P (At s)) at (subst (λ (ts : ℕ → Option Task). P (record w { tasks = ts })) (sym (put_same t x w.tasks found)) holds)

  module _ (leaves : (q v : ℕ) (n : Option ℕ) → x.step ≡ UnderWay (AtList q n v) → P (At (UnderWay (leave_place q n EndMemory)))) where
    -- by the place
    refused_place : (p : Place ℕ ℕ) → x.step ≡ UnderWay p → P (At (refused_step (UnderWay p)))
    refused_place (AtList q n v) at = leaves q v n at
    refused_place p at = stays (UnderWay p) at

    -- so it does after the refusal, if it does when t leaves
    pub refused_keeps : (s : Step ℕ ℕ) → x.step ≡ s → P (At (refused_step s))
    refused_keeps (UnderWay p) at = refused_place p at
    refused_keeps (Resting r) at = stays (Resting r) at
    refused_keeps Finished at = stays Finished at

-- the invariant holds when t leaves
leaves_fit : (limit t : ℕ) (x : Task) (w : World) → Fits Once limit w → w.tasks t ≡ Some x → (q v : ℕ) (n : Option ℕ) → x.step ≡ UnderWay (AtList q n v)
    → Fits Once limit (record w { tasks = put_task t (record x { step = UnderWay (leave_place q n EndMemory) }) w.tasks })
leaves_fit limit t x w f found q v n at =
    let c : SharedState = w.shared in
    let h : List Entry = w.history in
    let y : Task = record x { step = UnderWay (leave_place q n EndMemory) } in
    let own = task_fits Once limit t w x f found in
    let a : AtPlace Once limit t c h (AtList q n v) = subst (λ s. AtStep Once limit t c h s) at own.step in
    let g = refused_at (task_before f t x found) {p = AtList q n v} refl refl refl a.0 a.1 a.2 a.3 in
    moved_fits (record w { tasks = put_task t y w.tasks }) f found (puts t y w.tasks)
    (subst (λ s. Moves Once limit t s y c c h h) (sym at) g) (ap is_finished at) refl

-- after the refusal the invariant holds
pub refused_fits : (limit t : ℕ) (w : World) (o : Option Task) → w.tasks t ≡ o → Fits Once limit w → Fits Once limit (refuse_world w t o)
refused_fits limit t w None found f = f
refused_fits limit t w (Some x) found f = refused_keeps (Fits Once limit) w t x found f (leaves_fit limit t x w f found) x.step refl

-- and so does what is known if no owner called
pub refused_unowned : (t : ℕ) (w : World) (o : Option Task) → w.tasks t ≡ o → Unowned w → Unowned (refuse_world w t o)
refused_unowned t w None found c = c
refused_unowned t w (Some x) found c = refused_keeps Unowned w t x found c
    (λ q v n at. moved_unowned t c x (UnderWay (leave_place q n EndMemory)) found (leave_first q n EndMemory (subst EntersFirst at (enters_of t c found)))) x.step refl
