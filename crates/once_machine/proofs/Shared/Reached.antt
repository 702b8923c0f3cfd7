-- What holds of the machine holds of every world to which tasks lead, and each move leads to such a world again.
use Rattle.std.proofs.Common.{◌≡◌, ◌<◌, ℕ, Bool, true, false, List, [], ◌∷◌, Some, refl, sym, ap, ◌∙◌, subst}
use Rattle.once_machine.specs.Record.{Answer, Once}
use Rattle.once_machine.specs.Inputs.{Go, Input}
use Rattle.once_machine.specs.Book.{AreShared, Given, IsShared, IsUnnamed, Move, Refuse, TasksReach, refuse_world, refused_step, world_by}
use Rattle.once_machine.specs.Machine.{Step, Task, World, go_world, go_world_by, in_call, put_task, world_after}
use Rattle.once_machine.proofs.Invariant.Fits.{Fits}
use Rattle.once_machine.proofs.Input.Headline.{after_fits, opening_fits}
use Rattle.once_machine.proofs.Shared.Copy.{refused_fits, refused_unowned}
use Rattle.once_machine.proofs.Shared.Worlds.{Unowned, after_unowned, opening_unowned}

-- the invariant holds after every list of moves
moves_fit : (limit : ℕ) → 0 < limit → (moves : List Move) → Fits Once limit (world_by limit moves)
moves_fit limit some [] = opening_fits Once limit
moves_fit limit some (Given i ∷ before) = after_fits Once limit (world_by limit before) i some (moves_fit limit some before)
moves_fit limit some (Refuse t ∷ before) = let w : World = world_by limit before in refused_fits limit t w (w.tasks t) refl (moves_fit limit some before)

-- and so does what is known if no owner called
moves_unowned : (limit : ℕ) → 0 < limit → (moves : List Move) → AreShared moves → Unowned (world_by limit moves)
moves_unowned limit some [] s = opening_unowned
moves_unowned limit some (Given i ∷ before) s = after_unowned limit (world_by limit before) i s.0 (moves_fit limit some before) (moves_unowned limit some before s.1)
moves_unowned limit some (Refuse t ∷ before) s = let w : World = world_by limit before in refused_unowned t w (w.tasks t) refl (moves_unowned limit some before s)

-- so they hold of a world to which tasks lead
pub fits_of : (limit : ℕ) → 0 < limit → (w : World) → TasksReach limit w → Fits Once limit w
fits_of limit some w r = subst (Fits Once limit) (sym r.2) (moves_fit limit some r.0)

-- and so does what is known if no owner called
pub unowned_of : (limit : ℕ) → 0 < limit → (w : World) → TasksReach limit w → Unowned w
unowned_of limit some w r = subst Unowned (sym r.2) (moves_unowned limit some r.0 r.1)

-- an input leads on
pub reached_by : (limit : ℕ) (w w' : World) (i : Input) → IsShared i → w' ≡ world_after Once limit w i → TasksReach limit w → TasksReach limit w'
reached_by limit w w' i s e r = (Given i ∷ r.0, (s, r.1), e ∙ ap (λ v. world_after Once limit v i) r.2)

-- a step
pub reached_go : (limit : ℕ) (w : World) (t : ℕ) (x : Task) (a : Answer) (g : Bool) → IsUnnamed a → w.tasks t ≡ Some x → in_call x.step ≡ true
    → TasksReach limit w → TasksReach limit (go_world_by true false limit w t a g x)
reached_go limit w t x a g n found call r =
    reached_by limit w (go_world_by true false limit w t a g x) (Go t a g) n
    (sym (ap (go_world false limit w t a g) found ∙ ap (λ b. go_world_by b false limit w t a g x) call)) r

-- the refusal of a copy
pub reached_refuse : (limit : ℕ) (w : World) (t : ℕ) (x : Task) (s : Step ℕ ℕ) → w.tasks t ≡ Some x → refused_step x.step ≡ s
    → TasksReach limit w → TasksReach limit (record w { tasks = put_task t (record x { step = s }) w.tasks })
reached_refuse limit w t x s found to r = (
  Refuse t ∷ r.0,
  r.1,
  sym (ap (refuse_world w t) found ∙ ap (λ (s : Step ℕ ℕ). record w { tasks = put_task t (record x { step = s }) w.tasks }) to) ∙ ap (λ u. refuse_world u t (u.tasks t)) r.2,
)
