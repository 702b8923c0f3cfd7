-- One step over the core and the side is one step of the machine.
use Rattle.std.proofs.Common.{◌≡◌, ℕ, Bool, true, false, Option, Some, None, refl, sym, ap, ◌∙◌, subst, arith}
use Rattle.std.specs.Prelude.{if◌then◌else◌}
use Rattle.std.proofs.lemmas.Grind.{common_steps}
use Rattle.once_script.specs.declared.world.side.ReplaySide.{ReplaySide}
use Rattle.once_machine.specs.Ops.{ticket_in}
use Rattle.once_machine.specs.declared.waiters.Op.{Op}
use Rattle.once_machine.specs.declared.waiters.Op.TheVariants.{Look as LookOp}
use Rattle.once_machine.specs.declared.waiters.Answer.{Answer as SectionAnswer}
use Rattle.once_script.specs.Core.{CoreState}
use Rattle.once_machine.specs.Steps.{is_leaving, is_running}
use Rattle.once_machine.specs.Table.{Advances, GoesOn, Line, Looked, Tells, Told, Was, after, after_look, call_at, wants_copy}
use Rattle.once_machine.specs.declared.step.Place.TheVariants.{List as AtList, Look as AtLook}
use Rattle.once_machine.specs.declared.step.Place.{Place}
use Rattle.once_machine.specs.declared.step.Progress.{Progress}
use Rattle.once_machine.specs.declared.step.Step.{Step}
use Rattle.once_machine.specs.declared.step.Step.TheVariants.{UnderWay}
use Rattle.once_machine.specs.Machine.{place_lines, place_step, step_at, step_lines}
use Rattle.once_script.proofs.Exactness.Outcomes.{IsOutcome, IsSetUp, NumberCall, is_freed, shared_by, side_tells}
use Rattle.once_script.proofs.Exactness.Calls.{Brings, nameless, claimed_by, freed_by, call_exact, leaving_by, says, told_exact, told_one}

-- each place brings the waker that its call asks for
brings : (at : Place ℕ ℕ) → Brings (call_at at)
brings (AtList q k w) = tt
brings at = tt

-- the copy of the waker that a look is given
abbrev copy : ReplaySide → Option ℕ
copy c = if c.granted then Some c.waker else None

-- the place and the next step show what the call told
module _ (s : CoreState ℕ) (c : ReplaySide) where
  leaving_shown : (at : Place ℕ ℕ) → is_leaving (UnderWay at) ≡ leaving_by (says s c (call_at at))
  leaving_shown at = grind (arith, common_steps)

  freed_shown : (at : Place ℕ ℕ)
      → is_freed (UnderWay at) (after (copy c) at (says s c (call_at at))).step ≡ freed_by (says s c (call_at at))
  freed_shown at = grind (arith, common_steps)

  claimed_shown : (at : Place ℕ ℕ) → is_running (after (copy c) at (says s c (call_at at))).step ≡ claimed_by (says s c (call_at at))
  claimed_shown at = grind (arith, common_steps)

-- parts of any type, by what contracts see of them
module _ {P : Type 0} (see : P → CoreState ℕ) (x y : P) (c c' : ReplaySide) (p : Progress) (t : Step ℕ ℕ) where
  -- what a call of such parts tells
  abbrev did : P → Told ℕ ℕ → P → Type 0
  did x e y = NumberCall (see x) e (see y)

  -- the place was told e, and the task goes on so
  abbrev GoesOnAt : Place ℕ ℕ → Told ℕ ℕ → Type 0
  GoesOnAt at e = did x e y × GoesOn did side_tells (after (copy c) at (nameless e)) e c c' p t

  -- a look goes on with the copy, whether it wants one or not
  looked : (wants : Bool) (q : ℕ) (k : Option ℕ) (a : SectionAnswer ℕ) (o : Op ℕ) (n : P) → wants_copy (LookOp k) a ≡ wants
      → did x (Was q (LookOp k) a o) n → Looked did side_tells wants (AtLook q k) (Was q (LookOp k) a o) n c p t y c'
      → GoesOnAt (AtLook q k) (Was q (LookOp k) a o)
  looked true q k a o n wants d (w, m, copies, refuses, z) =
      let same : see y ≡ see n = grind (arith, common_steps) in
      (rw same d, rw (copies.0, copies.1) at z)
  looked false q k a o n wants d z =
      let same : after_look a None q (ticket_in o) ≡ after_look a (copy c) q (ticket_in o) = grind (arith, common_steps) in
      (rw z.0 d, rw same at z.1)

  -- a line of the table says what the call of its place told
  line_tells : (at : Place ℕ ℕ) → Line did side_tells at x c p t y c' → Tells (call_at at) (GoesOnAt at)
  line_tells (AtLook q k) (a, o, n, d, z) = (a, o, looked (wants_copy (LookOp k) a) q k a o n refl d z)
  line_tells at z = z

  -- one step at any place
  line_exact : (at : Place ℕ ℕ) → IsSetUp (see x) c → Line did side_tells at x c p t y c'
      → IsOutcome (UnderWay at)
      (λ n. place_step c.lazy (see x).limit (shared_by (see x) c) n c.waker c.kept c.answer c.granted at)
      (place_lines c.granted (shared_by (see x) c) at) (see x) c (see y) c' p t
  line_exact at set_up z =
      let (e, of, (d, (side, more, step))) = told_one (call_at at) (GoesOnAt at) (line_tells at z) in
      let brought = subst Brings (sym of) (brings at) in
      let told : nameless e ≡ says (see x) c (call_at at) =
      told_exact (see x) c set_up (see y) c' _ e brought d side ∙ ap (says (see x) c) of in
      let went = rw (told, of) at (call_exact (see x) c set_up (see y) c' _ e brought d side) in
      let more = rw told at more in
      let step = rw told at step in
      record {
        shared = λ n. went.shared;
        step = λ n. step;
        kept = λ n. went.kept;
        told = λ n. rw (more, step, leaving_shown (see x) c at, freed_shown (see x) c at, claimed_shown (see x) c at)
            (let seen = went.seen n in let value = ap (λ y. y.value) went.shared in let kept = went.kept in
            grind (arith, common_steps, seen, value, kept));
        log = went.log;
        limit = went.limit;
        lazy_is = went.lazy_is;
      }

  -- one step, whatever the task is at
  pub advance_exact : (at : Step ℕ ℕ) → IsSetUp (see x) c → Advances did side_tells at x c p t y c'
      → IsOutcome at (λ n. step_at c.lazy (see x).limit (shared_by (see x) c) n c.waker c.kept c.answer c.granted at)
      (step_lines c.granted (shared_by (see x) c) at) (see x) c (see y) c' p t
  advance_exact (UnderWay at) set_up d = line_exact at set_up d
  advance_exact _ set_up d = absurd d
