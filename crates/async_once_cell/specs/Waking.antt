-- Which task a waker wakes, by the kit's numbers.
use Rattle.std.specs.Prelude.{◌≡◌, ◌≢◌, ℕ, cond, List, [], ◌∷◌}
use Rattle.std.specs.Arc.{arc_value}
use Rattle.futures.specs.declared.task.context.Context.{Context}
use Rattle.futures.specs.declared.task.waker.Waker.{Waker}

-- the task that is polled here, by its own number, its executor's and its queue's; none, if no waker could be made
abbrev pub polled_task : Context → List ℕ
polled_task cx = let origin = (arc_value cx.route.now).origin in
    cond cx.lacks_waker [] (cx.turn.task ∷ origin.executor ∷ origin.queue ∷ [])

-- the task that this waker wakes, by the same numbers
abbrev pub woken_task : Waker → List ℕ
woken_task waker = let origin = (arc_value waker.route).origin in
    waker.owed.first.task ∷ origin.executor ∷ origin.queue ∷ []

-- the waker wakes the task that these numbers name, if they name one
abbrev pub WakesNamed : List ℕ → Waker → Type 0
WakesNamed task waker = task ≢ [] → woken_task waker ≡ task
