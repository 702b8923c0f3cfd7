-- If the code stands at a place, the page does too. So the page goes on as the code does.
use Rattle.std.proofs.Common.{◌≡◌, ℕ, Bool, true, false, List, [], ◌∷◌, reverse, Option, Some, None, refl, sym, ap, ◌∙◌, subst, arith}
use Rattle.std.proofs.lemmas.Grind.{common_steps}
use Rattle.std.proofs.lemmas.List.{append-nil}
use Rattle.std.specs.Prelude.{⊤}
use Rattle.std.specs.Option.{is_some, option_map}
use Rattle.once_machine.specs.declared.waiters.Answer.{Answer}
use Rattle.once_machine.specs.declared.waiters.Answer.TheVariants.{Ready, Gone}
use Rattle.once_machine.specs.Ops.{ticket_in}
use Rattle.once_machine.specs.declared.waiters.Op.{Op}
use Rattle.once_machine.specs.declared.waiters.Op.TheVariants.{Look, List as ListOwn, Release, Leave}
use Rattle.once_machine.specs.Table.{Told, Got, PutQueue, Ran as PolledInit, TriedFast, TriedQuick, Was, after}
use Rattle.once_machine.specs.Record.{Entry, Ran}
use Rattle.once_machine.specs.declared.record.Ran.{Ran as InitAnswer}
use Rattle.once_machine.specs.declared.record.Ran.TheVariants.{Pending as RanPending}
use Rattle.once_machine.specs.Machine.{claim_entries, is_claim, pass_entries, records, release_entry, unless_gone}
use Rattle.once_machine.specs.declared.step.Place.{Place}
use Rattle.once_machine.specs.declared.step.Step.{Step}
use Rattle.once_machine.specs.declared.step.Step.TheVariants.{Resting, UnderWay, Finished}
use Rattle.async_once_cell.specs.Inner.Named.{handed_in}
use Rattle.async_once_cell.specs.Inner.Own.{Own}
use Rattle.async_once_cell.specs.Inner.Page.{Went, call_in, next_of, queue_of}
use Rattle.async_once_cell.specs.Inner.Parts.{DidCall}
use Rattle.async_once_cell.specs.Inner.Places.{numbered}
use Rattle.async_once_cell.specs.Record.{gave_since}
use Rattle.async_once_cell.specs.Inner.Steps.{answer_as, next_as, op_as, place_as, step_as, told_as}
use Rattle.async_once_cell.specs.Walks.{AreMid, handed, the_queue}
use Rattle.async_once_cell.proofs.Moments.Steps.{after_as}

-- the page goes on by the table, from a place for which this one stands
pub page_goes : (s : Step ℕ ℕ) (at : Place ℕ ⊤) (v : ℕ) (e : Told ℕ ℕ) → step_as (λ w. w) the_queue s ≡ UnderWay at
    → next_as (λ w. w) the_queue (next_of s v e) ≡ after (Some v) at (told_as (λ w. w) the_queue e)
page_goes (UnderWay p) at v e is =
    let same : place_as (λ w. w) the_queue p ≡ at = cc in
    after_as (λ w. w) the_queue (Some v) p e ∙ ap (λ at. after (Some v) at (told_as (λ w. w) the_queue e)) same
page_goes (Resting r) at v e is = let no : ⊥ = cc in absurd no
page_goes Finished at v e is = let no : ⊥ = cc in absurd no

module _ {W : Type 0} (whose : W → ℕ) where
  -- the code's names, and then the page's
  op_twice : (op : Op W) → op_as (λ (w : ℕ). w) (op_as whose op) ≡ op_as whose op
  op_twice (ListOwn k (Some w)) = refl
  op_twice (ListOwn k None) = refl
  op_twice _ = refl

  answer_twice : (a : Answer W) → ◌≡◌ {A = Answer ℕ} (answer_as {W = ℕ} (answer_as a)) (answer_as a)
  answer_twice Ready = refl
  answer_twice _ = refl

  queue_twice : (n : ℕ) (q : Option ⊤) → option_map the_queue (option_map (λ (u : ⊤). n) q) ≡ option_map (λ (u : ⊤). u) q
  queue_twice n q = grind (arith, common_steps)

  pub told_twice : (n : ℕ) (e : Told W ⊤) → told_as (λ w. w) the_queue (told_as whose (λ (u : ⊤). n) e) ≡ told_as whose (λ (u : ⊤). u) e
  told_twice n (Got q) = ap Got (queue_twice n q)
  told_twice n (PutQueue q) = ap PutQueue (queue_twice n q)
  told_twice n (Was q op a o) = λ i. Was tt (op_twice op i) (answer_twice a i) (Look (ticket_in o))
  told_twice n _ = refl

  -- which tasks a call hands out: a look and a listing none
  abbrev pub handed_by : Told W ⊤ → List ℕ
  handed_by (Was q (Release fills) a o) = handed_in whose a
  handed_by (Was q (Leave k) a o) = handed_in whose a
  handed_by e = []

  -- a queue that is there
  numbered_as : (n : ℕ) (q : Option ⊤) → numbered n (is_some q) ≡ option_map (λ (u : ⊤). n) q
  numbered_as n q = grind (arith, common_steps)

  -- what a call told of the page: it went on by the table, with some number for the queue
  pub did_went : (v w : Own) (e : Told W ⊤) → DidCall whose v e w → (n : ℕ) × Went v (told_as whose (λ (u : ⊤). n) e) (handed_by e) w
  did_went v w (Got q) did = (did.0, subst (λ o. Went v (Got o) [] w) (numbered_as did.0 q) did.1)
  did_went v w (PutQueue q) did = (did.0, subst (λ o. Went v (PutQueue o) [] w) (numbered_as did.0 q) did.1)
  did_went v w (Was q (Look k) a o) did = (queue_of (call_in v.task.step), did.0)
  did_went v w (Was q op a o) did = (queue_of (call_in v.task.step), did.0)
  did_went v w _ did = (0, did)

-- a task records these in the middle of a call, they name just the tasks that it hands out, and say this of what an init gave
abbrev pub Names : List Entry → List ℕ → (Bool → Bool) → Type 0
Names es X gives = AreMid (reverse es) × (handed (reverse es) ≡ X) × ((gave : Bool) → gave_since gave (reverse es) ≡ gives gave)

-- they say nothing of that
abbrev NamesOnly : List Entry → List ℕ → Type 0
NamesOnly es X = Names es X (λ gave. gave)

-- a release
release_names : (k : InitAnswer) (t : ℕ) (X : List ℕ) → NamesOnly (release_entry k t X ∷ []) X
release_names RanPending t X = ((refl, tt), append-nil X, λ gave. refl)
release_names _ t X = ((refl, tt), append-nil X, λ gave. refl)

-- a task that leaves
pass_names : (t : ℕ) (X : List ℕ) → NamesOnly (pass_entries t X) X
pass_names t [] = (tt, refl, λ gave. refl)
pass_names t (x ∷ X) = ((refl, tt), append-nil (x ∷ X), λ gave. refl)

-- a claim
claim_names : (b : Bool) (t : ℕ) → NamesOnly (claim_entries b t) []
claim_names true t = ((refl, tt), refl, λ gave. refl)
claim_names false t = (tt, refl, λ gave. refl)

module _ {W : Type 0} (whose : W → ℕ) where
  -- a section whose queue is gone records nothing
  gone_names : (a : Answer W) (es : List Entry) → NamesOnly es (handed_in whose a) → NamesOnly (unless_gone (answer_as a) es) (handed_in whose a)
  gone_names Gone es is = (tt, refl, λ gave. refl)
  gone_names _ es is = is

  -- a poll of an init says what that gave
  abbrev pub gave_by : Told W ⊤ → InitAnswer → ℕ → Bool → Bool
  gave_by (PolledInit a) given t gave = gave_since gave (Ran t given ∷ [])
  gave_by e given t gave = gave

  -- each call
  pub records_named : (n : ℕ) (e : Told W ⊤) (given : InitAnswer) (t : ℕ) (k : InitAnswer)
      → Names (records (told_as whose (λ (u : ⊤). n) e) given t k (handed_by whose e)) (handed_by whose e) (gave_by e given t)
  records_named n (TriedQuick won) given t k = claim_names won t
  records_named n (TriedFast fills true) given t k = release_names k t []
  records_named n (Was q (Look m) a o) given t k = claim_names (is_claim (answer_as a)) t
  records_named n (Was q (ListOwn m w) a o) given t k = claim_names (is_claim (answer_as a)) t
  records_named n (Was q (Release fills) a o) given t k = gone_names a (release_entry k t (handed_in whose a) ∷ []) (release_names k t (handed_in whose a))
  records_named n (Was q (Leave m) a o) given t k = gone_names a (pass_entries t (handed_in whose a)) (pass_names t (handed_in whose a))
  records_named n (PolledInit a) given t k = ((refl, tt), refl, λ gave. refl)
  records_named n _ given t k = (tt, refl, λ gave. refl)
