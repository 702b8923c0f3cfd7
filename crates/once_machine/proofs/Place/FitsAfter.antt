-- What all tasks share fits the cell after a claim, a count, a new queue, an answer and a value.
use Rattle.std.proofs.Common.{◌≡◌, ◌≢◌, ◌≤◌, ◌<◌, ℕ, suc, Bool, true, false, inl, ⊎_elim, List, [], ◌∷◌, Option, Some, None, refl, sym, ap, ◌∙◌, arith}
use Rattle.std.specs.Prelude.{◌||◌}
use Rattle.std.proofs.lemmas.Bool.{false≢true, cases_Bool}
use Rattle.once_machine.specs.Record.{Answer, Claim, Entry, Kind, Ran}
use Rattle.once_machine.specs.Cell.{Held, SetTo, answers_left, cell, is_set, rest_of}
use Rattle.once_machine.specs.Tasks.{Waiting, status}
use Rattle.once_machine.specs.declared.waiters.Listing.{Listing}
use Rattle.once_machine.specs.Machine.{SharedState, take_shared, is_at_door, run_shared}
use Rattle.once_machine.proofs.Listing.Members.{eqb_self}
use Rattle.once_machine.proofs.History.Others.{holds}
use Rattle.once_machine.proofs.History.Cells.{held_not_set, is_held, none_some, set_free}
use Rattle.once_machine.proofs.History.Waiters.{QueueFits, list_fits, nobody_called}
use Rattle.once_machine.proofs.Invariant.Facts.{IsSomeDoor}
use Rattle.once_machine.proofs.Invariant.Fits.{SharedFits}
use Rattle.once_machine.proofs.Invariant.Kept.{SharedKeeps}

-- after a claim
pub claim_fits : {K : Kind} {limit t : ℕ} {c c' : SharedState} {h : List Entry} → SharedFits K limit c h
    → c'.ready ≡ false → (c'.quick || c'.head) ≡ true → c'.count ≡ c.count → c'.door ≡ c.door → c.ready ≡ false
    → (c'.head ≡ true → IsSomeDoor c') → c'.answers ≡ c.answers → SharedFits K limit c' (Claim t ∷ h)
claim_fits {t = t} f r b n d z hd w = record {
  answers_is = w ∙ f.answers_is;
  ready_is = r;
  held_is = sym b;
  value_is = λ v e. absurd (held_not_set t v e);
  within = rw n f.within;
  stands = λ _ l. let s = f.stands z (rw (← n) l) in (s.0, d ∙ s.1);
  head_door = hd;
}

-- with another count
pub count_fits : {K : Kind} {limit : ℕ} {c : SharedState} {n : ℕ} {h : List Entry} → SharedFits K limit c h
    → n ≤ suc limit → (c.ready ≡ false → 0 < n → IsSomeDoor c) → SharedFits K limit (record c { count = n }) h
count_fits f le st = record {
  ready_is = f.ready_is;
  held_is = f.held_is;
  value_is = f.value_is;
  answers_is = f.answers_is;
  within = le;
  stands = st;
  head_door = f.head_door;
}

-- with other listings
pub relisted_fits : (K : Kind) (limit : ℕ) (c : SharedState) (xs : List (Listing ℕ)) (h : List Entry)
    → SharedFits K limit c h → SharedFits K limit (record c { listings = xs }) h
relisted_fits K limit c xs h f = record {
  ready_is = f.ready_is;
  held_is = f.held_is;
  value_is = f.value_is;
  answers_is = f.answers_is;
  within = f.within;
  stands = f.stands;
  head_door = f.head_door;
}

-- without a queue at the door nobody holds under the lock
pub headless : (K : Kind) (limit : ℕ) (c : SharedState) (h : List Entry) → SharedFits K limit c h → c.door ≡ None → c.head ≡ false
headless K limit c h f d = ⊎_elim (λ e. let s = f.head_door e in let q = s.1 in cc) (λ e. e) (cases_Bool c.head)

-- with a new queue at the door
pub put_fits : (K : Kind) (limit : ℕ) (c : SharedState) (h : List Entry) → SharedFits K limit c h → c.head ≡ false
    → (q : ℕ) → SharedFits K limit (record c { door = Some q; head = false; listings = []; queues = q }) h
put_fits K limit c h f n q = record {
  ready_is = f.ready_is;
  held_is = rw n at f.held_is;
  value_is = f.value_is;
  answers_is = f.answers_is;
  within = f.within;
  stands = λ _ _. (q, refl);
  head_door = λ e. absurd (false≢true e);
}

-- a new queue changes nothing for the others
pub put_keeps : {K : Kind} {limit : ℕ} {c : SharedState} {u : ℕ} {h : List Entry} {b : Bool} → c.door ≡ None
    → c.head ≡ false → (q : ℕ)
    → SharedKeeps K limit c (record c { door = Some q; head = false; listings = []; queues = q }) u h b
put_keeps d n q = record {
  ready = λ e. e;
  door = λ j e. absurd (none_some j (sym d ∙ e));
  flags = inl (refl, sym n, refl);
  within = inl (λ x. x);
}

-- after the init answered
pub ran_fits : (K : Kind) (limit t : ℕ) (c : SharedState) (h : List Entry) (a : Answer) → SharedFits K limit c h
    → SharedFits K limit (run_shared c) (Ran t a ∷ h)
ran_fits K limit t c h a f = record {
  ready_is = f.ready_is;
  held_is = f.held_is;
  value_is = f.value_is;
  answers_is = ap rest_of f.answers_is;
  within = f.within;
  stands = f.stands;
  head_door = f.head_door;
}

-- with another value, while t holds
pub value_fits : (K : Kind) (limit t : ℕ) (c : SharedState) (h : List Entry) (v : ℕ) → SharedFits K limit c h
    → cell K h ≡ Held t → SharedFits K limit (record c { value = v }) h
value_fits K limit t c h v f held = record {
  ready_is = f.ready_is;
  held_is = f.held_is;
  value_is = λ x e. absurd (held_not_set t x (sym held ∙ e));
  answers_is = f.answers_is;
  within = f.within;
  stands = f.stands;
  head_door = f.head_door;
}

-- after a release by t: the flags are cleared, and ready stands for a value
pub release_fits : {K : Kind} {limit : ℕ} (t : ℕ) {c c' : SharedState} {h h' : List Entry} → SharedFits K limit c h
    → holds t (cell K h) ≡ true → c'.ready ≡ is_set (cell K h') → is_held (cell K h') ≡ false → c'.quick ≡ false
    → c'.head ≡ false
    → ((v : ℕ) → cell K h' ≡ SetTo v → c'.value ≡ v) → c'.count ≡ c.count → (0 < c.count → IsSomeDoor c') → c'.answers ≡ c.answers → answers_left K h' ≡ answers_left K h → SharedFits K limit c' h'
release_fits t f hold r n q e v same d w z = record {
  answers_is = w ∙ f.answers_is ∙ sym z;
  ready_is = r;
  held_is = n ∙ sym (rw (q, e) refl);
  value_is = v;
  within = rw same f.within;
  stands = λ _ l. d (rw (← same) l);
  head_door = λ k. absurd (false≢true (sym e ∙ k));
}

-- a flag that is cleared leaves the other
quick_free : (a b : Bool) → false ≡ (a || b) → false ≡ (a || false)
quick_free a b e = grind arith

-- after the queue is taken out of the door, if the value is set
pub take_fits : (K : Kind) (limit : ℕ) (c : SharedState) (h : List Entry) → SharedFits K limit c h → c.ready ≡ true → SharedFits K limit (take_shared c) h
take_fits K limit c h f r =
    let n = set_free (cell K h) (sym f.ready_is ∙ r) in
    record {
      ready_is = f.ready_is;
      held_is = n ∙ quick_free c.quick c.head (sym n ∙ f.held_is);
      value_is = f.value_is;
      answers_is = f.answers_is;
      within = f.within;
      stands = λ z _. absurd (false≢true (sym z ∙ r));
      head_door = λ e. absurd (false≢true e);
    }

-- an empty list fits if nobody waits
pub nobody : (K : Kind) (xs : List (Listing ℕ)) (h : List Entry) → QueueFits K xs h → ((u : ℕ) → status K u h ≢ Waiting) → QueueFits K [] h
nobody K xs h q n = list_fits K xs [] h q (λ w. omega arith) (nobody_called K [] h n)

-- the queue that stands at the door is found there
pub at_door : (q : ℕ) (d : Option ℕ) → d ≡ Some q → is_at_door q d ≡ true
at_door q d e = rw e (eqb_self q)
