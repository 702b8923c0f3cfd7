-- The moments at which a task reads or changes the word alone. Those that are one step of it go by their call.
use Rattle.std.proofs.Common.{◌≡◌, ◌≤◌, ◌<◌, ◌+◌, ◌-◌, ◌^◌, ◌==◌, cond, ℕ, suc, Bool, true, false, List, [], Some, slice_get, refl, sym, ap, ◌∙◌, subst, arith}
use Rattle.std.proofs.lemmas.Grind.{common_steps}
use Rattle.std.specs.Prelude.{nat_lt, ◌||◌}
use Rattle.std.proofs.lemmas.Bool.{eqb-true}
use Rattle.std.proofs.lemmas.Bool.Decides.{nat_tests}
use prog.Atomic.{either}
use Rattle.once_machine.specs.Numbers.{bit}
use Rattle.once_machine.specs.Word.{Flags, flags_of, is_quick_bit, is_zero}
use Rattle.once_machine.specs.Table.{Next, Call, Load, Quick, Fast, AddOne, CountOut, Told, Loaded, TriedQuick, TriedFast, CountedOut, after, after_count_in, call_at}
use Rattle.once_machine.specs.Record.{Answer, Entry, Once, RanPending}
use Rattle.once_machine.specs.Book.{At, Door, IsBook, Page, Queue}
use Rattle.once_machine.specs.Machine.{AtAddOne, AtCountIn, AtCountOut, Place, SharedState, StepInput, Task, UnderWay, answer, fast_shared, hands}
use Rattle.once_machine.specs.Machine.{keeps, left_by, outcome_of, place_step, quick_shared, records, word_of}
use Rattle.once_machine.specs.Words.{IsFound, IsWordCall, found, word_after}
use Rattle.once_machine.specs.Machine.{in_shared}
use Rattle.once_machine.proofs.Invariant.Moves.{in_count}
use Rattle.once_machine.proofs.Moment.Numbers.{fast_within, in_within, in_wraps, out_wraps, quick_word, word_fast, word_in, word_out, word_quick, zero_word}
use Rattle.once_machine.proofs.Moment.Step.{Moment, Stepped, moment, stands, stepped_alone, stepped_still}
use Rattle.once_machine.proofs.Shared.Slot.{is_put_at}

-- what a call asks of the number
abbrev WordFits : Call ℕ ℕ → ℕ → Type 0
WordFits AddOne n = (flags_of n).count < 2 ^ 62 - 1
WordFits CountOut n = 0 < (flags_of n).count
WordFits _ n = Unit {0}

module _ (i : StepInput) (s : SharedState) (k : Answer) (n : ℕ) (within : n < 2 ^ 64) (word_is : flags_of n ≡ word_of s) where
  -- what is found tells what the machine tells
  found_is : (c : Call ℕ ℕ) → IsWordCall c → WordFits c n → found c n ≡ answer i s c
  found_is Load w l = ap Loaded word_is
  found_is Quick w l = ap TriedQuick (sym (zero_word n within) ∙ ap is_zero word_is)
  found_is (Fast fills) w l = ap (TriedFast fills) (sym (quick_word n within) ∙ ap is_quick_bit word_is)
  found_is AddOne w l = refl
  found_is CountOut w l = ap CountedOut (word_out n l ∙ ap (λ (f : Flags). record f { count = f.count - 1 }) word_is)
  found_is _ w l = absurd w

  -- by whether the word was NEW
  quick_word_is : (b : Bool) → (n == 0) ≡ b → flags_of (either b (2 ^ 62) n) ≡ word_of (quick_shared b s)
  quick_word_is true e = word_quick n (eqb-true n 0 e) ∙ ap (λ (f : Flags). record f { quick = true }) word_is
  quick_word_is false e = word_is

  -- and whether it was the quick bit
  fast_word_is : (b fills : Bool) → (n == 2 ^ 62) ≡ b → flags_of (either b (cond fills (2 ^ 63) 0) n) ≡ word_of (fast_shared b fills s)
  fast_word_is true true e = word_fast n true (eqb-true n (2 ^ 62) e) ∙ ap (λ (f : Flags). record f { quick = false; ready = true }) word_is
  fast_word_is true false e =
      let z = eqb-true n (2 ^ 62) e in
      let r : false ≡ s.ready = ap (λ n. (flags_of n).ready) (sym z) ∙ ap (λ (f : Flags). f.ready) word_is in
      word_fast n false z ∙ ap (λ (f : Flags). record f { quick = false; ready = false }) word_is ∙ (λ i. record { count = s.count; quick = false; ready = r i })
  fast_word_is false fills e = word_is

  -- the word after it
  word_left : (c : Call ℕ ℕ) → IsWordCall c → WordFits c n → flags_of (word_after c n) ≡ word_of (left_by (found c n) k s)
  word_left Load w l = word_is
  word_left Quick w l = quick_word_is (n == 0) refl
  word_left (Fast fills) w l = fast_word_is (n == 2 ^ 62) fills refl
  word_left AddOne w l = ap flags_of (in_wraps n within l) ∙ word_in n l ∙ ap (λ (f : Flags). record f { count = suc f.count }) word_is
  word_left CountOut w l = ap flags_of (out_wraps n within l) ∙ word_out n l ∙ ap (λ (f : Flags). record f { count = f.count - 1 }) word_is
  word_left _ w l = absurd w

  -- an exchange stays within its numbers
  either_within : (b : Bool) (a : ℕ) → a < 2 ^ 64 → either b a n < 2 ^ 64
  either_within true a l = l
  either_within false a l = within

  within_left : (c : Call ℕ ℕ) → IsWordCall c → word_after c n < 2 ^ 64
  within_left Load w = within
  within_left Quick w = either_within (n == 0) (2 ^ 62) (omega arith)
  within_left (Fast fills) w = either_within (n == 2 ^ 62) (cond fills (2 ^ 63) 0) (fast_within fills)
  within_left AddOne w = omega arith
  within_left CountOut w = omega arith
  within_left _ w = absurd w

  -- what lies under the lock stays, and the init gave nothing
  record Still (c : Call ℕ ℕ) : Type 0 where
    queues : s.queues ≡ (left_by (found c n) k s).queues
    door : s.door ≡ (left_by (found c n) k s).door
    head : s.head ≡ (left_by (found c n) k s).head
    listings : s.listings ≡ (left_by (found c n) k s).listings
    kept : keeps (found c n) RanPending k ≡ k
    nobody : hands (found c n) s ≡ []

  still : (c : Call ℕ ℕ) → IsWordCall c → Still c
  still c w = record {
    queues = grind (arith, common_steps);
    door = grind (arith, common_steps);
    head = grind (arith, common_steps);
    listings = grind (arith, common_steps);
    kept = grind (arith, common_steps);
    nobody = grind (arith, common_steps);
  }

-- no value is put by a step of the word
unput : (p : Place ℕ ℕ) → IsWordCall (call_at p) → is_put_at p ≡ false
unput p w = grind (arith, common_steps)

module _ (limit n put : ℕ) (slot : Bool) (pages : List Page) (log : List Entry) (t : ℕ) (x : Task) (some : 0 < limit)
    (book : IsBook limit n put slot pages log) (pen : slice_get pages (suc (suc t)) ≡ Some (At x)) where
  -- what all tasks share, and the book of it
  abbrev c : SharedState
  c = book.0.shared

  -- what holds at the moment
  abbrev m : Moment limit n put slot pages log t x
  m = moment t some book pen

  -- the book once t went on so and left this word, if no other page changed
  abbrev Steps : ℕ → List Entry → Next ℕ ℕ → Type 0
  Steps word did next = Stepped limit word put slot pages log t x did next

  -- the count of the word
  count_is : (flags_of n).count ≡ c.count
  count_is = ap (λ (f : Flags). f.count) book.1.word_is

  -- and its ready flag
  ready_is : (flags_of n).ready ≡ c.ready
  ready_is = ap (λ (f : Flags). f.ready) book.1.word_is

  -- what the call of a place asks of the number does hold there
  word_fits : (p : Place ℕ ℕ) → limit ≤ 2 ^ 62 - 2 → x.step ≡ UnderWay p → IsWordCall (call_at p) → WordFits (call_at p) n
  word_fits (AtAddOne e) most at w =
      let i = count_is in
      let l : c.count ≤ limit = (stands t some book pen (AtAddOne e) at).2 in omega arith
  word_fits (AtCountOut e) most at w =
      let l : 0 < c.count = in_count Once limit m.w t m.fits (rw (m.found, at) refl) in
      rw count_is l
  word_fits _ most at w = tt

  -- so this is known of it
  counted : (p : Place ℕ ℕ) → IsWordCall (call_at p) → WordFits (call_at p) n → IsFound (call_at p) n
  counted (AtCountOut e) w l = omega (arith, l)
  counted _ w l = tt

  pub word_found : (p : Place ℕ ℕ) → limit ≤ 2 ^ 62 - 2 → x.step ≡ UnderWay p → IsWordCall (call_at p) → IsFound (call_at p) n
  word_found p most at w = counted p w (word_fits p most at w)

  -- the step of the word
  pub word_step : (p : Place ℕ ℕ) → limit ≤ 2 ^ 62 - 2 → x.step ≡ UnderWay p → IsWordCall (call_at p)
      → let e = found (call_at p) n in
      Steps (word_after (call_at p) n) (records e RanPending t x.kept []) (after (Some x.waker) p e)
  word_step p most at w =
      let call : Call ℕ ℕ = call_at p in
      let e : Told ℕ ℕ = found call n in
      let i : StepInput = record { limit = limit; waker = x.waker; init = RanPending; granted = true } in
      let l = word_fits p most at w in
      let q = still i c x.kept n book.1.within book.1.word_is call w in
      let is : place_step false limit c t x.waker x.kept RanPending true p ≡ outcome_of (left_by e x.kept c) t x.kept (records e RanPending t x.kept []) (after (Some x.waker) p e) =
      ap (λ (e : Told ℕ ℕ). outcome_of (left_by e x.kept c) t (keeps e RanPending x.kept) (records e RanPending t x.kept (hands e c)) (after (Some x.waker) p e))
      (sym (found_is i c x.kept n book.1.within book.1.word_is call w l))
      ∙ (λ j. outcome_of (left_by e x.kept c) t (q.kept j) (records e RanPending t x.kept (q.nobody j)) (after (Some x.waker) p e)) in
      subst (λ b. Stepped limit (word_after call n) put (b || slot) pages log t x (records e RanPending t x.kept []) (after (Some x.waker) p e)) (unput p w)
      (stepped_alone t some book pen (word_after call n) true p (left_by e x.kept c) (records e RanPending t x.kept []) (after (Some x.waker) p e) at is
      (within_left i c x.kept n book.1.within book.1.word_is call w)
      (word_left i c x.kept n book.1.within book.1.word_is call w l)
      (book.1.put_is ∙ ap (λ k. bit (nat_lt 0 k)) q.queues)
      (book.1.door_is ∙ (λ j. Some (Door (q.queues j) (q.door j))))
      (book.1.queue_is ∙ (λ j. Some (Queue (q.head j) (q.listings j)))))

  -- AtCountIn: the exchange that counts t in
  pub count_in : (q : ℕ) → x.step ≡ UnderWay (AtCountIn q) → limit ≤ 2 ^ 62 - 2 → (flags_of n).count < limit → Steps (n + 1) [] (after_count_in true (flags_of n).ready q)
  count_in q at within l =
      let e = count_is in
      let below : nat_lt c.count limit ≡ true = grind (arith, nat_tests) in
      stepped_alone t some book pen (n + 1) false (AtCountIn q) (record c { count = suc c.count }) [] (after_count_in true (flags_of n).ready q) at
      (ap (λ b. outcome_of (in_shared b c) t x.kept [] (after_count_in b c.ready q)) below
      ∙ ap (λ b. outcome_of (record c { count = suc c.count }) t x.kept [] (after_count_in true b q)) (sym ready_is))
      (in_within n book.1.within (omega arith)) (word_in n (omega arith) ∙ ap (λ (f : Flags). record f { count = suc f.count }) book.1.word_is)
      book.1.put_is book.1.door_is book.1.queue_is

  -- the load after which t does not count itself in, as many being counted as may be
  pub count_full : (q : ℕ) → x.step ≡ UnderWay (AtCountIn q) → limit ≤ (flags_of n).count → Steps n [] (after_count_in false (flags_of n).ready q)
  count_full q at l =
      let e = count_is in
      let above : nat_lt c.count limit ≡ false = grind (arith, nat_tests) in
      stepped_still t some book pen false (after_count_in false (flags_of n).ready q) at
      (ap (λ b. outcome_of (in_shared b c) t x.kept [] (after_count_in b c.ready q)) above ∙ ap (λ b. outcome_of c t x.kept [] (after_count_in false b q)) (sym ready_is))
