-- The moves of the word, with the pen of the task alone.
use Rattle.std.proofs.Common.{◌≡◌, ◌<◌, ◌+◌, ◌^◌, ◌==◌, ℕ, suc, Bool, true, false, List, [], ◌∷◌, ◌++◌, Some, slice_get, slice_set, refl, sym, subst, arith}
use Rattle.std.specs.Prelude.{nat_lt}
use Rattle.std.proofs.lemmas.Bool.{eqb-true, ltb-false}
use Rattle.std.proofs.lemmas.List.{append-nil}
use prog.Atomic.{either}
use Rattle.pagebook.specs.Pages.{Moves, put as put_on}
use Rattle.once_machine.specs.Word.{flags_of}
use Rattle.once_machine.specs.Table.{Call, Quick, Fast, Next, after, after_count_in, call_at, next_end}
use Rattle.once_machine.specs.declared.record.Ran.TheVariants.{Pending as RanPending}
use Rattle.once_machine.specs.Record.{Entry}
use Rattle.once_machine.specs.Words.{IsFound, IsWordCall, found, word_after}
use Rattle.once_machine.specs.Book.{At, IsBook, Page, TaskState}
use Rattle.once_machine.specs.Machine.{records}
use Rattle.once_machine.specs.declared.step.Place.TheVariants.{CountIn as AtCountIn, DoorTake as AtDoorTake}
use Rattle.once_machine.specs.declared.step.Ending.{Ending}
use Rattle.once_machine.specs.declared.step.Place.{Place}
use Rattle.once_machine.specs.declared.step.Step.TheVariants.{UnderWay}
use Rattle.once_machine.proofs.Moment.Doors.{take_none}
use Rattle.once_machine.proofs.Moment.Step.{Stepped, told}
use Rattle.once_machine.proofs.Moment.Words.{count_full, count_in, word_found, word_step}
use Rattle.async_once_cell.specs.Kept.{IsKept, Leaves, hand, most, sheets}
use Rattle.async_once_cell.proofs.Moments.Forms.{moves, put_moves, set_same}
use Rattle.async_once_cell.proofs.Moments.Mine.{AreOf, claim_of, freed_of, only_hand, told_of}

-- some task may be counted
pub some : 0 < most
some = omega arith

-- a book whose page is set to what it is, and whose log grew by nothing
pub book_still : {n put : ℕ} {slot : Bool} {pages : List Page} {log : List Entry} (k : ℕ) {p : Page} → IsBook most n put slot pages log → slice_get pages k ≡ Some p
    → IsBook most n put slot (slice_set pages k p) (log ++ [])
book_still {n = n} {put = put} {slot = slot} {pages = pages} {log = log} k book at =
    subst (λ ps. IsBook most n put slot ps (log ++ [])) (sym (set_same _ k _ at)) (subst (IsBook most n put slot pages) (sym (append-nil log)) book)

-- the page of x at the step to which the table of places leads
abbrev pub goes_to : TaskState → Next ℕ ℕ → List Page
goes_to x next = At (record x { step = next.step }) ∷ []

module _ (seen : List Entry) (t : ℕ) (x : TaskState) where
  -- a step of t alone
  own_moves : (f : ℕ → ℕ) (did : ℕ → List Entry) (next : ℕ → Next ℕ ℕ) (P : ℕ → Type 0) → ((n : ℕ) → AreOf t (did n))
      → ((n put : ℕ) (slot : Bool) (pages : List Page) (log : List Entry) → IsBook most n put slot pages log → slice_get pages (suc (suc t)) ≡ Some (At x)
      → P n × Stepped most (f n) put slot pages log t x (did n) (next n))
      → Moves IsKept (seen, sheets seen (hand t x)) 0 f (λ n v. P n × Leaves seen (hand t x) (goes_to x (next n)) (told t x.kept (next n) (did n)) v)
  own_moves f did next P of goes = moves seen (hand t x) f (λ n. goes_to x (next n)) (λ n. told t x.kept (next n) (did n)) P
      (λ n. only_hand t x (told t x.kept (next n) (did n)) (told_of t x.kept (next n) (did n) (of n)))
      (λ n put slot pages log book on. goes n put slot pages log book on.0)

  -- what a step of the word records is of t
  pub word_of_t : (c : Call ℕ ℕ) (n : ℕ) → AreOf t (records (found c n) RanPending t x.kept [])
  word_of_t Quick n = claim_of t (n == 0)
  word_of_t (Fast fills) n = freed_of t (n == 2 ^ 62) x.kept
  word_of_t _ n = tt

  -- a step of the word
  pub word_moves : (p : Place ℕ ℕ) → x.step ≡ UnderWay p → IsWordCall (call_at p)
      → Moves IsKept (seen, sheets seen (hand t x)) 0 (word_after (call_at p))
      (λ n v. IsFound (call_at p) n × Leaves seen (hand t x) (goes_to x (after (Some x.waker) p (found (call_at p) n)))
      (told t x.kept (after (Some x.waker) p (found (call_at p) n)) (records (found (call_at p) n) RanPending t x.kept [])) v)
  word_moves p at w = own_moves (word_after (call_at p)) (λ n. records (found (call_at p) n) RanPending t x.kept [])
      (λ n. after (Some x.waker) p (found (call_at p) n)) (IsFound (call_at p)) (word_of_t (call_at p))
      (λ n put slot pages log book pen. (word_found most n put slot pages log t x some book pen p (omega arith) at w, word_step most n put slot pages log t x some book pen p (omega arith) at w))

  -- AtCountIn: the page after a load that finds as many counted as may be, and the page as it was after another
  abbrev pub full_page : ℕ → ℕ → Bool → List Page
  full_page q n true = At x ∷ []
  full_page q n false = goes_to x (after_count_in false (flags_of n).ready q)

  -- what that load records
  abbrev pub full_told : ℕ → ℕ → Bool → List Entry
  full_told q n true = []
  full_told q n false = told t x.kept (after_count_in false (flags_of n).ready q) []

  -- all of it is of t
  full_of : (q n : ℕ) (b : Bool) → AreOf t (full_told q n b)
  full_of q n true = tt
  full_of q n false = told_of t x.kept (after_count_in false (flags_of n).ready q) [] tt

  -- by whether there is room
  full_by : (q : ℕ) {n put : ℕ} {slot : Bool} {pages : List Page} {log : List Entry} → IsBook most n put slot pages log → slice_get pages (suc (suc t)) ≡ Some (At x)
      → x.step ≡ UnderWay (AtCountIn q) → (b : Bool) → nat_lt (flags_of n).count most ≡ b
      → IsBook most n put slot (put_on (full_page q n b) (hand t x) pages) (log ++ full_told q n b)
  full_by q book pen at true e = book_still (suc (suc t)) book pen
  full_by q book pen at false e = count_full most _ _ _ _ _ t x some book pen q at (ltb-false _ most e)

  -- the load before the exchange
  pub full_moves : (q : ℕ) → x.step ≡ UnderWay (AtCountIn q)
      → Moves IsKept (seen, sheets seen (hand t x)) 0 (λ n. n)
      (λ n v. Unit {0} × Leaves seen (hand t x) (full_page q n (nat_lt (flags_of n).count most)) (full_told q n (nat_lt (flags_of n).count most)) v)
  full_moves q at = moves seen (hand t x) (λ n. n) (λ n. full_page q n (nat_lt (flags_of n).count most)) (λ n. full_told q n (nat_lt (flags_of n).count most)) (λ n. Unit {0})
      (λ n. only_hand t x (full_told q n (nat_lt (flags_of n).count most)) (full_of q n (nat_lt (flags_of n).count most)))
      (λ n put slot pages log book on. (tt, full_by q book on.0 at (nat_lt (flags_of n).count most) refl))

  -- AtCountIn: the page after the exchange, by whether it was done
  abbrev pub in_page : ℕ → ℕ → Bool → List Page
  in_page q old true = goes_to x (after_count_in true (flags_of old).ready q)
  in_page q old false = At x ∷ []

  -- a task that counts itself in records nothing
  in_told : (r : Bool) (q : ℕ) → told t x.kept (after_count_in true r q) [] ≡ []
  in_told true q = refl
  in_told false q = refl

  -- by whether the word is still the one that was loaded
  in_by : (q old : ℕ) {n put : ℕ} {slot : Bool} {pages : List Page} {log : List Entry} → IsBook most n put slot pages log → slice_get pages (suc (suc t)) ≡ Some (At x)
      → x.step ≡ UnderWay (AtCountIn q) → (flags_of old).count < most → (b : Bool) → (n == old) ≡ b
      → IsBook most (either b (old + 1) n) put slot (put_on (in_page q old b) (hand t x) pages) (log ++ [])
  in_by q old {put = put} {slot = slot} {pages = pages} {log = log} book pen at l true e =
      let b : IsBook most old put slot pages log = subst (λ w. IsBook most w put slot pages log) (eqb-true _ old e) book in
      subst (λ es. IsBook most (old + 1) put slot (slice_set pages (suc (suc t)) (At (record x { step = (after_count_in true (flags_of old).ready q).step }))) (log ++ es))
      (in_told (flags_of old).ready q) (count_in most old put slot pages log t x some b pen q at (omega arith) l)
  in_by q old book pen at l false e = book_still (suc (suc t)) book pen

  -- the exchange, done or not
  pub in_moves : (q old : ℕ) → x.step ≡ UnderWay (AtCountIn q) → (flags_of old).count < most
      → Moves IsKept (seen, sheets seen (hand t x)) 0 (λ n. either (n == old) (old + 1) n) (λ n v. Unit {0} × Leaves seen (hand t x) (in_page q old (n == old)) [] v)
  in_moves q old at l = moves seen (hand t x) (λ n. either (n == old) (old + 1) n) (λ n. in_page q old (n == old)) (λ n. []) (λ n. Unit {0}) (λ n. only_hand t x [] tt)
      (λ n put slot pages log book on. (tt, in_by q old book on.0 at l (n == old) refl))

  -- AtDoorTake: the page after a load that finds that no queue was ever put, and the page as it was after another
  abbrev pub none_page : Ending → Bool → List Page
  none_page e true = goes_to x (next_end e)
  none_page e false = At x ∷ []

  -- what that load records
  abbrev pub none_told : Ending → Bool → List Entry
  none_told e true = told t x.kept (next_end e) []
  none_told e false = []

  -- all of it is of t
  none_of_t : (e : Ending) (b : Bool) → AreOf t (none_told e b)
  none_of_t e true = told_of t x.kept (next_end e) [] tt
  none_of_t e false = tt

  -- by whether a queue was ever put
  none_by : (e : Ending) {n k : ℕ} {slot : Bool} {pages : List Page} {log : List Entry} → IsBook most n k slot pages log → slice_get pages (suc (suc t)) ≡ Some (At x)
      → x.step ≡ UnderWay (AtDoorTake e) → (b : Bool) → (k == 0) ≡ b
      → IsBook most n k slot (put_on (none_page e b) (hand t x) pages) (log ++ none_told e b)
  none_by e book pen at true i = take_none most _ _ _ _ _ t x some book pen e at (eqb-true _ 0 i)
  none_by e book pen at false i = book_still (suc (suc t)) book pen

  -- the load of the word that says so
  pub none_moves : (e : Ending) → x.step ≡ UnderWay (AtDoorTake e)
      → Moves IsKept (seen, sheets seen (hand t x)) 1 (λ k. k) (λ k v. Leaves seen (hand t x) (none_page e (k == 0)) (none_told e (k == 0)) v)
  none_moves e at = put_moves seen (hand t x) (λ k. k) (λ k. none_page e (k == 0)) (λ k. none_told e (k == 0)) (λ k. only_hand t x (none_told e (k == 0)) (none_of_t e (k == 0)))
      (λ n k slot pages log book on. none_by e book on.0 at (k == 0) refl)
