-- No count is beyond the number of entries, and so it stays.
use Rattle.std.proofs.Common.{◌≤◌, ◌+◌, ◌-◌, ℕ, suc, Bool, true, false, if◌then◌else◌, Option, Some, None, arith}
use Rattle.once_machine.specs.Numbers.{member, bit, times_in}
use Rattle.once_machine.specs.Record.{Kind, Entry, handed_by, is_replacing}
use Rattle.once_machine.specs.Tasks.{Status, is_under_way, status_after}
use Rattle.once_machine.specs.Refusals.{is_about}
use Rattle.once_judge.specs.Seen.{Seen, nothing_seen, after, count_after, opens_in, task_of}
use Rattle.once_judge.specs.Shown.{Within}

pub within_nothing : (K : Kind) → Within (nothing_seen K)
within_nothing K = record { about = omega arith; acting = omega arith; times = λ w. omega arith; handed = λ w. omega arith }

one_more : (n m k : ℕ) (b : Bool) → n ≤ m → (n + bit b) - k ≤ suc m
one_more n m k true l = omega arith
one_more n m k false l = omega arith

count_more : (p : Status → Bool) (e : Entry) (S : Seen) (o : Option ℕ) (n m : ℕ) → n ≤ m → count_after p e S o n ≤ suc m
count_more p e S None n m l = omega arith
count_more p e S (Some t) n m l =
    one_more n m (bit (p (S.task t).status)) (p (status_after e S.cell (S.task t).status)) l

times_more : (r b : Bool) (n m k : ℕ) → n ≤ m → (if r then 0 else (n + bit b) - k) ≤ suc m
times_more true b n m k l = omega arith
times_more false b n m k l = one_more n m k b l

handed_more : (b : Bool) (n m : ℕ) → n ≤ m → (if b then suc m else n) ≤ suc m
handed_more true n m l = omega arith
handed_more false n m l = omega arith

pub within_after : (limit : ℕ) (e : Entry) (S : Seen) → Within S → Within (after limit e S)
within_after limit e S w = record {
  about = count_more is_about e S (task_of e) S.about S.now w.about;
  acting = count_more is_under_way e S (task_of e) S.acting S.now w.acting;
  times = λ v. times_more (is_replacing e) (opens_in S v e) (S.times v) S.now (times_in v (handed_by e)) (w.times v);
  handed = λ v. handed_more (member v (handed_by e)) (S.handed v) S.now (w.handed v);
}
