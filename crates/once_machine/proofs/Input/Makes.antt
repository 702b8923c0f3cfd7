-- The making of a task, and a look.
use Rattle.std.proofs.Common.{◌≡◌, ◌≢◌, ◌+◌, ℕ, suc, Bool, true, false, ◌⊎◌, inl, inr, ⊎_elim, List, ◌∷◌, Option, Some, None, refl, sym, ap, ◌∙◌, subst, arith}
use Rattle.std.proofs.lemmas.Grind.{common_steps}
use Rattle.std.proofs.lemmas.Bool.{false≢true, cases_eq}
use Rattle.std.proofs.lemmas.Bool.Decides.{nat_tests}
use Rattle.once_machine.specs.Numbers.{bit, how_many, member}
use Rattle.once_machine.specs.Record.{Entry, Kind, Look, Made, RanPending, made_in}
use Rattle.once_machine.specs.Cell.{cell, value_in}
use Rattle.once_machine.specs.Tasks.{last_call}
use Rattle.once_machine.specs.Listings.{find_listing}
use Rattle.once_machine.specs.Run.{IsLegal}
use Rattle.once_machine.specs.Machine.{SharedState, Task, World, fresh_task, look_value, make_world, put_task, step_of}
use Rattle.once_machine.proofs.Listing.Members.{eqb_self}
use Rattle.once_machine.proofs.History.Others.{legal_keeps}
use Rattle.once_machine.proofs.History.Waiters.{QueueFits, quiet}
use Rattle.once_machine.proofs.Listing.Counting.{count_same}
use Rattle.once_machine.proofs.Invariant.Facts.{is_counted, is_inside, is_take, kept_of, ticket_of}
use Rattle.once_machine.proofs.Invariant.Fits.{Fits, SharedFits, StandsFor, is_alive}
use Rattle.once_machine.proofs.Invariant.Listed.{none_not_some}
use Rattle.once_machine.proofs.Invariant.Turns.{somebody_called}
use Rattle.once_machine.proofs.Invariant.Moves.{Puts, puts, stands_kept}
use Rattle.once_machine.proofs.Place.Builders.{shared_at, of_other, same_shared}

-- a number that does not pass adds nothing
one_less : (b : Bool) (n : ℕ) → b ≡ false → bit b + n ≡ n
one_less b n e = rw e (omega arith)

-- one that passes adds one
one_more : (b : Bool) (n m : ℕ) → b ≡ true → m ≡ n → suc m ≡ bit b + n
one_more b n m e s = rw e (omega arith)

-- a new number is in the list
or_here : (t u : ℕ) (ns : List ℕ) → t ≡ u → member u (t ∷ ns) ≡ true
or_here t u ns e = grind (arith, nat_tests)

-- a task that is not in the longer list is not in the shorter
or_rest : (t u : ℕ) (ns : List ℕ) → member u (t ∷ ns) ≡ false → member u ns ≡ false
or_rest t u ns e = grind (arith, nat_tests)

-- a task is not none
some_none : (y : Task) → Some y ≡ None → ⊥
some_none y e = cc

-- a task that was just made neither takes the queue nor waits
alone_made : {K : Kind} {limit : ℕ} {w : World} {new : ℕ → Option Task} {t : ℕ} → Fits K limit w → Puts t fresh_task w.tasks new
    → (a b : ℕ) → (t ≡ a) ⊎ (t ≢ a) → (t ≡ b) ⊎ (t ≢ b) → is_take (step_of (new a)) ≡ true → is_inside (step_of (new b)) ≡ true → ⊥
alone_made {new = new} f p a b (inl i) j k l = false≢true (sym (ap (λ o. is_take (step_of o)) p.there) ∙ subst (λ v. is_take (step_of (new v)) ≡ true) (sym i) k)
alone_made {new = new} f p a b (inr i) (inl j) k l = false≢true (sym (ap (λ o. is_inside (step_of o)) p.there) ∙ subst (λ v. is_inside (step_of (new v)) ≡ true) (sym j) l)
alone_made {new = new} f p a b (inr i) (inr j) k l = f.alone a b (ap (λ o. is_take (step_of o)) (sym (p.others a i)) ∙ k) (ap (λ o. is_inside (step_of o)) (sym (p.others b j)) ∙ l)

-- a task that has a ticket had it before
ticket_made : (w : World) (new : ℕ → Option Task) (t : ℕ) → new t ≡ Some fresh_task
    → ((u : ℕ) → t ≢ u → new u ≡ w.tasks u) → (u n : ℕ) → ticket_of (step_of (new u)) ≡ Some n
    → ticket_of (step_of (w.tasks u)) ≡ Some n
ticket_made w new t there others u n k = ⊎_elim
    (λ e. absurd (none_not_some n (sym (ap (λ i. ticket_of (step_of i)) there) ∙ subst (λ v. ticket_of (step_of (new v)) ≡ Some n) (sym e) k)))
    (λ d. ap (λ i. ticket_of (step_of i)) (sym (others u d)) ∙ k) (cases_eq t u)

-- each listing has its task still
owned_made : (K : Kind) (limit : ℕ) (w : World) (new : ℕ → Option Task) (t : ℕ) → Fits K limit w → w.tasks t ≡ None → ((u : ℕ) → t ≢ u → new u ≡ w.tasks u)
    → w.shared.ready ≡ false → (n : ℕ) (o : Option ℕ) → find_listing n w.shared.listings ≡ Some o → (u : ℕ) × (ticket_of (step_of (new u)) ≡ Some n)
owned_made K limit w new t f is others r n o e =
    let v = f.owned r n o e in
    let d : t ≢ v.0 = λ x. none_not_some n (sym (ap (λ i. ticket_of (step_of i)) is) ∙ subst (λ i. ticket_of (step_of (w.tasks i)) ≡ Some n) (sym x) v.1) in
    (v.0, ap (λ i. ticket_of (step_of i)) (others v.0 d) ∙ v.1)

-- the making of a task keeps all that holds
pub made_fits : (K : Kind) (limit : ℕ) (w : World) (t : ℕ) → Fits K limit w → (o : Option Task) → w.tasks t ≡ o → Fits K limit (make_world w t o)
made_fits K limit w t f (Some x) is = f
made_fits K limit w t f None is =
    let y : Task = fresh_task in
    let h : List Entry = w.history in
    let h' : List Entry = Made t ∷ h in
    let new : ℕ → Option Task = put_task t y w.tasks in
    let p : Puts t y w.tasks new = puts t y w.tasks in
    let own : StandsFor K limit t w.shared h None = rw is at (f.tasks t) in
    let legal : IsLegal K limit (Made t) h = own.0.status_is in
    let out : member t (made_in h) ≡ false = f.made_only t is in
    let P : ℕ → Type 0 = λ u. StandsFor K limit u w.shared h' (new u) in
    let gave : kept_of (last_call K t h).ran ≡ RanPending = ap kept_of own.2 in
    let same : P t = rw p.there (record {
      waker_is = rw (eqb_self t) own.1;
      kept_is = rw (eqb_self t)
          (sym gave);
      step = (
        record { status_is = rw (eqb_self t) refl; holds_is = own.0.holds_is },
        rw
            (eqb_self t) gave,
      );
    }) in
    let before : ℕ → Bool = λ n. is_counted (step_of (w.tasks n)) in
    let later : ℕ → Bool = λ n. is_counted (step_of (new n)) in
    let lived : ℕ → Bool = λ n. is_alive (w.tasks n) in
    let lives : ℕ → Bool = λ n. is_alive (new n) in
    let rest = count_same t (made_in h) before later out (λ u n. ap (λ o. is_counted (step_of o)) (sym (p.others u n))) in
    let living = count_same t (made_in h) lived lives out (λ u n. ap is_alive (sym (p.others u n))) in
    let none : later t ≡ false = ap (λ o. is_counted (step_of o)) p.there in
    let alive : lives t ≡ true = ap is_alive p.there in
    let shared' : SharedFits K limit w.shared h' = shared_at refl refl f.shared in
    let queue' : QueueFits K w.shared.listings h' = quiet f.queue refl refl (λ _. refl) (λ u is. grind arith) (λ x. x) in
    let stands : (u : ℕ) → P u = λ u. ⊎_elim (λ e. subst P e same)
    (λ n. rw (p.others u n) (stands_kept (w.tasks u) f.shared.ready_is (legal_keeps K u (Made t) limit h (of_other t u n) legal refl)
    (same_shared refl refl refl refl refl (λ x. x)) (λ n o k r e. inl e) (f.tasks u)))
    (cases_eq t u) in
    let owned = owned_made K limit w new t f is p.others in
    record {
      run = (legal, f.run);
      shared = shared';
      queue = queue';
      tasks = stands;
      count_is = f.count_is ∙ sym rest ∙ sym (one_less (later t) (how_many later (made_in h)) none);
      unfinished_is = one_more (lives t) (how_many lives (made_in h)) w.unfinished alive (f.unfinished_is ∙ sym living);
      made_once = rw out f.made_once;
      made_all = λ u e. ⊎_elim (λ k. absurd (false≢true (sym e ∙ or_here t u (made_in h) k))) (λ n. p.others u n ∙ f.made_all u (or_rest t u (made_in h) e)) (cases_eq t u);
      made_only = λ u e. ⊎_elim (λ k. absurd (some_none y (sym p.there ∙ ap new k ∙ e))) (λ n. rw (of_other t u n) (f.made_only u (sym (p.others u n) ∙ e))) (cases_eq t u);
      alone = λ a b. alone_made f p a b (cases_eq t a) (cases_eq t b);
      single = λ a b n k l. f.single a b n (ticket_made w new t p.there p.others a n k) (ticket_made w new t p.there p.others b n l);
      owned = owned;
      moments = (somebody_called K limit w.shared h' new shared'.ready_is queue'.called owned stands, f.moments);
    }

-- a look finds the value that is set
pub looked_is : (K : Kind) (limit : ℕ) (c : SharedState) (h : List Entry) → SharedFits K limit c h → look_value c ≡ value_in (cell K h)
looked_is K limit c h f = let value = f.value_is in grind (arith, nat_tests, common_steps, value)

-- a look keeps all that holds
pub look_fits : (K : Kind) (limit : ℕ) (w : World) → Fits K limit w → Fits K limit (record w { history = Look (look_value w.shared) ∷ w.history })
look_fits K limit w f =
    let h : List Entry = w.history in
    let h' : List Entry = Look (look_value w.shared) ∷ h in
    let legal : IsLegal K limit (Look (look_value w.shared)) h = looked_is K limit w.shared h f.shared in
    let shared' : SharedFits K limit w.shared h' = shared_at refl refl f.shared in
    let queue' : QueueFits K w.shared.listings h' = quiet f.queue refl refl (λ _. refl) (λ u is. grind arith) (λ x. x) in
    let stands : (u : ℕ) → StandsFor K limit u w.shared h'
    (w.tasks u) = λ u. stands_kept (w.tasks u) f.shared.ready_is
    (legal_keeps K u (Look (look_value w.shared)) limit h refl legal refl)
    (same_shared refl refl refl refl refl (λ x. x)) (λ n o k r e. inl e) (f.tasks u) in
    record {
      run = (legal, f.run);
      shared = shared';
      queue = queue';
      tasks = stands;
      count_is = f.count_is;
      unfinished_is = f.unfinished_is;
      made_once = f.made_once;
      made_all = f.made_all;
      made_only = f.made_only;
      alone = f.alone;
      single = f.single;
      owned = f.owned;
      moments = (somebody_called K limit w.shared h' w.tasks shared'.ready_is queue'.called f.owned stands, f.moments);
    }
