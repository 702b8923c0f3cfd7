-- What lies under the lock fits its pages after each section, and the section's answer is that of the page.
use Rattle.std.proofs.Common.{◌≡◌, ◌⊎◌, ℕ, Bool, true, false, cond, IfSome, List, [], ◌++◌, append_assoc, Option, Some, None, refl, sym, ap, ◌∙◌, subst}
use Rattle.std.specs.Prelude.{Box}
use Rattle.std.specs.declared.alloc.Global.{Global}
use Rattle.std.specs.Option.{is_some, option_flatten, option_map, option_to_list}
use mathlib.Core.List.{IsPrefix}
use Rattle.once_machine.specs.Numbers.{is_distinct}
use Rattle.once_machine.specs.declared.word.Sees.{Sees}
use Rattle.once_machine.specs.Word.{flags_of, sees, is_free}
use Rattle.once_machine.specs.declared.waiters.Lists.{Lists}
use Rattle.once_machine.specs.declared.waiters.Answer.{Answer}
use Rattle.once_machine.specs.declared.waiters.Answer.TheVariants.{Listed, Held, Memory, Left}
use Rattle.once_machine.specs.declared.waiters.Op.{Op}
use Rattle.once_machine.specs.declared.waiters.Op.TheVariants.{Look, List as ListOwn, Release, Leave}
use Rattle.once_machine.specs.declared.step.Out.{Out}
use Rattle.once_machine.specs.Listings.{find_listing, kept_ticket, left_list, next_waker, own_listing, passes_turn, tickets}
use Rattle.once_machine.specs.Claims.{Claims}
use Rattle.once_machine.specs.Room.{listings_of, claimant}
use Rattle.once_machine.specs.Sections.{DidList, Releases, Renewed}
use Rattle.once_machine.proofs.Listing.Once.{tickets_once}
use Rattle.once_machine.specs.Table.{Call, Section, Told, Was}
use Rattle.once_machine.specs.Record.{Entry}
use Rattle.once_machine.specs.Book.{TaskState}
use Rattle.once_machine.specs.Machine.{listed_ticket, looked_ticket, records, release_list, release_wakers}
use Rattle.once_machine.specs.declared.step.Place.TheVariants.{List as AtList}
use Rattle.once_machine.specs.declared.step.Step.{Step}
use Rattle.once_machine.specs.declared.step.Step.TheVariants.{UnderWay}
use Rattle.async_once_cell.specs.Kept.{Grew, entries_of, has_passed, hands_out}
use Rattle.async_once_cell.specs.Inner.Named.{HasRenewed, KeepsOwner, named, named_one, named_out}
use Rattle.async_once_cell.specs.Inner.Steps.{answer_as}
use Rattle.async_once_cell.specs.Inner.Desk.{Desked, IsDesked, IsShown}
use Rattle.async_once_cell.specs.Inner.Own.{Own, Stayed, told}
use Rattle.async_once_cell.specs.Inner.Page.{Went, call_in, given_in, next_of, task_after}
use Rattle.async_once_cell.specs.Inner.Sections.{HandsEach, IsOwnListing, SectionDid, listed, looked, passing, section_desk}
use Rattle.async_once_cell.proofs.Moments.Looks.{look_shown}
use Rattle.async_once_cell.proofs.Moments.Lists.{list_shown, refusal_shown}
use Rattle.async_once_cell.proofs.Moments.Named.{find_named, named_renewed, tickets_named}
use Rattle.async_once_cell.proofs.Moments.Releases.{left_out, left_shown, released_list, released_out}

-- a beginning of a beginning
pub prefix_on : (a b c : List Entry) → IsPrefix a b → IsPrefix b c → IsPrefix a c
prefix_on a b c p q = (p.0 ++ q.0, sym (append_assoc a p.0 q.0) ∙ ap (λ l. l ++ q.0) p.1 ∙ q.1)

-- the entries of a call that was told this, by a task's number and what stands on its page
abbrev went_entries : Told ℕ ℕ → List ℕ → ℕ × TaskState → List Entry
went_entries e X i = told i.0 (task_after i.1 e).kept (next_of i.1.step i.1.waker e) (records e (given_in e) i.0 i.1.kept X)

-- a call after a moment at which the task did nothing
pub went_after : (e : Told ℕ ℕ) (X : List ℕ) (x y z : Own) → Stayed x y → Went y e X z → Went x e X z
went_after e X x y z s w = record {
  number = w.number ∙ s.number;
  task = w.task ∙ ap (λ (t : TaskState). task_after t e) s.task;
  log = subst (λ (i : ℕ × TaskState). Grew (went_entries e X i) x.log z.log) (λ i. (s.number i, s.task i)) (w.log.0, prefix_on x.log y.log w.log.0 s.log w.log.1, w.log.2);
  mine = subst (λ (i : ℕ × TaskState). entries_of i.0 z.log ≡ entries_of i.0 x.log ++ went_entries e X i) (λ i. (s.number i, s.task i))
      (w.mine ∙ ap (λ l. l ++ went_entries e X (y.number, y.task)) (ap (λ t. entries_of t y.log) s.number ∙ s.mine ∙ ap (λ t. entries_of t x.log) (sym s.number)));
}

-- a section, by the call of the place at which the task stood before it came to its queue
section_after : {room : Bool} {n : ℕ} {d e : Desked} {x y z : Own} {c : Call ℕ ℕ} → call_in x.task.step ≡ c → Stayed x y → SectionDid room n d y e z (call_in y.task.step) → SectionDid room n d x e z c
section_after {room = room} {n = n} {d = d} {e = e} {x = x} {y = y} {z = z} at s did =
    let now = subst (SectionDid room n d y e z) (ap (λ (t : TaskState). call_in t.step) s.task ∙ at) did in
    record { desk = now.desk; went = went_after _ _ x y z s now.went; shows = now.shows }

-- a section told the same if its answer, what it left and the wakers that it handed out are the same
was_so : (x z : Own) (q : ℕ) (op : Op ℕ) {o o' : Op ℕ} {a a' : Answer ℕ} {X X' : List ℕ} → a' ≡ a → o' ≡ o → X' ≡ X → Went x (Was q op a o) X z → Went x (Was q op a' o') X' z
was_so x z q op a o X w = subst (λ (e : Answer ℕ × Op ℕ × List ℕ). Went x (Was q op e.0 e.1) e.2 z) (λ i. (sym a i, sym o i, sym X i)) w

-- no place lists nobody's waker
no_waker : (s : Step ℕ ℕ) (q : ℕ) (k : Option ℕ) → call_in s ≡ Section q (ListOwn k None) → ⊥
no_waker (UnderWay (AtList u j w)) q k e = let no : ⊥ = cc in no
no_waker _ q k e = let no : ⊥ = cc in no

-- the queue that is found at the door shows the pages, which nobody changed meanwhile
pub found_shown : {W : Type 0} {g : _} (whose : W → ℕ) {o : Option (Box (Lists W g) Global)} {b : Box (Lists W g) Global} {l : Lists W g} {d e : Desked}
    → IsDesked whose o d → e ≡ d → o ≡ Some b → l ≡ b.value → IsShown whose l e
found_shown whose {o = o} {e = e} is same some at = subst (λ l. IsShown whose l e) (sym at) (subst (λ o. IsDesked whose o e) some (subst (IsDesked whose o) (sym same) is))

module _ {W : Type 0} {g : _} (whose : W → ℕ) (l : Lists W g) (d : Desked) (fits : IsShown whose l d) where
  -- the pages by what lies under the lock
  abbrev pub shown : Desked
  shown = record d { head = l.head; listings = named whose (listings_of l) }

  -- these are the pages
  shown_is : shown ≡ d
  shown_is = λ i. record d { head = fits.1 i; listings = fits.2 i }

  -- after a look
  look_fits : (n : ℕ) (k k' : Option ℕ) (l' : Lists W g) (result : Answer W)
      → Claims (sees (flags_of n) l.head) (claimant l k) result (claimant l' k')
      → (sees (flags_of n) l.head ≡ Sees.Taken → result ≡ cond (is_some (option_flatten (own_listing k (listings_of l)))) Listed Held)
      → (sees (flags_of n) l.head ≡ Sees.Taken → claimant l' k' ≡ claimant l k)
      → IsShown whose l' (section_desk true n d (Section 0 (Look k))) × (answer_as result ≡ looked n k d) × (k' ≡ looked_ticket (looked n k d) k)
  look_fits n k k' l' result claims held stays =
      let s = look_shown whose (sees (flags_of n) l.head) (claimant l k) result (claimant l' k') claims held stays in
      subst (λ (e : Desked). IsShown whose l' (section_desk true n e (Section 0 (Look k))) × (answer_as result ≡ looked n k e) × (k' ≡ looked_ticket (looked n k e) k)) shown_is
      (((fits.0, s.flag, s.listings), s.answer, s.ticket))

  -- what a listing leaves
  abbrev ListFits : Bool → ℕ → Option ℕ → ℕ → Lists W g → Answer ℕ → Option ℕ → Desked → Type 0
  ListFits room n k v l' a k' e = IsShown whose l' (section_desk room n e (Section 0 (ListOwn k (Some v)))) × (a ≡ listed n k room e) × (k' ≡ listed_ticket (listed n k room e) k e.listings)

  -- after a listing of w, if there was room
  list_fits : (n : ℕ) (k k' : Option ℕ) (w : W) (w' : Option W) (l' : Lists W g) (result : Answer W)
      → (is_some (kept_ticket k (listings_of l)) ≡ true) ⊎ (result ≡ Memory → ⊥)
      → Claims (sees (flags_of n) l.head) (claimant l k) result (claimant l' k')
      → (sees (flags_of n) l.head ≡ Sees.Taken → DidList k w (listings_of l) result k' w' (listings_of l'))
      → (sees (flags_of n) l.head ≡ Sees.Taken → l'.head ≡ l.head)
      → ListFits true n k (whose w) l' (answer_as result) k' d
  list_fits n k k' w w' l' result room claims held head =
      let s = list_shown whose (sees (flags_of n) l.head) (claimant l k) w w' result (claimant l' k') room claims held head in
      subst (ListFits true n k (whose w) l' (answer_as result) k') shown_is ((fits.0, s.flag, s.listings), s.answer, s.ticket)

  -- after a listing for which there was no room
  refusal_fits : (n : ℕ) (k k' : Option ℕ) (v : ℕ) (l' : Lists W g) (result : Answer W) → is_some (kept_ticket k (listings_of l)) ≡ false
      → Claims (sees (flags_of n) l.head) (claimant l k) result (claimant l' k')
      → (sees (flags_of n) l.head ≡ Sees.Taken → result ≡ Memory)
      → (sees (flags_of n) l.head ≡ Sees.Taken → claimant l' k' ≡ claimant l k)
      → ListFits false n k v l' (answer_as result) k' d
  refusal_fits n k k' v l' result gone claims held stays =
      let s = refusal_shown whose (sees (flags_of n) l.head) (claimant l k) v result (claimant l' k') gone claims held stays in
      subst (ListFits false n k v l' (answer_as result) k') shown_is ((fits.0, s.flag, s.listings), s.answer, s.ticket)

  -- after a waker was renewed, or none was
  pub renew_fits : {N : Type 0} (renewed : N → W → N → W → Type 0) → KeepsOwner whose renewed → (n : ℕ) (s t : N) (l' : Lists W g) (b : Bool)
      → (b ≡ true → Renewed renewed n (listings_of l) s (listings_of l') t) → (b ≡ false → listings_of l' ≡ listings_of l) → l'.head ≡ l.head → IsShown whose l' d
  renew_fits renewed keeps n s t l' true r same flag =
      let e = r refl in
      (fits.0, flag ∙ fits.1, ap (named whose) e.4 ∙ named_renewed whose n e.0 e.1 (listings_of l) e.2 (keeps s e.0 t e.1 e.3) ∙ fits.2)
  renew_fits renewed keeps n s t l' false r same flag = (fits.0, flag ∙ fits.1, ap (named whose) (same refl) ∙ fits.2)

  -- it was the waker of the task whose listing it is
  pub renew_own : {N : Type 0} (renewed : N → W → N → W → Type 0) (n m : ℕ) (s t : N) (l' : Lists W g) → IsOwnListing n m d.listings
      → Renewed renewed n (listings_of l) s (listings_of l') t → HasRenewed whose renewed m s t
  renew_own renewed n m s t l' own r = (
    r.0,
    r.1,
    own (whose r.0) (ap (find_listing n) (sym fits.2) ∙ find_named whose n (listings_of l) ∙ ap (option_map (option_map whose)) r.2),
    r.3,
  )

  -- after a release
  release_fits : (same other : W → W → Type 0) → ((a b : W) → same a b → ⊥) → (r : Bool) (l' : Lists W g) (out : Out W)
      → Releases same other r (listings_of l) out (listings_of l') → l'.head ≡ false → HandsEach r d.listings
      → IsShown whose l' (record d { head = false; listings = release_list r d.listings }) × (named_out whose out ≡ release_wakers r d.listings)
  release_fits same other apart r l' out released flag each = (
    (fits.0, flag, released_list whose same other r (listings_of l) (listings_of l') out released ∙ ap (release_list r) fits.2),
    released_out whose same other apart r (listings_of l) (listings_of l') out released
        (λ v. rw fits.2 (each v (ap (λ ts. is_distinct ts) (ap (λ xs. tickets xs) (sym fits.2) ∙ tickets_named whose (listings_of l)) ∙ tickets_once l)))
        ∙ ap (release_wakers r) fits.2,
  )

  -- after one left
  leave_fits : (n k : ℕ) (l' : Lists W g) (o : Option W) → o ≡ next_waker (passes_turn (is_free (sees (flags_of n) l.head)) k (listings_of l)) k (listings_of l)
      → listings_of l' ≡ left_list (passes_turn (is_free (sees (flags_of n) l.head)) k (listings_of l)) k (listings_of l) → l'.head ≡ l.head
      → IsShown whose l' (record d { listings = left_list (passing n k d) k d.listings }) × (named_one whose o ≡ option_to_list (next_waker (passing n k d) k d.listings))
  leave_fits n k l' o handed listings flag =
      let f : Bool = is_free (sees (flags_of n) l.head) in
      subst (λ (e : Desked). IsShown whose l' (record e { listings = left_list (passing n k e) k e.listings })
      × (named_one whose o ≡ option_to_list (next_waker (passing n k e) k e.listings))) shown_is
      ((fits.0, flag, left_shown whose f k (listings_of l) (listings_of l') listings), left_out whose f k (listings_of l) o handed)

-- each section, from the page's words to the code's: what lies there after it shows the pages, and the task went on so
module _ {W : Type 0} {g : _} (whose : W → ℕ) where
  -- the task x came to the queue l, and made the section c there, by which it is z, and the pages are e
  pub record InSection (l : Lists W g) (room : Bool) (n : ℕ) (c : Call ℕ ℕ) (x : Own) (e : Desked) (z : Own) : Type 0 where
    pub before : Desked
    pub shown : IsShown whose l before
    pub did : SectionDid room n before x e z c

  pub in_section : {l : Lists W g} {room : Bool} {n : ℕ} {c : Call ℕ ℕ} {x y z : Own} {o : Option (Box (Lists W g) Global)} {b : Box (Lists W g) Global} {d f e : Desked}
      → IsDesked whose o d → f ≡ d → o ≡ Some b → l ≡ b.value → call_in x.task.step ≡ c → Stayed x y → SectionDid room n f y e z (call_in y.task.step) → InSection l room n c x e z
  in_section {f = f} is same some there at stayed did = record { before = f; shown = found_shown whose is same some there; did = section_after at stayed did }

  -- the same if room was made in the queue, or refused
  pub roomed : {l : Lists W g} {room b : Bool} {n : ℕ} {c : Call ℕ ℕ} {x z : Own} {e : Desked} (m : Lists W g) → m.head ≡ l.head → listings_of m ≡ listings_of l → room ≡ b
      → InSection l room n c x e z → InSection m b n c x e z
  roomed {n = n} {c = c} {x = x} {z = z} {e = e} m head listings same s = record {
    before = s.before;
    shown = (s.shown.0, head ∙ s.shown.1, ap (named whose) listings ∙ s.shown.2);
    did = subst (λ b. SectionDid b n s.before x e z c) same s.did;
  }

  -- a look
  pub look_ends : {l : Lists W g} {n q : ℕ} {x z : Own} {e : Desked} {k : Option ℕ} (k' : Option ℕ) (l' : Lists W g) (result : Answer W) → InSection l true n (Section q (Look k)) x e z
      → Claims (sees (flags_of n) l.head) (claimant l k) result (claimant l' k')
      → (sees (flags_of n) l.head ≡ Sees.Taken → result ≡ cond (is_some (option_flatten (own_listing k (listings_of l)))) Listed Held)
      → (sees (flags_of n) l.head ≡ Sees.Taken → claimant l' k' ≡ claimant l k)
      → IsShown whose l' e × Went x (Was q (Look k) (answer_as result) (Look k')) [] z
  look_ends {l = l} {n = n} {q = q} {x = x} {z = z} {k = k} k' l' result s claims held stays =
      let f = look_fits whose l s.before s.shown n k k' l' result claims held stays in
      (subst (IsShown whose l') (sym s.did.desk) f.0, was_so x z q (Look k) {X = []} {X' = []} f.1 (ap Look f.2) refl s.did.went)

  -- a listing of a waker that is there, if there was room
  pub list_ends : {l : Lists W g} {n q : ℕ} {x z : Own} {e : Desked} {k : Option ℕ} (o w' : Option W) (k' : Option ℕ) (l' : Lists W g) (result : Answer W)
      → call_in x.task.step ≡ Section q (ListOwn k (option_map whose o)) → InSection l true n (Section q (ListOwn k (option_map whose o))) x e z
      → (is_some (kept_ticket k (listings_of l)) ≡ true) ⊎ (result ≡ Memory → ⊥)
      → Claims (sees (flags_of n) l.head) (claimant l k) result (claimant l' k')
      → (sees (flags_of n) l.head ≡ Sees.Taken → IfSome o (λ w. DidList k w (listings_of l) result k' w' (listings_of l')))
      → (sees (flags_of n) l.head ≡ Sees.Taken → l'.head ≡ l.head)
      → IsShown whose l' e × Went x (Was q (ListOwn k (option_map whose o)) (answer_as result) (Look k')) [] z
  list_ends {l = l} {n = n} {q = q} {x = x} {z = z} {k = k} (Some w) w' k' l' result at s space claims held head =
      let f = list_fits whose l s.before s.shown n k k' w w' l' result space claims held head in
      (subst (IsShown whose l') (sym s.did.desk) f.0, was_so x z q (ListOwn k (Some (whose w))) {X = []} {X' = []} f.1 (ap Look f.2) refl s.did.went)
  list_ends {q = q} {x = x} {k = k} None w' k' l' result at s space claims held head = absurd (no_waker x.task.step q k at)

  -- the same if there was no room, and a look was made in its place
  pub refusal_ends : {l : Lists W g} {n q : ℕ} {x z : Own} {e : Desked} {k : Option ℕ} (o : Option W) (k' : Option ℕ) (l' : Lists W g) (result : Answer W)
      → call_in x.task.step ≡ Section q (ListOwn k (option_map whose o)) → InSection l false n (Section q (ListOwn k (option_map whose o))) x e z
      → is_some (kept_ticket k (listings_of l)) ≡ false
      → Claims (sees (flags_of n) l.head) (claimant l k) result (claimant l' k')
      → (sees (flags_of n) l.head ≡ Sees.Taken → result ≡ Memory)
      → (sees (flags_of n) l.head ≡ Sees.Taken → claimant l' k' ≡ claimant l k)
      → IsShown whose l' e × Went x (Was q (ListOwn k (option_map whose o)) (answer_as result) (Look k')) [] z
  refusal_ends {l = l} {n = n} {q = q} {x = x} {z = z} {k = k} (Some w) k' l' result at s gone claims held stays =
      let f = refusal_fits whose l s.before s.shown n k k' (whose w) l' result gone claims held stays in
      (subst (IsShown whose l') (sym s.did.desk) f.0, was_so x z q (ListOwn k (Some (whose w))) {X = []} {X' = []} f.1 (ap Look f.2) refl s.did.went)
  refusal_ends {q = q} {x = x} {k = k} None k' l' result at s gone claims held stays = absurd (no_waker x.task.step q k at)

  -- a release
  pub release_ends : (same other : W → W → Type 0) → ((a b : W) → same a b → ⊥) → {l : Lists W g} {n q : ℕ} {x z : Own} {e : Desked} {r : Bool} (l' : Lists W g) (out : Out W)
      → InSection l true n (Section q (Release r)) x e z → Releases same other r (listings_of l) out (listings_of l') → l'.head ≡ false
      → IsShown whose l' e × Went x (Was q (Release r) (Left None) (Look None)) (named_out whose out) z
  release_ends same other apart {l = l} {q = q} {x = x} {z = z} {r = r} l' out s released flag =
      let f = release_fits whose l s.before s.shown same other apart r l' out released flag s.did.shows in
      (subst (IsShown whose l') (sym s.did.desk) f.0, was_so x z q (Release r) refl refl f.1 s.did.went)

  -- the leaving of a waiter
  pub leave_ends : {l : Lists W g} {n q : ℕ} {x z : Own} {e : Desked} {k : ℕ} (l' : Lists W g) {o : Option W} → InSection l true n (Section q (Leave k)) x e z
      → o ≡ next_waker (passes_turn (is_free (sees (flags_of n) l.head)) k (listings_of l)) k (listings_of l)
      → listings_of l' ≡ left_list (passes_turn (is_free (sees (flags_of n) l.head)) k (listings_of l)) k (listings_of l) → l'.head ≡ l.head
      → IsShown whose l' e × Went x (Was q (Leave k) (Left None) (Look None)) (named_one whose o) z × (has_passed z.number z.log ≡ hands_out (named_one whose o))
  leave_ends {l = l} {n = n} {q = q} {x = x} {z = z} {k = k} l' {o = o} s handed listings flag =
      let f = leave_fits whose l s.before s.shown n k l' o handed listings flag in
      (subst (IsShown whose l') (sym s.did.desk) f.0, was_so x z q (Leave k) refl refl f.1 s.did.went, s.did.shows ∙ ap hands_out (sym f.1))
