-- Each moment of a task that has the lock keeps the rule of the book, and tells what it is to tell.
use Rattle.std.proofs.Common.{◌≡◌, ◌+◌, ◌%◌, ◌^◌, ℕ, suc, Bool, true, false, List, [], ◌++◌, Option, Some, None, refl, sym, ap, ◌∙◌, subst}
use Rattle.std.specs.Option.{is_some}
use Rattle.std.proofs.lemmas.Bool.{false≢true}
use Rattle.std.proofs.lemmas.List.{append-nil}
use Rattle.pagebook.specs.Pages.{Held, Moves, Notes, View}
use Rattle.once_machine.specs.declared.waiters.Op.TheVariants.{Look, Release}
use Rattle.once_machine.specs.Table.{Call, Next, Section as SectionCall, after_door_again, after_door_get, call_at, next_at, next_end}
use Rattle.once_machine.specs.Table.{DoorGet, DoorPut, DoorTake, Got, PutQueue, Taken, Told}
use Rattle.once_machine.specs.Record.{Entry}
use Rattle.once_machine.specs.Book.{TaskState}
use Rattle.once_machine.specs.Machine.{keeps, records}
use Rattle.once_machine.specs.declared.step.Place.TheVariants.{CountIn as AtCountIn, DoorAgain as AtDoorAgain, DoorGet as AtDoorGet, DoorPut as AtDoorPut, DoorTake as AtDoorTake, Release as AtRelease}
use Rattle.once_machine.specs.declared.step.Ending.{Ending}
use Rattle.once_machine.specs.declared.step.Rest.TheVariants.{Wait as RestWait}
use Rattle.once_machine.specs.declared.step.Step.TheVariants.{Resting, UnderWay}
use Rattle.once_machine.specs.declared.step.Step.{Step}
use Rattle.async_once_cell.specs.Kept.{IsKept, Leaves, Sheet, entries_of, locked, sheets}
use Rattle.async_once_cell.specs.declared.inner.desk.Section.{Section}
use Rattle.async_once_cell.specs.declared.inner.desk.Section.TheVariants.{Stand, Get, Put, Found, Take, ByTable, Rest}
use Rattle.async_once_cell.specs.Inner.Desk.{Desked, IsDesk, behind, desk_sheets, desked}
use Rattle.async_once_cell.specs.Inner.Own.{IsHand, Own, Stayed, Turned, number_in, task_in, told}
use Rattle.async_once_cell.specs.Inner.Page.{call_in, given_in, next_of, queue_of}
use Rattle.async_once_cell.specs.Inner.Places.{CanRest}
use Rattle.async_once_cell.specs.Inner.Sections.{CanNote, IsBoth, IsLoading, IsSection, SectionShows, Tells, desk_put, more_released, own_behind, section_desk, section_hands, section_told}
use Rattle.async_once_cell.proofs.Moments.Mine.{AreOf, all_of, told_of}
use Rattle.async_once_cell.proofs.Moments.Moves.Locked.{again_notes, all, found_notes, get_notes, new_moves, pages_after, rest_notes, stand_notes, take_notes}
use Rattle.async_once_cell.proofs.Moments.Moves.Locked.{section_entries, section_moves, section_next, section_of_t, section_word}
use Rattle.async_once_cell.proofs.Tells.{grew_nothing, moves_tell, notes_tell}

-- a hand that is known to have both pages and a task's
both_is : (log : List Entry) (d : Desked) (t : ℕ) (y : TaskState) (h : Held Sheet) → h ≡ sheets log (locked d.made d.door d.head d.listings t y) → IsBoth log h
both_is log d t y h e = e
    ∙ ap (λ (g : Held Sheet). sheets log (locked (desked g).made (desked g).door (desked g).head (desked g).listings (number_in (behind g)) (task_in (behind g)))) (sym e)

-- a section that only loads leaves the word as it is
loading_word : (seen : List Entry) (d : Desked) (t : ℕ) (x : TaskState) (c : Call ℕ ℕ) → IsLoading c → ◌≡◌ {A = ℕ → ℕ} (section_word seen d t x c) (λ n. n)
loading_word seen d t x (SectionCall q (Release fills)) is = absurd is
loading_word seen d t x _ is = refl

-- and it is a section
loading_section : (c : Call ℕ ℕ) → IsLoading c → IsSection c
loading_section (SectionCall q op) is = tt
loading_section _ is = absurd is

module _ (seen : List Entry) (d : Desked) (t : ℕ) (x : TaskState) where
  -- the hand and the view
  abbrev own : View Entry Sheet
  own = (seen, sheets seen (all seen d t x))

  -- what t knows
  abbrev known : Own
  known = record { number = t; task = x; log = seen }

  -- the two pages say this now, and t, which did this, goes on so
  abbrev Goes : Desked → List Entry → Next ℕ ℕ → View Entry Sheet → Type 0
  Goes e did next w = IsBoth w.0 w.1 × ((desked w.1 ≡ e) × Turned known (record x { step = next.step }) (told t x.kept next did) (own_behind w))

  -- what a step leaves that sets both pages and goes on
  left : (e : Desked) (did : List Entry) (next : Next ℕ ℕ) (w : View Entry Sheet) → AreOf t did
      → Leaves seen (all seen d t x) (pages_after seen d t x e next) (told t x.kept next did) w → Goes e did next w
  left e did next w of l =
      let y : TaskState = record x { step = next.step } in
      let es : List Entry = told t x.kept next did in
      let mine = l.2.1.1.0 ∙ ap (λ m. entries_of t seen ++ m) (all_of t es (told_of t x.kept next did of)) in
      (both_is w.0 e t y w.1 l.0, (ap desked l.0, record { number = ap (λ h. number_in (behind h)) l.0; task = ap (λ h. task_in (behind h)) l.0; log = l.1; mine = mine }))

  -- if nothing is done, both pages and what the task knows stay
  stood : (w : View Entry Sheet) → Leaves seen (all seen d t x) [] [] w → IsBoth w.0 w.1 × ((desked w.1 ≡ d) × Stayed known (own_behind w))
  stood w l = (
    both_is w.0 d t x w.1 l.0,
    (
      ap desked l.0,
      record { number = ap (λ h. number_in (behind h)) l.0; task = ap (λ h. task_in (behind h)) l.0; log = grew_nothing seen t x w.0 l.1; mine = l.2.1.1.0 ∙ append-nil (entries_of t seen) },
    ),
  )

  -- a section is begun
  stand_by : (s : Step ℕ ℕ) → x.step ≡ s → IsSection (call_in s) → Notes IsKept own (Tells Stand own 0)
  stand_by (UnderWay p) at is = notes_tell IsKept own _ _ (λ w r. let s = stood w r.1 in (s.0, (s.1.0, s.1.1, (queue_of (call_at p), r.0)))) (stand_notes seen d t x p is at)
  stand_by _ at is = absurd is

  -- a task at rest comes to its listing
  rest_by : (k : ℕ) (s : Step ℕ ℕ) → x.step ≡ s → CanRest k s → Notes IsKept own (Tells (Rest k) own 0)
  rest_by k (Resting (RestWait q (Some j))) at can = subst (λ k. Notes IsKept own (Tells (Rest k) own 0)) can
      (notes_tell IsKept own _ _ (λ w r. let s = stood w r.1 in (s.0, (s.1.0, s.1.1, r.0))) (rest_notes seen d t x q j at))
  rest_by k _ at can = absurd can

  -- a holder that comes back to the door finds the first queue there
  again_is : (o : Option ℕ) (e : Ending) (w : View Entry Sheet) → o ≡ Some 1 → Goes d [] (next_at (AtRelease 1 e)) w → Goes d [] (after_door_again o e) w
  again_is o e w one r = subst (λ o. Goes d [] (after_door_again o e) w) (sym one) r

  -- what stands at the door is looked at
  get_by : (s : Step ℕ ℕ) → x.step ≡ s → call_in s ≡ DoorGet → Notes IsKept own (λ w. Goes d [] (next_of s x.waker (Got d.door)) w)
  get_by (UnderWay AtDoorGet) at can = notes_tell IsKept own _ _ (λ w r. left d [] (after_door_get d.door) w tt r.1) (get_notes seen d t x at)
  get_by (UnderWay (AtDoorAgain e)) at can = notes_tell IsKept own _ _ (λ w r. again_is d.door e w r.0 (left d [] (next_at (AtRelease 1 e)) w tt r.1)) (again_notes seen d t x e at)
  get_by _ at can = let no : ⊥ = cc in absurd no

  -- a task that would put a queue finds one at the door
  found_by : (o : Option ℕ) (s : Step ℕ ℕ) → d.door ≡ o → is_some o ≡ true → x.step ≡ s → call_in s ≡ DoorPut → Notes IsKept own (λ w. Goes d [] (next_of s x.waker (PutQueue o)) w)
  found_by (Some q) (UnderWay AtDoorPut) e one at can = notes_tell IsKept own _ _ (λ w r. left d [] (next_at (AtCountIn q)) w tt r.1) (found_notes seen d t x q at e)
  found_by (Some q) _ e one at can = let no : ⊥ = cc in absurd no
  found_by None s e one at can = absurd (false≢true one)

  -- the queue is taken out
  take_by : (s : Step ℕ ℕ) → x.step ≡ s → call_in s ≡ DoorTake
      → Notes IsKept own (λ w. IsBoth w.0 w.1 × ((desked w.1 ≡ record d { door = None })
      × ((b : Bool) → Turned known (record x { step = (next_of s x.waker (Taken b)).step }) (told t x.kept (next_of s x.waker (Taken b)) []) (own_behind w)) × (d.head ≡ false) × (d.listings ≡ [])))
  take_by (UnderWay (AtDoorTake e)) at can = notes_tell IsKept own _ _
      (λ w r. let l = left (record d { door = None }) [] (next_end e) w tt r.1 in (l.0, (l.1.0, (λ b. l.1.1), r.0.0, r.0.1))) (take_notes seen d t x e at)
  take_by _ at can = let no : ⊥ = cc in absurd no

  -- a moment that no word marks
  pub note_by : (m : Section) → CanNote m d x.step → Notes IsKept own (Tells m own 0)
  note_by Stand can = stand_by x.step refl can
  note_by Get can = get_by x.step refl can
  note_by Found can = found_by d.door x.step refl can.1 refl can.0
  note_by Take can = take_by x.step refl can
  note_by (Rest k) can = rest_by k x.step refl can
  note_by _ can = absurd can

  -- a queue is put
  put_at : (s : Step ℕ ℕ) → x.step ≡ s → call_in s ≡ DoorPut → d.door ≡ None → Moves IsKept own 1 (λ n. 1) (λ n w. Goes (desk_put d) [] (next_of s x.waker (PutQueue (Some (suc d.made)))) w)
  put_at (UnderWay AtDoorPut) at can none = moves_tell IsKept own 1 (λ n. 1) _ _ (λ n w r. left (desk_put d) [] (next_at (AtCountIn (suc d.made))) w tt r) (new_moves seen d t x at none)
  put_at _ at can none = let no : ⊥ = cc in absurd no

  pub put_by : call_in x.step ≡ DoorPut → d.door ≡ None → Moves IsKept own 1 (λ n. 1) (Tells Put own)
  put_by can none = put_at x.step refl can none

  -- both pages and the task's went on by the table from the step s
  abbrev SectionAt : Bool → Step ℕ ℕ → ℕ → View Entry Sheet → Type 0
  SectionAt room s n w =
      let c : Call ℕ ℕ = call_in s in
      let e : Told ℕ ℕ = section_told room n d c in
      (desked w.1 ≡ section_desk room n d c)
      × Turned known (record x { step = (next_of s x.waker e).step; kept = keeps e (given_in e) x.kept })
      (told t (keeps e (given_in e) x.kept) (next_of s x.waker e) (records e (given_in e) t x.kept (section_hands n d c))) (own_behind w)
      × SectionShows n d c (own_behind w).number w.0

  -- what a section is told is no answer of an init
  section_quiet : (room : Bool) (n : ℕ) (c : Call ℕ ℕ) (next : Next ℕ ℕ) (v : Own) → IsSection c
      → Turned known (record x { step = next.step }) (told t x.kept next (section_entries seen d t x room n c)) v
      → let e : Told ℕ ℕ = section_told room n d c in
      Turned known (record x { step = next.step; kept = keeps e (given_in e) x.kept }) (told t (keeps e (given_in e) x.kept) next (records e (given_in e) t x.kept (section_hands n d c))) v
  section_quiet room n (SectionCall q (Look k)) next v is turned = turned
  section_quiet room n (SectionCall q op) next v is turned = turned
  section_quiet room n _ next v is turned = absurd is

  -- the section of a task's place
  section_at : (room : Bool) (s : Step ℕ ℕ) → x.step ≡ s → IsSection (call_in s)
      → Moves IsKept own 0 (section_word seen d t x (call_in s)) (λ n w. IsBoth w.0 w.1 × SectionAt room s n w)
  section_at room (UnderWay p) at is = moves_tell IsKept own 0 (section_word seen d t x (call_at p)) _ _
      (λ n w r.
      let c : Call ℕ ℕ = call_at p in
      let l = left (section_desk room n d c) (section_entries seen d t x room n c) (section_next seen d t x room n p) w (section_of_t seen d t x room n c) r.1 in
      (l.0, (l.1.0, section_quiet room n c (section_next seen d t x room n p) (own_behind w) is l.1.1, subst (λ u. SectionShows n d c u w.0) (sym l.1.1.number) r.0)))
      (section_moves seen d t x room p at is)
  section_at room _ at is = absurd is

  pub section_by : (room : Bool) → IsSection (call_in x.step) → Moves IsKept own 0 (section_word seen d t x (call_in x.step)) (Tells (ByTable room) own)
  section_by room is = moves_tell IsKept own 0 (section_word seen d t x (call_in x.step)) _ _
      (λ n w r. (r.0, record { desk = r.1.0; went = r.1.1; shows = r.1.2 })) (section_at room x.step refl is)

-- what is shown for both pages and a task's holds of hands that are put together
module _ (seen : List Entry) (desk hand_of : Held Sheet) (is_desk : IsDesk desk) (is_hand : IsHand seen hand_of) where
  -- the two hands together
  together : desk ++ hand_of ≡ sheets seen (all seen (desked desk) (number_in hand_of) (task_in hand_of))
  together = ap (λ g. g ++ hand_of) is_desk ∙ ap (λ g. desk_sheets (desked desk) ++ g) is_hand

  -- a move with both
  of_both : (k : ℕ) (f : ℕ → ℕ) (m : Section) → Moves IsKept (own seen (desked desk) (number_in hand_of) (task_in hand_of)) k f (Tells m (own seen (desked desk) (number_in hand_of) (task_in hand_of)))
      → Moves IsKept (seen, desk ++ hand_of) k f (Tells m (seen, desk ++ hand_of))
  of_both k f m moves = subst (λ g. Moves IsKept (seen, g) k f (Tells m (seen, g))) (sym together) moves

  -- a note
  pub note_keeps : (m : Section) → CanNote m (desked desk) (task_in hand_of).step → Notes IsKept (seen, desk ++ hand_of) (Tells m (seen, desk ++ hand_of) 0)
  note_keeps m can = subst (λ g. Notes IsKept (seen, g) (Tells m (seen, g) 0)) (sym together) (note_by seen (desked desk) (number_in hand_of) (task_in hand_of) m can)

  -- a put
  pub put_keeps : call_in (task_in hand_of).step ≡ DoorPut → (desked desk).door ≡ None → Moves IsKept (seen, desk ++ hand_of) 1 (λ n. 1) (Tells Put (seen, desk ++ hand_of))
  put_keeps at none = of_both 1 (λ n. 1) Put (put_by seen (desked desk) (number_in hand_of) (task_in hand_of) at none)

  -- a section
  section_keeps : (room : Bool) (c : Call ℕ ℕ) → call_in (task_in hand_of).step ≡ c → IsSection c
      → Moves IsKept (seen, desk ++ hand_of) 0 (section_word seen (desked desk) (number_in hand_of) (task_in hand_of) c) (Tells (ByTable room) (seen, desk ++ hand_of))
  section_keeps room c at is =
      subst (λ c. Moves IsKept (seen, desk ++ hand_of) 0 (section_word seen (desked desk) (number_in hand_of) (task_in hand_of) c) (Tells (ByTable room) (seen, desk ++ hand_of))) at
      (of_both 0 (section_word seen (desked desk) (number_in hand_of) (task_in hand_of) (call_in (task_in hand_of).step)) (ByTable room)
      (section_by seen (desked desk) (number_in hand_of) (task_in hand_of) room (subst IsSection (sym at) is)))

  -- one that loads the word
  pub see_keeps : (room : Bool) → IsLoading (call_in (task_in hand_of).step) → Moves IsKept (seen, desk ++ hand_of) 0 (λ n. n) (Tells (ByTable room) (seen, desk ++ hand_of))
  see_keeps room is =
      subst (λ f. Moves IsKept (seen, desk ++ hand_of) 0 f (Tells (ByTable room) (seen, desk ++ hand_of))) (loading_word seen (desked desk) (number_in hand_of) (task_in hand_of) _ is)
      (section_keeps room _ refl (loading_section _ is))

  -- a release
  pub release_keeps : (q : ℕ) (fills : Bool) → call_in (task_in hand_of).step ≡ SectionCall q (Release fills)
      → Moves IsKept (seen, desk ++ hand_of) 0 (λ n. (n + more_released fills (desked desk).head) % 2 ^ 64) (Tells (ByTable true) (seen, desk ++ hand_of))
  release_keeps q fills at = section_keeps true (SectionCall q (Release fills)) at tt
