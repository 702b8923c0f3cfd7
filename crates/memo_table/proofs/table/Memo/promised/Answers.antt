use Rattle.std.proofs.Common.{◌≡◌, ◌≢◌, ◌↔◌, ℕ, Bool, true, false, cond, List, [], ◌∷◌, ◌++◌, Option, Some, IfSome, IsSome, Contains, slice_index_or, inl, inr, refl, sym, subst, ◌∙◌, arith}
use Rattle.std.proofs.lemmas.Bool.{eqb-true, eq-eqb}
use Rattle.std.proofs.lemmas.List.Elements.{Contains-append_left, Contains-append_right, Contains-append_cases}
use Rattle.std.specs.BTreeMap.{is_at}
use Rattle.std.specs.Cmp.{unsigned_tied}
use Rattle.std.specs.Ordering.{nat_cmp}
use Rattle.async_once_cell.specs.Views.{CellView}
use Rattle.memo_table.specs.Memo.{IsAbout}
use Rattle.memo_table.proofs.table.Memo.promised.Goals as goal

only_key : (key q : ℕ) → Contains (key ∷ []) q → key ≡ q
only_key key q has =
    let first : has.0 ≡ 0 = omega (arith, has.1) in
    subst (λ k. slice_index_or (key ∷ []) k q ≡ q) first has.2

other_key : (key q : ℕ) → is_at (nat_cmp key) q ≡ false → key ≢ q
other_key key q other same = let tied = unsigned_tied key q in let equal = eq-eqb key q same in cc

-- what a table finds at q after it took a key, against the list with that key at its end
has_one_more : {C : Type 0} (found : Option C) (keys : List ℕ) (cell : C) (key q : ℕ) (b : Bool) → is_at (nat_cmp key) q ≡ b
    → IsSome found ↔ Contains keys q → IsSome (cond b (Some cell) found) ↔ Contains (keys ++ key ∷ []) q
has_one_more found keys cell key q true is had =
    let same = eqb-true key q (sym (unsigned_tied key q) ∙ is) in
    (λ _. Contains-append_right keys (key ∷ []) q (0, omega arith, same), λ _. refl)
has_one_more found keys cell key q false is had = (
  λ some. Contains-append_left keys (key ∷ []) q (had.0 some),
  λ has. elim (Contains-append_cases keys (key ∷ []) q has) [
    | inl before ↦ had.1 before
    | inr last ↦ absurd (other_key key q is (only_key key q last))
  ],
)

-- what a cell of a table promises that took one more key
about_one_more : {T : Type 0} (found : Option (CellView T)) (cell : CellView T) (key q : ℕ) (b : Bool) → is_at (nat_cmp key) q ≡ b
    → IsAbout key cell → IfSome found (IsAbout q) → IfSome (cond b (Some cell) found) (IsAbout q)
about_one_more found cell key q true is about had =
    subst (λ k. IsAbout k cell) (eqb-true key q (sym (unsigned_tied key q) ∙ is)) about
about_one_more found cell key q false is about had = had

pub loop-key-preserved-then-not-contains_key : goal.loop-key-preserved-then-not-contains_key
loop-key-preserved-then-not-contains_key g c = (
  λ q. rw (c.in_ok-insert.ensures.updates.0 q) (has_one_more _ _ _ _ q _ refl (c.loop-key.invariant.0 q)),
  λ q. rw (c.in_ok-insert.ensures.updates.0 q)
      (about_one_more _ _ _ q _ refl (c.promised.ensures.shared, c.promised.ensures.about ∙ c.of.ensures) (c.loop-key.invariant.1 q)),
)
