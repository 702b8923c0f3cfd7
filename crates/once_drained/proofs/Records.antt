-- One more entry, and which tasks were made and woken.
use Rattle.std.proofs.Common.{◌≡◌, ℕ, Bool, true, false, cond, ◌==◌, List, [], ◌∷◌, ◌++◌, Option, Some, None, refl, sym, ap, ◌∙◌, subst}
use Rattle.std.specs.Prelude.{◌||◌, nat_eq}
use Rattle.std.specs.List.{list_any}
use Rattle.std.specs.Option.{is_some}
use Rattle.std.proofs.lemmas.Bool.{false≢true}
use Rattle.once_machine.specs.Numbers.{member}
use Rattle.once_machine.specs.Record.{Entry, Made, handed_by, made_in}
use Rattle.once_machine.specs.Wakers.{handed_since, is_end_of}
use Rattle.once_machine.proofs.Listing.Members.{member-append, member-push}
use Rattle.once_drained.specs.Turn.{made_by}

-- tests one after the other
or_cond : (a b : Bool) → (a || b) ≡ cond a true b
or_cond true b = refl
or_cond false b = refl

or_swap : (a b : Bool) → cond a true b ≡ (b || a)
or_swap true true = refl
or_swap true false = refl
or_swap false true = refl
or_swap false false = refl

neither : (a b : Bool) → cond a true b ≡ false → (a ≡ false) × (b ≡ false)
neither true b e = absurd (false≢true (sym e))
neither false b e = (refl, e)

same_task : (k u : ℕ) → ◌≡◌ {A = Option ℕ} (Some k) (Some u) → k ≡ u
same_task k u e = cc

-- an entry that makes a task
pub made_some : (t k : ℕ) (e : Entry) (before : List Entry) (ts us : List ℕ) → Some k ≡ made_by e → us ≡ ts ++ k ∷ []
    → (member t ts ≡ false → member t (made_in before) ≡ false) → member t us ≡ false → member t (made_in (e ∷ before)) ≡ false
made_some t k (Made u) before ts us e s each m =
    let out = neither (member t ts) (k == t) (sym (member-push t k ts) ∙ ap (member t) (sym s) ∙ m) in
    let other : (u == t) ≡ false = subst (λ v. (v == t) ≡ false) (same_task k u e) out.1 in
    rw other (each out.0)
made_some t k _ before ts us e s each m = absurd (false≢true (sym (ap is_some e)))

-- and one that makes none
pub made_none : (t : ℕ) (e : Entry) (before : List Entry) → None ≡ made_by e → member t (made_in before) ≡ false → member t (made_in (e ∷ before)) ≡ false
made_none t (Made u) before e m = absurd (false≢true (ap is_some e))
made_none t _ before e m = m

-- a number stands in a list if a test finds it there
pub any_member : (w : ℕ) (ws : List ℕ) → list_any (λ y. nat_eq y w) ws ≡ member w ws
any_member w [] = refl
any_member w (x ∷ ws) = or_cond (nat_eq x w) (list_any (λ y. nat_eq y w) ws) ∙ ap (λ b. cond (nat_eq x w) true b) (any_member w ws)

handed_by_end : (w : ℕ) (b : Bool) (xs ys : List ℕ) → member w (cond b [] (xs ++ ys)) ≡ cond b false (member w ys || member w xs)
handed_by_end w true xs ys = refl
handed_by_end w false xs ys = member-append w xs ys ∙ or_swap (member w xs) (member w ys)

-- whether a waker was handed out since the last poll of t ended, after one more entry
pub handed_more : (w t : ℕ) (e : Entry) (h : List Entry)
    → member w (handed_since t (e ∷ h)) ≡ cond (is_end_of t e) false (member w (handed_since t h) || member w (handed_by e))
handed_more w t e h = handed_by_end w (is_end_of t e) (handed_by e) (handed_since t h)
