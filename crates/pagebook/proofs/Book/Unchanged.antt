-- A load that changes nothing keeps any rule.
use Rattle.std.proofs.Common.{◌≡◌, ℕ, List, [], ◌++◌, set, sym, subst, append-nil}
use Rattle.pagebook.specs.Pages.{Moves, Sure}
use Rattle.pagebook.proofs.Rows.{set_found}

-- if the rule says what is found, the load tells it
pub load_keeps : {E P : Type 0} (holds : List ℕ → List P → List E → Type 0) (log : List E) (k m : ℕ)
    → Sure holds log k m → Moves holds (log, []) k (λ n. n) (λ n u. n ≡ m)
load_keeps {E} {P} holds seen k m sure = record {
  goes = λ ns n ps log so at pre ag.
      let longer : holds ns ps (log ++ []) = subst (λ (l : List E). holds ns ps l) (sym (append-nil log)) so in
      let still : holds (set ns k n) ps (log ++ []) =
      subst (λ (ms : List ℕ). holds ms ps (log ++ [])) (sym (set_found ns k n at)) longer in
      ([], [], [], still, sure.is ns n ps log so at pre);
}
