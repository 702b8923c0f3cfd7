-- What is shown of two records is shown of what the tokens show of them.
use Rattle.std.proofs.Common.{◌≡◌, ◌⊎◌, List, sym, ap, ◌∙◌, subst}
use mathlib.Core.List.{IsPrefix}
use Rattle.once_machine.specs.Record.{Entry}
use Rattle.async_once_cell.specs.Views.{TokenView, log_of}
use Rattle.async_once_cell.proofs.once.known.Known.compare_records.Goals as goal

pub returns-in-Shared-Shared-clause-begins : goal.returns-in-Shared-Shared-clause-begins
returns-in-Shared-Shared-clause-begins g c =
    let one : c.in-Shared-Shared.one.log ≡ c.args.a.now.log = sym (ap log_of c.in-Shared-Shared.is-0) ∙ ap (λ (k : TokenView g.row.T.Denot). k.log) c.a.view_is in
    let other : c.in-Shared-Shared.other.log ≡ c.args.b.now.log = sym (ap log_of c.in-Shared-Shared.is-1) ∙ ap (λ (k : TokenView g.row.T.Denot). k.log) c.b.view_is in
    subst (λ (l : List Entry). IsPrefix l c.args.b.now.log ⊎ IsPrefix c.args.b.now.log l) one
    (subst (λ (l : List Entry). IsPrefix c.in-Shared-Shared.one.log l ⊎ IsPrefix l c.in-Shared-Shared.one.log) other c.agrees.ensures)
