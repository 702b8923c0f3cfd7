use Rattle.std.proofs.Common.{sym, ◌∙◌, ◌++◌}
use Rattle.pagebook_uses.proofs.Medal.Steps.{clashes}
use Rattle.pagebook_uses.proofs.first.never_both.Goals as goal

pub note-requires-clause-notes : goal.note-requires-clause-notes
note-requires-clause-notes c =
    let first = c.args.first in
    let second = c.args.second in
    clashes first.seen.log c.append.new.self.held
    (sym (c.append.ensures.own.1 ∙ λ j. first.held_is j ++ second.held_is j))
