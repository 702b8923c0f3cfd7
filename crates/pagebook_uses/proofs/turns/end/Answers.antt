use Rattle.std.proofs.Common.{sym, ◌∙◌, ◌++◌}
use Rattle.pagebook_uses.proofs.Rally.Steps.{ends}
use Rattle.pagebook_uses.proofs.turns.end.Goals as goal

-- the first player's pen comes first in the hand, and the other's behind it
pub note-requires-clause-notes : goal.note-requires-clause-notes
note-requires-clause-notes c =
    let first = c.args.pinger in
    let second = c.args.ponger in
    ends first.seen.log c.append.new.self.held first.hits second.hits
    (sym (c.append.ensures.own.1 ∙ λ j. first.held j ++ second.held j))
