use Rattle.async_once_cell.proofs.Sections.{release_keeps}
use Rattle.async_once_cell.proofs.inner.desk.mark_release.Goals as goal

pub fetch_add-requires-clause-moves : goal.fetch_add-requires-clause-moves
fetch_add-requires-clause-moves c = rw (c.requires.word.1, c.append.ensures.own.1, c.requires.more) (release_keeps _ _ _ c.requires.desk c.args.hand.now.is_hand _ c.args.ready c.requires.can)
