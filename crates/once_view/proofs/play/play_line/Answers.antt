use Rattle.once_view.proofs.play.play_line.Goals as goal

pub take_line-requires : goal.take_line-requires
take_line-requires g c = c.requires
