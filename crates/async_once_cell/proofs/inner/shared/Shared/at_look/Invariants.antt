use Rattle.async_once_cell.proofs.inner.shared.Shared.at_look.Given as goal

abbrev pub ghosts-lock_at_look : goal.ghosts-lock_at_look
ghosts-lock_at_look g a = record { key = a.self.now.desk }
