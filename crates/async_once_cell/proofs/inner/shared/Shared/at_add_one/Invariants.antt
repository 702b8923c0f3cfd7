use Rattle.async_once_cell.proofs.inner.shared.Shared.at_add_one.Given as goal

abbrev pub ghosts-lock_at_add_one : goal.ghosts-lock_at_add_one
ghosts-lock_at_add_one g a = record { key = a.self.now.desk }
