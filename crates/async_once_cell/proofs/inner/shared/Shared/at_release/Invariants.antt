use Rattle.async_once_cell.proofs.inner.shared.Shared.at_release.Given as goal

abbrev pub ghosts-lock_at_release : goal.ghosts-lock_at_release
ghosts-lock_at_release g a = record { key = a.self.now.desk }
