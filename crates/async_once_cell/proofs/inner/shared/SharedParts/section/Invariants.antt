use Rattle.async_once_cell.proofs.inner.shared.SharedParts.section.Given as goal

abbrev pub ghosts-lock_and_enter : goal.ghosts-lock_and_enter
ghosts-lock_and_enter g a = record { key = a.self.now.desk }
