use Rattle.async_once_cell.proofs.inner.shared.SharedParts.door_take.Given as goal

abbrev pub ghosts-lock_and_take : goal.ghosts-lock_and_take
ghosts-lock_and_take g a = record { key = a.self.now.desk }
