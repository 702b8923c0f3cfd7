use Rattle.async_once_cell.proofs.inner.shared.SharedParts.door_put.Given as goal

abbrev pub ghosts-lock_and_put : goal.ghosts-lock_and_put
ghosts-lock_and_put g a = record { key = a.self.now.desk }
