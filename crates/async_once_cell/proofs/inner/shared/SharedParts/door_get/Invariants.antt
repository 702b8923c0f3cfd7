use Rattle.async_once_cell.proofs.inner.shared.SharedParts.door_get.Given as goal

abbrev pub ghosts-lock_and_get : goal.ghosts-lock_and_get
ghosts-lock_and_get g a = record { key = a.self.now.desk }
