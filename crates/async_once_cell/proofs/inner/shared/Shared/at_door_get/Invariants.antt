use Rattle.async_once_cell.proofs.inner.shared.Shared.at_door_get.Given as goal

abbrev pub ghosts-lock_at_door_get : goal.ghosts-lock_at_door_get
ghosts-lock_at_door_get g a = record { key = a.self.now.desk }
