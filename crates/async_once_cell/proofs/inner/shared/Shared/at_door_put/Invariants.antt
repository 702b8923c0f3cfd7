use Rattle.async_once_cell.proofs.inner.shared.Shared.at_door_put.Given as goal

abbrev pub ghosts-lock_at_door_put : goal.ghosts-lock_at_door_put
ghosts-lock_at_door_put g a = record { key = a.self.now.desk }
