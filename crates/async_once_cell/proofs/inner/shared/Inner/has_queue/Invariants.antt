use Rattle.async_once_cell.proofs.inner.shared.Inner.has_queue.Given as goal

abbrev pub ghosts-stands : goal.ghosts-stands
ghosts-stands g a = record { key = a.self.now.desk }
