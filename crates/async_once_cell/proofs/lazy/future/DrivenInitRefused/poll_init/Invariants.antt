use Rattle.async_once_cell.proofs.lazy.future.DrivenInitRefused.poll_init.Given as goal

-- the key of the lock in which the cell keeps its future
abbrev pub ghosts-take_out : goal.ghosts-take_out
ghosts-take_out g a = record { key = a.self.now.future.now }

abbrev pub ghosts-put_back : goal.ghosts-put_back
ghosts-put_back g a = record { key = a.self.now.future.now }
