use Rattle.pagebook.proofs.lock.KeyedMutexDebug.fmt.Given as goal

-- the lock's own key
abbrev pub ghosts-shown : goal.ghosts-shown
ghosts-shown g a = record { key = a.lock.now }
