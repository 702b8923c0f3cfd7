use Rattle.machine_tests.proofs.book_uses.a_lock_keeps_its_book_and_shows_its_content.Given as goal

-- the lock's own book
abbrev pub ghosts-add : goal.ghosts-add
ghosts-add g a = record { key = a.lock.now }

abbrev pub ghosts-shown_held : goal.ghosts-shown_held
ghosts-shown_held g a = record { key = a.lock.now }
