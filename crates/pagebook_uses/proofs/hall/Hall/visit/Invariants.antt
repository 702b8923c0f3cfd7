use Rattle.pagebook_uses.proofs.hall.Hall.visit.Given as goal

-- the hall's book
abbrev pub ghosts-visit_as : goal.ghosts-visit_as
ghosts-visit_as g a = record { key = a.hall.now.desk }
