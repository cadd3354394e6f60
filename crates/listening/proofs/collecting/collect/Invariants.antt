use Rattle.listening.proofs.collecting.collect.Given as goal

-- the log that was just opened
abbrev pub ghosts-serve : goal.ghosts-serve
ghosts-serve g a = record { book = a.opening.of }
