use Rattle.test_serve.proofs.run.Given as goal

-- the log that was just opened
abbrev pub ghosts-stage_held : goal.ghosts-stage_held
ghosts-stage_held g a = record { book = a.opening.of }

abbrev pub ghosts-stage_all : goal.ghosts-stage_all
ghosts-stage_all g a = record { book = a.opening.of }
