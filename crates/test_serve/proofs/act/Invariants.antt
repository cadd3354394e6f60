use Rattle.test_serve.proofs.act.Given as goal

-- the log that was just opened
abbrev pub ghosts-stage : goal.ghosts-stage
ghosts-stage g a = record { book = a.opening.of }
