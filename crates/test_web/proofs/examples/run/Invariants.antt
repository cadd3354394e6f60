use Rattle.test_web.proofs.examples.run.Given as goal

-- the log that was just opened
abbrev pub ghosts-share : goal.ghosts-share
ghosts-share g a = record { book = a.opening.of }
