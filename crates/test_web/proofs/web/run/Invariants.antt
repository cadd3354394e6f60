use Rattle.test_web.proofs.web.run.Given as goal

-- the logs that were just opened
abbrev pub ghosts-show : goal.ghosts-show
ghosts-show g a = record { book = a.opening.of }

abbrev pub ghosts-follow : goal.ghosts-follow
ghosts-follow g a = record { book = a.opening.of }
