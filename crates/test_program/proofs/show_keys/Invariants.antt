use Rattle.test_program.proofs.show_keys.Given as goal

-- the log that was just opened
abbrev pub ghosts-show : goal.ghosts-show
ghosts-show g a = record { book = a.opening.of }
