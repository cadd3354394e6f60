use Rattle.test_hub.proofs.run_again.Given as goal

-- the log that was just opened
abbrev pub ghosts-opened : goal.ghosts-opened
ghosts-opened g a = record { book = a.opening.of }
