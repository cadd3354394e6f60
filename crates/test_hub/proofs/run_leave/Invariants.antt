use Rattle.test_hub.proofs.run_leave.Given as goal

-- the log that was just opened
abbrev pub ghosts-leave_full : goal.ghosts-leave_full
ghosts-leave_full g a = record { book = a.opening.of }
