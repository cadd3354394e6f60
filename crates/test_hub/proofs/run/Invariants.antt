use Rattle.test_hub.proofs.run.Given as goal

-- the logs that were just opened
abbrev pub ghosts-run_alone : goal.ghosts-run_alone
ghosts-run_alone g a = record { book = a.opening.of }

abbrev pub ghosts-late : goal.ghosts-late
ghosts-late g a = record { book = a.opening.of }

abbrev pub ghosts-follow : goal.ghosts-follow
ghosts-follow g a = record { book = a.opening.of }

abbrev pub ghosts-stage : goal.ghosts-stage
ghosts-stage g a = record { book = a.opening.of }

abbrev pub ghosts-add_twice : goal.ghosts-add_twice
ghosts-add_twice g a = record { book = a.opening.of }

abbrev pub ghosts-stage-2 : goal.ghosts-stage-2
ghosts-stage-2 g a = record { book = a.opening.of }
