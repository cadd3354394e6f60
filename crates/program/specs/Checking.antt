-- All that is wrong with a configuration, as it is told.
use Rattle.std.specs.Prelude.{ℕ, List, [], ◌∷◌, codes}
use Rattle.std.specs.List.{flat_map}
use Rattle.agg_config.specs.declared.causes.LineFault.{LineFault}
use Rattle.program.specs.Faults.{line_text}

-- a line for each fault
abbrev pub faults_text : List LineFault → List ℕ
faults_text faults = flat_map line_text faults

-- what is told of them
abbrev pub checked_text : List LineFault → List ℕ
checked_text [] = codes "ok\n"
checked_text (fault ∷ others) = faults_text (fault ∷ others)

-- the exit status
abbrev pub checked_status : List LineFault → ℕ
checked_status [] = 0
checked_status (fault ∷ others) = 3
