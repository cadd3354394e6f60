-- The exit status of each way in which a replay ends.
use Rattle.std.specs.Prelude.{ℕ}
use Rattle.replay.specs.declared.ending.Ending.{Ending}
use Rattle.replay.specs.declared.ending.Ending.TheVariants.{Done, BadConfiguration, BadScript}
use Rattle.replay.specs.declared.ending.Ending.TheVariants.{Failed}

abbrev pub status_of : Ending → ℕ
status_of Done = 0
status_of BadConfiguration = 3
status_of BadScript = 4
status_of Failed = 5
