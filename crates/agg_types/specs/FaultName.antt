-- How the faults of a configuration are named.
use Rattle.std.specs.Prelude.{ℕ, List, codes}
use Rattle.agg_types.specs.declared.check.ConfigFault.{ConfigFault}
use Rattle.agg_types.specs.declared.check.ConfigFault.TheVariants.{Duplicate, TooMany, UnknownTable}
use Rattle.agg_types.specs.declared.check.ConfigFault.TheVariants.{UnknownColumn, BadPeriod}
use Rattle.agg_types.specs.declared.check.ConfigFault.TheVariants.{BadSize, BadName, UnknownFilter}

-- a fault's name
abbrev pub config_fault_name : ConfigFault → List ℕ
config_fault_name Duplicate = codes "Duplicate"
config_fault_name TooMany = codes "TooMany"
config_fault_name UnknownTable = codes "UnknownTable"
config_fault_name UnknownColumn = codes "UnknownColumn"
config_fault_name BadPeriod = codes "BadPeriod"
config_fault_name BadSize = codes "BadSize"
config_fault_name BadName = codes "BadName"
config_fault_name UnknownFilter = codes "UnknownFilter"
