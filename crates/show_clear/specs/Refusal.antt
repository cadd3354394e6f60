-- The texts of refusals.
use Rattle.std.specs.Prelude.{ℕ, List, ◌++◌, codes}
use Rattle.std.specs.Fmt.{decimal}
use Rattle.show_clear.specs.declared.fault.CommandFault.{CommandFault}
use Rattle.show_clear.specs.declared.fault.CommandFault.TheVariants.{Empty, Unknown, NoTable}
use Rattle.show_clear.specs.declared.fault.CommandFault.TheVariants.{BadColumn, BadOperator}
use Rattle.show_clear.specs.declared.fault.CommandFault.TheVariants.{BadValue, BadKey, TooMany}
use Rattle.show_clear.specs.declared.fault.CommandFault.TheVariants.{NoMemory, BadName, Exists}
use Rattle.show_clear.specs.declared.fault.CommandFault.TheVariants.{Full}

-- the numbers and names of faults
abbrev pub fault_entry : CommandFault → ℕ × List ℕ
fault_entry Empty = (1, codes "Empty")
fault_entry Unknown = (2, codes "Unknown")
fault_entry NoTable = (3, codes "NoTable")
fault_entry BadColumn = (4, codes "BadColumn")
fault_entry BadOperator = (5, codes "BadOperator")
fault_entry BadValue = (6, codes "BadValue")
fault_entry BadKey = (7, codes "BadKey")
fault_entry TooMany = (8, codes "TooMany")
fault_entry NoMemory = (9, codes "NoMemory")
fault_entry BadName = (10, codes "BadName")
fault_entry Exists = (11, codes "Exists")
fault_entry Full = (12, codes "Full")

abbrev pub fault_number : CommandFault → ℕ
fault_number fault = (fault_entry fault).0

abbrev pub fault_name : CommandFault → List ℕ
fault_name fault = (fault_entry fault).1

-- a fault's number and name on a line
abbrev pub refusal_text : CommandFault → List ℕ
refusal_text fault =
    codes "refused " ++ decimal (fault_number fault) ++ codes " " ++ fault_name fault ++ codes "\n"
