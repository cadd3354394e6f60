-- Why a line is refused, and for which of its words.
use Rattle.std.specs.Prelude.{if◌then◌else◌, Option, None, Some, Result, Ok, Err}
use Rattle.line_words.specs.declared.misread.Expected.{Expected}
use Rattle.line_words.specs.declared.misread.Expected.TheVariants as expected
use Rattle.line_words.specs.declared.misread.Misread.{Misread}
use Rattle.show_clear.specs.declared.fault.CommandFault.{CommandFault}
use Rattle.show_clear.specs.declared.fault.CommandFault.TheVariants.{Unknown, BadColumn}
use Rattle.show_clear.specs.declared.fault.CommandFault.TheVariants.{BadOperator, BadValue, BadKey}
use Rattle.show_clear.specs.declared.refused.Refused.{Refused}

-- what was read, or why the line is refused
abbrev pub Reading : Type 0 → Type 0
Reading X = Result X Refused

-- the same, with the fault alone
abbrev pub Read : Type 0 → Type 0
Read X = Result X CommandFault

abbrev pub fault_alone : {A : Type 0} → Reading A → Read A
fault_alone (Ok x) = Ok x
fault_alone (Err refused) = Err refused.fault

-- a line is refused for a word
abbrev pub refused_at : CommandFault → Misread → Refused
refused_at fault at = record { fault = fault; at = Some at }

-- it is refused as a whole
abbrev pub unplaced : CommandFault → Refused
unplaced fault = record { fault = fault; at = None }

-- what is wrong with a word that isn't what had to stand there
abbrev pub fault_expecting : Expected → CommandFault
fault_expecting expected.Name = Unknown
fault_expecting expected.Keyword = Unknown
fault_expecting expected.End = Unknown
fault_expecting expected.Number = BadValue
fault_expecting expected.Column = BadColumn
fault_expecting expected.Columns = Unknown
fault_expecting expected.Condition = Unknown
fault_expecting expected.Operator = BadOperator
fault_expecting expected.Key = BadKey
fault_expecting expected.Moment = Unknown
fault_expecting expected.Hexadecimal = Unknown

-- a word that is missing makes the line an unknown one
abbrev pub fault_of : Misread → CommandFault
fault_of at = if at.is_missing then Unknown else fault_expecting at.expected

abbrev pub refused_for : Misread → Refused
refused_for at = refused_at (fault_of at) at

-- what the words give
abbrev pub read_of : {A : Type 0} → Result A Misread → Reading A
read_of (Ok x) = Ok x
read_of (Err at) = Err (refused_for at)

-- a value that the word has to say
abbrev pub or_refused : {A : Type 0} → Refused → Option A → Reading A
or_refused refused None = Err refused
or_refused refused (Some x) = Ok x
