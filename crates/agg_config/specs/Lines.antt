-- A configuration that is read, or judged, line by line.
use Rattle.std.specs.Prelude.{◌≡◌, ◌≢◌, ℕ, ◌+◌, Bool, List, ◌++◌, length, Option, None, Some}
use Rattle.std.specs.Prelude.{Result, Ok, Err}
use Rattle.agg_types.specs.declared.config.Config.{Config}
use Rattle.agg_config.specs.Reading.{AreSound, IsFirstFault, Write, is_named, written}
use Rattle.agg_config.specs.declared.causes.LineCause.TheVariants.{NoMemory}
use Rattle.agg_config.specs.declared.causes.LineFault.{LineFault}
use Rattle.agg_config.specs.declared.checker.Checker.{Checker}
use Rattle.agg_config.specs.declared.reader.Reader.{Reader}

-- so many lines, without a fault, write this configuration; one of them gives it its name or not
pub record AreWritten (lines : List (List ℕ)) (config : Config) (named : Bool) (count : ℕ)
    : Type 0 where
  pub sound : AreSound lines (length lines)
  pub whole : config ≡ written lines
  pub told : named ≡ is_named lines
  pub counted : count ≡ length lines

-- what is kept of lines: what they write, or a fault that they have whatever lines follow them
abbrev pub ReadSoFar : Config → Bool → ℕ → List (List ℕ) → Option LineFault → Type 0
ReadSoFar config named count lines None = AreWritten lines config named count
ReadSoFar config named count lines (Some fault) =
    (later : List (List ℕ)) → IsFirstFault (lines ++ later) fault

-- a reader has read these lines, one after the other
abbrev pub HasRead : Reader → List (List ℕ) → Type 0
HasRead reader lines = ReadSoFar reader.config reader.named reader.count lines reader.fault

-- how many lines a reader has read up to the first faulty one
abbrev pub lines_read : Reader → ℕ
lines_read reader = reader.count

-- the lines write a configuration, or have a fault
abbrev pub Finishes : List (List ℕ) → Result Config LineFault → Type 0
Finishes lines (Ok config) = Write lines config
Finishes lines (Err fault) = IsFirstFault lines fault

-- a checker has judged these lines, one after the other, none of them faulty
abbrev pub HasJudged : Checker → List (List ℕ) → Type 0
HasJudged checker lines = AreWritten lines checker.config checker.named checker.count

-- how many lines a checker has judged
abbrev pub lines_judged : Checker → ℕ
lines_judged checker = checker.count

-- the lines write a configuration, or lack a name, which is a fault behind the last
abbrev pub Ends : List (List ℕ) → Option LineFault → Type 0
Ends lines None = (config : Config) × Write lines config
Ends lines (Some fault) =
    IsFirstFault lines fault × (fault.line ≡ length lines + 1) × (fault.cause ≢ NoMemory)
