-- All that is wrong with a configuration.
use Rattle.std.specs.Prelude.{◌≡◌, ◌≢◌, ℕ, ◌≤◌, ◌<◌, ◌-◌, List, [], ◌∷◌, length, slice_set}
use Rattle.agg_types.specs.declared.config.Config.{Config}
use Rattle.agg_config.specs.Reading.{IsFirstFault, Write}
use Rattle.agg_config.specs.declared.causes.LineCause.TheVariants as cause
use Rattle.agg_config.specs.declared.causes.LineFault.{LineFault}

-- the lines, with this one left blank; they are counted from 1
abbrev pub without : ℕ → List (List ℕ) → List (List ℕ)
without line lines = slice_set lines (line - 1) []

-- these are the faults of the lines: the first, and those that are left once its line is left
-- blank. One behind the last line, that there is no name, is the last
abbrev pub AreFaults : List (List ℕ) → List LineFault → Type 0
AreFaults lines [] = (config : Config) × Write lines config
AreFaults lines (fault ∷ others) = IsFirstFault lines fault × (fault.cause ≢ cause.NoMemory)
    × (fault.line ≤ length lines → AreFaults (without fault.line lines) others)
    × (length lines < fault.line → others ≡ [])
