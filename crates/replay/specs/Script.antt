-- What a script prints: a configuration, a line `start`, and the lines of a run.
use Rattle.std.specs.Prelude.{◌≡◌, ◌≢◌, ◌⊎◌, ℕ, ◌+◌, Bool, false, List}
use Rattle.std.specs.Prelude.{[], ◌∷◌, ◌++◌, codes, length, take, drop, position, slice_index_or}
use Rattle.std.specs.Prelude.{Option, None, Some}
use Rattle.std.specs.Fmt.{decimal}
use Rattle.std.specs.Result.{result_ok}
use Rattle.std.specs.Str.{bytes_eq}
use Rattle.agg_types.specs.declared.config.Config.{Config}
use Rattle.agg_config.specs.Reading.{IsFirstFault, Write, fault_line}
use Rattle.agg_config.specs.declared.causes.LineCause.TheVariants as cause
use Rattle.agg_config.specs.declared.causes.LineFault.{LineFault}
use Rattle.line_words.specs.Reader.{◌>>=◌, Left, left_of, word}
use Rattle.line_words.specs.Words.{lines_of, words}
use Rattle.line_words.specs.declared.misread.Expected.TheVariants.{Keyword}
use Rattle.replay.specs.Meaning.{last_moment}
use Rattle.replay.specs.Runs.{Prints}
use Rattle.replay.specs.Writing.{Wrote, WroteFront}
use Rattle.replay.specs.declared.ending.Ending.{Ending}
use Rattle.replay.specs.declared.ending.Ending.TheVariants.{BadConfiguration, BadScript, Failed}

-- whether the first of these words is `start`
abbrev pub begins_with_start : List (List ℕ) → Bool
begins_with_start [] = false
begins_with_start (first ∷ words) = bytes_eq first (codes "start")

abbrev pub is_start : List ℕ → Bool
is_start line = begins_with_start (words line)

-- the opening moment that a line says, if behind its first word is but one of at most LAST_MOMENT
abbrev pub opening_of : Left → Option ℕ
opening_of left = result_ok (word Keyword left >>= λ first. last_moment first.1)

-- what is printed, or nothing where an allocation failed before the fleet was open
abbrev pub OrNothing : (List ℕ → Ending → Type 0) → List ℕ → Ending → Type 0
OrNothing Says text ending = Says text ending ⊎ ((text ≡ []) × (ending ≡ Failed))

-- a line `start` that says no opening moment, or that isn't there
abbrev pub BadStart : ℕ → List ℕ → Ending → Type 0
BadStart number text ending =
    (text ≡ codes "script line " ++ decimal number ++ codes ": start\n") × (ending ≡ BadScript)

-- a faulty line of the configuration
abbrev pub BadLine : LineFault → List ℕ → Ending → Type 0
BadLine fault text ending =
    (fault.cause ≢ cause.NoMemory)
    × (text ≡ fault_line fault ++ codes "\n") × (ending ≡ BadConfiguration)

-- the first fault of a configuration's lines, or what goes on with what they write
abbrev pub Configures : List (List ℕ) → (Config → List ℕ → Ending → Type 0)
    → List ℕ → Ending → Type 0
Configures lines GoesOn text ending =
    ((fault : LineFault) × IsFirstFault lines fault × BadLine fault text ending)
    ⊎ ((config : Config) × Write lines config × GoesOn config text ending)

-- what lines print where this many stand before `start`, which says this moment
abbrev pub OpensAt : List (List ℕ) → ℕ → Option ℕ → List ℕ → Ending → Type 0
OpensAt lines before None text ending = BadStart (before + 1) text ending
OpensAt lines before (Some opening) text ending =
    Configures (take before lines)
    (λ config. Prints config opening (drop (before + 1) lines) [] (before + 2)) text ending

abbrev pub StartsAt : List (List ℕ) → Option ℕ → List ℕ → Ending → Type 0
StartsAt lines None text ending = BadStart (length lines + 1) text ending
StartsAt lines (Some before) text ending =
    OpensAt lines before (opening_of (left_of (slice_index_or lines before []))) text ending

-- what a script prints, and how its replay ends: its first line `start` is looked for, then its
-- configuration is read, then its lines are done
abbrev pub ScriptPrints : List ℕ → List ℕ → Ending → Type 0
ScriptPrints script =
    OrNothing (StartsAt (lines_of script) (position is_start (lines_of script)))

-- a script was replayed whole, or a read or a write failed: then a beginning was written
abbrev pub IsReplayed : List ℕ → Option (List ℕ) → Option (List ℕ) → Ending → Type 0
IsReplayed script before after ending =
    Wrote (ScriptPrints script) before after ending
    ⊎ (WroteFront (ScriptPrints script) before after × (ending ≡ Failed))
