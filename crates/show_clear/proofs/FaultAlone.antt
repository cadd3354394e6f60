-- What a line says, with the fault alone.
use Rattle.std.proofs.Common.{◌≡◌, Bool, true, false, cond, ltb, List, ℕ, length, Ok, Err, refl}
use Rattle.std.proofs.Common.{ap, ◌∙◌}
use Rattle.agg_types.specs.declared.limits.TheConstants.{LONGEST_COMMAND_LINE}
use Rattle.fleet_model.specs.State.{State}
use Rattle.line_words.specs.Reader.{left_of}
use Rattle.line_words.specs.Words.{words}
use Rattle.show_clear.specs.Parse.{Says, Tells, asked, command_in, command_of, reading_of}
use Rattle.show_clear.specs.Parse.{without_returns}
use Rattle.show_clear.specs.Refused.{Reading, fault_alone, unplaced}
use Rattle.show_clear.specs.declared.command.Command.{Command}
use Rattle.show_clear.specs.declared.fault.CommandFault.TheVariants.{Unknown}

alone : (state : State) (line : List ℕ)
    → command_of state line ≡ fault_alone (reading_of state line)
alone state line = by (ltb LONGEST_COMMAND_LINE (length (without_returns line)))
  where
    by : (long : Bool) → cond long (Err Unknown) (asked state (words (without_returns line)))
        ≡ fault_alone (cond long (Err (unplaced Unknown))
        (command_in state (left_of (without_returns line))))
    by true = refl
    by false = refl

pub told_alone : (state : State) (line : List ℕ) (told : Reading Command)
    → Says (reading_of state line) told → Tells (command_of state line) (fault_alone told)
told_alone state line (Ok command) says = alone state line ∙ ap fault_alone says
told_alone state line (Err refused) says =
    λ real. alone state line ∙ ap fault_alone (says real)
