-- From what clap's matches tell to what the words ask for.
use Rattle.std.proofs.Common.{◌≡◌, ◌∙◌, true, List, [], Option, None, Some, option_map, ap, sym}
use Rattle.std.proofs.Common.{subst, inl, inr}
use Rattle.std.specs.Prelude.{Box, IfErr, IsErrAnd, Result, Ok, Err}
use Rattle.std.specs.Box.{box_value}
use Rattle.clap.specs.Words.{App, HasMatchesOf, Row, Text, fault_of, is_simple, is_simple_and_free}
use Rattle.clap.specs.Words.{HasKind, IsAmong, kind_of, subcommand_of, subcommand_rows_of}
use Rattle.clap.specs.declared.error.Error.{Error}
use Rattle.command_line.specs.Status.{IsUsageOf}
use Rattle.clap.specs.Simple.{subcommand_rows}
use Rattle.clap.specs.declared.parser.matches.ArgMatches.{ArgMatches}
use Rattle.clap.specs.declared.parser.matches.ArgMatches.TheViews.{out-SubCommand}
use Rattle.clap.specs.declared.parser.matches.SubCommand.{SubCommand}
use Rattle.command_line.specs.Asked.{IsNoJob, IsRefused, SaysNoAddress, SaysNoAdmin, SaysNoChoice}
use Rattle.command_line.specs.Asked.{SaysNoHost, SaysTwoFiles, program}
use Rattle.command_line.specs.declared.usage.Usage.{Usage}
use Rattle.command_line.specs.declared.usage.Usage.TheVariants.{Words, BadAddress, NoAdmin}
use Rattle.command_line.specs.declared.usage.Usage.TheVariants.{BadUnknownPeers, BadHost, TwoFiles}
use Rattle.command_line.specs.declared.usage.Usage.TheVariants.{NoMemory}
use Rattle.command_line.proofs.Commands.{EntersCommand, is_plain, is_read}

module _ {Z : Type 0} where
  -- a subcommand's name and rows, told apart
  pub both_told : (found : Option (Box SubCommand Z)) (name : Text) (rows : List Row)
      → Some name ≡ option_map (λ b. (out-SubCommand (box_value b)).name.now) found
      → Some rows ≡ option_map (λ p. p.1) (subcommand_rows found)
      → subcommand_rows found ≡ Some (name, rows)
  both_told None name rows e f = absurd (cc)
  both_told (Some b) name rows e f = cc

-- no rows are told, so no command was entered
pub none_entered : (found : Option (Text × List Row)) → None ≡ option_map (λ p. p.1) found
    → EntersCommand found → ⊥
none_entered None e entered = entered
none_entered (Some command) e entered = absurd (cc)

-- clap takes the words, and tells the command that they name
pub words_taken : (app : App) (words : List Text) (m : ArgMatches) → app ≡ program
    → (is_simple_and_free app ≡ true → fault_of app words ≡ []) → HasMatchesOf app words m
    → (fault_of program words ≡ []) × (subcommand_rows_of m ≡ subcommand_of program words)
words_taken app words m is kinds matches = (
  ap (λ (a : App). fault_of a words) (sym is) ∙ kinds (ap is_simple_and_free is ∙ is_read),
  (matches (ap is_simple is ∙ is_plain)).1 ∙ ap (λ (a : App). subcommand_of a words) is,
)

-- a command that is no job is no job of the words
pub is_refused : (words : List Text) (found : Option (Text × List Row)) (usage : Usage)
    → fault_of program words ≡ [] → found ≡ subcommand_of program words → IsNoJob found usage
    → IsRefused words usage
is_refused words found (Words error) taken is none = absurd none
is_refused words found (BadAddress option) taken is none =
    (taken, subst (SaysNoAddress option) is none)
is_refused words found NoAdmin taken is none = (taken, subst SaysNoAdmin is none)
is_refused words found BadUnknownPeers taken is none = (taken, subst SaysNoChoice is none)
is_refused words found BadHost taken is none = (taken, subst SaysNoHost is none)
is_refused words found TwoFiles taken is none = (taken, subst SaysTwoFiles is none)
is_refused words found NoMemory taken is none = tt

-- an error that clap has for the words, as it is reported
pub told_refused : (words : List Text) (app : App) (error : Error) (usage : Usage) → app ≡ program
    → (is_simple_and_free app ≡ true → HasKind (fault_of app words) error)
    → IsUsageOf error usage → IsRefused words usage
told_refused words app error (Words told) is kinds (same, other) =
    elim (kinds (ap is_simple_and_free is ∙ is_read)) [
      | inl want ↦ absurd (other want)
      | inr among ↦
          let here = subst (λ (a : App). IsAmong (kind_of error) (fault_of a words)) is among in
          subst (λ (e : Error). IsAmong (kind_of e) (fault_of program words)) (sym same) here
    ]
told_refused words app error (BadAddress option) is kinds told = absurd told
told_refused words app error NoAdmin is kinds told = absurd told
told_refused words app error BadUnknownPeers is kinds told = absurd told
told_refused words app error BadHost is kinds told = absurd told
told_refused words app error TwoFiles is kinds told = absurd told
told_refused words app error NoMemory is kinds told = tt

-- what holds of a fault that a result has
pub err_only : {T E : Type 0} {P Q : E → Type 0} (r : Result T E) → IsErrAnd r P
    → ((e : E) → P e → Q e) → IfErr r Q
err_only (Ok value) h f = absurd h
err_only (Err e) h f = f e h
