-- What the words of a command line do to the streams, and what is left to do.
use Rattle.std.specs.Prelude.{◌≡◌, ◌≢◌, ◌⊎◌, ℕ, List, [], ◌∷◌, codes, Option, IfSome}
use Rattle.std.specs.Option.{option_map}
use Rattle.std.specs.Io.KnownBytes.{Appends, Keeps}
use Rattle.agg_types.specs.Check.{config_faults}
use Rattle.agg_types.specs.declared.config.Config.{Config}
use Rattle.agg_config.specs.Faults.{AreFaults}
use Rattle.agg_config.specs.Reading.{IsFirstFault, Write}
use Rattle.agg_config.specs.declared.causes.LineCause.TheVariants as cause
use Rattle.agg_config.specs.declared.causes.LineFault.{LineFault}
use Rattle.line_words.specs.Words.{lines_of}
use Rattle.clap.specs.Words.{Text}
use Rattle.config_text.specs.Explained.{explanation, explanations}
use Rattle.command_line.specs.Asked.{AsksFor, IsRefused}
use Rattle.command_line.specs.Status.{status_of as usage_status, text_of as usage_text}
use Rattle.command_line.specs.declared.job.Endpoints.{Endpoints}
use Rattle.command_line.specs.declared.job.Job.{Job}
use Rattle.command_line.specs.declared.job.Job.TheVariants.{Replay, Import, Check, Listen}
use Rattle.command_line.specs.declared.usage.Usage.{Usage}
use Rattle.haproxy_import.specs.Found.{Reads, imported}
use Rattle.replay.specs.Script.{IsReplayed}
use Rattle.replay.specs.Status.{status_of as ending_status}
use Rattle.replay.specs.declared.ending.Ending.{Ending}
use Rattle.program.specs.Checking.{checked_status, checked_text}
use Rattle.program.specs.Faults.{IsTextOf, line_text}
use Rattle.program.specs.Texts.{read_from, texts_from}
use Rattle.program.specs.declared.fault.Fault.{Fault}
use Rattle.program.specs.declared.prepared.Prepared.{Prepared}
use Rattle.program.specs.declared.prepared.Prepared.TheVariants.{Ended, Collect}

-- the known bytes of standard output and of standard error, before a call and behind it
pub record Streams : Type 0 where
  pub output0 : Option (List ℕ)
  pub output : Option (List ℕ)
  pub errors0 : Option (List ℕ)
  pub errors : Option (List ℕ)

abbrev pub streams : (output0 output errors0 errors : Option (List ℕ)) → Streams
streams output0 output errors0 errors =
    record { output0 = output0; output = output; errors0 = errors0; errors = errors }

-- a text was written to standard output, and nothing to standard error
abbrev pub Prints : Streams → List ℕ → Type 0
Prints s text = Appends s.output0 s.output text × Keeps s.errors0 s.errors

-- a text was written to standard error, and nothing to standard output
abbrev pub Complains : Streams → List ℕ → Type 0
Complains s text = Keeps s.output0 s.output × Appends s.errors0 s.errors text

-- why there is no job was printed: help on standard output alone, a mistake on standard error alone
pub record Tells (usage : Usage) (s : Streams) (prepared : Prepared) : Type 0 where
  pub ended : prepared ≡ Ended (usage_status usage)
  pub help : usage_status usage ≡ 0 → Keeps s.errors0 s.errors
  pub mistake : usage_status usage ≢ 0 → Keeps s.output0 s.output
  pub text : IfSome (usage_text usage) (Appends s.errors0 s.errors)

-- the script on standard input was replayed, and the status is that of its ending
pub record Replays (input : Option (List ℕ)) (s : Streams) (prepared : Prepared) : Type 0 where
  pub ending : Ending
  pub ended : prepared ≡ Ended (ending_status ending)
  pub replayed : IfSome input (λ script. IsReplayed script s.output0 s.output ending)
  pub silent : Keeps s.errors0 s.errors

-- the configuration has no fault: by it is to be collected at these addresses
pub record Collects (input : Option (List ℕ)) (endpoints : Endpoints) (s : Streams)
    (prepared : Prepared) : Type 0 where
  pub config : Config
  pub left : prepared ≡ Collect (record { config = config; endpoints = endpoints })
  pub written : IfSome input (λ text. Write (lines_of text) config)
  pub faultless : config_faults config ≡ []
  pub silent : Prints s []

-- its first fault was printed on standard output, and what explains it on standard error
pub record IsFaulty (input : Option (List ℕ)) (s : Streams) (prepared : Prepared) : Type 0 where
  pub text : List ℕ
  pub read : IfSome input (λ known. text ≡ known)
  pub fault : LineFault
  pub ended : prepared ≡ Ended 3
  pub first : IsFirstFault (lines_of text) fault
  pub faulty : fault.cause ≢ cause.NoMemory
  pub told : Appends s.output0 s.output (line_text fault)
  pub explained : Appends s.errors0 s.errors (explanation (lines_of text) fault)

-- it wasn't read, or an allocation failed, which was printed on standard error
pub record Breaks (s : Streams) (prepared : Prepared) : Type 0 where
  pub fault : Fault
  pub text : List ℕ
  pub ended : prepared ≡ Ended 5
  pub is : IsTextOf fault text
  pub told : Complains s text

-- all faults of the configuration were printed on standard output, or that there is none, and what
-- explains them on standard error
pub record IsChecked (input : Option (List ℕ)) (s : Streams) (prepared : Prepared) : Type 0 where
  pub text : List ℕ
  pub read : IfSome input (λ known. text ≡ known)
  pub faults : List LineFault
  pub ended : prepared ≡ Ended (checked_status faults)
  pub all : AreFaults (lines_of text) faults
  pub told : Appends s.output0 s.output (checked_text faults)
  pub explained : Appends s.errors0 s.errors (explanations (lines_of text) faults)

-- what is wrong with a configuration was told and explained, or an allocation failed
pub record Reports (text : List ℕ) (faults : List LineFault) (s : Streams) (prepared : Prepared)
    : Type 0 where
  pub ended : prepared ≡ Ended (checked_status faults)
  pub told : Appends s.output0 s.output (checked_text faults)
  pub explained : Appends s.errors0 s.errors (explanations (lines_of text) faults)

abbrev pub Reported : List ℕ → List LineFault → Streams → Prepared → Type 0
Reported text faults s prepared = Reports text faults s prepared ⊎ Breaks s prepared

abbrev pub Checks : Option (List ℕ) → Streams → Prepared → Type 0
Checks input s prepared = IsChecked input s prepared ⊎ Breaks s prepared

-- a configuration for the haproxy.cfg was printed on standard output
pub record IsImported (me input : Option (List ℕ)) (s : Streams) (prepared : Prepared) : Type 0
  where
    pub text : List ℕ
    pub ended : prepared ≡ Ended 0
    pub written : IfSome input (λ file. Reads text (imported me file))
    pub told : Prints s text

-- there is none, which was printed on standard error
pub record IsUnlike (s : Streams) (prepared : Prepared) : Type 0 where
  pub ended : prepared ≡ Ended 3
  pub told : Complains s (codes "the configuration can't be written\n")

abbrev pub Imports : (me input : Option (List ℕ)) → Streams → Prepared → Type 0
Imports me input s prepared =
    IsImported me input s prepared ⊎ IsUnlike s prepared ⊎ Breaks s prepared

-- it is to be collected, or why not was printed
abbrev pub Begins : Option (List ℕ) → Endpoints → Streams → Prepared → Type 0
Begins input endpoints s prepared =
    Collects input endpoints s prepared ⊎ IsFaulty input s prepared ⊎ Breaks s prepared

-- a job is done, as far as it goes before there is anything to collect. A configuration is read
-- from the file that is named, or else from standard input, and so is a haproxy.cfg from files
abbrev pub Does : (holds : List ℕ → Option (List ℕ)) (input : Option (List ℕ)) → Job → Streams
    → Prepared → Type 0
Does holds input Replay s prepared = Replays input s prepared
Does holds input (Import name files) s prepared =
    Imports (option_map (λ text. text.now) name)
    (texts_from holds files.items input) s prepared
Does holds input (Check config) s prepared = Checks (read_from holds config input) s prepared
Does holds input (Listen config endpoints) s prepared =
    Begins (read_from holds config input) endpoints s prepared

-- the words ask for a job, which is done; or for none, and why is printed
abbrev pub Prepares : (words : List Text) (holds : List ℕ → Option (List ℕ))
    (input : Option (List ℕ)) → Streams → Prepared → Type 0
Prepares words holds input s prepared =
    ((job : Job) × AsksFor words job × Does holds input job s prepared)
    ⊎ ((usage : Usage) × IsRefused words usage × Tells usage s prepared)

-- a text was begun on one of the streams, and nothing was written to the other
abbrev pub IsCut : Streams → Type 0
IsCut s = Keeps s.output0 s.output ⊎ Keeps s.errors0 s.errors

-- these faults were told on standard output, and what explains them was begun on standard error
abbrev pub IsBegun : List LineFault → Streams → Type 0
IsBegun faults s = (faults ≢ []) × Appends s.output0 s.output (checked_text faults)

-- the first fault of the lines, alone
abbrev pub IsFirstAlone : List (List ℕ) → List LineFault → Type 0
IsFirstAlone lines faults =
    (fault : LineFault) × (faults ≡ fault ∷ []) × IsFirstFault lines fault
    × (fault.cause ≢ cause.NoMemory)

-- such faults of a configuration were told, and what explains them was begun
pub record IsUnexplained (Are : List (List ℕ) → List LineFault → Type 0)
    (input : Option (List ℕ)) (s : Streams) : Type 0 where
  pub text : List ℕ
  pub read : IfSome input (λ known. text ≡ known)
  pub faults : List LineFault
  pub are : Are (lines_of text) faults
  pub told : IsBegun faults s

-- what was told of faults was cut, or what explains them
abbrev pub StopsReport : List LineFault → Streams → Type 0
StopsReport faults s = IsCut s ⊎ IsBegun faults s

abbrev pub StopsTelling : (Are : List (List ℕ) → List LineFault → Type 0)
    → Option (List ℕ) → Streams → Type 0
StopsTelling Are input s = IsCut s ⊎ IsUnexplained Are input s

-- how the streams of a job are left where an allocation or a write failed
abbrev pub Stops : (holds : List ℕ → Option (List ℕ)) (input : Option (List ℕ)) → Job → Streams
    → Type 0
Stops holds input Replay s = IsCut s
Stops holds input (Import name files) s = IsCut s
Stops holds input (Check config) s = StopsTelling AreFaults (read_from holds config input) s
Stops holds input (Listen config endpoints) s =
    StopsTelling IsFirstAlone (read_from holds config input) s

-- an allocation or a write failed, of the job that the words ask for or where there is none
abbrev pub Halts : (words : List Text) (holds : List ℕ → Option (List ℕ))
    (input : Option (List ℕ)) → Streams → Type 0
Halts words holds input s =
    IsCut s ⊎ ((job : Job) × AsksFor words job × Stops holds input job s)

abbrev pub Fails : (words : List Text) (holds : List ℕ → Option (List ℕ))
    (input : Option (List ℕ)) → Streams → Prepared → Type 0
Fails words holds input s prepared = (prepared ≡ Ended 5) × Halts words holds input s
