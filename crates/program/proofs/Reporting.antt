-- What was reported of a configuration, as what its command did.
use Rattle.std.proofs.Common.{◌≡◌, ◌≢◌, ℕ, List, [], ◌∷◌, Option, IfSome, inl, inr, subst}
use Rattle.std.proofs.Common.{append-nil}
use Rattle.std.specs.Io.KnownBytes.{Appends}
use Rattle.agg_config.specs.Faults.{AreFaults}
use Rattle.agg_config.specs.Reading.{IsFirstFault}
use Rattle.agg_config.specs.declared.causes.LineCause.TheVariants as cause
use Rattle.agg_config.specs.declared.causes.LineFault.{LineFault}
use Rattle.command_line.specs.declared.job.Endpoints.{Endpoints}
use Rattle.config_text.specs.Explained.{explanation}
use Rattle.line_words.specs.Words.{lines_of}
use Rattle.program.specs.Faults.{line_text}
use Rattle.program.specs.Wiring.{Begins, Checks, Reported, StopsReport, StopsTelling}
use Rattle.program.specs.Wiring.{Streams}
use Rattle.program.specs.declared.prepared.Prepared.{Prepared}

-- all faults were reported
pub is_checked : (text : List ℕ) (faults : List LineFault) (known : Option (List ℕ)) (s : Streams)
    (prepared : Prepared) → IfSome known (λ bytes. text ≡ bytes)
    → AreFaults (lines_of text) faults → Reported text faults s prepared → Checks known s prepared
is_checked text faults known s prepared read all (inl is) =
    inl (record {
      text = text;
      read = read;
      faults = faults;
      ended = is.ended;
      all = all;
      told = is.told;
      explained = is.explained;
    })
is_checked text faults known s prepared read all (inr breaks) = inr breaks

-- the first fault was reported
pub is_faulty : (text : List ℕ) (fault : LineFault) (known : Option (List ℕ))
    (endpoints : Endpoints) (s : Streams) (prepared : Prepared)
    → IfSome known (λ bytes. text ≡ bytes) → IsFirstFault (lines_of text) fault
    → fault.cause ≢ cause.NoMemory → Reported text (fault ∷ []) s prepared
    → Begins known endpoints s prepared
is_faulty text fault known endpoints s prepared read first faulty (inl is) =
    inr (inl (record {
      text = text;
      read = read;
      fault = fault;
      ended = is.ended;
      first = first;
      faulty = faulty;
      told = subst (λ (t : List ℕ). Appends s.output0 s.output t) (append-nil (line_text fault))
          is.told;
      explained = subst (λ (t : List ℕ). Appends s.errors0 s.errors t)
          (append-nil (explanation (lines_of text) fault)) is.explained;
    }))
is_faulty text fault known endpoints s prepared read first faulty (inr breaks) = inr (inr breaks)

-- such faults of a configuration were told, and what explains them was begun
pub is_begun : (Are : List (List ℕ) → List LineFault → Type 0) (text : List ℕ)
    (faults : List LineFault) (known : Option (List ℕ)) (s : Streams)
    → IfSome known (λ bytes. text ≡ bytes) → Are (lines_of text) faults
    → StopsReport faults s → StopsTelling Are known s
is_begun Are text faults known s read are (inl cut) = inl cut
is_begun Are text faults known s read are (inr begun) =
    inr (record { text = text; read = read; faults = faults; are = are; told = begun })
