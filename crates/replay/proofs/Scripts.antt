-- What a script prints, by how it was cut.
use Rattle.std.proofs.Common.{◌≡◌, ℕ, ◌+◌, List, [], Option, None, Some, Result, Ok, Err, IfOk}
use Rattle.std.proofs.Common.{OnErr, inl, inr, sym, subst, ◌∙◌, arith, drop, take}
use Rattle.agg_types.specs.declared.config.Config.{Config}
use Rattle.agg_config.specs.Lines.{HasRead}
use Rattle.agg_config.specs.Reading.{IsFirstFault, Write}
use Rattle.agg_config.specs.declared.causes.LineFault.{LineFault}
use Rattle.replay.specs.Runs.{Prints}
use Rattle.replay.specs.Script.{BadLine, BadStart, Configures, OpensAt, OrNothing, StartsAt}
use Rattle.replay.specs.Start.{IsCutAt}
use Rattle.replay.specs.Writing.{Wrote, WroteFront}
use Rattle.replay.specs.declared.ending.Ending.{Ending}
use Rattle.replay.specs.declared.start.Start.{Start}

-- what was written of one thing was written of another
pub wrote_too : {E : Type 0} (r : Result Ending E) (Says Others : List ℕ → Ending → Type 0)
    (before after : Option (List ℕ)) → ((text : List ℕ) (ending : Ending) → Says text ending
    → Others text ending)
    → IfOk r (Wrote Says before after) → IfOk r (Wrote Others before after)
wrote_too (Ok ending) Says Others before after too h =
    record { text = h.text; appends = h.appends; says = too h.text ending h.says }
wrote_too (Err e) Says Others before after too h = h

pub front_too : {E : Type 0} (r : Result Ending E) (Says Others : List ℕ → Ending → Type 0)
    (before after : Option (List ℕ)) → ((text : List ℕ) (ending : Ending) → Says text ending
    → Others text ending)
    → OnErr r (WroteFront Says before after) → OnErr r (WroteFront Others before after)
front_too (Ok ending) Says Others before after too h = h
front_too (Err e) Says Others before after too h =
    record {
      text = h.text;
      ending = h.ending;
      appends = h.appends;
      says =
          too h.text h.ending h.says;
    }

-- no line `start` says a moment
pub bad_start_said : (lines rest : List (List ℕ)) (at : Option ℕ) (start : Start)
    → IsCutAt lines at rest start → start.opening ≡ None
    → (text : List ℕ) (ending : Ending) → OrNothing (BadStart start.number) text ending
    → OrNothing (StartsAt lines at) text ending
bad_start_said lines rest at start cut none text ending (inr h) = inr h
bad_start_said lines rest None start cut none text ending (inl h) =
    inl (subst (λ (n : ℕ). BadStart n text ending) cut.0 h)
bad_start_said lines rest (Some at) start cut none text ending (inl h) =
    inl (subst (λ (o : Option ℕ). OpensAt lines at o text ending) (sym none ∙ cut.opening)
    (subst (λ (n : ℕ). BadStart n text ending) cut.number h))

-- the lines before a line `start`
abbrev pub front_lines : List (List ℕ) → Option ℕ → List (List ℕ)
front_lines lines None = lines
front_lines lines (Some at) = take at lines

pub front_read : (lines rest : List (List ℕ)) (at : Option ℕ) (start : Start) (moment : ℕ)
    → IsCutAt lines at rest start → start.opening ≡ Some moment
    → HasRead start.config (front_lines lines at)
front_read lines rest None start moment cut is = let none = cut.1 in absurd cc
front_read lines rest (Some at) start moment cut is = cut.before

-- a line `start` says a moment, and the lines before it do what they do
opened : (lines rest : List (List ℕ)) (at : Option ℕ) (start : Start) (moment : ℕ)
    → IsCutAt lines at rest start → start.opening ≡ Some moment
    → (text : List ℕ) (ending : Ending)
    → Configures (front_lines lines at) (λ config. Prints config moment rest []
    (start.number + 1)) text ending → StartsAt lines at text ending
opened lines rest None start moment cut is text ending h = let none = cut.1 in absurd cc
opened lines rest (Some at) start moment cut is text ending h =
    let next : start.number + 1 ≡ at + 2 = omega (arith, cut.number) in
    subst (λ (o : Option ℕ). OpensAt lines at o text ending) (sym is ∙ cut.opening)
    (subst (λ (n : ℕ). Configures (take at lines)
    (λ config. Prints config moment (drop (at + 1) lines) [] n) text ending) next
    (subst (λ (ls : List (List ℕ)). Configures (take at lines)
    (λ config. Prints config moment ls [] (start.number + 1)) text ending) cut.behind h))

-- the configuration is faulty
pub bad_line_said : (lines rest : List (List ℕ)) (at : Option ℕ) (start : Start) (moment : ℕ)
    (fault : LineFault) → IsCutAt lines at rest start → start.opening ≡ Some moment
    → IsFirstFault (front_lines lines at) fault
    → (text : List ℕ) (ending : Ending) → OrNothing (BadLine fault) text ending
    → OrNothing (StartsAt lines at) text ending
bad_line_said lines rest at start moment fault cut is first text ending (inr h) = inr h
bad_line_said lines rest at start moment fault cut is first text ending (inl h) =
    inl (opened lines rest at start moment cut is text ending (inl (fault, first, h)))

-- the lines behind it are run
pub run_said : (lines rest : List (List ℕ)) (at : Option ℕ) (start : Start) (moment : ℕ)
    (config : Config) → IsCutAt lines at rest start → start.opening ≡ Some moment
    → Write (front_lines lines at) config
    → (text : List ℕ) (ending : Ending)
    → OrNothing (Prints config moment rest [] (start.number + 1)) text ending
    → OrNothing (StartsAt lines at) text ending
run_said lines rest at start moment config cut is written text ending (inr h) = inr h
run_said lines rest at start moment config cut is written text ending (inl h) =
    inl (opened lines rest at start moment cut is text ending (inr (config, written, h)))
