-- The lines of a text, one behind the others.
use Rattle.std.proofs.Common.{◌≡◌, ℕ, inr, true, ◌+◌, ◌<◌, ◌≤◌, ◌||◌, List, [], ◌∷◌, ◌++◌}
use Rattle.std.proofs.Common.{length, take, drop}
use Rattle.std.proofs.Common.{get_or, map, Option, Some, None, Ok, Err, Bool, ◌&&◌, refl, sym, ap}
use Rattle.std.proofs.Common.{◌∙◌, arith, length-drop, drop-cons, add-one}
use Rattle.std.specs.Prelude.{slice_get}
use Rattle.std.proofs.Common.{below_more}
use Rattle.std.proofs.Math.Bool.{or-false}
use Rattle.std.proofs.lemmas.List.Sums.{fold-append}
use Rattle.std.proofs.lemmas.List.{take_all, take_more}
use Rattle.std.proofs.lemmas.List.Folds.{list_any-append}
use Rattle.agg_config.specs.declared.causes.LineCause.{LineCause}
use Rattle.agg_config.specs.declared.causes.LineCause.TheVariants.{Syntax, Number, Check, NoMemory}
use Rattle.agg_config.specs.Declarations.{declared}
use Rattle.agg_config.specs.Reading.{AreSound, FailsFirst, FaultBehind, Meaning, behind}
use Rattle.agg_config.specs.Reading.{bounds_again, declaring, faults_behind, is_me, is_named, line_fault, names, written}
use Rattle.agg_config.specs.Reading.{takes_memory, wrong_check, wrong_word}
use Rattle.agg_types.specs.Check.{all_faults, fault_if}
use Rattle.agg_types.specs.declared.check.ConfigFault.{ConfigFault}
use Rattle.agg_types.specs.declared.check.ConfigFault.TheVariants.{Duplicate}
use Rattle.agg_types.specs.declared.config.Config.{Config}
use Rattle.line_words.specs.declared.misread.Misread.{Misread}

-- where a line stands, by what is left
pub record IsLineAt (lines : List (List ℕ)) (before : ℕ) (line : List ℕ) (rest : List (List ℕ))
    : Type 0 where
  pub inside : before < length lines
  pub at : get_or lines before [] ≡ line
  pub behind : drop (before + 1) lines ≡ rest
  pub front : take (before + 1) lines ≡ take before lines ++ line ∷ []

pub line_found : (lines : List (List ℕ)) (before : ℕ) (line : List ℕ) (rest : List (List ℕ))
    → drop before lines ≡ line ∷ rest → IsLineAt lines before line rest
line_found lines before line rest e =
    let inside : before < length lines = omega (arith, length-drop before lines, ap length e) in
    let split : get_or lines before [] ∷ drop (before + 1) lines ≡ line ∷ rest =
    rw add-one (sym (drop-cons lines before [] inside) ∙ e) in
    let first : get_or lines before [] ≡ line = cc in
    let others : drop (before + 1) lines ≡ rest = cc in
    record {
      inside = inside;
      at = first;
      behind = others;
      front =
          rw (take_more lines before [] inside, first) refl;
    }

-- where nothing is left, all lines were read
pub record AllRead (lines : List (List ℕ)) (before : ℕ) : Type 0 where
  pub all : before ≡ length lines
  pub front : take before lines ≡ lines

pub all_read : (lines : List (List ℕ)) (before : ℕ) → before ≤ length lines
    → drop before lines ≡ [] → AllRead lines before
all_read lines before within e =
    let all : before ≡ length lines =
    omega (arith, within, length-drop before lines, ap length e) in
    record {
      all = all;
      front = take_all before lines (omega (arith, all));
    }

pub written-push : (before : List (List ℕ)) (line : List ℕ) → written (before ++ line ∷ [])
    ≡ behind (written before) (declared line)
unfolding written
written-push before line = rw fold-append refl

pub is_named-push : (before : List (List ℕ)) (line : List ℕ) → is_named (before ++ line ∷ [])
    ≡ (is_named before || names (declared line))
unfolding is_named
is_named-push before line = rw (list_any-append (λ line. names (declared line)) before
    (line ∷ [])) (ap (λ b. is_named before || b) (or-false (names (declared line))))

-- a line without a fault keeps those before it sound
pub sound_more : (lines : List (List ℕ)) (before : ℕ) (line : List ℕ)
    → get_or lines before [] ≡ line → AreSound lines before
    → faults_behind (written (take before lines)) (is_named (take before lines))
    (declared line) ≡ [] → AreSound lines (before + 1)
unfolding line_fault
sound_more lines before line at sound none = below_more _ before sound (rw (at, none) refl)

checks_first : (faults : List ConfigFault) → slice_get (map wrong_check faults) 0
    ≡ Some (record { cause = Syntax; place = None }) → ⊥
checks_first [] e = absurd cc
checks_first (fault ∷ faults) e =
    let same : wrong_check fault ≡ record { cause = Syntax; place = None } = cc in
    let causes : Check fault ≡ Syntax = ap (λ wrong. wrong.cause) same in
    absurd cc

-- a line's own fault has a word, where it is of its words
syntax_has_word : (config : Config) (named : Bool) (line : Meaning)
    → slice_get (faults_behind config named line) 0
    ≡ Some (record { cause = Syntax; place = None }) → ⊥
syntax_has_word config named (Err misread) e =
    let same : wrong_word misread ≡ record { cause = Syntax; place = None } = cc in
    let places : Some misread ≡ None = ap (λ wrong. wrong.place) same in
    absurd cc
syntax_has_word config named (Ok None) e = absurd cc
syntax_has_word config named (Ok (Some declaration)) e =
    checks_first (fault_if (bounds_again config declaration) Duplicate
    ++ all_faults (declaring config declaration)
    ++ fault_if (named && is_me declaration) Duplicate) e

-- a line's first fault is that of the lines
pub faulty : (lines : List (List ℕ)) (before : ℕ) (line : List ℕ) (cause : LineCause)
    (place : Option Misread) → before < length lines → get_or lines before [] ≡ line
    → AreSound lines before → FailsFirst (record { cause = cause; place = place })
    (faults_behind (written (take before lines)) (is_named (take before lines)) (declared line))
    → (cause ≡ NoMemory → takes_memory line ≡ true) → FaultBehind lines before cause place
unfolding line_fault
faulty lines before line Syntax None inside at sound fails lacks =
    absurd (syntax_has_word (written (take before lines)) (is_named (take before lines))
    (declared line) (fails (λ e. absurd cc)))
faulty lines before line Syntax (Some misread) inside at sound fails lacks =
    record { sound = sound; there = inside; first = rw at (fails (λ e. absurd cc)) }
faulty lines before line Number place inside at sound fails lacks =
    record { sound = sound; there = inside; first = rw at (fails (λ e. absurd cc)) }
faulty lines before line (Check fault) place inside at sound fails lacks =
    record { sound = sound; there = inside; first = rw at (fails (λ e. absurd cc)) }
faulty lines before line NoMemory place inside at sound fails lacks =
    (omega arith, sound, inr (rw at (lacks refl)))

-- the first fault of a configuration stands first where others follow
pub first_check : (faults others : List ConfigFault) (fault : ConfigFault)
    → slice_get faults 0 ≡ Some fault → slice_get (map wrong_check (faults ++ others)) 0
    ≡ Some (wrong_check fault)
first_check [] others fault e = absurd cc
first_check (first ∷ faults) others fault e = let same : first ≡ fault = cc in
    ap (λ f. Some (wrong_check f)) same
