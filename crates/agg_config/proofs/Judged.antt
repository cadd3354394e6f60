-- Lines that are judged one after the other, the faulty ones as if they were blank.
use Rattle.std.proofs.Common.{◌≡◌, ℕ, ◌+◌, Bool, true, false, ◌||◌, List, [], ◌∷◌, ◌++◌, length}
use Rattle.std.proofs.Common.{Option, None, Some, Ok, refl, sym, ap, ◌∙◌, subst, append_assoc}
use Rattle.std.proofs.Math.Bool.{or-false}
use Rattle.agg_types.specs.declared.config.Config.{Config}
use Rattle.line_words.specs.Words.{words}
use Rattle.agg_config.specs.Declarations.{declared}
use Rattle.agg_config.specs.Lines.{AreWritten, Ends}
use Rattle.agg_config.specs.Reading.{FailsFirst, IsFirstFault, Passes, faults_behind, meaning}
use Rattle.agg_config.specs.Reading.{takes_memory}
use Rattle.agg_config.specs.declared.causes.LineCause.TheVariants.{NoMemory, Syntax}
use Rattle.agg_config.specs.declared.causes.LineFault.{LineFault}
use Rattle.agg_config.specs.declared.causes.Wrong.{Wrong}
use Rattle.agg_config.proofs.Finished.{read_more, read_wrong}

-- a blank line says nothing
blank_says : declared [] ≡ Ok None
unfolding declared words
blank_says = refl

blank_passes : (config : Config) (named : Bool) → Passes config named (meaning []) config named
blank_passes config named = rw blank_says (record {
  faultless = refl;
  whole = refl;
  told = sym (or-false named);
})

-- one more blank line
pub read_blank : (lines : List (List ℕ)) (config after : Config) (named told : Bool) (count : ℕ)
    → AreWritten lines config named count → after ≡ config → told ≡ named
    → AreWritten (lines ++ [] ∷ []) after told (count + 1)
read_blank lines config after named told count h same still =
    rw (same, still) (read_more lines [] config config named named count h
    (blank_passes config named))

-- one more with a fault
pub judged_wrong : (lines : List (List ℕ)) (line : List ℕ) (config : Config) (named : Bool)
    (count : ℕ) (wrong : Wrong) → AreWritten lines config named count
    → FailsFirst wrong (faults_behind config named (meaning line))
    → (wrong.cause ≡ NoMemory → takes_memory line ≡ true)
    → (later : List (List ℕ)) → IsFirstFault (lines ++ line ∷ later)
    (record { line = count + 1; cause = wrong.cause; place = wrong.place })
judged_wrong lines line config named count wrong h fails lacks later =
    subst (λ all. IsFirstFault all
    (record { line = count + 1; cause = wrong.cause; place = wrong.place }))
    (append_assoc lines (line ∷ []) later)
    (read_wrong lines line config named count wrong h fails lacks later)

-- its number
pub judged_number : (lines : List (List ℕ)) (config : Config) (named : Bool) (count : ℕ)
    → AreWritten lines config named count → count + 1 ≡ length lines + 1
judged_number lines config named count h = ap (λ n. n + 1) h.counted

-- the lines end, with a name among them or without one
pub ends_named : (lines : List (List ℕ)) (config : Config) (named : Bool) (count : ℕ)
    → AreWritten lines config named count → named ≡ true → Ends lines None
ends_named lines config named count h is =
    (config, record { sound = h.sound; named = sym h.told ∙ is; whole = h.whole })

pub ends_nameless : (lines : List (List ℕ)) (config : Config) (named : Bool) (count : ℕ)
    → AreWritten lines config named count → named ≡ false
    → Ends lines (Some (record { line = count + 1; cause = Syntax; place = None }))
ends_nameless lines config named count h is = (
  (
    length lines,
    ap (λ n. n + 1) h.counted,
    record { sound = h.sound; last = refl; nameless = sym h.told ∙ is },
  ),
  ap (λ n. n + 1) h.counted,
  (λ e. absurd cc),
)
