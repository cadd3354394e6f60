-- Lines that are read one after the other.
use Rattle.std.proofs.Common.{◌≡◌, ℕ, ◌+◌, ◌<◌, true, false, List, [], ◌∷◌, ◌++◌, length, take}
use Rattle.std.proofs.Common.{drop}
use Rattle.std.proofs.Common.{get_or, Bool, Option, None, Some, Result, Ok, Err, IfOk, IfErr}
use Rattle.std.proofs.Common.{is_some, refl, sym, ap, ◌∙◌}
use Rattle.std.proofs.Common.{subst, arith, append_assoc, append-nil, length-append}
use Rattle.std.proofs.lemmas.List.{take-append-le, get_or_append_left}
use Rattle.agg_types.specs.declared.config.Config.{Config}
use Rattle.agg_config.specs.Lines.{AreWritten, Finishes, ReadSoFar}
use Rattle.agg_config.specs.Reading.{AreSound, FailsFirst, IsFirstFault, Passes, Write, behind}
use Rattle.agg_config.specs.Reading.{faults_behind, is_named, line_fault, meaning, opening}
use Rattle.agg_config.specs.Reading.{takes_memory, written}
use Rattle.agg_config.specs.declared.causes.LineCause.TheVariants.{NoMemory}
use Rattle.agg_config.specs.declared.causes.LineFault.{LineFault}
use Rattle.agg_config.specs.declared.causes.Wrong.{Wrong}
use Rattle.agg_config.proofs.Lines.{IsLineAt, faulty, is_named-push, sound_more, line_found}
use Rattle.agg_config.proofs.Lines.{written-push}

-- the first lines of a longer list
front_is : (lines more : List (List ℕ)) → take (length lines) (lines ++ more) ≡ lines
front_is [] more = refl
front_is (line ∷ lines) more = ap (λ ls. line ∷ ls) (front_is lines more)

rest_is : (lines more : List (List ℕ)) → drop (length lines) (lines ++ more) ≡ more
rest_is [] more = refl
rest_is (line ∷ lines) more = rest_is lines more

at_front : (lines more : List (List ℕ)) (k : ℕ) → k < length lines
    → get_or (lines ++ more) k [] ≡ get_or lines k []
at_front lines more k below = get_or_append_left lines more [] k below

take_front : (lines more : List (List ℕ)) (k : ℕ) → k < length lines
    → take k (lines ++ more) ≡ take k lines
take_front lines more k below = take-append-le k lines more (omega arith)

sound_front : (lines more : List (List ℕ)) → AreSound lines (length lines)
    → AreSound (lines ++ more) (length lines)
unfolding line_fault
sound_front lines more sound = λ k below.
    rw (take_front lines more k below, at_front lines more k below) (sound k below)

-- no line
pub read_none : (config : Config) → config ≡ opening → AreWritten [] config false 0
unfolding is_named written
read_none config is =
    record { sound = λ k below. absurd (omega arith); whole = is; told = refl; counted = refl }

-- one more without a fault
pub read_more : (lines : List (List ℕ)) (line : List ℕ) (config after : Config)
    (named told : Bool) (count : ℕ) → AreWritten lines config named count
    → Passes config named (meaning line) after told
    → AreWritten (lines ++ line ∷ []) after told (count + 1)
read_more lines line config after named told count h passes =
    let s : IsLineAt (lines ++ line ∷ []) (length lines) line [] =
    line_found (lines ++ line ∷ []) (length lines) line [] (rest_is lines (line ∷ [])) in
    let front = front_is lines (line ∷ []) in
    let faultless : faults_behind (written (take (length lines) (lines ++ line ∷ [])))
    (is_named (take (length lines) (lines ++ line ∷ []))) (meaning line) ≡ [] =
    rw (front, ← h.whole, ← h.told) passes.faultless in
    let sound = sound_more (lines ++ line ∷ []) (length lines) line s.at
    (sound_front lines (line ∷ []) h.sound) faultless in
    let count_is : length (lines ++ line ∷ []) ≡ length lines + 1 =
    length-append lines (line ∷ []) in
    record {
      sound = subst (λ n. AreSound (lines ++ line ∷ []) n) (sym count_is) sound;
      whole = passes.whole ∙ (ap (λ c. behind c (meaning line)) h.whole
          ∙ sym (written-push lines line));
      told = passes.told ∙ (rw h.told (sym (is_named-push lines line)));
      counted = ap (λ n. n + 1) h.counted ∙ sym count_is;
    }

-- one more with a fault
pub read_wrong : (lines : List (List ℕ)) (line : List ℕ) (config : Config) (named : Bool)
    (count : ℕ) (wrong : Wrong) → AreWritten lines config named count
    → FailsFirst wrong (faults_behind config named (meaning line))
    → (wrong.cause ≡ NoMemory → takes_memory line ≡ true)
    → (later : List (List ℕ)) → IsFirstFault ((lines ++ line ∷ []) ++ later)
    (record { line = count + 1; cause = wrong.cause; place = wrong.place })
read_wrong lines line config named count wrong h fails lacks later =
    subst (λ all. IsFirstFault all
    (record { line = count + 1; cause = wrong.cause; place = wrong.place }))
    (sym (append_assoc lines (line ∷ []) later)) (
      length lines,
      ap (λ n. n + 1) h.counted,
      faulty (lines ++ line ∷ later) (length lines) line wrong.cause wrong.place s.inside s.at
          (sound_front lines (line ∷ later) h.sound)
          (rw (front_is lines (line ∷ later), ← h.whole, ← h.told) fails) lacks,
    )
  where
    s : IsLineAt (lines ++ line ∷ later) (length lines) line later
    s = line_found (lines ++ line ∷ later) (length lines) line later (rest_is lines (line ∷ later))

-- a line behind a faulty one
pub read_on : (lines : List (List ℕ)) (line : List ℕ) (fault : LineFault)
    → ((later : List (List ℕ)) → IsFirstFault (lines ++ later) fault)
    → (later : List (List ℕ)) → IsFirstFault ((lines ++ line ∷ []) ++ later) fault
read_on lines line fault has later =
    subst (λ all. IsFirstFault all fault) (sym (append_assoc lines (line ∷ []) later))
    (has (line ∷ later))

-- the same of what is kept
pub kept_on : (config : Config) (named : Bool) (count : ℕ) (lines : List (List ℕ)) (line : List ℕ)
    (fault : Option LineFault) → is_some fault ≡ true → ReadSoFar config named count lines fault
    → ReadSoFar config named count (lines ++ line ∷ []) fault
kept_on config named count lines line None some has = absurd cc
kept_on config named count lines line (Some fault) some has = read_on lines line fault has

-- no fault so far
pub kept_none : (config : Config) (named : Bool) (count : ℕ) (lines : List (List ℕ))
    (fault : Option LineFault) → is_some fault ≡ false → ReadSoFar config named count lines fault
    → AreWritten lines config named count
kept_none config named count lines None none has = has
kept_none config named count lines (Some fault) none has = absurd cc

pub none_kept : (config : Config) (named : Bool) (count : ℕ) (lines : List (List ℕ))
    (fault : Option LineFault) → is_some fault ≡ false → AreWritten lines config named count
    → ReadSoFar config named count lines fault
none_kept config named count lines None none has = has
none_kept config named count lines (Some fault) none has = absurd cc

-- all lines were read: a faulty one is the first
pub ended_wrong : (lines : List (List ℕ)) (fault : LineFault)
    → ((later : List (List ℕ)) → IsFirstFault (lines ++ later) fault) → IsFirstFault lines fault
ended_wrong lines fault has =
    subst (λ all. IsFirstFault all fault) (append-nil lines) (has [])

pub finished_whole : (lines : List (List ℕ)) (r : Result Config LineFault) → Finishes lines r
    → IfOk r (Write lines)
finished_whole lines (Ok config) h = h
finished_whole lines (Err fault) h = tt

pub finished_fault : (lines : List (List ℕ)) (r : Result Config LineFault) → Finishes lines r
    → IfErr r (IsFirstFault lines)
finished_fault lines (Ok config) h = tt
finished_fault lines (Err fault) h = h
