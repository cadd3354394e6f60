-- The text of a configuration is read line by line.
use Rattle.std.proofs.Common.{◌≡◌, ℕ, Bool, true, false, ◌&&◌, ◌||◌, List, [], ◌∷◌, ◌++◌, length}
use Rattle.std.proofs.Common.{map, refl, ap, subst, sym, ◌∙◌, append_assoc, append-nil}
use Rattle.std.specs.List.{flat_map, list_all}
use Rattle.agg_types.specs.Check.{all_faults}
use Rattle.agg_types.specs.declared.config.Config.{Config}
use Rattle.line_words.specs.Words.{lines_of}
use Rattle.line_words.proofs.Splitting.{lines_of_empty}
use Rattle.line_words.proofs.TextLines.{first_line, line_bytes}
use Rattle.line_words.proofs.WordsBack.{both}
use Rattle.agg_config.specs.Lines.{AreWritten}
use Rattle.agg_config.specs.Reading.{Passes, Write, bounds_again, declaring, is_me, meaning}
use Rattle.agg_config.specs.Written.{declaration_line, is_valid, words_of}
use Rattle.agg_config.specs.declared.declarations.Declaration.{Declaration}
use Rattle.agg_config.proofs.Finished.{read_more}
use Rattle.agg_config.proofs.LinesBack.{line_back, line_words}

-- ---- the lines of the text

-- the text of declarations
abbrev pub text_for : List Declaration → List ℕ
text_for declarations = flat_map (λ d. declaration_line d ++ 10 ∷ []) declarations

pub lines_back : (declarations : List Declaration) → list_all is_valid declarations ≡ true
    → lines_of (text_for declarations) ≡ map declaration_line declarations
lines_back [] all = lines_of_empty [] refl
lines_back (d ∷ declarations) all =
    let h = both (is_valid d) (list_all is_valid declarations) all in
    first_line (declaration_line d) (text_for declarations)
    (line_bytes (words_of d) (line_words d h.0))
    ∙ ap (λ more. declaration_line d ∷ more) (lines_back declarations h.1)

-- ---- one declaration after the other

-- a line of a declaration passes
pub passes : (config : Config) (named : Bool) (d : Declaration) → is_valid d ≡ true
    → bounds_again config d ≡ false → all_faults (declaring config d) ≡ []
    → (named && is_me d) ≡ false
    → Passes config named (meaning (declaration_line d)) (declaring config d) (named || is_me d)
passes config named d valid again faultless second = record {
  faultless = rw (line_back d valid, again, faultless, second) refl;
  whole = rw (line_back d valid) refl;
  told = rw (line_back d valid) refl;
}

-- what may be declared behind a configuration that has its name
pub record Follows (config : Config) (d : Declaration) : Type 0 where
  pub valid : is_valid d ≡ true
  pub other : is_me d ≡ false
  pub once : bounds_again config d ≡ false
  pub faultless : all_faults (declaring config d) ≡ []

-- these declarations, one after the other, make this of a configuration that has its name
abbrev pub Lead : Config → List Declaration → Config → Type 0
Lead config [] after = config ≡ after
Lead config (d ∷ more) after = Follows config d × Lead (declaring config d) more after

-- lines write a configuration and its name
abbrev pub Named : List (List ℕ) → Config → Type 0
Named lines config = AreWritten lines config true (length lines)

one_line : (lines : List (List ℕ)) (config : Config) (named : Bool) (d : Declaration)
    → AreWritten lines config named (length lines) → is_valid d ≡ true
    → bounds_again config d ≡ false → all_faults (declaring config d) ≡ []
    → (named && is_me d) ≡ false → (named || is_me d) ≡ true
    → Named (lines ++ declaration_line d ∷ []) (declaring config d)
one_line lines config named d h valid again faultless second has =
    let more = read_more lines (declaration_line d) config (declaring config d) named
    (named || is_me d) (length lines) h (passes config named d valid again faultless second) in
    record {
      sound = more.sound;
      whole = more.whole;
      told = sym has ∙ more.told;
      counted = refl;
    }

pub lead_on : (lines : List (List ℕ)) (config : Config) (declarations : List Declaration)
    (after : Config) → Named lines config → Lead config declarations after
    → Named (lines ++ map declaration_line declarations) after
lead_on lines config [] after h is =
    subst (λ all. Named all after) (sym (append-nil lines))
    (subst (λ c. Named lines c) is h)
lead_on lines config (d ∷ more) after h p =
    let f = p.0 in
    subst (λ all. Named all after)
    (append_assoc lines (declaration_line d ∷ []) (map declaration_line more))
    (lead_on (lines ++ declaration_line d ∷ []) (declaring config d) more after
    (one_line lines config true d h f.valid f.once f.faultless f.other refl) p.1)

pub valid_lead : (config : Config) (declarations : List Declaration) (after : Config)
    → Lead config declarations after → list_all is_valid declarations ≡ true
valid_lead config [] after is = refl
valid_lead config (d ∷ more) after p =
    let f = p.0 in
    rw (f.valid, valid_lead (declaring config d) more after p.1) refl

-- the first line gives the name, and the others lead to the configuration
pub text_back : (first : Config) (before : Config) (me : Declaration) (more : List Declaration)
    (after : Config) → AreWritten [] before false 0 → is_me me ≡ true → is_valid me ≡ true
    → bounds_again before me ≡ false → declaring before me ≡ first → all_faults first ≡ []
    → Lead first more after → Write (lines_of (text_for (me ∷ more))) after
text_back first before me more after none is valid once makes faultless lead =
    let start : Named (declaration_line me ∷ []) (declaring before me) =
    one_line [] before false me none valid once (ap all_faults makes ∙ faultless) refl is in
    let whole : Named (map declaration_line (me ∷ more)) after =
    lead_on (declaration_line me ∷ []) first more after (subst (λ c.
    Named (declaration_line me ∷ []) c) makes start) lead in
    let all : list_all is_valid (me ∷ more) ≡ true =
    rw (valid, valid_lead first more after lead) refl in
    subst (λ lines. Write lines after) (sym (lines_back (me ∷ more) all))
    (record { sound = whole.sound; named = sym whole.told; whole = whole.whole })
