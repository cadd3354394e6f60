use Rattle.std.specs.Prelude.{◌≡◌, ℕ, Bool, true, false, cond}
use Rattle.std.specs.Prelude.{List, Option, None, Some, Vec, is_some}
use Rattle.std.specs.Prelude.{nat_eq, position}
use Rattle.std.specs.Cmp.Lexicographic.{pointwise}
use Rattle.std.specs.Option.{option_or}
use Rattle.std.specs.Str.{bytes_eq}
use Rattle.indexmap.specs.IndexMap.{IndexMap, get_by}

-- the place of the first entry of a name
abbrev pub place_of : {A : Type 0} → (A → List ℕ) → List A → List ℕ → Option ℕ
place_of name_of entries name = position (λ entry. bytes_eq (name_of entry) name) entries

-- the place that is noted of a name
abbrev pub kept_at : {V S : Type 0} → IndexMap (Vec ℕ V) ℕ S → List ℕ → Option ℕ
kept_at firsts name = get_by (λ key. pointwise nat_eq name key.items) firsts

-- the place noted of each name is its first
abbrev pub KeepsFirsts : {A V S : Type 0} → (A → List ℕ) → List A → IndexMap (Vec ℕ V) ℕ S
    → Type 0
KeepsFirsts name_of entries firsts =
    (name : List ℕ) → kept_at firsts name ≡ place_of name_of entries name

-- the same place is noted of each name
abbrev pub HasLookups : {V S : Type 0} → IndexMap (Vec ℕ V) ℕ S → IndexMap (Vec ℕ V) ℕ S → Type 0
HasLookups old new = (name : List ℕ) → kept_at new name ≡ kept_at old name

-- the name is noted at the place, unless it was noted before; what is noted of others stays
abbrev pub Notes : {V S : Type 0} → IndexMap (Vec ℕ V) ℕ S → List ℕ → ℕ → IndexMap (Vec ℕ V) ℕ S
    → Type 0
Notes old name place new = (other : List ℕ) → kept_at new other
    ≡ option_or (kept_at old other) (cond (bytes_eq name other) (Some place) None)

-- a place that is kept is noted; where there is none, nothing is kept
abbrev pub IsNoted : Option ℕ → Bool → ℕ → Type 0
IsNoted None kept noted = kept ≡ false
IsNoted (Some place) kept noted = (kept ≡ true) × (noted ≡ place)

-- what was noted of a name is its first place among these entries, or nothing where none has it
abbrev pub NotesAgain : {A V S : Type 0} → (A → List ℕ) → List A → IndexMap (Vec ℕ V) ℕ S
    → IndexMap (Vec ℕ V) ℕ S → Type 0
NotesAgain name_of entries old new = (name : List ℕ) → kept_at new name
    ≡ cond (is_some (kept_at old name)) (place_of name_of entries name) None
