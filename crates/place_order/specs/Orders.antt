use Rattle.std.specs.Prelude.{◌≡◌, ◌≢◌, ◌<◌, ℕ, ◌==◌, List, [], ◌∷◌, ◌++◌, filter, not, ⊤, cond}
use Rattle.std.specs.List.{AllByRecursion}
use Rattle.std.specs.List.Sorted.{IsStrictlySortedBy}
use Rattle.std.specs.Ordering.{nat_cmp, is_lt}
use Rattle.std.specs.Cmp.Lexicographic.{slice_cmp}
use Rattle.std.specs.declared.cmp.Ordering.{Ordering}
use Rattle.std.specs.declared.cmp.Ordering.TheVariants.{Equal}

-- places in order, and the number below which each can be inserted without memory
pub record Ordered : Type 0 where
  pub places : List ℕ
  pub room : ℕ

-- how two places compare by their ranks
abbrev pub by_rank : (ℕ → List ℕ) → ℕ → ℕ → Ordering
by_rank rank left right = slice_cmp nat_cmp (rank left) (rank right)

-- each place has a lesser rank than those after it
abbrev pub AreByRank : (ℕ → List ℕ) → List ℕ → Type 0
AreByRank rank places = IsStrictlySortedBy (by_rank rank) places

-- no place has the rank of this one
abbrev pub HasOwnRank : (ℕ → List ℕ) → ℕ → List ℕ → Type 0
HasOwnRank rank at places = AllByRecursion (λ place. by_rank rank at place ≢ Equal) places

-- no place is this one
abbrev pub IsApart : ℕ → List ℕ → Type 0
IsApart at places = AllByRecursion (λ place. at ≢ place) places

-- no place is there twice
abbrev pub AreDistinct : List ℕ → Type 0
AreDistinct [] = ⊤
AreDistinct (place ∷ places) = IsApart place places × AreDistinct places

-- each place is below a number
abbrev pub AreBelow : ℕ → List ℕ → Type 0
AreBelow room places = AllByRecursion (λ place. place < room) places

-- a list of so many items has one for the place, and the place isn't the number that says none
abbrev pub IsPlaceIn : ℕ → ℕ → Type 0
IsPlaceIn len place = (place < len) × (place < 4294967295)

-- one place more than before, and nothing else
pub record IsInserted (at : ℕ) (old new : List ℕ) : Type 0 where
  pub before : List ℕ
  pub after : List ℕ
  pub was : old ≡ before ++ after
  pub is : new ≡ before ++ at ∷ after

-- the places but this one
abbrev pub without : ℕ → List ℕ → List ℕ
without at places = filter (λ place. not (place == at)) places

-- a place among others, before the first that it compares less to
abbrev pub placed : (ℕ → ℕ → Ordering) → ℕ → List ℕ → List ℕ
placed compare at [] = at ∷ []
placed compare at (place ∷ places) =
    cond (is_lt (compare at place)) (at ∷ place ∷ places) (place ∷ placed compare at places)
