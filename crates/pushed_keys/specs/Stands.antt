-- The keys of a set and of what was told, side by side.
use Rattle.std.specs.Prelude.{ℕ, Bool, true, false, List, [], ◌∷◌, map}
use Rattle.std.specs.Prelude.{Option, None, Some}
use Rattle.std.specs.Cmp.Lexicographic.{slice_cmp}
use Rattle.std.specs.Ordering.{nat_cmp}
use Rattle.std.specs.declared.cmp.Ordering.{Ordering}
use Rattle.std.specs.declared.cmp.Ordering.TheVariants.{Less, Equal, Greater}
use Rattle.pushed_keys.specs.declared.stands.Standing.{Standing}
use Rattle.pushed_keys.specs.declared.told.Mark.{Mark}

-- a key: whether the set has it, and when it was last put, if it was
pub record Stand : Type 0 where
  pub key : List ℕ
  pub is_in : Bool
  pub put : Option ℕ

abbrev pub shown : Standing → Stand
shown standing = record { key = standing.key.now; is_in = standing.is_in; put = standing.put }

abbrev pub in_set : List ℕ → Option ℕ → Stand
in_set key put = record { key = key; is_in = true; put = put }

-- a key that was told and isn't in the set
abbrev pub only_told : Mark → Stand
only_told mark = record { key = mark.key; is_in = false; put = Some mark.put }

-- one of three, as a key is below another, the same or above
abbrev pub by_order : {A : Type 0} → Ordering → A → A → A → A
by_order Less below same above = below
by_order Equal below same above = same
by_order Greater below same above = above

-- the marks below a key of the set, the key, and then what stands behind it
abbrev pub placed : List ℕ → (List Mark → List Stand) → List Mark → List Stand
placed key behind [] = in_set key None ∷ behind []
placed key behind (mark ∷ marks) =
    by_order (slice_cmp nat_cmp key mark.key) (in_set key None ∷ behind (mark ∷ marks))
    (in_set key (Some mark.put) ∷ behind marks) (only_told mark ∷ placed key behind marks)

-- the keys of a set and of these marks, in the order of their bytes, each once
unfoldable pub stands : List (List ℕ) → List Mark → List Stand
stands [] marks = map only_told marks
stands (key ∷ keys) marks = placed key (stands keys) marks
