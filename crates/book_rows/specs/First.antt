-- The first keys of a table, of those that are sought.
use Rattle.std.specs.Prelude.{◌≡◌, ℕ, ◌<◌, ◌≤◌, Bool, false, true, not, ◌&&◌, List, [], ◌∷◌, ◌++◌}
use Rattle.std.specs.Prelude.{Option, None, Some, IfSome, count_by, filter, length, slice_get, take}
use Rattle.std.specs.Prelude.{◌-◌}
use Rattle.std.specs.Cmp.Lexicographic.{slice_cmp}
use Rattle.std.specs.List.{AllByRecursion, IsDistinct}
use Rattle.std.specs.List.Sorted.{IsPermutation, IsStrictlySortedBy}
use Rattle.std.specs.Map.{keys_of}
use Rattle.std.specs.Option.{option_copied, option_map}
use Rattle.std.specs.Ordering.{eq_by_cmp, is_lt, nat_cmp}
use Rattle.std.specs.declared.cmp.Ordering.TheVariants.{Less}
use Rattle.agg_types.specs.declared.column.Col.{Col}
use Rattle.fleet_model.specs.Keys.{Rows}
use Rattle.fleet_model.specs.declared.summed.Summed.{Summed}
use Rattle.peer_rows.specs.Places.{Keys}
use Rattle.peer_rows.specs.declared.row.Row.{Row}
use Rattle.book_rows.specs.Listing.{AreMeeting, rows_meet, summed_up}
use Rattle.book_rows.specs.declared.first.Sought.{Sought}

-- a key stands behind another one, or behind none
abbrev pub is_behind : Option (List ℕ) → List ℕ → Bool
is_behind None key = true
is_behind (Some after) key = is_lt (slice_cmp nat_cmp after key)

-- of a listing, the first so many behind a key
abbrev pub first_behind : {X : Type 0} → ℕ → Option (List ℕ) → List (List ℕ × X)
    → List (List ℕ × X)
first_behind most after rows = take most (filter (λ row. is_behind after row.0) rows)

-- whether a key with these rows is sought at t
abbrev pub is_sought : List (Col × ℕ) → ℕ → Sought → List ℕ × List (ℕ × Row) → Bool
is_sought cols t sought e =
    is_behind (option_copied sought.after) e.0 && rows_meet cols sought.conds.now t e.1

-- whether a key stands behind the last of the first ones, where that is known
abbrev pub stays_out : Option (List ℕ) → List ℕ → Bool
stays_out None key = false
stays_out (Some last) key = is_lt (slice_cmp nat_cmp last key)

-- each of these keys stands once
abbrev pub AreOnce : Keys → Type 0
AreOnce keys = IsDistinct (eq_by_cmp (slice_cmp nat_cmp)) (keys_of keys)

-- Of all these keys some are held, some are gone, and the rest is still to come. Those that are
-- gone stand behind the last of the first ones.
pub record AreHeld (most : ℕ) (all held : Keys) (last : Option (List ℕ)) (rest : Keys) : Type 0
  where
    pub gone : Keys
    pub moved : IsPermutation all (held ++ (gone ++ rest))
    pub behind : AllByRecursion (λ e. stays_out last e.0 ≡ true) gone
    pub enough : IfSome last (λ key. most ≤ count_by (λ e. not (stays_out (Some key) e.0)) held)
    pub some : 0 < most

-- these keys put in order, and the first so many of them, if each stands once
pub record IsSortedCut (most : ℕ) (keys first : Keys) : Type 0 where
  pub sorted : Keys
  pub moved : IsPermutation keys sorted
  pub in_order : IsStrictlySortedBy (slice_cmp nat_cmp) (keys_of sorted)
  pub taken : first ≡ take most sorted

abbrev pub IsCut : ℕ → Keys → Keys → Type 0
IsCut most keys first = AreOnce keys → IsSortedCut most keys first

-- the last key of these
abbrev pub IsLastOf : Option (List ℕ) → Keys → Type 0
IsLastOf last keys = last ≡ option_map (λ e. e.0) (slice_get keys (length keys - 1))

-- as a key comes, what is held becomes this
abbrev pub HoldsOn : ℕ → Keys → Option (List ℕ) → List ℕ × List (ℕ × Row) → Keys
    → Option (List ℕ) → Type 0
HoldsOn most held last e later new = (all rest : Keys) → AreOnce all
    → AreHeld most all held last (e ∷ rest) → AreHeld most all later new rest

-- as a key comes that is held if it is sought, so it does
abbrev pub SeeksOn : (List ℕ × List (ℕ × Row) → Bool) → ℕ → Keys → Option (List ℕ)
    → List ℕ × List (ℕ × Row) → Keys → Option (List ℕ) → Type 0
SeeksOn sought most held last e later new = (all rest : Keys) → AreOnce all
    → AreHeld most all held last (filter sought (e ∷ rest))
    → AreHeld most all later new (filter sought rest)

-- the first so many of these keys in order
pub record AreFirst (most : ℕ) (all first : Keys) : Type 0 where
  pub others : Keys
  pub moved : IsPermutation all (first ++ others)
  pub in_order : IsStrictlySortedBy (slice_cmp nat_cmp) (keys_of first)
  pub before : AllByRecursion (λ o. AllByRecursion (λ e. slice_cmp nat_cmp e.0 o.0 ≡ Less) first)
      others
  pub short : length first ≤ most
  pub full : length first < most → others ≡ []

-- what is listed are the first of the keys that meet all conditions, of those behind a key, each
-- with what its rows sum up to
pub record ListsFirst (rows : Rows) (table : ℕ) (cols : List (Col × ℕ)) (t : ℕ) (sought : Sought)
    (listed : List (List ℕ × Summed)) : Type 0 where
  pub keys : Keys
  pub meeting : AreMeeting rows table cols sought.conds.now t keys
  pub in_order : IsStrictlySortedBy (slice_cmp nat_cmp) (keys_of keys)
  pub sums : listed
      ≡ summed_up cols t (first_behind sought.most (option_copied sought.after) keys)
