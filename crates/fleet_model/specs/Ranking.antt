-- The keys of a table by their values of a column.
use Rattle.std.specs.Prelude.{ℕ, if◌then◌else◌, List, [], ◌∷◌, map, take, slice_index_or}
use Rattle.std.specs.Cmp.Lexicographic.{slice_cmp}
use Rattle.std.specs.Ordering.{is_lt, nat_cmp, ordering_then}
use Rattle.std.specs.declared.cmp.Ordering.{Ordering}
use Rattle.agg_types.specs.declared.column.Col.{Col}
use Rattle.agg_types.specs.declared.column.Col.TheVariants.{Gpc0}
use Rattle.agg_types.specs.declared.config.Rank.{Rank}
use Rattle.fleet_model.specs.Answers.{key_value, keys_of}
use Rattle.fleet_model.specs.State.{State}

-- keys, each with its value
abbrev pub Entries : Type 0
Entries = List (List ℕ × ℕ)

-- a larger value stands first, and of equal ones the smaller key
abbrev pub rank_cmp : List ℕ × ℕ → List ℕ × ℕ → Ordering
rank_cmp a b = ordering_then (nat_cmp b.1 a.1) (slice_cmp nat_cmp a.0 b.0)

-- an item in its place among items in order
abbrev pub put_in_order : {X : Type 0} → (X → X → Ordering) → X → List X → List X
put_in_order cmp x [] = x ∷ []
put_in_order cmp x (y ∷ ys) = if is_lt (cmp x y) then x ∷ y ∷ ys else y ∷ put_in_order cmp x ys

-- the items in order
abbrev pub in_order : {X : Type 0} → (X → X → Ordering) → List X → List X
in_order cmp [] = []
in_order cmp (x ∷ xs) = put_in_order cmp x (in_order cmp xs)

-- a key with its value
abbrev pub with_value : State → ℕ → Col → List ℕ → List ℕ × ℕ
with_value state table col key = (key, key_value state table key col state.moment)

-- all keys of a table with a row, each with its value of a column, by rank
unfoldable pub ranking : State → ℕ → Col → Entries
ranking state table col = in_order rank_cmp (map (with_value state table col) (keys_of state table))

-- a ranked list: the first keys of its table by its column
unfoldable pub ranked : State → Rank → Entries
ranked state rank = take rank.n (ranking state rank.table rank.col)

abbrev pub no_rank : Rank
no_rank = record { name = []; table = 0; col = Gpc0; n = 0 }

-- the ranked list at a position of the configuration
abbrev pub rank_of : State → ℕ → Rank
rank_of state position = slice_index_or state.config.ranks position no_rank
