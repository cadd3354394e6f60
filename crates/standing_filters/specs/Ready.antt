-- Room for judgements of keys, made beforehand.
use Rattle.std.specs.Prelude.{◌≡◌, ◌≤◌, ◌<◌, ◌⊎◌, ℕ, zero, suc, Bool, true, false, List, []}
use Rattle.std.specs.Prelude.{Option, None, Some, length, map, slice_get, unwrap_or}
use Rattle.std.specs.List.{AllByRecursion}
use Rattle.agg_types.specs.Key.{is_short}
use Rattle.standing_filters.specs.Plans.{Watching, view_of_watch}
use Rattle.standing_filters.specs.Watched.{filters_of}

-- the table whose filters have room, where some judgements of its keys are sure
abbrev pub ready_of : ℕ → ℕ → Option ℕ
ready_of table zero = None
ready_of table (suc sure) = Some table

-- the key of which there are copies
abbrev pub copied_of : Bool → List (List ℕ) → Option (List ℕ)
copied_of false copies = None
copied_of true copies = Some (unwrap_or (slice_get copies 0) [])

-- at least so many copies of a key
pub record AreCopies (key : List ℕ) (count : ℕ) (copies : List (List ℕ)) : Type 0 where
  pub all : AllByRecursion (λ copy. copy ≡ key) copies
  pub enough : count ≤ length copies

-- each filter of a table has room for so many verdicts
abbrev pub HaveRoom : ℕ → ℕ → List Watching → Type 0
HaveRoom count table watches =
    AllByRecursion (λ w. w.filter.table ≡ table → count ≤ w.room) watches

-- there is room for a verdict on a key in each filter of a table, and a copy of the key for each,
-- unless the key is short
pub record IsRoomFor (table : ℕ) (key : List ℕ) (copies : List (List ℕ)) (watches : List Watching)
    : Type 0 where
  pub room : HaveRoom 1 table watches
  pub copied : (is_short key ≡ true)
      ⊎ AreCopies key (filters_of table (map view_of_watch watches)) copies

-- For so many judgements of keys of a table there is room in each of its filters. Where the copies
-- are of one key there is one of it for each of these, and at least one.
pub record AreReady (table sure : ℕ) (is_copied : Bool) (copies : List (List ℕ))
    (watches : List Watching) : Type 0 where
  pub room : 0 < sure → HaveRoom sure table watches
  pub some : is_copied ≡ true → 0 < length copies
  pub copied : is_copied ≡ true → AreCopies (unwrap_or (slice_get copies 0) [])
      (filters_of table (map view_of_watch watches)) copies
