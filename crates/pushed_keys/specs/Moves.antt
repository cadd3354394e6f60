-- What came into sets and what left them since the last turn.
use Rattle.std.specs.Prelude.{◌≡◌, ℕ, Bool, false, List, [], ◌∷◌, map, if◌then◌else◌}
use Rattle.std.specs.Prelude.{◌<◌, filter, length, Option, None, Some, slice_index_or}
use Rattle.std.specs.Cmp.Lexicographic.{slice_cmp}
use Rattle.std.specs.List.{list_any}
use Rattle.std.specs.List.Sorted.{IsStrictlySortedBy}
use Rattle.std.specs.Ordering.{nat_cmp}
use Rattle.std.specs.Str.{bytes_eq}
use Rattle.pushed_keys.specs.Stands.{Stand, by_order}
use Rattle.pushed_keys.specs.Turns.{no_table}
use Rattle.pushed_keys.specs.declared.moved.Moved.{Moved}
use Rattle.pushed_keys.specs.declared.pushed.Pushed.{Pushed}
use Rattle.pushed_keys.specs.declared.told.Mark.{Mark}
use Rattle.pushed_keys.specs.declared.told.ToldTable.{ToldTable}

-- keys in the order of their bytes, each once
abbrev pub AreInOrder : List (List ℕ) → Type 0
AreInOrder keys = IsStrictlySortedBy (slice_cmp nat_cmp) keys

-- the keys of marks
abbrev pub marked : List Mark → List (List ℕ)
marked marks = map (λ mark. mark.key) marks

-- those of the marks whose keys are in the set
abbrev pub set_of : List Mark → List (List ℕ)
set_of marks = marked (filter (λ mark. mark.is_in) marks)

-- whether a key is in a set
abbrev pub is_in : List ℕ → List (List ℕ) → Bool
is_in key set = list_any (bytes_eq key) set

-- what the last of these moves of a key says, and what was so before where none is of it
abbrev pub said_of : List ℕ → List Moved → Bool → Bool
said_of key [] was = was
said_of key (move ∷ others) was =
    said_of key others (if bytes_eq key move.key.now then move.is_in else was)

-- these moves make one set another, both in order
pub record IsMovedTo (moves : List Moved) (before after : List (List ℕ)) : Type 0 where
  pub was : AreInOrder before
  pub is : AreInOrder after
  pub moved : (key : List ℕ) → is_in key after ≡ said_of key moves (is_in key before)

-- these moves make the set that a table's marks say another; the marks are in order
pub record BringsTo (moves : List Moved) (marks : List Mark) (set : List (List ℕ)) : Type 0 where
  pub ordered : AreInOrder (marked marks)
  pub moved : IsMovedTo moves (set_of marks) set

-- these moves of each pushed table, by its place, make the set that was told of it its set
abbrev pub AreMovedTo : List Pushed → List (List Moved) → List ToldTable → List (List (List ℕ))
    → Type 0
AreMovedTo pushed moves told sets = (place : ℕ) → place < length pushed
    → BringsTo (slice_index_or moves place []) (slice_index_or told place no_table).marks
    (slice_index_or sets place [])

-- ---- moves beside marks

-- what stands of a key that moved and was put at this moment, if ever
abbrev pub moved_to : Moved → Option ℕ → Stand
moved_to move put = record { key = move.key.now; is_in = move.is_in; put = put }

-- a key that didn't move: it is in the set where it was
abbrev pub unmoved : Mark → Stand
unmoved mark = record { key = mark.key; is_in = mark.is_in; put = Some mark.put }

-- the marks below a key that moved, the key, and then what stands behind it
abbrev pub moved_among : Moved → (List Mark → List Stand) → List Mark → List Stand
moved_among move behind [] = moved_to move None ∷ behind []
moved_among move behind (mark ∷ marks) =
    by_order (slice_cmp nat_cmp move.key.now mark.key)
    (moved_to move None ∷ behind (mark ∷ marks)) (moved_to move (Some mark.put) ∷ behind marks)
    (unmoved mark ∷ moved_among move behind marks)

-- the keys that moved and those of these marks, in the order of their bytes, each once
unfoldable pub moved_stands : List Moved → List Mark → List Stand
moved_stands [] marks = map unmoved marks
moved_stands (move ∷ moves) marks = moved_among move (moved_stands moves) marks

-- the keys of moves
abbrev pub moved_keys : List Moved → List (List ℕ)
moved_keys moves = map (λ move. move.key.now) moves

-- whether the first of these moves is of a key
abbrev pub is_next : List ℕ → List Moved → Bool
is_next key [] = false
is_next key (move ∷ moves) = bytes_eq key move.key.now

-- of moves in the order of their keys, the last of each key
abbrev pub last_words : List Moved → List Moved
last_words [] = []
last_words (move ∷ moves) =
    if is_next move.key.now moves then last_words moves else move ∷ last_words moves
