-- Marks that a turn leaves as they are, and parts of marks that a turn by moves tells whole.
use Rattle.std.specs.Prelude.{◌≡◌, ◌&&◌, ◌||◌, ℕ, true, false, List, [], ◌∷◌, ◌++◌, map, Some}
use Rattle.std.specs.Cmp.Lexicographic.{slice_cmp}
use Rattle.std.specs.List.{AllByRecursion, flat_map}
use Rattle.std.specs.Ordering.{nat_cmp}
use Rattle.std.specs.declared.cmp.Ordering.TheVariants.{Less, Greater}
use Rattle.pushed_keys.specs.Moves.{unmoved}
use Rattle.pushed_keys.specs.Packed.{IsLast}
use Rattle.pushed_keys.specs.Rules.{is_held, is_written}
use Rattle.pushed_keys.specs.Stands.{Stand}
use Rattle.pushed_keys.specs.Turns.{changes, marks_after}
use Rattle.pushed_keys.specs.declared.change.Turn.{Turn}
use Rattle.pushed_keys.specs.declared.done.Done.{Done}
use Rattle.pushed_keys.specs.declared.moved.Moved.{Moved}
use Rattle.pushed_keys.specs.declared.pushed.Pushed.{Pushed}
use Rattle.pushed_keys.specs.declared.told.Mark.{Mark}

-- a mark is kept behind a turn in which its key didn't move
abbrev pub IsKept : Pushed → Turn → Mark → Type 0
IsKept p turn mark = (mark.is_in || is_held p turn mark.put) ≡ true

-- a key that didn't move isn't due
abbrev pub IsUndue : Pushed → Turn → Mark → Type 0
IsUndue p turn mark = (mark.is_in && is_written p turn (Some mark.put)) ≡ false

-- the first of these keys didn't move, isn't due, and keeps its mark, and the rest are left
pub record IsBehindQuiet (p : Pushed) (turn : Turn) (all left : List Stand) (marks rest : List Mark)
    : Type 0 where
  pub mark : Mark
  pub stands : all ≡ unmoved mark ∷ left
  pub marks_are : marks ≡ mark ∷ rest
  pub kept : IsKept p turn mark
  pub undue : IsUndue p turn mark

-- the first of these keys, if there is one, is above this one
abbrev pub AreAbove : List ℕ → List (List ℕ) → Type 0
AreAbove key [] = Unit {0}
AreAbove key (first ∷ keys) = slice_cmp nat_cmp first key ≡ Greater

-- what is taken down of a table once these keys are told too
pub record IsDone (p : Pushed) (turn : Turn) (old : Done) (keys : List Stand) (new : Done)
    : Type 0 where
  pub said : new.changes ≡ old.changes ++ changes p turn keys
  pub kept : new.kept ≡ old.kept ++ marks_after p turn keys

-- the last of these marks is below the first of these moves
abbrev pub AreBelow : List Mark → List Moved → Type 0
AreBelow marks [] = Unit {0}
AreBelow marks (move ∷ moves) =
    (last : List ℕ) × IsLast last marks × (slice_cmp nat_cmp last move.key.now ≡ Less)

-- parts in which no key moved were told: of all marks these are left
pub record ArePassed (p : Pushed) (turn : Turn) (moves : List Moved) (all left : List Mark)
    (old new : Done) : Type 0 where
  pub parts : List (List Mark)
  pub each : AllByRecursion (λ part. AreBelow part moves) parts
  pub are : all ≡ flat_map (λ part. part) parts ++ left
  pub done : IsDone p turn old (map unmoved (flat_map (λ part. part) parts)) new
