-- What a turn by moves says of a table, and of all.
use Rattle.std.proofs.Common.{◌≡◌, ◌∙◌, ℕ, Bool, true, false, List, [], map}
use Rattle.std.proofs.Common.{Option, None, refl, ap, sym}
use Rattle.std.specs.List.Sorted.{IsStrictlySortedBy}
use Rattle.std.specs.Bool.{then_some}
use Rattle.std.specs.Prelude.{◌&&◌, if◌then◌else◌, not, option_to_list}
use Rattle.std.specs.Option.{option_map}
use Rattle.pushed_keys.specs.Moves.{AreInOrder, BringsTo, moved_keys, moved_stands, said_of}
use Rattle.pushed_keys.specs.Moves.{unmoved}
use Rattle.pushed_keys.specs.Rules.{change_of, put_after}
use Rattle.pushed_keys.specs.Stands.{stands}
use Rattle.pushed_keys.specs.Turns.{AreQuiet, changes, key_change, key_mark, marks_after}
use Rattle.pushed_keys.specs.declared.change.Change.{Change}
use Rattle.pushed_keys.specs.declared.change.Change.TheVariants.{TakeAway}
use Rattle.pushed_keys.specs.declared.change.Turn.{Turn}
use Rattle.pushed_keys.specs.declared.moved.Moved.{Moved}
use Rattle.pushed_keys.specs.declared.pushed.Pushed.{Pushed}
use Rattle.pushed_keys.specs.declared.told.Mark.{Mark}
use Rattle.pushed_keys.proofs.Beside.{SkipsNone, by_moves}

-- a key that isn't in the set and was never put isn't written
pub no_change : (p : Pushed) (turn : Turn) → change_of p turn false None ≡ None
unfolding change_of
no_change p turn = by p.holds
  where
    by : (b : Bool) → then_some (not b && false) TakeAway ≡ None
    by true = refl
    by false = refl

no_mark : (p : Pushed) (turn : Turn) → put_after p turn false None ≡ None
unfolding put_after
no_mark p turn = by p.holds
  where
    nothing : Option ℕ
    nothing = None

    by : (b : Bool) → (if b && false then nothing else None) ≡ None
    by true = refl
    by false = refl

skips_change : (p : Pushed) (turn : Turn) → SkipsNone (key_change p turn)
skips_change p turn = λ key.
    ap (λ (o : Option Change). option_to_list (option_map (λ change. (key, change)) o))
    (no_change p turn)

skips_mark : (p : Pushed) (turn : Turn) → SkipsNone (key_mark p turn)
skips_mark p turn = λ key.
    ap (λ (o : Option ℕ). option_to_list (option_map (λ put. record {
      key = key;
      put = put;
      is_in = false;
    }) o)) (no_mark p turn)

-- the changes by moves are those by the set that they come to
pub same_changes : (p : Pushed) (turn : Turn) (moves ordered : List Moved) (marks : List Mark)
    (set : List (List ℕ)) → AreInOrder (moved_keys ordered)
    → ((key : List ℕ) (was : Bool) → said_of key ordered was ≡ said_of key moves was)
    → BringsTo moves marks set
    → changes p turn (moved_stands ordered marks) ≡ changes p turn (stands set marks)
same_changes p turn = by_moves (key_change p turn) (skips_change p turn)

-- and so are the marks
pub same_marks : (p : Pushed) (turn : Turn) (moves ordered : List Moved) (marks : List Mark)
    (set : List (List ℕ)) → AreInOrder (moved_keys ordered)
    → ((key : List ℕ) (was : Bool) → said_of key ordered was ≡ said_of key moves was)
    → BringsTo moves marks set
    → marks_after p turn (moved_stands ordered marks) ≡ marks_after p turn (stands set marks)
same_marks p turn = by_moves (key_mark p turn) (skips_mark p turn)

-- where nothing moved, what the marks say is the set, and a table is quiet as its marks are
pub idle_quiet : (p : Pushed) (turn : Turn) (moves : List Moved) (marks : List Mark)
    (set : List (List ℕ)) → moves ≡ [] → BringsTo moves marks set
    → AreQuiet p turn (map unmoved marks) marks → AreQuiet p turn (stands set marks) marks
unfolding moved_stands IsStrictlySortedBy
idle_quiet p turn moves marks set none to quiet =
    let said : (key : List ℕ) (was : Bool) → said_of key [] was ≡ said_of key moves was =
    λ key was. ap (λ (ms : List Moved). said_of key ms was) (sym none) in
    record {
      silent = sym (same_changes p turn moves [] marks set tt said to) ∙ quiet.silent;
      same = sym (same_marks p turn moves [] marks set tt said to) ∙ quiet.same;
    }
