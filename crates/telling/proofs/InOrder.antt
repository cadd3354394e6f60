-- Keys that stand side by side, and marks behind a turn, are in order.
use Rattle.std.proofs.Common.{◌≡◌, ℕ, List, [], ◌∷◌, ◌++◌, map, Option, None, Some}
use Rattle.std.proofs.Common.{refl, sym, ap, subst}
use Rattle.std.specs.Cmp.Lexicographic.{slice_cmp}
use Rattle.std.specs.List.Sorted.{IsStrictlySortedBy}
use Rattle.std.specs.Option.{option_map}
use Rattle.std.specs.Ordering.{nat_cmp}
use Rattle.std.specs.Prelude.{Bool, option_to_list, slice_index_or}
use Rattle.std.specs.declared.cmp.Ordering.{Ordering}
use Rattle.std.specs.declared.cmp.Ordering.TheVariants.{Less, Equal, Greater}
use Rattle.std.proofs.lemmas.Map.Lookups.{exact_bytes}
use Rattle.pushed_keys.specs.Moves.{AreInOrder, marked}
use Rattle.pushed_keys.specs.Rules.{put_after}
use Rattle.pushed_keys.specs.Stands.{Stand, by_order, in_set, only_told, placed, stands}
use Rattle.pushed_keys.specs.Turns.{marks_after}
use Rattle.pushed_keys.specs.declared.change.Turn.{Turn}
use Rattle.pushed_keys.specs.declared.pushed.Pushed.{Pushed}
use Rattle.pushed_keys.specs.declared.told.Mark.{Mark}
use Rattle.pushed_keys.proofs.Order.{Each, IsBelow, below_above, each_above}
use Rattle.telling.specs.Telling.{AreOrdered, table_at, told_after, turn_at}
use Rattle.telling.specs.Told.{Told, untold}
use Rattle.telling.proofs.Brought.{marks_at}

-- ---- the keys that stand side by side

abbrev pub stand_keys : List Stand → List (List ℕ)
stand_keys standing = map (λ stand. stand.key) standing

told_keys_are : (marks : List Mark) → stand_keys (map only_told marks) ≡ marked marks
told_keys_are [] = refl
told_keys_are (mark ∷ marks) = ap (λ keys. mark.key ∷ keys) (told_keys_are marks)

each_placed : (P : List ℕ → Type 0) (key : List ℕ) (behind : List Mark → List Stand)
    (marks : List Mark) → P key
    → ((ms : List Mark) → Each P (marked ms) → Each P (stand_keys (behind ms)))
    → Each P (marked marks) → Each P (stand_keys (placed key behind marks))
each_placed P key behind [] k f h = (k, f [] tt)
each_placed P key behind (mark ∷ marks) k f h =
    by (slice_cmp nat_cmp key mark.key) (each_placed P key behind marks k f h.1)
  where
    by : (o : Ordering) → Each P (stand_keys (placed key behind marks))
        → Each P (stand_keys (by_order o (in_set key None ∷ behind (mark ∷ marks))
        (in_set key (Some mark.put) ∷ behind marks) (only_told mark ∷ placed key behind marks)))
    by Less later = (k, f (mark ∷ marks) h)
    by Equal later = (k, f marks h.1)
    by Greater later = (h.0, later)

-- what holds of each key of a set and of marks holds of each that stands side by side
pub each_stand : (P : List ℕ → Type 0) (set : List (List ℕ)) (marks : List Mark) → Each P set
    → Each P (marked marks) → Each P (stand_keys (stands set marks))
unfolding stands
each_stand P [] marks s h = subst (Each P) (sym (told_keys_are marks)) h
each_stand P (key ∷ set) marks s h =
    each_placed P key (stands set) marks s.0 (λ ms m. each_stand P set ms s.1 m) h

order_placed : (key : List ℕ) (set : List (List ℕ)) (marks : List Mark)
    → Each (IsBelow key) set
    → ((ms : List Mark) → AreInOrder (marked ms) → AreInOrder (stand_keys (stands set ms)))
    → AreInOrder (marked marks) → AreInOrder (stand_keys (placed key (stands set) marks))
unfolding IsStrictlySortedBy
order_placed key set [] below f h = (each_stand (IsBelow key) set [] below tt, f [] tt)
order_placed key set (mark ∷ marks) below f h =
    by (slice_cmp nat_cmp key mark.key) refl (order_placed key set marks below f h.1)
  where
    by : (o : Ordering) → slice_cmp nat_cmp key mark.key ≡ o
        → AreInOrder (stand_keys (placed key (stands set) marks))
        → AreInOrder (stand_keys (by_order o (in_set key None ∷ stands set (mark ∷ marks))
        (in_set key (Some mark.put) ∷ stands set marks)
        (only_told mark ∷ placed key (stands set) marks)))
    by Less is later = (
      each_stand (IsBelow key) set (mark ∷ marks) below
          (is, each_above key mark.key (marked marks) is h.0),
      f (mark ∷ marks) h,
    )
    by Equal is later = (
      each_stand (IsBelow key) set marks below
          (subst (λ (k : List ℕ). Each (IsBelow k) (marked marks))
          (sym (exact_bytes key mark.key is)) h.0),
      f marks h.1,
    )
    by Greater is later =
        let under : IsBelow mark.key key = below_above key mark.key is in (
          each_placed (IsBelow mark.key) key (stands set) marks under
              (λ ms m. each_stand (IsBelow mark.key) set ms
              (each_above mark.key key set under below) m) h.0,
          later,
        )

-- keys stand side by side in order
pub order_stands : (set : List (List ℕ)) (marks : List Mark) → AreInOrder set
    → AreInOrder (marked marks) → AreInOrder (stand_keys (stands set marks))
unfolding stands IsStrictlySortedBy
order_stands [] marks s h = subst AreInOrder (sym (told_keys_are marks)) h
order_stands (key ∷ set) marks s h =
    order_placed key set marks s.0 (λ ms m. order_stands set ms s.1 m) h

-- ---- marks

each_mark : (P : List ℕ → Type 0) (key : List ℕ) (side : Bool) (o : Option ℕ) (ms : List Mark)
    → P key → Each P (marked ms) → Each P (marked (option_to_list
    (option_map (λ put. record { key = key; put = put; is_in = side }) o) ++ ms))
each_mark P key side None ms k h = h
each_mark P key side (Some put) ms k h = (k, h)

-- what holds of each key that stands holds of each that has a mark behind the turn
pub each_marked : (P : List ℕ → Type 0) (table : Pushed) (turn : Turn) (standing : List Stand)
    → Each P (stand_keys standing) → Each P (marked (marks_after table turn standing))
each_marked P table turn [] h = tt
each_marked P table turn (s ∷ standing) h =
    each_mark P s.key s.is_in (put_after table turn s.is_in s.put)
    (marks_after table turn standing) h.0 (each_marked P table turn standing h.1)

order_mark : (key : List ℕ) (side : Bool) (o : Option ℕ) (ms : List Mark)
    → Each (IsBelow key) (marked ms) → AreInOrder (marked ms)
    → AreInOrder (marked (option_to_list
    (option_map (λ put. record { key = key; put = put; is_in = side }) o) ++ ms))
unfolding IsStrictlySortedBy
order_mark key side None ms k h = h
order_mark key side (Some put) ms k h = (k, h)

-- marks behind a turn are in order
pub order_marked : (table : Pushed) (turn : Turn) (standing : List Stand)
    → AreInOrder (stand_keys standing) → AreInOrder (marked (marks_after table turn standing))
unfolding IsStrictlySortedBy
order_marked table turn [] h = tt
order_marked table turn (s ∷ standing) h =
    order_mark s.key s.is_in (put_after table turn s.is_in s.put) (marks_after table turn standing)
    (each_marked (IsBelow s.key) table turn standing h.0) (order_marked table turn standing h.1)

-- ---- what was told

pub none_ordered : (pushed : List Pushed) → AreOrdered pushed untold
unfolding IsStrictlySortedBy
none_ordered pushed place table is = tt

-- they stay so behind a turn over sets in order
pub turned_ordered : (pushed : List Pushed) (sets : List (List (List ℕ))) (now : ℕ) (told : Told)
    → ((place : ℕ) → AreInOrder (slice_index_or sets place [])) → AreOrdered pushed told
    → AreOrdered pushed (told_after pushed sets now told)
turned_ordered pushed sets now told order before place table is =
    subst (λ (marks : List Mark). AreInOrder (marked marks))
    (sym (marks_at pushed sets now told place table is))
    (order_marked table (turn_at now told)
    (stands (slice_index_or sets place []) (table_at told place).marks)
    (order_stands (slice_index_or sets place []) (table_at told place).marks (order place)
    (before place table is)))
