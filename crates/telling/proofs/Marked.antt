-- Which keys have marks behind a turn.
use Rattle.std.proofs.Common.{◌≡◌, ◌⊎◌, ℕ, Bool, true, false, List, [], ◌∷◌, ◌++◌, map}
use Rattle.std.proofs.Common.{Option, None, Some, refl, sym, subst, inl, inr}
use Rattle.std.specs.Cmp.Lexicographic.{slice_cmp}
use Rattle.std.specs.Ordering.{nat_cmp}
use Rattle.std.specs.declared.cmp.Ordering.{Ordering}
use Rattle.std.specs.declared.cmp.Ordering.TheVariants.{Less, Equal, Greater}
use Rattle.pushed_keys.specs.Moves.{marked}
use Rattle.pushed_keys.specs.Rules.{is_told, put_after}
use Rattle.pushed_keys.specs.Stands.{Stand, by_order, in_set, only_told, placed, stands}
use Rattle.pushed_keys.specs.Turns.{marks_after}
use Rattle.pushed_keys.specs.declared.change.Turn.{Turn}
use Rattle.pushed_keys.specs.declared.pushed.Pushed.{Pushed}
use Rattle.pushed_keys.specs.declared.told.Mark.{Mark}
use Rattle.telling.specs.Among.{IsAmong, IsMarked}
use Rattle.telling.proofs.Brought.{left_mark}
use Rattle.telling.proofs.Kept.{in_marked}

-- the keys that have marks behind a turn over these
abbrev pub marked_of : Pushed → Turn → List Stand → List (List ℕ)
marked_of table turn standing = marked (marks_after table turn standing)

-- which has a mark of a key that isn't in the set
out_cases : (table : Pushed) (turn : Turn) (mark : Mark) (standing : List Stand) (key : List ℕ)
    → IsAmong key (marked_of table turn (only_told mark ∷ standing))
    → ((mark.key ≡ key) × (is_told table turn.now mark.put ≡ true))
    ⊎ IsAmong key (marked_of table turn standing)
unfolding put_after left_mark
out_cases table turn mark standing key there =
    by table.holds (is_told table turn.now mark.put) refl there
  where
    by : (holds told : Bool) → is_told table turn.now mark.put ≡ told
        → IsAmong key (marked (left_mark holds told mark ++ marks_after table turn standing))
        → ((mark.key ≡ key) × (is_told table turn.now mark.put ≡ true))
        ⊎ IsAmong key (marked_of table turn standing)
    by false told is there = inr there
    by true false is there = inr there
    by true true is there =
        elim there [
          | inl same ↦ inl (same, is)
          | inr more ↦ inr more
        ]

-- a key that has a mark has one beside such a key
out_has : (table : Pushed) (turn : Turn) (mark : Mark) (standing : List Stand) (key : List ℕ)
    → IsAmong key (marked_of table turn standing)
    → IsAmong key (marked_of table turn (only_told mark ∷ standing))
unfolding put_after left_mark
out_has table turn mark standing key there =
    by table.holds (is_told table turn.now mark.put) refl
  where
    by : (holds told : Bool) → is_told table turn.now mark.put ≡ told
        → IsAmong key (marked (left_mark holds told mark ++ marks_after table turn standing))
    by false told is = there
    by true false is = there
    by true true is =
        inr there

first_has : (table : Pushed) (turn : Turn) (key other : List ℕ) (put : Option ℕ)
    (standing : List Stand)
    → ((key ≡ other) ⊎ IsAmong other (marked_of table turn standing))
    → IsAmong other (marked_of table turn (in_set key put ∷ standing))
first_has table turn key other put standing there =
    subst (IsAmong other) (sym (in_marked table turn key put standing)) there

placed_has : (table : Pushed) (turn : Turn) (key other : List ℕ) (behind : List Mark → List Stand)
    (marks : List Mark)
    → ((ms : List Mark) → (key ≡ other) ⊎ IsAmong other (marked_of table turn (behind ms)))
    → IsAmong other (marked_of table turn (placed key behind marks))
placed_has table turn key other behind [] there =
    first_has table turn key other None (behind []) (there [])
placed_has table turn key other behind (mark ∷ marks) there =
    by (slice_cmp nat_cmp key mark.key)
    (placed_has table turn key other behind marks there)
  where
    by : (o : Ordering) → IsAmong other (marked_of table turn (placed key behind marks))
        → IsAmong other (marked_of table turn (by_order o (in_set key None ∷ behind (mark ∷ marks))
        (in_set key (Some mark.put) ∷ behind marks) (only_told mark ∷ placed key behind marks)))
    by Less later =
        first_has table turn key other None (behind (mark ∷ marks)) (there (mark ∷ marks))
    by Equal later =
        first_has table turn key other (Some mark.put) (behind marks) (there marks)
    by Greater later = out_has table turn mark (placed key behind marks) other later

-- each key of the set has a mark
pub all_marked : (table : Pushed) (turn : Turn) (set : List (List ℕ)) (marks : List Mark)
    (key : List ℕ) → IsAmong key set
    → IsAmong key (marked_of table turn (stands set marks))
unfolding stands
all_marked table turn [] marks key there = absurd there
all_marked table turn (first ∷ keys) marks key (inl is) =
    placed_has table turn first key (stands keys) marks (λ ms. inl is)
all_marked table turn (first ∷ keys) marks key (inr there) =
    placed_has table turn first key (stands keys) marks
    (λ ms. inr (all_marked table turn keys ms key there))

rest_from : (table : Pushed) (turn : Turn) (marks : List Mark) (key : List ℕ)
    → IsAmong key (marked_of table turn (map only_told marks)) → IsMarked table turn.now key marks
rest_from table turn [] key there = there
rest_from table turn (mark ∷ marks) key there =
    elim (out_cases table turn mark (map only_told marks) key there) [
      | inl is ↦ inl is
      | inr more ↦ inr (rest_from table turn marks key more)
    ]

placed_from : (table : Pushed) (turn : Turn) (first : List ℕ) (keys : List (List ℕ))
    (behind : List Mark → List Stand) (key : List ℕ) (marks : List Mark)
    → ((ms : List Mark) → IsAmong key (marked_of table turn (behind ms))
    → IsAmong key keys ⊎ IsMarked table turn.now key ms)
    → IsAmong key (marked_of table turn (placed first behind marks))
    → IsAmong key (first ∷ keys) ⊎ IsMarked table turn.now key marks
placed_from table turn first keys behind key [] from there =
    elim (subst (IsAmong key) (in_marked table turn first None (behind [])) there) [
      | inl is ↦ inl (inl is)
      | inr more ↦ elim (from [] more) [ inl one ↦ inl (inr one) | inr none ↦ absurd none ]
    ]
placed_from table turn first keys behind key (mark ∷ marks) from there =
    by (slice_cmp nat_cmp first mark.key)
    (λ more. placed_from table turn first keys behind key marks from more) there
  where
    by : (o : Ordering) → (IsAmong key (marked_of table turn (placed first behind marks))
        → IsAmong key (first ∷ keys) ⊎ IsMarked table turn.now key marks)
        → IsAmong key (marked_of table turn
        (by_order o (in_set first None ∷ behind (mark ∷ marks))
        (in_set first (Some mark.put) ∷ behind marks) (only_told mark ∷ placed first behind marks)))
        → IsAmong key (first ∷ keys) ⊎ IsMarked table turn.now key (mark ∷ marks)
    by Less later here =
        elim (subst (IsAmong key) (in_marked table turn first None (behind (mark ∷ marks)))
        here) [
          | inl is ↦ inl (inl is)
          | inr more ↦ elim (from (mark ∷ marks) more) [
            | inl one ↦ inl (inr one)
            | inr old ↦ inr old
          ]
        ]
    by Equal later here =
        elim (subst (IsAmong key) (in_marked table turn first (Some mark.put) (behind marks))
        here) [
          | inl is ↦ inl (inl is)
          | inr more ↦ elim (from marks more) [
            | inl one ↦ inl (inr one)
            | inr old ↦ inr (inr old)
          ]
        ]
    by Greater later here =
        elim (out_cases table turn mark (placed first behind marks) key here) [
          | inl is ↦ inr (inl is)
          | inr more ↦ elim (later more) [ inl one ↦ inl one | inr old ↦ inr (inr old) ]
        ]

-- each further key had one, and its life hasn't gone by
pub marked_from : (table : Pushed) (turn : Turn) (set : List (List ℕ)) (marks : List Mark)
    (key : List ℕ) → IsAmong key (marked_of table turn (stands set marks))
    → IsAmong key set ⊎ IsMarked table turn.now key marks
unfolding stands
marked_from table turn [] marks key there = inr (rest_from table turn marks key there)
marked_from table turn (first ∷ keys) marks key there =
    placed_from table turn first keys (stands keys) key marks
    (λ ms more. marked_from table turn keys ms key more) there
