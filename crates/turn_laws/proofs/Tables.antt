-- What a turn says of the table at a place, key by key.
use Rattle.std.proofs.Common.{◌≡◌, ℕ, ◌+◌, ◌%◌, ◌^◌, ◌<◌, ◌≤◌, Bool, List, [], length, map}
use Rattle.std.proofs.Common.{Option, None, Some, refl, sym, ap, subst, ◌∙◌, arith}
use Rattle.std.specs.Prelude.{slice_get, slice_index_or}
use Rattle.std.specs.List.Sorted.{IsStrictlySortedBy}
use Rattle.agg_types.specs.declared.limits.TheConstants.{LONGEST_KEY}
use Rattle.peers_msg.specs.declared.message.Message.{Message}
use Rattle.pushed_keys.specs.Rules.{change_of, put_after}
use Rattle.pushed_keys.specs.Stands.{Stand, stands}
use Rattle.pushed_keys.specs.Turns.{changes}
use Rattle.pushed_keys.specs.declared.change.Change.{Change}
use Rattle.pushed_keys.specs.declared.pushed.Pushed.{Pushed}
use Rattle.pushed_keys.specs.declared.told.Mark.{Mark}
use Rattle.pushed_keys.specs.declared.told.ToldTable.{ToldTable}
use Rattle.pushed_keys.proofs.Left.{last_counts}
use Rattle.telling.specs.Told.{Told}
use Rattle.telling.specs.Telling.{table_at, told_after, turn_at}
use Rattle.turn_laws.specs.Keys.{AreInOrder, AreSets, AreShort, IsKept, change_for, is_in, keys_of}
use Rattle.turn_laws.specs.Keys.{put_of}
use Rattle.turn_laws.specs.Written.{Has, Tells, updates_at}
use Rattle.turn_laws.proofs.Sides.{changed_at, each_marked, each_stand, marked_at, order_changed}
use Rattle.turn_laws.proofs.Sides.{order_marked, order_stands, sides}
use Rattle.turn_laws.proofs.Places.{last_there, marks_there, none_there, updates_there}
use Rattle.turn_laws.proofs.Changes.{are_numbered, has_change, length_updates}

none_in_order : AreInOrder []
unfolding IsStrictlySortedBy
none_in_order = tt

module _ (pushed : List Pushed) (sets : List (List (List ℕ))) (now : ℕ) (told : Told) where
  -- what stands side by side at a place
  abbrev pub standing : ℕ → List Stand
  standing place = stands (slice_index_or sets place []) (table_at told place).marks

  pub standing_order : (place : ℕ) → AreSets sets → IsKept told
      → AreInOrder (map (λ s. s.key) (standing place))
  standing_order place s k =
      order_stands (slice_index_or sets place []) (table_at told place).marks (s.in_order place)
      (k.in_order place)

  pub change_there : (place : ℕ) (table : Pushed) (key : List ℕ) → AreSets sets → IsKept told
      → change_for key (changes table (turn_at now told) (standing place))
      ≡ change_of table (turn_at now told) (is_in key (slice_index_or sets place []))
      (put_of key (table_at told place).marks)
  change_there place table key s k =
      changed_at key table (turn_at now told) (standing place) (standing_order place s k)
      ∙ ap (λ (p : Bool × Option ℕ). change_of table (turn_at now told) p.0 p.1)
      (sides key (slice_index_or sets place []) (table_at told place).marks (s.in_order place)
      (k.in_order place))

  pub put_there : (place : ℕ) (table : Pushed) (key : List ℕ) → slice_get pushed place ≡ Some table
      → AreSets sets → IsKept told
      → put_of key (table_at (told_after pushed sets now told) place).marks
      ≡ put_after table (turn_at now told) (is_in key (slice_index_or sets place []))
      (put_of key (table_at told place).marks)
  put_there place table key is s k =
      ap (put_of key) (marks_there pushed sets now told place table is)
      ∙ marked_at key table (turn_at now told) (standing place) (standing_order place s k)
      ∙ ap (λ (p : Bool × Option ℕ). put_after table (turn_at now told) p.0 p.1)
      (sides key (slice_index_or sets place []) (table_at told place).marks (s.in_order place)
      (k.in_order place))

  pub tells_there : (place : ℕ) (table : Pushed) → slice_get pushed place ≡ Some table
      → AreSets sets → IsKept told
      → Tells table (turn_at now told) (slice_index_or sets place []) (table_at told place)
      (updates_at pushed sets now told place)
  tells_there place table is s k = record {
    changes = changes table (turn_at now told) (standing place);
    whole = updates_there pushed sets now told place table is
        ∙ are_numbered table (table_at told place).last
        (changes table (turn_at now told) (standing place));
    once = order_changed table (turn_at now told) (standing place) (standing_order place s k);
    each = λ key. change_there place table key s k;
  }

  -- a change of a key, by the rule for it, is among the updates
  pub has_there : (place : ℕ) (table : Pushed) (key : List ℕ) (change : Change)
      → slice_get pushed place ≡ Some table → AreSets sets → IsKept told
      → change_of table (turn_at now told) (is_in key (slice_index_or sets place []))
      (put_of key (table_at told place).marks) ≡ Some change
      → Has (updates_at pushed sets now told place) table key change
  has_there place table key change is s k e =
      subst (λ (us : List Message). Has us table key change)
      (sym (updates_there pushed sets now told place table is))
      (has_change table (table_at told place).last
      (changes table (turn_at now told) (standing place)) key change
      (change_there place table key s k ∙ e))

  pub count_there : (place : ℕ) (table : Pushed) → slice_get pushed place ≡ Some table
      → IsKept told
      → (table_at (told_after pushed sets now told) place).last
      ≡ ((table_at told place).last + length (updates_at pushed sets now told place)) % 2 ^ 32
  count_there place table is k =
      last_there pushed sets now told place table is
      ∙ last_counts (table_at told place).last
      (changes table (turn_at now told) (standing place)) (k.ids place)
      ∙ ap (λ (n : ℕ). ((table_at told place).last + n) % 2 ^ 32)
      (sym (ap length (updates_there pushed sets now told place table is)
      ∙ length_updates table (table_at told place).last
      (changes table (turn_at now told) (standing place))))

  order_behind : AreSets sets → IsKept told → (place : ℕ) (o : Option Pushed)
      → slice_get pushed place ≡ o
      → AreInOrder (keys_of (table_at (told_after pushed sets now told) place).marks)
  order_behind s k place (Some table) is =
      subst (λ (ms : List Mark). AreInOrder (keys_of ms))
      (sym (marks_there pushed sets now told place table is))
      (order_marked table (turn_at now told) (standing place) (standing_order place s k))
  order_behind s k place None is =
      subst (λ (t : ToldTable). AreInOrder (keys_of t.marks))
      (sym (none_there pushed sets now told place is)) none_in_order

  short_behind : AreSets sets → IsKept told → (place : ℕ) (o : Option Pushed)
      → slice_get pushed place ≡ o
      → AreShort (keys_of (table_at (told_after pushed sets now told) place).marks)
  short_behind s k place (Some table) is =
      subst (λ (ms : List Mark). AreShort (keys_of ms))
      (sym (marks_there pushed sets now told place table is))
      (each_marked (λ key. length key ≤ LONGEST_KEY) table (turn_at now told) (standing place)
      (each_stand (λ key. length key ≤ LONGEST_KEY) (slice_index_or sets place [])
      (table_at told place).marks (s.short place) (k.short place)))
  short_behind s k place None is =
      subst (λ (t : ToldTable). AreShort (keys_of t.marks))
      (sym (none_there pushed sets now told place is)) tt

  id_behind : IsKept told → (place : ℕ) (o : Option Pushed) → slice_get pushed place ≡ o
      → (table_at (told_after pushed sets now told) place).last < 2 ^ 32
  id_behind k place (Some table) is = omega (arith, count_there place table is k)
  id_behind k place None is =
      omega (arith, ap (λ (t : ToldTable). t.last) (none_there pushed sets now told place is))

  pub kept_behind : AreSets sets → IsKept told → IsKept (told_after pushed sets now told)
  kept_behind s k = record {
    in_order = λ place. order_behind s k place (slice_get pushed place) refl;
    short = λ place. short_behind s k place (slice_get pushed place) refl;
    ids = λ place. id_behind k place (slice_get pushed place) refl;
  }
