-- Updates of one table, one behind the other.
use Rattle.std.specs.Prelude.{◌≡◌, ◌==◌, ℕ, Bool, true, false, List, [], drop, slice_get, slice_set}
use Rattle.std.specs.Prelude.{Option, Some}
use Rattle.peers_msg.specs.Payload.{◌>>=◌}
use Rattle.peers_msg.specs.declared.message.Message.{Message}
use Rattle.agg_types.specs.declared.config.Shape.{Shape}
use Rattle.agg_types.specs.declared.event.What.{What}
use Rattle.agg_types.specs.declared.event.What.TheVariants.{Put}
use Rattle.session_core.specs.declared.track.Entry.{Entry}
use Rattle.session_core.specs.declared.track.Followed.{Followed}
use Rattle.session_core.specs.Run.{GoesOn, run}
use Rattle.session_core.specs.Tracked.{Tracked}
use Rattle.session_core.specs.Lives.{life_of}
use Rattle.update_values.specs.Values.{cells_at, key_at}

-- the row of this key and this life that values give; None where one is cut short or over
abbrev pub put_of_values : Shape → ℕ → Followed → Option ℕ → List ℕ → List ℕ → Option What
put_of_values shape peer followed life key values = do
  cells ← cells_at followed.layout shape.cols values
  Some (Put peer followed.table key life cells)

-- the row that an update gives under a definition of this table; None where its key or a value is
-- cut short or over
unfoldable pub put_in : Shape → ℕ → Followed → Option ℕ → List ℕ → Option What
put_in shape peer followed life bytes = do
  key ← key_at shape.kind bytes
  let own = life_of shape.keep followed.expiry life
  put_of_values shape peer followed own key.0 key.1

-- the entry at this place is in force, with this definition of this table and this last id
pub record IsInForce (tables : List Shape) (t : Tracked) (at : ℕ) (entry : Entry)
    (followed : Followed) (shape : Shape) (last : ℕ) : Type 0 where
  pub is_now : t.current ≡ Some at
  pub is_there : slice_get t.entries at ≡ Some entry
  pub is_followed : entry.followed ≡ Some followed
  pub has_shape : slice_get tables followed.table ≡ Some shape
  pub has_last : entry.last ≡ last

-- what is kept after updates under the entry at this place, of which the last has this id; with
-- none, all stays
abbrev pub after_puts : Bool → Tracked → ℕ → Entry → ℕ → Tracked
after_puts true t at entry last = t
after_puts false t at entry last =
    record {
      entries = slice_set t.entries at (record entry { last = last; updated = true });
      current = t.current;
    }

-- the messages from one place up to the next are updates under the definition in force, whose rows
-- are added to the facts, and the last of which has that id
abbrev pub PutsGoOn : ℕ → Followed → Shape → ℕ → ℕ → List What → List What → List Message → ℕ → ℕ
    → Type 0
PutsGoOn peer followed shape from last old facts messages next newest =
    (tables : List Shape) (t : Tracked) (at : ℕ) (entry : Entry)
    → IsInForce tables t at entry followed shape last
    → GoesOn old facts [] []
    (run tables peer (after_puts (next == from) t at entry newest) (drop next messages))
    (run tables peer t (drop from messages))
