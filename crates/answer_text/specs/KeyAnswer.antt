-- The answer of one key: the peers that hold it, and the filters of its table.
use Rattle.std.specs.Prelude.{◌≡◌, ℕ, ◌≤◌, ◌==◌, Bool, true, false, List, [], ◌∷◌, ◌++◌, codes}
use Rattle.std.specs.Prelude.{filter, length, slice_index_or, Option}
use Rattle.std.specs.Fmt.{decimal}
use Rattle.std.specs.List.{flat_map}
use Rattle.agg_types.specs.declared.column.Col.{Col}
use Rattle.agg_types.specs.declared.config.Filter.{Filter}
use Rattle.agg_types.specs.declared.config.Shape.{Shape}
use Rattle.agg_types.specs.declared.limits.TheConstants.{MOST_CONDS}
use Rattle.fleet_model.specs.Changes.{IsKeyChange}
use Rattle.fleet_model.specs.Keys.{holds}
use Rattle.fleet_model.specs.State.{State}
use Rattle.key_text.specs.Printed.{key_text}
use Rattle.book.specs.ByPeer.{peer_rows}
use Rattle.book.specs.declared.by_peer.PeerRow.{PeerRow}
use Rattle.answer_text.specs.Names.{name_text}
use Rattle.answer_text.specs.Tables.{cells_text, ms_or_never, shape_of}

-- ---- the peers that hold a key

-- a table and a key of it, and how many peers hold it
abbrev pub key_heading : Shape → List ℕ → ℕ → List ℕ
key_heading shape key peers =
    codes "# table: " ++ name_text shape.name ++ codes ", key: " ++ key_text shape.kind key
    ++ codes ", peers:" ++ decimal peers ++ codes "\n"

-- the line of a peer's row: how long ago it arrived, what is left of its life, and its own values
abbrev pub peer_line : List (List ℕ) → List (Col × ℕ) → PeerRow → List ℕ
peer_line peers cols row =
    codes "peer=" ++ name_text (slice_index_or peers row.peer []) ++ codes " age="
    ++ decimal row.age ++ codes " exp=" ++ ms_or_never row.sums.left
    ++ cells_text row.sums cols ++ codes "\n"

-- the heading, and a line for each peer that holds the key
abbrev pub holders_text : State → ℕ → List ℕ → List ℕ
holders_text state table key =
    key_heading (shape_of state table) key (length (peer_rows state table key))
    ++ flat_map (peer_line state.config.peers (shape_of state table).cols)
    (peer_rows state table key)

-- ---- the filters of its table

abbrev pub yes_or_no : Bool → List ℕ
yes_or_no true = codes "yes"
yes_or_no false = codes "no"

-- whether a filter holds a key, and when that changes
abbrev pub verdict_line : Filter → Bool → Option ℕ → List ℕ
verdict_line filter is next =
    codes "filter=" ++ name_text filter.name ++ codes " holds=" ++ yes_or_no is
    ++ codes " next=" ++ ms_or_never next ++ codes "\n"

-- the line that says so at a state's moment
abbrev pub IsVerdictLine : State → List ℕ → Filter → List ℕ → Type 0
IsVerdictLine state key filter line =
    (next : Option ℕ) × IsKeyChange state filter key next
    × (line ≡ verdict_line filter (holds state filter key state.moment) next)

-- a line for each of these filters, in order
abbrev pub AreVerdictLines : State → List ℕ → List Filter → List ℕ → Type 0
AreVerdictLines state key [] text = text ≡ []
AreVerdictLines state key (filter ∷ filters) text =
    (line : List ℕ) × (more : List ℕ) × (text ≡ line ++ more)
    × IsVerdictLine state key filter line × AreVerdictLines state key filters more

-- the filters of a table
abbrev pub of_table : ℕ → List Filter → List Filter
of_table table filters = filter (λ filter. filter.table == table) filters

-- ---- both

-- the text that says which peers hold a key, and what each filter of its table says of it
abbrev pub IsKeyText : State → ℕ → List ℕ → List ℕ → Type 0
IsKeyText state table key text =
    (lines : List ℕ) × (text ≡ holders_text state table key ++ lines)
    × AreVerdictLines state key (of_table table state.config.filters) lines

-- ---- what calls append

abbrev pub AppendsVerdict : State → List ℕ → Filter → List ℕ → List ℕ → Type 0
AppendsVerdict state key filter old new =
    (line : List ℕ) × (new ≡ old ++ line) × IsVerdictLine state key filter line

pub record AppendsVerdicts (state : State) (key : List ℕ) (filters : List Filter)
    (old new : List ℕ) : Type 0 where
  pub text : List ℕ
  pub is : new ≡ old ++ text
  pub lines : AreVerdictLines state key filters text

abbrev pub AppendsKey : State → ℕ → List ℕ → List ℕ → List ℕ → Type 0
AppendsKey state table key old new =
    (text : List ℕ) × (new ≡ old ++ text) × IsKeyText state table key text

-- a filter has no more conditions than it may
abbrev pub HasFew : Filter → Type 0
HasFew filter = length filter.conds ≤ MOST_CONDS
