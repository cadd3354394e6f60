-- What a haproxy.cfg declares.
use Rattle.std.specs.Prelude.{◌≡◌, ℕ, Bool, true, false, ◌&&◌, ◌||◌, not, if◌then◌else◌, ◌==◌}
use Rattle.std.specs.Prelude.{nat_le, nat_lt, List, []}
use Rattle.std.specs.Prelude.{◌∷◌, ◌++◌, length, drop, map, filter, fold, slice_index_or, codes}
use Rattle.std.specs.Prelude.{Option, None, Some, unwrap_or}
use Rattle.std.specs.List.{list_any}
use Rattle.std.specs.Str.{bytes_eq}
use Rattle.agg_types.specs.Check.{all_faults}
use Rattle.agg_types.specs.declared.config.Config.{Config}
use Rattle.agg_types.specs.declared.config.Shape.{Shape}
use Rattle.agg_types.specs.declared.limits.TheConstants.{MOST_PEERS, MOST_TABLES}
use Rattle.line_words.specs.Words.{lines_of, words}
use Rattle.agg_config.specs.Reading.{Write}
use Rattle.haproxy_cfg.specs.Sections.{before_hash, opened}
use Rattle.haproxy_cfg.specs.Tables.{fits, plain_name, shape_of}
use Rattle.haproxy_cfg.specs.declared.sections.SectionKind.{SectionKind}
use Rattle.haproxy_cfg.specs.declared.sections.SectionKind.TheVariants.{Peers, Proxy, Other}
use Rattle.haproxy_import.specs.States.{State}

-- the collector as a peer, where its name is given
abbrev pub named : Option (List ℕ) → List (List ℕ)
named None = []
named (Some name) = name ∷ []

-- before the first line of a file, for a collector whose name may be given
abbrev pub start : Option (List ℕ) → State
start me = record {
  kind = Other;
  section = [];
  last = [];
  unnamed = false;
  peers = named me;
  tables = [];
}

-- the first of these words, if there is one
abbrev pub first_of : List (List ℕ) → List ℕ
first_of words = slice_index_or words 0 []

-- the words of a line without its comment
abbrev pub said : List ℕ → List (List ℕ)
said line = words (before_hash line)

-- one more peer, unless it exists already
abbrev pub peers_with : List (List ℕ) → List ℕ → List (List ℕ)
peers_with peers name =
    if list_any (λ other. bytes_eq other name) peers then peers else peers ++ name ∷ []

-- a peer would be one too many, beside the collector
abbrev pub are_full : List (List ℕ) → List ℕ → Bool
are_full peers name =
    not (list_any (λ other. bytes_eq other name) peers) && nat_lt MOST_PEERS (length peers)

-- a peer of this name is declared; one by a variable has none here
abbrev pub with_peer : State → List ℕ → State
with_peer state name =
    if not (plain_name name) then record state { unnamed = true }
    else if are_full state.peers name then state
    else record state { last = name; peers = peers_with state.peers name }

-- one more table, unless its name stands already or it is one too many
abbrev pub tables_with : List Shape → Shape → List Shape
tables_with tables shape =
    if list_any (λ other. bytes_eq other.name shape.name) tables
    || nat_le MOST_TABLES (length tables)
    then tables else tables ++ shape ∷ []

-- a table is declared
abbrev pub with_shape : State → Shape → State
with_shape state shape =
    if fits shape then record state { tables = tables_with state.tables shape } else state

-- a table is declared, where it is read
abbrev pub with_table : State → Option Shape → State
with_table state None = state
with_table state (Some shape) = with_shape state shape

-- a line of a `peers` section: its first word, and those behind it
abbrev pub peers_line : State → List ℕ → List (List ℕ) → State
peers_line state first rest =
    if bytes_eq first (codes "peer") || bytes_eq first (codes "server")
    then with_peer state (first_of rest)
    else if bytes_eq first (codes "table")
    then with_table state (shape_of (47 ∷ first_of rest) (drop 1 rest)) else state

-- a line of a section that may have a stick table; one that names no peers isn't pushed
abbrev pub proxy_line : State → List ℕ → List (List ℕ) → State
proxy_line state first rest =
    if bytes_eq first (codes "stick-table")
    && list_any (λ word. bytes_eq word (codes "peers")) rest
    then with_table state (shape_of state.section rest) else state

-- a line of a section of this kind
abbrev pub said_in : SectionKind → State → List ℕ → List (List ℕ) → State
said_in Peers state first rest = peers_line state first rest
said_in Proxy state first rest = proxy_line state first rest
said_in Other state first rest = state

-- a line that opens a section of this kind, or none
abbrev pub opening : Option SectionKind → State → List (List ℕ) → State
opening None state words = said_in state.kind state (first_of words) (drop 1 words)
opening (Some kind) state words =
    record state { kind = kind; section = first_of (drop 1 words) }

-- what is declared behind a line of these words
unfoldable pub behind : State → List (List ℕ) → State
behind state words = opening (opened (first_of words)) state words

-- what lines declare
abbrev pub found : Option (List ℕ) → List (List ℕ) → State
found me lines = fold (λ state line. behind state (said line)) (start me) lines

-- the collector's name where none is given: the last peer's, if there are several
abbrev pub last_of : State → List ℕ
last_of state =
    if (length state.peers == 0) || (nat_lt (length state.peers) 2 && not state.unnamed)
    then codes "collector" else state.last

-- the peers that don't have this name
abbrev pub others_than : List ℕ → List (List ℕ) → List (List ℕ)
others_than me peers = filter (λ peer. not (bytes_eq peer me)) peers

-- the collector's name
abbrev pub me_of : Option (List ℕ) → State → List ℕ
me_of me state = unwrap_or me (last_of state)

-- the collector's configuration: each peer but itself is a proxy
unfoldable pub config_of : Option (List ℕ) → State → Config
config_of me state = record {
  me = me_of me state;
  peers = others_than (me_of me state) state.peers;
  tables = state.tables;
  filters = [];
  ranks = [];
  pushes = [];
  rows = None;
  logs = [];
  ignored = [];
}

-- a tab and a CR separate words as a space does
abbrev pub as_space : ℕ → ℕ
as_space byte = if (byte == 9) || (byte == 13) then 32 else byte

-- the configuration that a text declares whose words only spaces separate
unfoldable pub declared : Option (List ℕ) → List ℕ → Config
declared me text = config_of me (found me (lines_of text))

-- the configuration that a haproxy.cfg declares, for a collector whose name may be given
unfoldable pub imported : Option (List ℕ) → List ℕ → Config
imported me text = declared me (map as_space text)

-- the collector reads this text without a fault, as this configuration
unfoldable pub Reads : List ℕ → Config → Type 0
Reads text config = Write (lines_of text) config × (all_faults config ≡ [])
