-- What stands of peers: their states in words, and the rows that they hold.
use Rattle.std.specs.Prelude.{ℕ, ◌+◌, ◌-◌, ◌^◌, if◌then◌else◌, List, codes, fold, is_some, min}
use Rattle.std.specs.Prelude.{slice_get}
use Rattle.std.specs.Option.{option_map_or}
use Rattle.web_text.specs.declared.standing.PeerStanding.{PeerStanding}
use Rattle.web_text.specs.declared.summary.PeerRows.{PeerRows}
use Rattle.web_text.specs.declared.summary.Summary.{Summary}

-- a peer's state in a word
abbrev pub state_word : PeerStanding → List ℕ
state_word peer =
    if peer.is_connected then codes "connected"
    else if is_some peer.since then codes "away"
    else codes "never"

-- nothing is held
abbrev pub no_rows : PeerRows
no_rows = record { rows = 0; dropped = 0 }

-- what is held beside what was held before, as 64 bits count
abbrev pub with_rows : PeerRows → PeerRows → PeerRows
with_rows held other = record {
  rows = min (held.rows + other.rows) (2 ^ 64 - 1);
  dropped = min (held.dropped + other.dropped) (2 ^ 64 - 1);
}

-- what is held of tables, together
abbrev pub rows_together : List PeerRows → PeerRows
rows_together tables = fold with_rows no_rows tables

-- what a peer holds of all tables; nothing where there is no such peer
abbrev pub rows_of_peer : Summary → ℕ → PeerRows
rows_of_peer summary peer = option_map_or (λ tables. rows_together tables.items)
    (slice_get summary.peers.items peer) no_rows
