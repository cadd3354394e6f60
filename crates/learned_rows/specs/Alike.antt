-- Rows of a key that have the same numbers.
use Rattle.std.specs.Prelude.{Bool, ◌&&◌, ◌==◌, ℕ, List, nat_lt}
use Rattle.std.specs.List.{list_any}
use Rattle.std.specs.Str.{bytes_eq}
use Rattle.book.specs.declared.by_peer.PeerRow.{PeerRow}
use Rattle.fleet_model.specs.declared.summed.Summed.{Summed}
use Rattle.learned_rows.specs.declared.alike.TheConstants.{SMALL}

-- whether one of some numbers is above what is shared by chance
abbrev pub has_large : List ℕ → Bool
has_large values = list_any (λ value. nat_lt SMALL value) values

-- the same numbers, one of them above that
abbrev pub are_alike : Summed → Summed → Bool
are_alike one other = bytes_eq one.values other.values && has_large one.values

-- whether one of some rows is a peer's and like this one
abbrev pub has_alike : List PeerRow → ℕ → Summed → Bool
has_alike rows peer sums = list_any (λ held. held.peer == peer && are_alike sums held.sums) rows

-- whether of some rows one peer's and another one's are alike
abbrev pub is_held_alike : List PeerRow → ℕ → ℕ → Bool
is_held_alike rows peer other =
    list_any (λ held. held.peer == peer && has_alike rows other held.sums) rows
