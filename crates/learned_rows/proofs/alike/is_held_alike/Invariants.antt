use Rattle.std.proofs.Common.{◌≡◌, ◌&&◌, ◌==◌}
use Rattle.std.specs.List.{list_any}
use Rattle.book.specs.ByPeer.{peer_rows}
use Rattle.learned_rows.specs.Alike.{has_alike, is_held_alike}
use Rattle.learned_rows.proofs.alike.is_held_alike.Given as goal

-- one that is left is the peer's and has one like it where one of all is
abbrev pub invariant-loop-held : goal.invariant-loop-held
invariant-loop-held l = list_any (λ held. held.peer == l.peer
    && has_alike (peer_rows l.book l.table l.key) l.other held.sums) l.held-iterator
    ≡ is_held_alike (peer_rows l.book l.table l.key) l.peer l.other
