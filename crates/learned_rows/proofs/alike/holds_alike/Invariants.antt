use Rattle.std.proofs.Common.{◌≡◌}
use Rattle.book.specs.ByPeer.{peer_rows}
use Rattle.learned_rows.specs.Alike.{has_alike}
use Rattle.learned_rows.proofs.alike.holds_alike.Given as goal

-- one that is left is alike where one of all is
abbrev pub invariant-loop-held : goal.invariant-loop-held
invariant-loop-held l = has_alike l.held-iterator l.peer l.row
    ≡ has_alike (peer_rows l.book l.table l.key) l.peer l.row
