use Rattle.std.proofs.Common.{◌≡◌, ◌≤◌, take}
use Rattle.std.specs.Prelude.{count_by}
use Rattle.book.specs.ByPeer.{peer_rows}
use Rattle.learned_rows.specs.Alike.{is_held_alike}
use Rattle.learned_rows.proofs.alike.count_alike.Given as goal

-- those so far are counted
abbrev pub invariant-loop-key : goal.invariant-loop-key
invariant-loop-key l = record {
  counted : l.count ≡ count_by
      (λ key. is_held_alike (peer_rows l.book l.table key) l.peer l.other)
      (take l.key-index l.keys);
  few : l.count ≤ l.key-index;
}
