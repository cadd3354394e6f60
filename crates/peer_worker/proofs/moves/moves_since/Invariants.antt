use Rattle.std.proofs.Common.{◌≡◌, length, map, take}
use Rattle.peer_worker.specs.Gathering.{Each, IsMovedSince}
use Rattle.peer_worker.proofs.moves.moves_since.Given as goal

abbrev pub invariant-loop-table : goal.invariant-loop-table
invariant-loop-table l = record {
  long : length l.all.items ≡ l.table-index;
  each : Each (λ table moves. IsMovedSince l.number l.look.lens.now.seen table moves)
      (take l.table-index l.pushed) (map (λ moves. moves.items) l.all.items);
}
