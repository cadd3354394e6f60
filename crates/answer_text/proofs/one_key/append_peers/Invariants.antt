use Rattle.std.proofs.Common.{◌≡◌, ◌++◌, length, take}
use Rattle.std.specs.List.{flat_map}
use Rattle.answer_text.specs.KeyAnswer.{peer_line}
use Rattle.answer_text.proofs.one_key.append_peers.Given as goal

-- what is written and what is left to write are all; what was there stays in front
abbrev pub invariant-loop-row : goal.invariant-loop-row
invariant-loop-row l =
    record {
      so_far : l.out.items ++ flat_map (peer_line l.peers l.cols) l.row-iterator
          ≡ l.fn.out.items ++ flat_map (peer_line l.peers l.cols) l.fn.rows;
      begins : take (length l.fn.out.items) l.out.items ≡ l.fn.out.items;
    }
