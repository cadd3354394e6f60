use Rattle.std.proofs.Common.{◌≡◌, ◌++◌, drop}
use Rattle.std.specs.List.{flat_map}
use Rattle.config_text.specs.Spaced.{rank_line, rank_lines}
use Rattle.config_text.proofs.lines.append_ranks.Given as goal

-- what is written and what is left to write are all
abbrev pub invariant-loop-rank : goal.invariant-loop-rank
invariant-loop-rank l =
    l.out.items ++ flat_map (rank_line l.config.tables) (drop l.rank-index l.config.ranks)
    ≡ l.fn.out.items ++ rank_lines l.config
