use Rattle.std.proofs.Common.{◌≡◌, ◌++◌, [], drop, map}
use Rattle.agg_types.specs.Col.{col_name}
use Rattle.show_clear.specs.Explained.{listed}
use Rattle.show_clear.proofs.quoting.append_columns.Given as goal

-- what is written and what is left to write are all
abbrev pub invariant-loop-col : goal.invariant-loop-col
invariant-loop-col l =
    l.out.items ++ listed l.before (map (λ col. col_name col.0) (drop l.col-index l.cols))
    ≡ l.fn.out.items ++ listed [] (map (λ col. col_name col.0) l.cols)
