use Rattle.std.specs.Ordering.{nat_cmp}
use Rattle.std.specs.Ordering.{ordering_then}
use Rattle.std.specs.Cmp.Lexicographic.{slice_cmp}
use Rattle.std.specs.declared.cmp.Ordering.{Ordering}
use Rattle.agg_types.specs.declared.row_key.RowKey.{RowKey}

-- the order of places: by table, then by key, then by peer
abbrev pub row_key_cmp : RowKey → RowKey → Ordering
row_key_cmp a b =
    ordering_then (nat_cmp a.table b.table)
    (ordering_then (slice_cmp nat_cmp a.key b.key) (nat_cmp a.peer b.peer))
