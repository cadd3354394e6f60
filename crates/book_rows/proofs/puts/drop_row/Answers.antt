use Rattle.std.proofs.Common.{◌∙◌, ap}
use Rattle.std.specs.BTreeMap.{is_at}
use Rattle.agg_types.specs.RowKey.{row_key_cmp}
use Rattle.peer_rows.specs.Rows.{RowMap}
use Rattle.book_rows.specs.Planned.{place_at}
use Rattle.book_rows.specs.Shown.{arrivals, as_arrival}
use Rattle.book_rows.proofs.Inside.{rows_taken}
use Rattle.book_rows.proofs.Lists.{map-remove_entry}
use Rattle.book_rows.proofs.puts.drop_row.Goals as goal

pub returns-clause-after : goal.returns-clause-after
returns-clause-after c =
    ap (λ (rows : RowMap). arrivals rows.entries) c.take_at.ensures.after
    ∙ map-remove_entry row_key_cmp as_arrival (is_at (row_key_cmp (place_at c.args.at)))
    c.args.rows.now.entries

pub returns-clause-kept : goal.returns-clause-kept
returns-clause-kept c =
    rows_taken c.args.size.peers c.args.size.tables c.args.rows.now c.take_at.new.self
    c.requires.rows c.take_at.ensures.ordered (place_at c.args.at) c.take_at.ensures.after
