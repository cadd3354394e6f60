use Rattle.std.proofs.Common.{◌∙◌, List, length, sym, ap, arith}
use Rattle.std.specs.Prelude.{map}
use Rattle.std.specs.List.{dedup}
use Rattle.agg_types.specs.declared.row_key.RowKey.{RowKey}
use Rattle.fleet_model.specs.Values.{same_key}
use Rattle.fleet_model.specs.declared.arrival.Arrival.{Arrival}
use Rattle.book_rows.specs.Store.{InForce, row_keys}
use Rattle.book_rows.proofs.Reading.{keys_shown, no_spots}
use Rattle.book_rows.proofs.store.Store.used.Goals as goal

pub returns-then-table-self : goal.returns-then-table-self
returns-then-table-self c =
    c.used.ensures
    ∙ ap (λ keys. length (dedup same_key keys)) (keys_shown c.args.table c.self.inside.rows.entries)
    ∙ ap (λ (s : InForce). length (row_keys s.rows c.args.table)) c.self.view_is

pub returns-else-table-self : goal.returns-else-table-self
returns-else-table-self c =
    sym (ap (λ (rows : List (RowKey × Arrival)). length
    (dedup same_key (map (λ row. row.0.key) rows)))
    (no_spots c.self.inside.size.peers c.self.inside.size.tables c.args.table
    c.self.inside.rows.entries (omega arith) c.self.invariant.inside))
    ∙ ap (λ (s : InForce). length (row_keys s.rows c.args.table)) c.self.view_is
