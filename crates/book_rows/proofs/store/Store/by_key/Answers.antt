use Rattle.std.proofs.Common.{◌∙◌, ◌==◌, sym, ap, arith}
use Rattle.std.specs.Prelude.{filter, map}
use Rattle.book_rows.specs.Shown.{of_spot}
use Rattle.book_rows.specs.Store.{InForce}
use Rattle.book_rows.proofs.Reading.{no_spots, spots_shown}
use Rattle.book_rows.proofs.store.Store.by_key.Goals as goal

pub returns-in_ok-by_key : goal.returns-in_ok-by_key
returns-in_ok-by_key c =
    ap (map (of_spot c.args.table)) c.in_ok-by_key.ensures.value
    ∙ spots_shown c.args.table c.self.inside.rows.entries
    ∙ ap (λ (s : InForce). filter (λ row. row.0.table == c.args.table) s.rows) c.self.view_is

pub returns-else-table-self : goal.returns-else-table-self
returns-else-table-self c =
    sym (ap (λ (s : InForce). filter (λ row. row.0.table == c.args.table) s.rows) c.self.view_is)
    ∙ no_spots c.self.inside.size.peers c.self.inside.size.tables c.args.table
    c.self.inside.rows.entries (omega arith) c.self.invariant.inside
