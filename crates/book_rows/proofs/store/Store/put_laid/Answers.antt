use Rattle.std.proofs.Common.{◌∙◌, ap}
use Rattle.std.specs.BTreeMap.{insert_entry}
use Rattle.agg_types.specs.RowKey.{row_key_cmp}
use Rattle.agg_types.specs.Whats.{lent_cells}
use Rattle.book_rows.specs.Planned.{place_at}
use Rattle.book_rows.specs.Shown.{arrivals}
use Rattle.book_rows.specs.Store.{put_arrival}
use Rattle.book_rows.proofs.Arriving.{in-force}
use Rattle.book_rows.proofs.store.Store.put_laid.Goals as goal

pub invariant_of-self : goal.invariant_of-self
invariant_of-self c = c.set_row.ensures.kept

pub returns-clause-ok : goal.returns-clause-ok
returns-clause-ok c =
    let old = arrivals c.self.inside.rows.entries in
    in-force c.self.inside.size.peers c.self.inside.size.tables old _ (place_at c.args.at)
    (put_arrival c.args.t c.args.life c.args.cols.now (lent_cells c.args.cells)) c.args.self.now
    c.self.view_is (c.in_ok-set_row.ensures.ok
    ∙ ap (insert_entry row_key_cmp old (place_at c.args.at)) c.in_ok-lay_row.ensures)
