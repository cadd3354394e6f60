use Rattle.std.proofs.Common.{◌∙◌, ap}
use Rattle.std.proofs.lemmas.Result.{on_ok_weaker}
use Rattle.std.specs.BTreeMap.{insert_entry}
use Rattle.agg_types.specs.RowKey.{row_key_cmp}
use Rattle.peer_rows.specs.Rows.{RowMap}
use Rattle.peer_rows.specs.declared.row.Row.{Row}
use Rattle.book_rows.specs.Planned.{place_at}
use Rattle.book_rows.specs.Shown.{arrivals, as_arrival}
use Rattle.book_rows.proofs.Inside.{rows_put}
use Rattle.book_rows.proofs.Lists.{map-insert_entry}
use Rattle.book_rows.proofs.puts.set_row.Goals as goal

pub returns-then-is_some-clause-ok : goal.returns-then-is_some-clause-ok
returns-then-is_some-clause-ok c = on_ok_weaker c.put_row.result
    (λ e. ap (λ (rows : RowMap). arrivals rows.entries) e
    ∙ map-insert_entry row_key_cmp as_arrival c.args.rows.now.entries (place_at c.args.at)
    c.args.row.now) c.put_row.ensures.ok

pub returns-in-None-clause-ok : goal.returns-in-None-clause-ok
returns-in-None-clause-ok c =
    ap (λ (rows : RowMap). arrivals rows.entries)
    (rw c.in-None.is at c.in_ok-insert_first.ensures.ok)
    ∙ map-insert_entry row_key_cmp as_arrival c.args.rows.now.entries (place_at c.args.at)
    c.args.row.now

pub returns-in-None-clause-kept : goal.returns-in-None-clause-kept
returns-in-None-clause-kept c =
    rows_put c.args.size.peers c.args.size.tables c.args.rows.now c.insert_first.new.self
    c.requires.rows c.insert_first.ensures.ordered (place_at c.args.at) c.args.row.now
    c.requires.inside (rw c.in-None.is at c.in_ok-insert_first.ensures.ok)

pub returns-in-Some-clause-ok : goal.returns-in-Some-clause-ok
returns-in-Some-clause-ok c =
    let same = rw c.in-Some.is at c.in_ok-insert_first.ensures.ok in
    on_ok_weaker c.put_row-in-Some.result
    (λ e. ap (λ (rows : RowMap). arrivals rows.entries) e
    ∙ map-insert_entry row_key_cmp as_arrival c.insert_first.new.self.entries
    (place_at c.args.at) c.insert_first.new.row
    ∙ ap (λ (rows : RowMap). insert_entry row_key_cmp (arrivals rows.entries) (place_at c.args.at)
    (as_arrival c.insert_first.new.row)) same.0
    ∙ ap (λ (row : Row). insert_entry row_key_cmp (arrivals c.args.rows.now.entries)
    (place_at c.args.at) (as_arrival row)) same.1) c.put_row-in-Some.ensures.ok
