use Rattle.std.proofs.Common.{◌≡◌, sym, subst}
use Rattle.peer_rows.specs.Rows.{RowMap}
use Rattle.book_rows.specs.Planned.{AreRows, place_at}
use Rattle.book_rows.proofs.Inside.{rows_put}
use Rattle.book_rows.proofs.puts.put_row.Goals as goal

pub returns-then-exchange_at-clause-kept : goal.returns-then-exchange_at-clause-kept
returns-then-exchange_at-clause-kept c =
    rows_put c.args.size.peers c.args.size.tables c.args.rows.now c.exchange_at.new.self
    c.requires.rows c.exchange_at.ensures.ordered (place_at c.args.at) c.args.row.now
    c.requires.inside (rw c.if-exchange_at.true at c.exchange_at.ensures.rows)

pub returns-clause-kept : goal.returns-clause-kept
returns-clause-kept c =
    let same : c.exchange_at.new.self ≡ c.args.rows.now =
    rw c.if-exchange_at.false at c.exchange_at.ensures.rows in
    rows_put c.args.size.peers c.args.size.tables c.exchange_at.new.self c.put_at.new.self
    (subst (λ (rows : RowMap). AreRows c.args.size.peers c.args.size.tables rows) (sym same)
    c.requires.rows)
    c.put_at.ensures.ordered (place_at c.args.at) c.replace-row.result
    c.requires.inside c.in_ok-put_at.ensures.ok
