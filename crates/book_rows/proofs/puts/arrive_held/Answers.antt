use Rattle.book_rows.specs.Planned.{place_at}
use Rattle.book_rows.proofs.Arriving.{has-arrived, rows-arrived}
use Rattle.book_rows.proofs.puts.arrive_held.Goals as goal

pub returns-clause-ok : goal.returns-clause-ok
returns-clause-ok c =
    rw c.new.ensures (has-arrived c.arrive_at-is_done.result c.args.rows.now
    c.arrive_at-is_done.new.self (place_at c.args.at) c.args.arrival.now
    c.arrive_at-is_done.ensures.rows)

pub returns-clause-kept : goal.returns-clause-kept
returns-clause-kept c =
    rows-arrived c.args.size.peers c.args.size.tables c.arrive_at-is_done.result c.args.rows.now
    c.arrive_at-is_done.new.self (place_at c.args.at) c.args.arrival.now c.requires.rows
    c.arrive_at-is_done.ensures.ordered c.requires.inside c.arrive_at-is_done.ensures.rows
