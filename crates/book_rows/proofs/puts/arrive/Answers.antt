use Rattle.std.proofs.Common.{true}
use Rattle.book_rows.specs.Planned.{place_at}
use Rattle.book_rows.proofs.Arriving.{has-arrived, rows-arrived}
use Rattle.book_rows.proofs.puts.arrive.Goals as goal

pub returns-in-New-clause-ok : goal.returns-in-New-clause-ok
returns-in-New-clause-ok c =
    rw c.new.ensures (has-arrived true c.args.rows.now c.insert_arrival.new.self
    (place_at c.args.at) c.args.arrival.now (rw c.in-New.is at c.in_ok-insert_arrival.ensures.ok))

pub returns-in-New-clause-kept : goal.returns-in-New-clause-kept
returns-in-New-clause-kept c =
    rows-arrived c.args.size.peers c.args.size.tables true c.args.rows.now
    c.insert_arrival.new.self (place_at c.args.at) c.args.arrival.now c.requires.rows
    c.in_ok-insert_arrival.ensures.ordered c.requires.inside
    (rw c.in-New.is at c.in_ok-insert_arrival.ensures.ok)
