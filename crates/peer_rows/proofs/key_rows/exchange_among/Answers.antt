use Rattle.peer_rows.specs.Most.{AreMosts}
use Rattle.peer_rows.specs.Peers.{ArePeers}
use Rattle.peer_rows.proofs.Totals.{mosts-exchanged}
use Rattle.peer_rows.proofs.key_rows.exchange_among.Goals as goal

pub returns-in-Many-clause-summed : goal.returns-in-Many-clause-summed
returns-in-Many-clause-summed c =
    let are : ArePeers c.in-Many.page = rw c.in-Many.is at c.requires.are in
    let summed : AreMosts c.in-Many.mosts c.in-Many.page = rw c.in-Many.is at c.requires.summed in
    mosts-exchanged c.args.peer c.in-Many.mosts c.add.new.self c.take_off.new.self
    c.in-Many.page c.exchange-found.new.self c.args.row.now c.exchange-found.new.row
    c.exchange-found.result are.sorted summed c.add.ensures.columns
    c.add.ensures.sums c.take_off.ensures.columns
    c.take_off.ensures.sums c.exchange-found.ensures.rows
    c.exchange-found.ensures.row

pub returns-in-Paged-clause-summed : goal.returns-in-Paged-clause-summed
returns-in-Paged-clause-summed c =
    let are : ArePeers c.in-Paged.pages = rw c.in-Paged.is at c.requires.are in
    let summed : AreMosts c.in-Paged.mosts c.in-Paged.pages =
    rw c.in-Paged.is at c.requires.summed in
    mosts-exchanged c.args.peer c.in-Paged.mosts c.add-in-Paged.new.self
    c.take_off-in-Paged.new.self c.in-Paged.pages c.exchange-found-in-Paged.new.self
    c.args.row.now c.exchange-found-in-Paged.new.row
    c.exchange-found-in-Paged.result are.sorted summed c.add-in-Paged.ensures.columns
    c.add-in-Paged.ensures.sums c.take_off-in-Paged.ensures.columns
    c.take_off-in-Paged.ensures.sums c.exchange-found-in-Paged.ensures.rows
    c.exchange-found-in-Paged.ensures.row
