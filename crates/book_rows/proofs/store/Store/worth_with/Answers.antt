use Rattle.std.proofs.Common.{◌≡◌, ◌≤◌, ◌+◌, ◌∙◌, arith, rules}
use Rattle.agg_types.specs.Whats.{lent_cells}
use Rattle.fleet_model.specs.Keys.{key_rows, worth_of}
use Rattle.fleet_model.specs.Machine.{with_row}
use Rattle.fleet_model.specs.Values.{column_worth}
use Rattle.book_rows.specs.Planned.{place_at}
use Rattle.book_rows.specs.Store.{AreFound, put_arrival}
use Rattle.book_rows.proofs.Bounding.{worth_found}
use Rattle.book_rows.proofs.Changing.{arriving_more}
use Rattle.book_rows.proofs.store.Store.worth_with.Goals as goal

pub returns-clause-before : goal.returns-clause-before
returns-clause-before c =
    let found : AreFound c.args.self.now.rows c.args.at.table c.args.at.key.now
    c.as_ref.result = search rules in
    let under = c.found_bound-standing.ensures.bound in
    let standing = worth_found c.args.self.now.rows c.args.at.table c.args.at.key.now
    c.args.cols.now c.args.col c.args.t c.as_ref.result found in
    omega (arith, under, standing)

pub returns-clause-after : goal.returns-clause-after
returns-clause-after c = λ life.
    let found : AreFound c.args.self.now.rows c.args.at.table c.args.at.key.now
    c.as_ref.result = search rules in
    let under = c.found_bound-standing.ensures.bound in
    let standing = worth_found c.args.self.now.rows c.args.at.table c.args.at.key.now
    c.args.cols.now c.args.col c.args.t c.as_ref.result found in
    let own : c.from.result ≡ column_worth c.args.col 0 c.args.cols.now (lent_cells c.args.cells) =
    c.from.ensures ∙ c.arriving_worth.ensures in
    let more : worth_of c.args.cols.now
    (key_rows (with_row c.args.t c.args.self.now.rows (place_at c.args.at)
    (put_arrival c.args.t life c.args.cols.now (lent_cells c.args.cells))) c.args.at.table
    c.args.at.key.now) c.args.col c.args.t
    ≤ worth_of c.args.cols.now (key_rows c.args.self.now.rows c.args.at.table c.args.at.key.now)
    c.args.col c.args.t + column_worth c.args.col 0 c.args.cols.now (lent_cells c.args.cells) =
    arriving_more c.args.cols.now c.args.self.now.rows c.args.t (place_at c.args.at) life
    (lent_cells c.args.cells) c.args.col c.requires in
    omega (arith, under, standing, own, more)
