use Rattle.std.proofs.Common.{rules}
use Rattle.fleet_model.specs.Values.{cols_of}
use Rattle.book.specs.OneKey.{KeyOf}
use Rattle.book_machine.proofs.FoundAhead.{most_found}
use Rattle.book.proofs.OneKeyed.{IsReadOf, read_of}
use Rattle.book.proofs.one_key.OneKeyValues.most.Goals as goal

pub returns : goal.returns
returns c =
    let of : KeyOf = c.args.self.now in
    let rows = of.state.rows in
    let read : IsReadOf of c.as_ref.result c.self.inside.cols.now =
    read_of _ of c.self.inside.rows c.as_ref.result c.self.inside.cols.now c.self.view_is
    (search rules) c.self.invariant.0 c.self.invariant.2 in
    most_found c.found_most.result rows of.table of.key c.self.inside.cols.now
    (cols_of of.state.config.tables of.table) c.args.col c.as_ref.result read.same read.found
    c.found_most.ensures
