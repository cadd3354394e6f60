use Rattle.std.proofs.Common.{ℕ, List, IfSome, subst, rules}
use Rattle.agg_types.specs.declared.column.Col.{Col}
use Rattle.crossing.specs.First.{IsDropAt}
use Rattle.fleet_model.specs.Keys.{key_rows}
use Rattle.book_machine.specs.Foreseen.{worth_within}
use Rattle.book.specs.OneKey.{KeyOf}
use Rattle.book.proofs.OneKeyed.{IsReadOf, read_of}
use Rattle.book.proofs.one_key.OneKeyValues.known_drop.Goals as goal

pub returns : goal.returns
returns c =
    let of : KeyOf = c.args.self.now in
    let rows = of.state.rows in
    let read : IsReadOf of c.as_ref.result c.self.inside.cols.now =
    read_of _ of c.self.inside.rows c.as_ref.result c.self.inside.cols.now c.self.view_is
    (search rules) c.self.invariant.0 c.self.invariant.2 in
    subst (λ (cols : List (Col × ℕ)). IfSome c.found_drop.result (IsDropAt c.args.from
    (worth_within cols (key_rows rows of.table of.key) c.args.col) c.args.bound)) read.same
    (c.found_drop.ensures rows of.table of.key read.found)
