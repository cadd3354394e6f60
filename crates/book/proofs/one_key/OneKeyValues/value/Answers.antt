use Rattle.std.proofs.Common.{◌≡◌, ◌^◌, ◌-◌, ℕ, List, ap, ◌∙◌, min, arith, rules}
use Rattle.agg_types.specs.declared.column.Col.{Col}
use Rattle.fleet_model.specs.Keys.{key_rows, worth_of}
use Rattle.fleet_model.specs.Values.{cols_of}
use Rattle.book.specs.OneKey.{KeyOf}
use Rattle.book.proofs.OneKeyed.{IsReadOf, read_of}
use Rattle.book.proofs.one_key.OneKeyValues.value.Goals as goal

pub returns : goal.returns
returns c =
    let of : KeyOf = c.args.self.now in
    let rows = of.state.rows in
    let read : IsReadOf of c.as_ref.result c.self.inside.cols.now =
    read_of _ of c.self.inside.rows c.as_ref.result c.self.inside.cols.now c.self.view_is
    (search rules) c.self.invariant.0 c.self.invariant.2 in
    let within : c.args.t ≡ min c.args.t (2 ^ 64 - 1) = omega (arith, c.ranges.t) in
    c.found_worth.ensures.of_key rows of.table of.key read.found
    ∙ ap (λ (cols : List (Col × ℕ)). worth_of cols (key_rows rows of.table of.key) c.args.col
    c.args.t) read.same
    ∙ ap (λ t. worth_of (cols_of of.state.config.tables of.table) (key_rows rows of.table of.key)
    c.args.col t) within
