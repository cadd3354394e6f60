use Rattle.std.proofs.Common.{◌≡◌, ◌∙◌, ap, List, take, arith}
use Rattle.std.specs.Prelude.{map}
use Rattle.agg_types.specs.declared.config.Shape.{Shape}
use Rattle.std.proofs.lemmas.List.{take_all}
use Rattle.fleet_sums.specs.Sums.{TableSums}
use Rattle.fleet_sums.proofs.Placing.{sums_in, new_sums, new_table}
use Rattle.fleet_sums.proofs.sums.Sums.new.Goals as goal

pub returns : goal.returns
returns c =
    let all : take c.loop-shape.shape-index c.args.tables.now ≡ c.args.tables.now =
    take_all _ _ (omega arith) in
    ap (λ (ts : List TableSums). sums_in ts) (c.loop-shape.invariant
    ∙ ap (λ (shapes : List Shape). map new_table shapes) all) ∙ new_sums c.args.tables.now
