use Rattle.agg_types.proofs.PackedWords.{few-packed}
use Rattle.agg_types.proofs.packed.PackedCells.get.Goals as goal

pub returns-clause-few : goal.returns-clause-few
returns-clause-few c =
    few-packed c.self.inside.len c.self.inside.used c.self.inside.kinds c.self.inside.words
    c.args.col c.get.result c.self.invariant c.get.ensures
