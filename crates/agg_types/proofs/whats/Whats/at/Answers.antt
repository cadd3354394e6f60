use Rattle.agg_types.proofs.Packing.{drop-lent}
use Rattle.agg_types.proofs.whats.Whats.at.Goals as goal

pub returns-clause-left : goal.returns-clause-left
returns-clause-left c =
    drop-lent c.self.inside.cells.items c.self.inside.entries.items c.args.place
    c.index.result.now c.args.self.now _ c.self.view_is c.requires c.index.ensures
    (rw (← c.as_slice.ensures.value) c.lend.ensures)
