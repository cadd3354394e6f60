use Rattle.std.specs.Option.{option_map}
use Rattle.expiry_wheel.specs.Lent.{lent_entry}
use Rattle.expiry_wheel.proofs.Left.{left_at_start}
use Rattle.expiry_wheel.proofs.entries.Entries.new.Goals as goal

pub returns-clause-all : goal.returns-clause-all
returns-clause-all g c =
    left_at_start g.T.Ord.cmp g.met.T.Ord.total (g.I.DueIndex.planned c.args.index.now)
    c.after.ensures.ordered (option_map lent_entry c.after.result) c.after.ensures.next
