use Rattle.std.proofs.Common.{ap, ◌∙◌}
use Rattle.std.specs.Option.{option_map}
use Rattle.expiry_wheel.specs.Lent.{lent_entry}
use Rattle.expiry_wheel.specs.Merge.{merged, left_from}
use Rattle.expiry_wheel.proofs.Left.{left_at_start}
use Rattle.expiry_wheel.proofs.due.Due.new.Goals as goal

pub returns : goal.returns
returns g c =
    let firsts = g.A.DueIndex.planned c.args.firsts.now in
    let seconds = g.B.DueIndex.planned c.args.seconds.now in
    ap (λ l. merged l (left_from g.U.Ord.cmp (option_map lent_entry c.after-2.result) seconds))
    (left_at_start g.T.Ord.cmp g.met.T.Ord.total firsts c.after.ensures.ordered
    (option_map lent_entry c.after.result) c.after.ensures.next)
    ∙ ap (λ l. merged firsts l)
    (left_at_start g.U.Ord.cmp g.met.U.Ord.total seconds c.after-2.ensures.ordered
    (option_map lent_entry c.after-2.result) c.after-2.ensures.next)
