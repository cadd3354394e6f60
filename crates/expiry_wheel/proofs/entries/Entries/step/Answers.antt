use Rattle.std.proofs.Common.{ap, sym, ◌∙◌}
use Rattle.std.specs.Option.{option_map}
use Rattle.expiry_wheel.specs.Items.{without_first}
use Rattle.expiry_wheel.specs.Lent.{lent_entry}
use Rattle.expiry_wheel.specs.Merge.{left_from}
use Rattle.expiry_wheel.proofs.Left.{left_beyond}
use Rattle.expiry_wheel.proofs.entries.Entries.step.Goals as goal

pub returns-in-Some : goal.returns-in-Some
returns-in-Some g c =
    let planned = g.I.DueIndex.planned c.self.inside.index.now in
    left_beyond g.T.Ord.cmp g.met.T.Ord.total planned
    c.after-self-inside.ensures.ordered (c.in-Some.taken.0, c.in-Some.taken.1.now)
    (option_map lent_entry c.after-self-inside.result) c.after-self-inside.ensures.next
    ∙ ap without_first (ap (λ s. left_from g.T.Ord.cmp (option_map lent_entry s) planned)
    (sym c.in-Some.is) ∙ c.self.view_is)
