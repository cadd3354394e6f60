use Rattle.std.proofs.Common.{subst}
use Rattle.std.specs.Option.{option_map}
use Rattle.expiry_wheel.specs.Items.{AreFromFirst}
use Rattle.expiry_wheel.specs.Lent.{lent_entry}
use Rattle.expiry_wheel.proofs.Left.{from_first}
use Rattle.expiry_wheel.proofs.entries.Entries.peek.Goals as goal

pub returns-clause-first : goal.returns-clause-first
returns-clause-first g c =
    subst (λ l. AreFromFirst l) c.self.view_is
    (from_first g.T.Ord.cmp (option_map lent_entry c.self.inside.next)
    (g.I.DueIndex.planned c.self.inside.index.now))
