use Rattle.std.proofs.Common.{length, ap, sym, ◌∙◌}
use Rattle.expiry_wheel.specs.Moments.{entries_of}
use Rattle.expiry_wheel.proofs.Grouped.{none-entries_of, empty_length}
use Rattle.expiry_wheel.proofs.ordered.OrderedDue.is_empty.Goals as goal

pub returns : goal.returns
returns g c = (
  λ yes. sym c.self.view_is ∙ ap entries_of (empty_length g.T.Ord.cmp c.self.inside.moments.entries
      (c.is_empty.ensures.0 yes)),
  λ none. c.is_empty.ensures.1 (ap length (none-entries_of g.T.Ord.cmp c.self.inside.moments.entries
      c.self.invariant (c.self.view_is ∙ none))),
)
