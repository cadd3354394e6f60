use Rattle.std.proofs.Common.{◌&&◌, nat_eq, ◌∙◌, sym, ap}
use Rattle.agg_types.proofs.Numbers.{tied_as_keys}
use Rattle.agg_types.proofs.short_key.ShortKey.is.Goals as goal

pub returns-then-same : goal.returns-then-same
returns-then-same c =
    let tied = tied_as_keys c.self.inside.len c.self.inside.bytes (
      c.self.told,
      c.self.invariant.0,
      c.self.invariant.1,
    ) c.other.inside.len c.other.inside.bytes (
      c.other.told,
      c.other.invariant.0,
      c.other.invariant.1,
    ) c.same.result c.same.ensures in
    rw (← c.self.view_is, ← c.other.view_is)
    (ap (λ b. b && nat_eq c.self.inside.len c.other.inside.len) (sym c.if-same.true) ∙ tied)

pub returns-else-same : goal.returns-else-same
returns-else-same c =
    let tied = tied_as_keys c.self.inside.len c.self.inside.bytes (
      c.self.told,
      c.self.invariant.0,
      c.self.invariant.1,
    ) c.other.inside.len c.other.inside.bytes (
      c.other.told,
      c.other.invariant.0,
      c.other.invariant.1,
    ) c.same.result c.same.ensures in
    rw (← c.self.view_is, ← c.other.view_is) (c.if-same.false
    ∙ ap (λ b. b && nat_eq c.self.inside.len c.other.inside.len) (sym c.if-same.false) ∙ tied)
