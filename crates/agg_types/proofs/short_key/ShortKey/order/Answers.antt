use Rattle.agg_types.proofs.Numbers.{ranked_as_keys}
use Rattle.agg_types.proofs.short_key.ShortKey.order.Goals as goal

pub returns : goal.returns
returns c =
    rw (← c.self.view_is, ← c.other.view_is, c.order.ensures, c.cmp.ensures)
    (ranked_as_keys c.self.inside.len c.self.inside.bytes (
      c.self.told,
      c.self.invariant.0,
      c.self.invariant.1,
    )
    c.other.inside.len c.other.inside.bytes (
      c.other.told,
      c.other.invariant.0,
      c.other.invariant.1,
    ))
