use Rattle.std.proofs.Common.{◌∙◌, sym}
use Rattle.hub.proofs.Held.{rested}
use Rattle.hub.proofs.desk.Desk.put_back.Goals as goal

pub invariant_of-self : goal.invariant_of-self
invariant_of-self g c =
    let h = c.self.invariant.0 in (
      record {
        named = h.named;
        from_named = h.from_named;
        shown_named = c.showing.ensures.named;
        brings = h.brings;
        counted = h.counted;
      },
      c.self.invariant.1,
      c.self.invariant.2,
      c.self.invariant.3,
      rested c.self.inside.from c.showing.result c.args.press c.args.showed
          (sym (c.is.ensures c.if-not-is.false ∙ c.taken.ensures.taken)) c.showing.ensures.shown
          c.requires,
    )
