use Rattle.std.proofs.Common.{◌≡◌, ◌∙◌, length, true, sym}
use Rattle.agg_types.specs.Kind.{allows}
use Rattle.agg_types.specs.Packed.{packed_cells}
use Rattle.agg_types.proofs.form.UpdateForm.takes.Goals as goal

pub returns-then-kinds-self : goal.returns-then-kinds-self
returns-then-kinds-self c allowed tables table form =
    let long : allows c.args.self.length (length c.args.key.now) ≡ true =
    rw (← c.as_slice.ensures) (sym c.allows.ensures ∙ allowed) in
    let cells : packed_cells c.args.self.len c.args.self.kinds c.laid-len.result.3.now
    ≡ c.args.cells.now = rw (← c.if-kinds-self.true.0, ← c.if-kinds-self.true.1)
    c.laid-len.ensures.cells in
    rw (← cells) (form c.args.key.now c.laid-len.result.3.now long c.laid-len.ensures.words)
