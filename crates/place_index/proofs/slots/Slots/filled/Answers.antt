use Rattle.std.proofs.Common.{sym, ◌∙◌}
use Rattle.place_index.proofs.Held.{no_item, read_empty, read_filled}
use Rattle.place_index.proofs.slots.Slots.filled.Goals as goal

pub returns-in_err-slot : goal.returns-in_err-slot
returns-in_err-slot g c =
    rw c.from_residual.ensures
    (sym (no_item g.K.IndexKey.is_blank c.args.self.now c.args.at (sym c.in_err-slot.ensures)))

pub returns-then-is_empty_at : goal.returns-then-is_empty_at
returns-then-is_empty_at g c =
    read_empty g.K.IndexKey.is_blank c.args.self.now c.args.at c.in_ok-slot.slot.now
    (sym c.is_empty_at.ensures ∙ c.if-is_empty_at.true) (sym c.in_ok-slot.ensures)

pub returns-else-is_empty_at : goal.returns-else-is_empty_at
returns-else-is_empty_at g c =
    read_filled g.K.IndexKey.is_blank c.args.self.now c.args.at c.in_ok-slot.slot.now
    (sym c.is_empty_at.ensures ∙ c.if-is_empty_at.false) (sym c.in_ok-slot.ensures)
