use Rattle.std.proofs.Common.{length, ap, sym, ◌∙◌}
use Rattle.std.specs.Prelude.{List}
use Rattle.agg_types.specs.declared.event.Cell.{Cell}
use Rattle.agg_types.proofs.PackedWords.{length-cells}
use Rattle.agg_types.proofs.packed.PackedCells.len.Goals as goal

pub returns : goal.returns
returns c = sym (length-cells c.self.inside.len c.self.inside.kinds c.self.inside.words)
    ∙ ap (λ (cells : List Cell). length cells) c.self.view_is
