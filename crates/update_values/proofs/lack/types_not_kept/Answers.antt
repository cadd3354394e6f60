use Rattle.std.proofs.Common.{◌≡◌, ◌∙◌, ap, arith}
use Rattle.update_values.specs.Lack.{bits_where, is_not_kept}
use Rattle.update_values.specs.declared.layout.Layout.{Layout}
use Rattle.update_values.proofs.lack.types_not_kept.Goals as goal

pub returns : goal.returns
returns c =
    let whole : c.loop-kind.kind ≡ 64 = omega arith in
    let cols = c.args.shape.now.cols in
    c.loop-kind.invariant.0
    ∙ ap (bits_where (is_not_kept c.layout_of-layout.result cols)) whole
    ∙ ap (λ (layout : Layout). bits_where (is_not_kept layout cols) 64) c.layout_of-layout.ensures
