use Rattle.std.proofs.Common.{◌∙◌, sym}
use Rattle.std.proofs.lemmas.Map.Text.{is_eq-slice_cmp}
use Rattle.agg_types.proofs.key.KeyPartialEq.eq.Goals as goal

pub returns-in_default : goal.returns-in_default
returns-in_default c =
    rw (← c.as_slice.ensures, ← c.as_slice-in_default.ensures) (c.eq.ensures
    ∙ sym (is_eq-slice_cmp c.as_slice.result.now c.as_slice-in_default.result.now))
