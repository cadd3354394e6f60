use Rattle.std.proofs.Common.{◌≡◌, Some, not, ap, sym, refl, ◌∙◌, false, true}
use Rattle.std.specs.Prelude.{slice_get}
use Rattle.agg_types.specs.Check.{fault_if, is_within}
use Rattle.agg_types.specs.declared.check.ConfigFault.TheVariants.{BadSize}
use Rattle.agg_types.specs.declared.config.Config.{Config}
use Rattle.agg_types.specs.declared.limits.TheConstants.{MOST_ROWS}
use Rattle.agg_config.proofs.Behind.{put_wrong, rows_faults}
use Rattle.agg_config.proofs.declaring.declare_rows.Goals as goal

pub returns-then-not-bound_fits : goal.returns-then-not-bound_fits
returns-then-not-bound_fits c =
    let is : is_within c.args.rows MOST_ROWS ≡ false =
    sym c.bound_fits.ensures ∙ c.if-not-bound_fits.true in
    let config : Config = c.args.config.now in
    put_wrong config (record config { rows = Some c.args.rows }) config BadSize
    c.wrong_check.result
    (ap (λ faults. slice_get faults 0) (rows_faults c.args.config.now c.args.rows c.requires
    ∙ ap (λ fits. fault_if (not fits) BadSize) is)) c.wrong_check.ensures refl

pub returns : goal.returns
returns c =
    let is : is_within c.args.rows MOST_ROWS ≡ true =
    sym c.bound_fits.ensures ∙ c.if-not-bound_fits.false in (
      rows_faults c.args.config.now c.args.rows c.requires
          ∙ ap (λ fits. fault_if (not fits) BadSize) is,
      refl,
    )
