use Rattle.std.proofs.Common.{◌∙◌, sym}
use Rattle.agg_types.specs.declared.column.Col.TheVariants.{Gpc0}
use Rattle.agg_types.proofs.PackedWords.{fit-next, fit-none, fit-over}
use Rattle.agg_types.proofs.fits.+packed_fit.Goals as goal

pub returns-in-None : goal.returns-in-None
returns-in-None t c =
    rw (fit-none c.args.cols.now c.args.cells.now c.args.from
    (sym c.get.ensures.cell ∙ c.in-None.is)) c.is_empty.ensures

pub returns-in-empty : goal.returns-in-empty
returns-in-empty t c =
    sym (fit-over c.args.cols.now c.args.cells.now c.args.from c.in-Some.cell
    (sym c.get.ensures.cell ∙ c.in-Some.is) c.in-empty.len_below)

pub returns-then-cell_fits : goal.returns-then-cell_fits
returns-then-cell_fits t c =
    rw (
      fit-next c.args.cols.now c.args.cells.now c.args.from c.in-Some.cell (Gpc0, 0)
          (sym c.get.ensures.cell ∙ c.in-Some.is) c.in-len1-up.len_at_least,
      sym c.cell_fits.ensures ∙ c.if-cell_fits.true,
    ) c.packed_fit.ensures

pub returns-else-cell_fits : goal.returns-else-cell_fits
returns-else-cell_fits t c =
    rw (
      fit-next c.args.cols.now c.args.cells.now c.args.from c.in-Some.cell (Gpc0, 0)
          (sym c.get.ensures.cell ∙ c.in-Some.is) c.in-len1-up.len_at_least,
      sym c.cell_fits.ensures ∙ c.if-cell_fits.false,
    ) c.if-cell_fits.false
