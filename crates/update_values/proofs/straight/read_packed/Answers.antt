use Rattle.std.proofs.Common.{◌∙◌, drop, sym, arith}
use Rattle.std.proofs.lemmas.List.{take_rest}
use Rattle.update_values.proofs.AlongLemmas.{along_packed}
use Rattle.update_values.proofs.straight.read_packed.Goals as goal

pub loop-source-preserved : goal.loop-source-preserved
loop-source-preserved c =
    let step = along_packed c.args.sources.now c.loop-source.source-index c.loop-source.packed
    c.pack_cell.new.packed c.loop-source.rest.now
    (drop c.in_ok-taken.taken c.loop-source.rest.now) _ (omega arith)
    c.in_ok-taken.ensures.exact in
    rw (take_rest c.loop-source.rest.now c.in_ok-taken.taken)
    (sym step ∙ c.loop-source.invariant)
