use Rattle.std.proofs.Common.{◌∙◌, sym}
use Rattle.agg_types.specs.Whats.{as_what}
use Rattle.book_machine.proofs.Counting.{due-fits}
use Rattle.book_machine.proofs.machine.Machine.is_due.Goals as goal

pub returns-clause-fits : goal.returns-clause-fits
returns-clause-fits c = λ counted. due-fits c.args.self.now
    (record { seat = c.args.seat; seq = c.args.seq; what = as_what c.args.what })
    (sym c.counts.ensures.exact ∙ counted)
