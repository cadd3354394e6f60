use Rattle.std.proofs.Common.{◌∙◌, nat_lt, length, sym}
use Rattle.std.specs.BTreeMap.{is_at}
use Rattle.std.specs.Map.{lookup}
use Rattle.std.specs.Ordering.{nat_cmp}
use Rattle.agg_types.specs.Fits.{fits}
use Rattle.agg_types.specs.declared.limits.TheConstants.{MOST_SEATS}
use Rattle.fleet_model.specs.Seats.{is_next}
use Rattle.book_frame.proofs.Chosen.{and-right}
use Rattle.book_frame.proofs.Counting.{due-is_next}
use Rattle.book_frame.proofs.seats.is_due.Goals as goal

pub returns-clause-sits : goal.returns-clause-sits
returns-clause-sits c = λ counted.
    let what = c.args.what.now in
    let free = nat_lt (length c.args.seats.now.entries) MOST_SEATS in
    let due = lookup (is_at (nat_cmp c.args.seat)) c.args.seats.now.entries in
    due-is_next what c.args.seat c.args.seq free c.args.above due
    (and-right (fits c.args.config.now what)
    (is_next what c.args.seat c.args.seq free c.args.above due)
    (sym c.counts.ensures ∙ counted))
