use Rattle.book_rows.proofs.KeysMeeting.{met_moved}
use Rattle.book_rows.proofs.listing.meeting.Goals as goal

pub returns : goal.returns
returns c =
    let sorted = c.sort.new.keys.items in
    record {
      keys = sorted;
      meeting = met_moved c.args.store.now.rows c.args.table c.args.cols.now c.args.conds.now
          c.args.t c.in_ok-keys.keys.items sorted c.in_ok-keys.ensures c.sort.ensures.moved;
      in_order = c.sort.ensures.in_order c.in_ok-keys.ensures.once;
      sums = c.new.ensures;
    }
