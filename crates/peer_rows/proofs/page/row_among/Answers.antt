use Rattle.std.proofs.Common.{◌<◌, length, sym, rules}
use Rattle.peer_rows.proofs.Peers.{found_in, found_value, gap_none}
use Rattle.peer_rows.proofs.page.row_among.Goals as goal

pub bounds-rows-at : goal.bounds-rows-at
bounds-rows-at c = found_in c.args.peer c.args.rows.now c.in-Ok.at c.in-Ok.ensures

pub offset_bounds-rows-at : goal.offset_bounds-rows-at
offset_bounds-rows-at c =
    let in_range : c.in-Ok.at < length c.args.rows.now =
    found_in c.args.peer c.args.rows.now c.in-Ok.at c.in-Ok.ensures in
    search (rules, in_range)

pub returns-in-Ok : goal.returns-in-Ok
returns-in-Ok c = sym (found_value c.args.peer c.args.rows.now c.in-Ok.at c.index-rows-at.result
    c.in-Ok.ensures)

pub returns-in-Err : goal.returns-in-Err
returns-in-Err c = sym (gap_none c.args.peer c.args.rows.now c.in-Err.field-0 c.requires
    c.in-Err.ensures)
