use Rattle.std.proofs.Common.{arith}
use Rattle.peer_rows.proofs.Paging.{found_before, found_from, gap_before, gap_from}
use Rattle.peer_rows.proofs.Peers.{found_in, gap_in}
use Rattle.peer_rows.proofs.page.cut_at.Goals as goal

pub returns-in-Ok-clause-bound : goal.returns-in-Ok-clause-bound
returns-in-Ok-clause-bound c =
    let within = found_in c.args.end c.args.rows.now c.in-Ok.at c.in-Ok.ensures in
    omega (arith, within)

pub returns-in-Ok-clause-before : goal.returns-in-Ok-clause-before
returns-in-Ok-clause-before c =
    found_before c.args.end c.args.rows.now c.in-Ok.at c.in-Ok.ensures

pub returns-in-Ok-clause-from : goal.returns-in-Ok-clause-from
returns-in-Ok-clause-from c =
    found_from c.args.end c.args.rows.now c.in-Ok.at c.requires c.in-Ok.ensures

pub returns-in-Err-clause-bound : goal.returns-in-Err-clause-bound
returns-in-Err-clause-bound c = gap_in c.args.end c.args.rows.now c.in-Err.at c.in-Err.ensures

pub returns-in-Err-clause-before : goal.returns-in-Err-clause-before
returns-in-Err-clause-before c =
    gap_before c.args.end c.args.rows.now c.in-Err.at c.in-Err.ensures

pub returns-in-Err-clause-from : goal.returns-in-Err-clause-from
returns-in-Err-clause-from c =
    gap_from c.args.end c.args.rows.now c.in-Err.at c.requires c.in-Err.ensures
