use Rattle.std.proofs.Common.{not}
use Rattle.peer_rows.specs.Rows.{in_table}
use Rattle.book_rows.proofs.Inside.{rows_left}
use Rattle.book_rows.proofs.puts.drop_table.Goals as goal

pub returns-clause-kept : goal.returns-clause-kept
returns-clause-kept c =
    rows_left c.args.size.peers c.args.size.tables c.args.rows.now c.clear_table.new.self
    c.requires.rows c.clear_table.ensures.ordered
    (λ e. not (in_table c.args.table e.0)) c.clear_table.ensures.after
