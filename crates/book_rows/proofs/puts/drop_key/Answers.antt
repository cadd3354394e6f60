use Rattle.std.proofs.Common.{not}
use Rattle.peer_rows.specs.Rows.{of_table_key}
use Rattle.book_rows.proofs.Inside.{rows_left}
use Rattle.book_rows.proofs.puts.drop_key.Goals as goal

pub returns-clause-kept : goal.returns-clause-kept
returns-clause-kept c =
    rows_left c.args.size.peers c.args.size.tables c.args.rows.now c.clear_key.new.self
    c.requires.rows c.clear_key.ensures.ordered
    (λ e. not (of_table_key c.args.table c.args.key.now e.0)) c.clear_key.ensures.after
