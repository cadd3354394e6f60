use Rattle.std.proofs.Common.{◌∙◌}
use Rattle.book_rows.proofs.KeysMeeting.{all_where}
use Rattle.book.proofs.book.Book.rows.Goals as goal

pub returns : goal.returns
returns c = c.in_ok-rows.ensures ∙ all_where c.args.self.now c.args.table
