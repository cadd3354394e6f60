use Rattle.std.proofs.Common.{refl}
use Rattle.book_rows.proofs.Arriving.{life_left}
use Rattle.book_rows.proofs.puts.new_row.Goals as goal

pub returns : goal.returns
returns c = rw (
  c.in_ok-new.ensures,
  c.short.ensures,
  life_left c.args.t c.args.life,
  c.in_ok-hold.ensures,
  c.in_ok-held.ensures,
) refl
