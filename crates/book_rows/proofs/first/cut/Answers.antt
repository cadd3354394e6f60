use Rattle.book_rows.proofs.first.cut.Goals as goal

pub returns : goal.returns
returns c once = record {
  sorted = c.sort.new.keys.items;
  moved = c.sort.ensures.moved;
  in_order = c.sort.ensures.in_order once;
  taken = c.truncate.ensures.items;
}
