use Rattle.std.proofs.Common.{rules, ◌≡◌, ◌∷◌, arith}
use Rattle.book_rows.proofs.Placing.{row_falls, rows_split}
use Rattle.book_machine.proofs.nothing.last_of.Goals as goal

pub loop-row-preserved-then-at-latest : goal.loop-row-preserved-then-at-latest
loop-row-preserved-then-at-latest c =
    let row = c.in-Some.row.now in
    let split : c.loop-row.row-iterator ≡ (c.in-Some.field-0-0, row) ∷ c.next.new.self =
    search rules in
    record {
      among = λ cols col t. omega (
        arith,
        rows_split cols col t _ _ _ split,
        c.loop-row.invariant.among cols col t,
      );
      last = λ cols col t. omega (
        arith,
        rows_split cols col t _ _ _ split,
        c.loop-row.invariant.among cols col t,
      );
      held = c.in_ok-over.ensures.held;
      over = λ cols col t place later.
          let own = c.held_worth.ensures cols col c.args.place place c.in_ok-over.ensures.held in
          let falls = row_falls cols col c.max-at.result t row later in
          let before = c.loop-row.invariant.over cols col t place (omega arith) in
          omega (arith, rows_split cols col t _ _ _ split, own, falls, before);
    }

pub loop-row-preserved-else-at-latest : goal.loop-row-preserved-else-at-latest
loop-row-preserved-else-at-latest c =
    let row = c.in-Some.row.now in
    let split : c.loop-row.row-iterator ≡ (c.in-Some.field-0-0, row) ∷ c.next.new.self =
    search rules in
    record {
      among = λ cols col t. omega (
        arith,
        rows_split cols col t _ _ _ split,
        c.loop-row.invariant.among cols col t,
      );
      last = λ cols col t. c.loop-row.invariant.last cols col t;
      held = c.loop-row.invariant.held;
      over = λ cols col t place later.
          let own = c.held_worth.ensures cols col c.args.place place c.in_ok-over.ensures.held in
          let falls = row_falls cols col c.max-at.result t row (omega arith) in
          let before = c.loop-row.invariant.over cols col t place later in
          omega (arith, rows_split cols col t _ _ _ split, own, falls, before);
    }
