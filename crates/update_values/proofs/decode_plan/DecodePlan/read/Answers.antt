use Rattle.std.proofs.Common.{◌≡◌, ◌∙◌, ◌++◌, length, take, drop, true, None, sym, arith}
use Rattle.std.proofs.lemmas.List.{take_at}
use Rattle.update_values.specs.Straight.{is_straight}
use Rattle.update_values.proofs.AlongLemmas.{straight_is}
use Rattle.update_values.proofs.decode_plan.DecodePlan.read.Goals as goal

pub returns-then-self-clause-cells : goal.returns-then-self-clause-cells
returns-then-self-clause-cells c =
    let plan = c.args.self.now in
    let new = c.read_straight.new.cells in
    let long : length new ≡ plan.cells.len = omega arith in
    let all : take plan.cells.len (new ++ drop (length new) plan.cells.items) ≡ new =
    take_at new (drop (length new) plan.cells.items) plan.cells.len long in
    let in_order : is_straight 0 plan.numbers.len plan.sources.items ≡ true =
    plan.in_order c.if-self.true in
    let no_name : plan.name ≡ None = plan.no_name c.if-self.true in
    let read = rw c.as_slice.ensures.value at c.read_straight.ensures in
    rw (all, no_name, straight_is plan.sources.items plan.numbers.len c.args.bytes.now in_order)
    read
