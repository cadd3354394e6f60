use Rattle.std.proofs.Common.{◌≡◌, ◌∙◌, true, None, sym}
use Rattle.update_values.specs.Straight.{is_straight}
use Rattle.update_values.proofs.AlongLemmas.{straight_is}
use Rattle.update_values.proofs.decode_plan.DecodePlan.pack.Goals as goal

pub returns : goal.returns
returns c =
    let plan = c.args.self.now in
    let straight = plan.in_words c.if-not-self.false in
    let in_order : is_straight 0 plan.numbers.len plan.sources.items ≡ true =
    plan.in_order straight in
    let no_name : plan.name ≡ None = plan.no_name straight in
    let read = rw c.as_slice.ensures.value at c.read_packed.ensures in
    rw (no_name, straight_is plan.sources.items plan.numbers.len c.args.bytes.now in_order) read
