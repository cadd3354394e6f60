use Rattle.std.proofs.Common.{◌≡◌, ◌+◌, ◌*◌, sym, arith}
use Rattle.peers_msg.proofs.Integers.{read_more, over_at, found_at, cut_at}
use Rattle.peers_msg.proofs.integer.get_long_int.Goals as goal

pub returns-in_default-clause-exact : goal.returns-in_default-clause-exact
returns-in_default-clause-exact c =
    sym (over_at c.args.first c.args.rest.now c.loop-i.i c.from.result c.loop-i.value
    c.loop-i.weight c.requires c.loop-i.invariant (omega arith) c.from.ensures
    (omega (arith, c.in_default.ensures)))

pub returns-in_default-checked_add-clause-exact : goal.returns-in_default-checked_add-clause-exact
returns-in_default-checked_add-clause-exact c =
    sym (over_at c.args.first c.args.rest.now c.loop-i.i c.from.result c.loop-i.value
    c.loop-i.weight c.requires c.loop-i.invariant (omega arith) c.from.ensures
    (omega (arith, c.in_default-checked_add.ensures, c.in-Some.ensures)))

pub returns-then-byte-lt128-clause-exact : goal.returns-then-byte-lt128-clause-exact
returns-then-byte-lt128-clause-exact c =
    let s : c.in-Some-checked_add.sum ≡ c.loop-i.value + c.from.result * c.loop-i.weight =
    omega (arith, c.in-Some-checked_add.ensures, c.in-Some.ensures) in
    rw s (sym (found_at c.args.first c.args.rest.now c.loop-i.i c.from.result c.loop-i.value
    c.loop-i.weight c.requires c.loop-i.invariant (omega arith) c.from.ensures
    (omega (arith, c.from.ensures)) (omega (arith, c.in-Some-checked_add.ensures))))

pub loop-i-preserved : goal.loop-i-preserved
loop-i-preserved c =
    let s : c.in-Some-checked_add.sum ≡ c.loop-i.value + c.from.result * c.loop-i.weight =
    omega (arith, c.in-Some-checked_add.ensures, c.in-Some.ensures) in
    rw s (read_more c.args.first c.args.rest.now c.loop-i.i c.from.result c.loop-i.value
    c.loop-i.weight c.loop-i.invariant (omega arith) c.from.ensures
    (omega (arith, c.from.ensures)) (omega (arith, c.in-Some-checked_add.ensures)))

pub returns-clause-exact : goal.returns-clause-exact
returns-clause-exact c =
    sym (cut_at c.args.first c.args.rest.now c.loop-i.i c.loop-i.value c.loop-i.weight c.requires
    c.loop-i.invariant (omega arith))
