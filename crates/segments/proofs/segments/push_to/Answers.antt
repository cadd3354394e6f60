use Rattle.std.proofs.Common.{◌-◌, vec_len, arith}
use Rattle.segments.proofs.Joined.{joined_more, AreFull_more}
use Rattle.segments.proofs.segments.push_to.Goals as goal

pub returns-in-Some-clause-items : goal.returns-in-Some-clause-items
returns-in-Some-clause-items g c =
    joined_more c.args.segments.now.items c.in-Some.last.now c.push.new.self c.args.item
    (vec_len c.args.segments.now - 1) c.requires.room (omega arith) c.in-Some.ensures.value
    c.push.ensures

pub returns-in-Some-clause-full : goal.returns-in-Some-clause-full
returns-in-Some-clause-full g c =
    AreFull_more c.args.segments.now.items c.in-Some.last.now c.push.new.self c.args.item
    (vec_len c.args.segments.now - 1) c.requires.full c.requires.room (omega arith)
    c.in-Some.ensures.value c.push.ensures
