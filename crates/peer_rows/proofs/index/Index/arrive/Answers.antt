use Rattle.std.proofs.Common.{refl}
use Rattle.std.proofs.lemmas.Bool.{false≢true}
use Rattle.peer_rows.specs.Arriving.{arrived_row}
use Rattle.peer_rows.proofs.Arrivals.{arrived_planned}
use Rattle.peer_rows.proofs.index.Index.arrive.Goals as goal

pub returns-in_default : goal.returns-in_default
returns-in_default c = rw (← c.self.view_is) (record {
  rows = c.value_mut-rows.result.now;
  later = c.arrive.new.self;
  changed = record {
    value = c.value_mut-rows.ensures.value;
    is = refl;
    are = c.in_default.ensures.are;
  };
  held = λ done. absurd (false≢true done);
  after = c.in_default.ensures.rows;
})

pub invariant_of-self-then-ends_by : goal.invariant_of-self-then-ends_by
invariant_of-self-then-ends_by c =
    arrived_planned c.self.inside.keys.places c.args.at c.value_mut-rows.result.now
    c.arrive.new.self c.args.peer (arrived_row c.args.arrival.now) c.in-Some.end
    c.self.inside.ends c.self.invariant c.value_mut-rows.ensures.value c.in-Some.ensures.rows
    c.in-Some.ensures.end (rw (← c.end.ensures) (c.ends_by.ensures c.if-ends_by.true))
