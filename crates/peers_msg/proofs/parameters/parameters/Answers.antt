use Rattle.std.proofs.Common.{sym, refl}
use Rattle.peers_msg.specs.Payload.{pairs_in, arrays_in}
use Rattle.peers_msg.proofs.Payloads.{part_more, part_done, pairs_go, arrays_go}
use Rattle.peers_msg.proofs.parameters.parameters.Goals as goal

pub loop-next-preserved : goal.loop-next-preserved
loop-next-preserved c =
    record {
      pairs = rw c.in_ok-keep.ensures.pairs (part_more pairs_in c.loop-next.periods.items
          c.loop-next.rest.now c.in-Some.after.now c.args.bytes.now c.in-Some.next pairs_go
          c.loop-next.invariant.pairs (sym c.in-Some.ensures.exact));
      arrays = rw c.in_ok-keep.ensures.arrays (part_more arrays_in c.loop-next.arrays.items
          c.loop-next.rest.now c.in-Some.after.now c.args.bytes.now c.in-Some.next arrays_go
          c.loop-next.invariant.arrays (sym c.in-Some.ensures.exact));
    }

pub returns : goal.returns
returns c = (
  rw c.from_vec.ensures (part_done pairs_in c.loop-next.periods.items c.loop-next.rest.now
      c.args.bytes.now refl c.loop-next.invariant.pairs (sym c.in_default.ensures.exact)),
  rw c.from_vec-2.ensures (part_done arrays_in c.loop-next.arrays.items c.loop-next.rest.now
      c.args.bytes.now refl c.loop-next.invariant.arrays (sym c.in_default.ensures.exact)),
)
