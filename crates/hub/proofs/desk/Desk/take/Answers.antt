use Rattle.std.proofs.Common.{arith}
use Rattle.hub.proofs.Held.{desked_taken}
use Rattle.hub.proofs.desk.Desk.take.Goals as goal

pub invariant_of-self-2 : goal.invariant_of-self-2
invariant_of-self-2 g c =
    let queue = rw c.if-not-take_in.false at c.take_in.ensures.queue in (
      desked_taken g.J.Naming.book c.self.inside.from c.self.inside.queue.items
          c.take_in.new.queue.items c.self.inside.front c.self.inside.shown c.self.inside.roll
          c.self.invariant.0 c.again.result c.again.ensures queue.0,
      omega (arith, queue.1, c.take_in.ensures.room, c.self.invariant.3),
      c.take_in.ensures.room,
      c.self.invariant.3,
      rw c.take.ensures.after tt,
    )
