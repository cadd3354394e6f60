use Rattle.std.proofs.Common.{◌≡◌, ◌++◌, drop}
use Rattle.std.specs.VecDeque.{deque_len, deque_capacity}
use Rattle.hub.proofs.hand.hand_over.Given as goal

abbrev pub invariant-loop-op : goal.invariant-loop-op
invariant-loop-op l = record {
  desk : l.writer.desk ≡ l.initial.writer.desk;
  kept : drop l.writer.behind l.writer.log.items ++ l.queue.items ≡ drop l.initial.writer.behind
      l.initial.writer.log.items ++ l.initial.queue.items;
  room : deque_capacity l.queue ≡ deque_capacity l.initial.queue;
}

abbrev pub decreases-loop-op : goal.decreases-loop-op
decreases-loop-op l = deque_len l.queue
