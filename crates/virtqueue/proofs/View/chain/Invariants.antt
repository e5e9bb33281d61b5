use Rattle.std.proofs.Common.{◌+◌, ◌-◌, ◌<◌, ◌≤◌}
use Rattle.virtqueue.specs.Ring.{chain}
use Rattle.virtqueue.specs.Reads.{reads}
use Rattle.virtqueue.proofs.Passing.{Ahead}
use Rattle.virtqueue.proofs.View.chain.Given as goal

abbrev pub invariant-loop-more : goal.invariant-loop-more
invariant-loop-more l = record {
  some : 0 < l.more;
  few : l.buffers + l.more ≤ l.before + l.self.queue.size;
  ahead : Ahead (chain (reads l.self) l.self.queue l.heads (l.self.queue.size - 1) l.head) (chain (reads l.self) l.self.queue l.heads (l.more - 1) l.d) l.before l.buffers l.fn.numbers l.numbers;
}
