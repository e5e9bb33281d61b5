use Rattle.std.proofs.Common.{◌+◌, ◌-◌, ◌*◌, ◌%◌, ◌^◌, ◌≤◌}
use Rattle.virtqueue.specs.Ring.{taken}
use Rattle.virtqueue.specs.Reads.{reads}
use Rattle.virtqueue.proofs.Passing.{Ahead}
use Rattle.virtqueue.proofs.View.chains.Given as goal

abbrev pub invariant-loop-heads : goal.invariant-loop-heads
invariant-loop-heads l = record {
  few : l.buffers ≤ 256 * l.heads;
  ahead : Ahead (taken (reads l.self) l.self.queue l.n 0 l.index) (taken (reads l.self) l.self.queue (l.n - l.heads) l.heads ((l.index + l.heads) % 2 ^ 16)) 0 l.buffers l.fn.numbers l.numbers;
}
