use Rattle.std.proofs.Common.{◌+◌}
use Rattle.memory.specs.Memory.{memory_of}
use Rattle.dma.proofs.Steps.{Writing}
use Rattle.dma.proofs.write.Given as goal

abbrev pub invariant-loop-m : goal.invariant-loop-m
invariant-loop-m l = Writing l.mappings l.d l.buf (memory_of l.fn.bytes l.fn.shadow) (memory_of l.bytes l.shadow) l.done (l.first + l.m-index)
