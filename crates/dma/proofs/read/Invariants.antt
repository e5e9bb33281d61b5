use Rattle.std.proofs.Common.{◌+◌}
use Rattle.dma.proofs.Steps.{Reading}
use Rattle.dma.proofs.read.Given as goal

abbrev pub invariant-loop-m : goal.invariant-loop-m
invariant-loop-m l = Reading l.mappings l.bytes l.d l.fn.buf l.buf l.done (l.first + l.m-index)
