use Rattle.std.proofs.Common.{◌+◌}
use Rattle.memory.specs.Shadow.{packed}
use Rattle.dma.proofs.Steps.{Judged}
use Rattle.dma.proofs.judge.Given as goal

abbrev pub invariant-loop-m : goal.invariant-loop-m
invariant-loop-m l = Judged l.write (packed l.size l.shadow) l.size l.mappings l.d l.n l.done (l.first + l.m-index)
