use Rattle.std.proofs.Common.{arith}
use Rattle.bitmap.specs.Bits.{OnesOf}
use Rattle.bitmap.proofs.Runs.{ones_in}
use Rattle.bitmap.proofs.ones_in_byte.Goals as goal

pub returns-then-e-k : goal.returns-then-e-k
unfolding OnesOf
returns-then-e-k c t i h = absurd (omega arith)

pub returns-else-e-k : goal.returns-else-e-k
returns-else-e-k c t = ones_in _ _ _ _ c.requires.0 (c.ones.ensures t)
