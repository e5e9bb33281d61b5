use Rattle.iommu.proofs.Moves.{close-end, close-none}
use Rattle.iommu.proofs.close.Goals as goal

pub returns-then-run : goal.returns-then-run
returns-then-run c = rw c.copy_within.ensures.after (close-end _ _ _ _ c.requires.0 c.requires.1 c.requires.2)

pub returns-else-run : goal.returns-else-run
returns-else-run c = close-none _ _ _ _ c.requires.0 c.if-run.false c.requires.1 c.requires.2
