use Rattle.iommu.proofs.Moves.{shift-done}
use Rattle.iommu.proofs.insert.Goals as goal

pub returns : goal.returns
returns c = rw c.copy_within.ensures.after (shift-done _ _ _ _ c.requires.0 c.requires.1)
