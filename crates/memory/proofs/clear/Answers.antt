use Rattle.memory.proofs.Edits.{cleared}
use Rattle.memory.proofs.clear.Goals as goal

pub returns : goal.returns
returns c bytes = cleared bytes _ _ _ _ c.set_range.ensures
