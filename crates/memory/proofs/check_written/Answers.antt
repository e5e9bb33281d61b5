use Rattle.std.proofs.Common.{◌∙◌}
use Rattle.memory.proofs.Shadow.{unwritten-by}
use Rattle.memory.proofs.check_written.Goals as goal

pub returns : goal.returns
returns c size room = rw c.at.ensures at c.when.ensures ∙ unwritten-by _ _ _ _ (c.written_run-run.ensures size room)
