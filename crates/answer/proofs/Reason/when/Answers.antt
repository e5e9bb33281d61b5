use Rattle.answer.proofs.Checks.{at_start}
use Rattle.answer.proofs.Reason.when.Goals as goal

pub returns : goal.returns
returns c = rw (c.when.ensures, c.at.ensures) (at_start _ _)
