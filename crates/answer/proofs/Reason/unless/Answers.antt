use Rattle.answer.proofs.Checks.{when_not}
use Rattle.answer.proofs.Reason.unless.Goals as goal

pub returns : goal.returns
returns c = rw (c.when.ensures, c.at.ensures) (when_not _ _)
