use Rattle.answer.specs.Checks.{◌when◌, ◌at◌}
use Rattle.answer.proofs.Refusal.when.Goals as goal

pub returns-then-bad : goal.returns-then-bad
unfolding ◌when◌ ◌at◌
returns-then-bad c = rw c.if-bad.true

pub returns-else-bad : goal.returns-else-bad
unfolding ◌when◌ ◌at◌
returns-else-bad c = rw c.if-bad.false
