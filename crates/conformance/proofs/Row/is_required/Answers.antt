use borrow.Author.Tests.{eq-eqb, ne_eqb}
use Rattle.answer.specs.Tests.{◌or◌}
use Rattle.conformance.specs.Bytes.{required}
use Rattle.conformance.proofs.Row.is_required.Goals as goal

pub returns-then-self-eq0 : goal.returns-then-self-eq0
unfolding required ◌or◌
returns-then-self-eq0 c = rw (eq-eqb _ _ c.if-self-eq0.true)

pub returns-else-self-eq0 : goal.returns-else-self-eq0
unfolding required ◌or◌
returns-else-self-eq0 c = rw (ne_eqb _ _ c.if-self-eq0.false)
