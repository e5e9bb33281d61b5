use Rattle.std.proofs.Common.{◌∙◌}
use borrow.Author.Tests.{eq-eqb, ne_eqb}
use Rattle.answer.specs.Tests.{◌or◌}
use Rattle.conformance.proofs.is_size_byte.Goals as goal

pub returns-then-b-eq0 : goal.returns-then-b-eq0
unfolding ◌or◌
returns-then-b-eq0 c = rw (eq-eqb _ _ c.if-b-eq0.true)

pub returns-else-b-eq0 : goal.returns-else-b-eq0
unfolding ◌or◌
returns-else-b-eq0 c = c.is_power_of_two.ensures ∙ rw (ne_eqb _ _ c.if-b-eq0.false)
