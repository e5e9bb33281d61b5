use borrow.Author.Tests.{eq-eqb, ne_eqb}
use Rattle.answer.specs.Tests.{◌or◌}
use Rattle.device_file.specs.Layout.{is_magic}
use Rattle.device_file.proofs.is_magic.Goals as goal

pub returns-then-x-eq1885563136 : goal.returns-then-x-eq1885563136
unfolding is_magic ◌or◌
returns-then-x-eq1885563136 c = rw (eq-eqb _ _ c.if-x-eq1885563136.true)

pub returns-else-x-eq1885563136 : goal.returns-else-x-eq1885563136
unfolding is_magic ◌or◌
returns-else-x-eq1885563136 c = rw (ne_eqb _ _ c.if-x-eq1885563136.false)
