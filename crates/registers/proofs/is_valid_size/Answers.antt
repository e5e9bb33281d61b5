-- `registers::is_valid_size` meets its contract: it has the definition's own shape.
use Rattle.std.proofs.Common.{eqb}
use Rattle.answer.specs.Tests.{◌and◌}
use Rattle.answer.proofs.Tests.{both_and, either_or}
use Rattle.registers.specs.Values.{power_of_two}
use Rattle.registers.proofs.is_valid_size.Goals as goal

pub returns : goal.returns
returns c = simp (c.is_power_of_two.ensures, both_and) (either_or (power_of_two 8 c.args.size) (eqb c.args.size 0 and eqb c.args.enabled 0))
