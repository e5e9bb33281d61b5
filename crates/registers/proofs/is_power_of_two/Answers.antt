-- `registers::is_power_of_two` meets its contract: up to 256 the powers of two are the numbers with one 1.
use Rattle.std.proofs.Common.{arith}
use Rattle.registers.proofs.PowersOfTwo.{power-tested}
use Rattle.registers.proofs.is_power_of_two.Goals as goal

pub returns : goal.returns
returns c = power-tested 8 c.args.n (omega arith)
