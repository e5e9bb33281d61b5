use Rattle.std.proofs.Common.{refl, arith}
use Rattle.answer.specs.Tests.{◌or◌}
use Rattle.answer.specs.Checks.{◌unless◌}
use Rattle.interrupts.specs.Requests.{action_number, one_of_three}
use Rattle.interrupts.proofs.Names.{nameless}
use Rattle.interrupts.proofs.ActionTryFromU32.try_from.Goals as goal

pub returns-in-1 : goal.returns-in-1
unfolding one_of_three ◌or◌ ◌unless◌
returns-in-1 c = rw c.in-1.is (record { checks = refl; named = refl })

pub returns-in-2 : goal.returns-in-2
unfolding one_of_three ◌or◌ ◌unless◌
returns-in-2 c = rw c.in-2.is (record { checks = refl; named = refl })

pub returns-in-4 : goal.returns-in-4
unfolding one_of_three ◌or◌ ◌unless◌
returns-in-4 c = rw c.in-4.is (record { checks = refl; named = refl })

pub returns-in_default : goal.returns-in_default
returns-in_default c = nameless action_number c.args.bits c.at.result (omega arith) (omega arith) (omega arith) c.at.ensures
