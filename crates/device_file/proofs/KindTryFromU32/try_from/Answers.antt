use Rattle.std.proofs.Common.{sym, arith}
use Rattle.device_file.proofs.Types.{known_pass, unknown_fail}
use Rattle.device_file.specs.declared.Kind.TheVariants.{Region, DtPath, DtIndex, Interrupt, ConfigSpace, BarIndex, PhysAddr}
use Rattle.device_file.proofs.KindTryFromU32.try_from.Goals as goal

pub returns-in-1 : goal.returns-in-1
returns-in-1 c = (known_pass Region _ (sym c.in-1.is), sym c.in-1.is)

pub returns-in-2 : goal.returns-in-2
returns-in-2 c = (known_pass DtPath _ (sym c.in-2.is), sym c.in-2.is)

pub returns-in-3 : goal.returns-in-3
returns-in-3 c = (known_pass DtIndex _ (sym c.in-3.is), sym c.in-3.is)

pub returns-in-4 : goal.returns-in-4
returns-in-4 c = (known_pass Interrupt _ (sym c.in-4.is), sym c.in-4.is)

pub returns-in-5 : goal.returns-in-5
returns-in-5 c = (known_pass ConfigSpace _ (sym c.in-5.is), sym c.in-5.is)

pub returns-in-6 : goal.returns-in-6
returns-in-6 c = (known_pass BarIndex _ (sym c.in-6.is), sym c.in-6.is)

pub returns-in-7 : goal.returns-in-7
returns-in-7 c = (known_pass PhysAddr _ (sym c.in-7.is), sym c.in-7.is)

pub returns-in_default : goal.returns-in_default
returns-in_default c =
    (rw c.at.ensures (unknown_fail _ (λ e. omega arith) (λ e. omega arith) (λ e. omega arith) (λ e. omega arith) (λ e. omega arith) (λ e. omega arith) (λ e. omega arith)), tt)
