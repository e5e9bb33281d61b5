-- `registers::current` meets its contract.
use Rattle.std.proofs.Common.{◌-◌, sym, arith}
use Rattle.registers.proofs.File.{features-row, features-whole, current-kept, slot_whole}
use Rattle.registers.proofs.current.Goals as goal

pub returns-then-row-eq0 : goal.returns-then-row-eq0
returns-then-row-eq0 c = rw (c.if-row-eq0.true, c.offered.ensures) (features-row _ _ (omega arith), features-whole)

pub returns : goal.returns
returns c = (sym (current-kept _ c.args.registers c.args.row (omega arith)), slot_whole c.args.registers _ c.well_formed.1.0 (c.args.row - 1) (omega arith))
