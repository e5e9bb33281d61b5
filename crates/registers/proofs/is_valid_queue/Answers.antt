-- `registers::is_valid_queue` meets its contract.
use Rattle.answer.proofs.Tests.{both_and}
use Rattle.registers.proofs.Values.{queue-tested}
use Rattle.registers.proofs.is_valid_queue.Goals as goal

pub returns : goal.returns
returns c =
    simp both_and
    (rw (c.is_valid_size-sized.ensures, c.get.ensures, c.get-enabled.ensures, c.get-2.ensures, c.get-3.ensures, c.get-4.ensures) (queue-tested c.args.v.now))
