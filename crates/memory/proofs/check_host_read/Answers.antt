-- A read is checked as a write, and then its bytes must be written.
use Rattle.std.proofs.Common.{sym, arith}
use Rattle.answer.proofs.Checks.{goes_on}
use Rattle.memory.specs.Transfers.{host_read_checks}
use Rattle.memory.proofs.Transfers.{host_write-room}
use Rattle.memory.proofs.check_host_read.Goals as goal

pub check_written-requires : goal.check_written-requires
check_written-requires c = let room = host_write-room _ _ _ (sym c.in_ok-check_host_write.ensures) in (omega arith, omega arith)

pub returns : goal.returns
unfolding host_read_checks
returns c =
    let passed = c.in_ok-check_host_write.ensures in
    goes_on _ _ _ passed (c.check_written.ensures _ (host_write-room _ _ _ (sym passed)))
