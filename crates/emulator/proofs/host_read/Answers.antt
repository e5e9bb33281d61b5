use Rattle.std.proofs.Common.{sym, arith}
use Rattle.answer.proofs.Checks.{unless_pass}
use Rattle.memory.proofs.Transfers.{host_read-room}
use Rattle.emulator.specs.Machine.{emulator_of}
use Rattle.emulator.specs.Calls.{given, own_checks}
use Rattle.emulator.proofs.Meets.{bench_up, refusal_up}
use Rattle.emulator.proofs.Soundness.{mark_room, usable-lent}
use Rattle.emulator.proofs.HostTransfers.{read_done}
use Rattle.emulator.proofs.host_read.Goals as goal

pub returns-in_err-check_usable : goal.returns-in_err-check_usable
unfolding given
returns-in_err-check_usable c = bench_up _ c.from_residual.result _ c.from_residual.ensures c.in_err-check_usable.ensures

pub check_host_read-requires : goal.check_host_read-requires
check_host_read-requires c = mark_room _ (usable-lent _ _ _ (unless_pass _ _ (sym c.in_ok-check_usable.ensures)))

pub returns-in_err-check_host_read : goal.returns-in_err-check_host_read
unfolding given own_checks emulator_of
returns-in_err-check_host_read c =
    refusal_up _ c.from_residual-in_err-check_host_read.result _ c.from_residual-in_err-check_host_read.ensures c.in_ok-check_usable.ensures c.in_err-check_host_read.ensures

pub copy-requires : goal.copy-requires
copy-requires c = (omega arith, host_read-room _ _ _ _ (sym c.in_ok-check_host_read.ensures))

pub returns : goal.returns
returns c = read_done c.args.a _ _ _ _ (unless_pass _ _ (sym c.in_ok-check_usable.ensures)) _ (sym c.in_ok-check_host_read.ensures) c.copy.ensures
