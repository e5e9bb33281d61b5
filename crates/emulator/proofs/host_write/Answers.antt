use Rattle.std.proofs.Common.{sym, arith}
use Rattle.answer.proofs.Checks.{unless_pass}
use Rattle.memory.proofs.Transfers.{host_write-room}
use Rattle.emulator.specs.Machine.{emulator_of}
use Rattle.emulator.specs.Calls.{given, own_checks}
use Rattle.emulator.proofs.Meets.{bench_up, refusal_up}
use Rattle.emulator.proofs.Soundness.{mark_room, usable-lent}
use Rattle.emulator.proofs.HostTransfers.{write_done}
use Rattle.emulator.proofs.host_write.Goals as goal

pub returns-in_err-check_usable : goal.returns-in_err-check_usable
unfolding given
returns-in_err-check_usable c = bench_up _ c.from_residual.result _ c.from_residual.ensures c.in_err-check_usable.ensures

pub returns-in_err-check_host_write : goal.returns-in_err-check_host_write
unfolding given own_checks emulator_of
returns-in_err-check_host_write c =
    refusal_up _ c.from_residual-in_err-check_host_write.result _ c.from_residual-in_err-check_host_write.ensures c.in_ok-check_usable.ensures c.in_err-check_host_write.ensures

pub store-requires : goal.store-requires
store-requires c =
    let room = host_write-room _ _ _ (sym c.in_ok-check_host_write.ensures) in
    (room, omega (arith, room, mark_room _ (usable-lent _ _ _ (unless_pass _ _ (sym c.in_ok-check_usable.ensures)))), omega arith)

pub returns : goal.returns
returns c = write_done c.args.a _ _ _ _ (unless_pass _ _ (sym c.in_ok-check_usable.ensures)) _ (sym c.in_ok-check_host_write.ensures) c.store.ensures
