use Rattle.std.proofs.Common.{sym, ◌∙◌}
use Rattle.answer.proofs.Checks.{unless_pass}
use Rattle.dma.proofs.Transfers.{checks-read, read-accepted}
use Rattle.emulator.specs.Machine.{emulator_of, machine_of}
use Rattle.emulator.specs.Calls.{given, own_checks}
use Rattle.emulator.proofs.DeviceTransfers.{read_done}
use Rattle.emulator.proofs.Meets.{bench_up, refusal_up}
use Rattle.emulator.proofs.Soundness.{mark_room, usable-lent, usable-sound, sound_fits, transfers_ready}
use Rattle.emulator.proofs.device_read.Goals as goal

pub returns-in_err-check_usable : goal.returns-in_err-check_usable
unfolding given
returns-in_err-check_usable c = bench_up _ c.from_residual.result _ c.from_residual.ensures c.in_err-check_usable.ensures

pub mappings-mappings-requires : goal.mappings-mappings-requires
mappings-mappings-requires c = sound_fits _ _ (usable-sound _ _ _ (unless_pass _ _ (sym c.in_ok-check_usable.ensures)))

pub check_transfer-checked-requires : goal.check_transfer-checked-requires
check_transfer-checked-requires c =
    let good = unless_pass _ _ (sym c.in_ok-check_usable.ensures) in
    (rw c.mappings-mappings.ensures (transfers_ready _ _ _ good), mark_room _ (usable-lent _ _ _ good))

pub returns-in_err-checked : goal.returns-in_err-checked
unfolding given own_checks emulator_of machine_of
returns-in_err-checked c =
    refusal_up _ c.from_residual-in_err-checked.result _ c.from_residual-in_err-checked.ensures c.in_ok-check_usable.ensures
    (rw c.mappings-mappings.ensures at (rw c.in_err-checked.was at c.check_transfer-checked.ensures.0 ∙ checks-read _ _ _ _))

pub read-requires : goal.read-requires
read-requires c =
    let good = unless_pass _ _ (sym c.in_ok-check_usable.ensures) in
    (rw c.mappings-mappings.ensures (transfers_ready _ _ _ good), read-accepted _ _ _ _ (sym (rw c.in_ok-checked.was at c.check_transfer-checked.ensures.0 ∙ checks-read _ _ _ _)), c.check_transfer-checked.ensures.1)

pub returns : goal.returns
returns c =
    let read = rw c.mappings-mappings.ensures at (c.read.ensures c.args.shadow.now) in
    let passed = rw c.mappings-mappings.ensures at (rw c.in_ok-checked.was at c.check_transfer-checked.ensures.0 ∙ checks-read _ _ _ _) in
    read_done c.args.d _ _ _ _ (unless_pass _ _ (sym c.in_ok-check_usable.ensures)) _ (sym passed) read
