use Rattle.std.proofs.Common.{true, refl, sym}
use Rattle.answer.proofs.Checks.{unless_pass}
use Rattle.emulator.specs.Machine.{usable, emulator_of}
use Rattle.emulator.specs.Calls.{given}
use Rattle.emulator.proofs.Meets.{bench_up}
use Rattle.emulator.proofs.Running.{run-set}
use Rattle.emulator.proofs.start.Goals as goal

pub returns-in_err-check_sound : goal.returns-in_err-check_sound
unfolding given usable emulator_of
returns-in_err-check_sound c m = bench_up _ c.from_residual.result _ c.from_residual.ensures c.in_err-check_sound.ensures

pub returns : goal.returns
returns c m = run-set true _ _ _ (unless_pass _ _ (sym c.in_ok-check_sound.ensures)) refl m
