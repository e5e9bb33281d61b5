use Rattle.std.proofs.Common.{refl, sym}
use Rattle.answer.proofs.Checks.{unless_pass}
use Rattle.memory.specs.Memory.{edited}
use Rattle.emulator.specs.Machine.{usable, emulator_of, machine_of}
use Rattle.emulator.specs.Effect.{filled}
use Rattle.emulator.specs.Calls.{save_parts, given, own_checks, effect}
use Rattle.emulator.specs.Contract.{writes, state_with, records_with}
use Rattle.emulator.proofs.Meets.{bench_up, refusal_up, accepted}
use Rattle.emulator.proofs.Soundness.{sound-card}
use Rattle.emulator.proofs.save_parts.Goals as goal

pub returns-in_err-check_sound : goal.returns-in_err-check_sound
unfolding given usable emulator_of
returns-in_err-check_sound c m = bench_up _ c.from_residual.result _ c.from_residual.ensures c.in_err-check_sound.ensures

pub try_save-requires : goal.try_save-requires
try_save-requires c = sound-card _ _ (unless_pass _ _ (sym c.in_ok-check_sound.ensures))

pub returns-in_err-n : goal.returns-in_err-n
unfolding given usable own_checks emulator_of machine_of
returns-in_err-n c m =
    rw c.in_err-n.ensures.parts
    (refusal_up _ c.from_residual-in_err-n.result _ c.from_residual-in_err-n.ensures c.in_ok-check_sound.ensures c.in_err-n.ensures.checks)

pub returns : goal.returns
unfolding given usable own_checks effect emulator_of machine_of writes state_with records_with filled edited
returns c m =
    rw c.in_ok-n.ensures.parts.1 (accepted save_parts _ _ _ m _ _ _ _ c.in_ok-check_sound.ensures c.in_ok-n.ensures.checks c.in_ok-n.ensures.parts.0 refl refl refl)
