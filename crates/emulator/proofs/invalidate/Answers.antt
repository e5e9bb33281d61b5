use Rattle.std.proofs.Common.{refl, sym, arith}
use Rattle.answer.proofs.Checks.{unless_pass}
use Rattle.memory.proofs.Transfers.{invalidate-room}
use Rattle.emulator.specs.Machine.{emulator_of}
use Rattle.emulator.specs.Effect.{filled}
use Rattle.emulator.specs.Calls.{invalidate, given, own_checks, effect}
use Rattle.emulator.specs.Contract.{writes, state_with, records_with}
use Rattle.emulator.proofs.Meets.{bench_up, refusal_up, accepted}
use Rattle.emulator.proofs.Soundness.{mark_room, lent-small, usable-lent}
use Rattle.emulator.proofs.invalidate.Goals as goal

pub returns-in_err-check_usable : goal.returns-in_err-check_usable
unfolding given
returns-in_err-check_usable c = bench_up _ c.from_residual.result _ c.from_residual.ensures c.in_err-check_usable.ensures

pub returns-in_err-check_invalidate : goal.returns-in_err-check_invalidate
unfolding given own_checks emulator_of
returns-in_err-check_invalidate c =
    refusal_up _ c.from_residual-in_err-check_invalidate.result _ c.from_residual-in_err-check_invalidate.ensures c.in_ok-check_usable.ensures c.in_err-check_invalidate.ensures

pub clear-requires : goal.clear-requires
clear-requires c =
    let lent = usable-lent _ _ _ (unless_pass _ _ (sym c.in_ok-check_usable.ensures)) in
    let room = invalidate-room _ _ _ (sym c.in_ok-check_invalidate.ensures) in
    (omega (arith, room, mark_room _ lent), omega (arith, room, lent-small _ lent))

pub returns : goal.returns
unfolding given own_checks effect emulator_of writes state_with records_with filled
returns c =
    accepted (invalidate c.args.a c.args.n) _ _ _ _ _ _ _ _ c.in_ok-check_usable.ensures c.in_ok-check_invalidate.ensures refl (c.clear.ensures _) refl refl
