use Rattle.std.proofs.Common.{refl, sym, arith, ltb-false}
use Rattle.answer.proofs.Checks.{when_pass}
use Rattle.emulator.proofs.Meets.{told_up}
use Rattle.emulator.proofs.Walking.{no_queue, not-set, not-enabled, is-open}
use Rattle.virtqueue.specs.Ring.{queue_of}
use Rattle.emulator.proofs.open_queue.Goals as goal

pub returns-in_err-when : goal.returns-in_err-when
returns-in_err-when c w = told_up c.from_residual.result _ c.from_residual.ensures (no_queue c.args.registers.now _ w _ _ c.in_err-when.ensures)

pub bounds-registers-queue : goal.bounds-registers-queue
bounds-registers-queue c = omega (arith, ltb-false _ _ (when_pass _ _ (sym c.in_ok-when.ensures)))

pub returns-in_err-unless : goal.returns-in_err-unless
returns-in_err-unless c w =
    told_up c.from_residual-in_err-unless.result _ c.from_residual-in_err-unless.ensures
    (not-set c.args.registers.now _ w c.in_ok-when.ensures _ _ c.in_err-unless.ensures)

pub returns-in_err-when-2 : goal.returns-in_err-when-2
returns-in_err-when-2 c w =
    told_up c.from_residual-in_err-when-2.result _ c.from_residual-in_err-when-2.ensures
    (not-enabled c.args.registers.now _ w c.in_ok-when.ensures c.in_ok-unless.ensures _ _ (rw c.get.ensures at c.in_err-when-2.ensures))

pub returns : goal.returns
unfolding queue_of
returns c w =
    is-open c.args.registers.now _ w c.in_ok-when.ensures c.in_ok-unless.ensures (rw c.get.ensures at c.in_ok-when-2.ensures) _
    (rw (c.get-2.ensures, c.get-3.ensures, c.get-4.ensures) refl)
