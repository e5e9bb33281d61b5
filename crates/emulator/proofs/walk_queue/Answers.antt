use Rattle.std.proofs.Common.{sym}
use Rattle.answer.proofs.Checks.{unless_pass}
use Rattle.emulator.specs.Calls.{given, own_checks}
use Rattle.memory.specs.Memory.{memory_of}
use Rattle.emulator.proofs.Meets.{bench_up, refusal_up}
use Rattle.emulator.proofs.Soundness.{sound_fits, usable-sound}
use Rattle.emulator.proofs.Walking.{walk-shut, walk-asks, walk-meets}
use Rattle.emulator.proofs.walk_queue.Goals as goal

pub returns-in_err-check_usable : goal.returns-in_err-check_usable
unfolding given
returns-in_err-check_usable c = bench_up _ c.from_residual.result _ c.from_residual.ensures c.in_err-check_usable.ensures

pub returns-in_err-q : goal.returns-in_err-q
unfolding given own_checks
returns-in_err-q c =
    let a = c.args in
    refusal_up _ c.from_residual-in_err-q.result _ c.from_residual-in_err-q.ensures c.in_ok-check_usable.ensures
    (walk-shut a.state.now a.records.now (memory_of a.bytes.now a.shadow.now) a.queue a.last _ _ _ (c.in_err-q.ensures _))

pub mappings-requires : goal.mappings-requires
mappings-requires c = sound_fits _ _ (usable-sound _ _ _ (unless_pass _ _ (sym c.in_ok-check_usable.ensures)))

pub walk_queue-requires : goal.walk_queue-requires
walk_queue-requires c =
    let a = c.args in
    rw c.mappings.ensures (walk-asks a.state.now a.records.now (memory_of a.bytes.now a.shadow.now) a.queue a.last c.in_ok-check_usable.ensures _ (c.in_ok-q.ensures _))

pub returns : goal.returns
returns c =
    let a = c.args in
    walk-meets a.state.now a.records.now (memory_of a.bytes.now a.shadow.now) a.queue a.last c.in_ok-check_usable.ensures _ (c.in_ok-q.ensures _) (rw c.mappings.ensures at c.walk_queue.ensures)
