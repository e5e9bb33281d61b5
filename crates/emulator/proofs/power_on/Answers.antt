use Rattle.std.proofs.Common.{sym, ◌∙◌, arith}
use Rattle.answer.proofs.Checks.{unless_pass}
use Rattle.answer.proofs.Tests.{and_made}
use Rattle.emulator.specs.Machine.{usable, emulator_of, lendable_records}
use Rattle.emulator.specs.Calls.{given}
use Rattle.emulator.proofs.Meets.{bench_up}
use Rattle.emulator.proofs.Soundness.{mark_room, lent-small}
use Rattle.emulator.proofs.PowerOn.{bench_first, bench_next, power-done}
use Rattle.emulator.proofs.power_on.Goals as goal

pub returns-in_err-unless : goal.returns-in_err-unless
unfolding given usable emulator_of
returns-in_err-unless c =
    bench_up _ c.from_residual.result _ c.from_residual.ensures (bench_first _ _ _ _ (rw c.lendable.ensures at c.in_err-unless.ensures))

pub returns-in_err-unless-2 : goal.returns-in_err-unless-2
unfolding given usable emulator_of lendable_records
returns-in_err-unless-2 c =
    bench_up _ c.from_residual-in_err-unless-2.result _ c.from_residual-in_err-unless-2.ensures
    (bench_next _ _ _ (rw c.lendable.ensures at c.in_ok-unless.ensures) c.in_err-unless-2.ensures)

pub clear-requires : goal.clear-requires
clear-requires c =
    let lent = sym c.lendable.ensures ∙ unless_pass _ _ (sym c.in_ok-unless.ensures) in
    (omega (arith, mark_room _ lent), omega (arith, lent-small _ lent))

pub returns : goal.returns
unfolding lendable_records
returns c =
    let lent = sym c.lendable.ensures ∙ unless_pass _ _ (sym c.in_ok-unless.ensures) in
    power-done _ _ _ _ _ _ (and_made _ _ lent (unless_pass _ _ (sym c.in_ok-unless-2.ensures))) (c.clear.ensures _) (c.fresh.ensures _)
