-- The lines that the request leaves are kept where its checks pass, and stay where they do not.
use Rattle.std.proofs.Common.{refl}
use Rattle.emulator.specs.Machine.{emulator_of, machine_of, with_lines}
use Rattle.emulator.specs.Effect.{filled}
use Rattle.emulator.specs.Requests.{set_irqs, listed_checks, listed_effect}
use Rattle.emulator.specs.Contract.{request_writes, state_with, records_with}
use Rattle.vfio.proofs.Handlers.{handled-refused, handled-done, lines-are}
use Rattle.vfio.proofs.set_irqs.Goals as goal

pub returns-in_err-try_set : goal.returns-in_err-try_set
unfolding listed_checks
returns-in_err-try_set c rs m = rw c.in_err-try_set.ensures.effect (handled-refused set_irqs _ c.args.state.now rs m _ _ c.from_residual.ensures c.in_err-try_set.ensures.checks)

pub returns : goal.returns
unfolding listed_checks listed_effect emulator_of machine_of with_lines request_writes state_with records_with filled
returns c rs m = handled-done set_irqs _ _ rs m _ _ _ c.in_ok-try_set.ensures.checks refl (lines-are c.args.state.now _ _ c.in_ok-try_set.ensures.effect) refl
