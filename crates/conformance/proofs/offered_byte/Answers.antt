use Rattle.std.proofs.Common.{arith}
use Rattle.conformance.proofs.Steps.{none-offered}
use Rattle.conformance.proofs.offered_byte.Goals as goal

pub returns-in_default : goal.returns-in_default
returns-in_default c = none-offered _ (λ e. omega arith) (λ e. omega arith) (λ e. omega arith)
