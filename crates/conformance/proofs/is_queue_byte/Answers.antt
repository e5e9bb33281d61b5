-- Byte by byte.
use Rattle.std.proofs.Common.{arith}
use Rattle.answer.specs.Tests.{◌and◌, pick}
use Rattle.conformance.specs.Bytes.{queue_byte}
use Rattle.conformance.proofs.Steps.{queue-reserved, queue-free}
use Rattle.conformance.proofs.is_queue_byte.Goals as goal

pub returns-in-8 : goal.returns-in-8
unfolding queue_byte pick ◌and◌
returns-in-8 c = rw c.in-8.is

pub returns-in-16 : goal.returns-in-16
unfolding queue_byte pick ◌and◌
returns-in-16 c = rw c.in-16.is

pub returns-in-24 : goal.returns-in-24
unfolding queue_byte pick ◌and◌
returns-in-24 c = rw c.in-24.is

pub returns-in-5-to-7 : goal.returns-in-5-to-7
returns-in-5-to-7 c = queue-reserved _ _ (omega arith) (omega arith)

pub returns-in_default : goal.returns-in_default
returns-in_default c = queue-free _ _ (λ e. omega arith) (λ e. omega arith) (λ e. omega arith) (λ e. omega arith) (λ e. omega arith) (λ e. omega arith) (λ l h. omega arith)

pub returns-in_default-2 : goal.returns-in_default-2
returns-in_default-2 c = queue-free _ _ (λ e. omega arith) (λ e. omega arith) (λ e. omega arith) (λ e. omega arith) (λ e. omega arith) (λ e. omega arith) (λ l h. omega arith)
