-- The step says where its part lies.
use Rattle.std.proofs.Common.{arith}
use Rattle.parts.proofs.Steps.{step_says}
use Rattle.reader.specs.Read.{next_place}
use Rattle.capi.proofs.Answers.{steps}
use Rattle.capi.proofs.glint_step.Goals as goal

pub overflow_add-value_start : goal.overflow_add-value_start
overflow_add-value_start c = let says = step_says _ _ _ _ _ _ (rw c.in-Ok-Some.field-0-is at c.in-Ok-Some.ensures) in omega arith

pub overflow_sub-result : goal.overflow_sub-result
overflow_sub-result c = let says = step_says _ _ _ _ _ _ (rw c.in-Ok-Some.field-0-is at c.in-Ok-Some.ensures) in omega arith

pub returns-in-Ok-Some : goal.returns-in-Ok-Some
unfolding next_place
returns-in-Ok-Some c = steps _ _ _ (rw c.in-Ok-Some.field-0-is at c.in-Ok-Some.ensures)

pub returns-in-Ok-None : goal.returns-in-Ok-None
unfolding next_place
returns-in-Ok-None c = steps _ _ _ (rw c.in-Ok-None.field-0-is at c.in-Ok-None.ensures)

pub returns-in-Err : goal.returns-in-Err
unfolding next_place
returns-in-Err c = rw c.number.ensures (steps _ _ _ c.in-Err.ensures)
