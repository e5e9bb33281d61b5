use Rattle.std.proofs.Common.{◌≡◌, refl, sym, ◌∙◌, Bool, true, false}
use Rattle.answer.specs.Tests.{◌and◌}
use Rattle.answer.proofs.Tests.{and_first, and_second}
use Rattle.iommu.specs.Table.{in_range}
use Rattle.iommu.proofs.Mapping.is_in_range.Goals as goal

-- the code asks in the other order
swapped : (a b : Bool) → (a and b) ≡ (b and a)
unfolding ◌and◌
swapped true true = refl
swapped true false = refl
swapped false true = refl
swapped false false = refl

pub returns-then-in_memory_range : goal.returns-then-in_memory_range
unfolding in_range
returns-then-in_memory_range c = and_second (sym c.in_memory_range.ensures ∙ c.if-in_memory_range.true) c.in_device_range.ensures ∙ swapped _ _

pub returns-else-in_memory_range : goal.returns-else-in_memory_range
unfolding in_range
returns-else-in_memory_range c = and_first _ (sym c.in_memory_range.ensures ∙ c.if-in_memory_range.false) c.in_memory_range.ensures ∙ swapped _ _
