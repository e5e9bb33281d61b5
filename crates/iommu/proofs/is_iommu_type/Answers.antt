use Rattle.std.proofs.Common.{eq-eqb, ne_eqb}
use Rattle.answer.specs.Tests.{◌or◌}
use Rattle.iommu.specs.Table.{is_iommu_type}
use Rattle.iommu.proofs.is_iommu_type.Goals as goal

pub returns-then-kind-eq-TYPE1 : goal.returns-then-kind-eq-TYPE1
unfolding is_iommu_type ◌or◌
returns-then-kind-eq-TYPE1 c = rw (eq-eqb _ _ c.if-kind-eq-TYPE1.true)

pub returns-else-kind-eq-TYPE1 : goal.returns-else-kind-eq-TYPE1
unfolding is_iommu_type ◌or◌
returns-else-kind-eq-TYPE1 c = rw (ne_eqb _ _ c.if-kind-eq-TYPE1.false)
