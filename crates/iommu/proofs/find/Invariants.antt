use Rattle.std.proofs.Common.{◌-◌, false}
use Rattle.iommu.specs.Halving.{search}
use Rattle.iommu.proofs.Halving.{Seeking}
use Rattle.iommu.proofs.find.Given as goal

abbrev pub invariant-loop-lo : goal.invariant-loop-lo
invariant-loop-lo l = Seeking l.mappings l.d (search l.lo l.hi l.probes false)

abbrev pub decreases-loop-lo : goal.decreases-loop-lo
decreases-loop-lo l = l.hi - l.lo
