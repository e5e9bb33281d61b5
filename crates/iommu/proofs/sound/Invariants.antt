use Rattle.std.proofs.Common.{◌≡◌, drop}
use Rattle.iommu.specs.Table.{sound_table, sound_mappings_from}
use Rattle.iommu.proofs.sound.Given as goal

abbrev pub invariant-loop-m : goal.invariant-loop-m
invariant-loop-m l = sound_table l.size l.m-items ≡ sound_mappings_from l.size l.low (drop l.m-index l.m-items)
