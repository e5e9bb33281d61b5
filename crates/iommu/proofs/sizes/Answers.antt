use Rattle.std.proofs.Common.{rules, arith, ◌-◌, ◌^◌, ◌<◌, take, drop}
use Rattle.std.specs.Prelude.{sum_by}
use Rattle.iommu.specs.declared.Mapping.{Mapping}
use Rattle.iommu.proofs.Sums.{sizes-limit, sizes_sum}
use Rattle.iommu.proofs.sizes.Goals as goal

pub sum-requires-clause-fits : goal.sum-requires-clause-fits
sum-requires-clause-fits c =
    let r = c.args.run in
    let b : sum_by (λ (m : Mapping). m.size) (take (r.to - r.from) (drop r.from c.args.mappings.now)) < 2 ^ 64 =
    omega (arith, sizes-limit _ r.from r.to c.args.mappings.now c.requires.0.table, sizes_sum r.from r.to c.args.mappings.now) in
    search rules

pub returns : goal.returns
returns c = rw (sizes_sum c.args.run.from c.args.run.to c.args.mappings.now) (search rules)
