use Rattle.std.proofs.Common.{sym, ◌∙◌, arith}
use Rattle.iommu.proofs.Halving.{seek_start, seek_found, seek_below, seek_above, seek_end}
use Rattle.iommu.proofs.find.Goals as goal

pub loop-lo-init : goal.loop-lo-init
loop-lo-init c = seek_start _ _

pub returns-then-holds : goal.returns-then-holds
returns-then-holds c = seek_end (seek_found c.loop-lo.invariant c.loop-lo-test.true (sym c.holds.ensures ∙ c.if-holds.true)) _ c.requires (omega arith)

pub loop-lo-preserved-then-d-m : goal.loop-lo-preserved-then-d-m
loop-lo-preserved-then-d-m c = seek_below c.loop-lo.invariant c.loop-lo-test.true (sym c.holds.ensures ∙ c.if-holds.false) c.if-d-m.true

pub loop-lo-preserved : goal.loop-lo-preserved
loop-lo-preserved c = seek_above c.loop-lo.invariant c.loop-lo-test.true (sym c.holds.ensures ∙ c.if-holds.false) c.if-d-m.false

pub returns : goal.returns
returns c = seek_end c.loop-lo.invariant _ c.requires c.loop-lo-test.false
