-- The sum is made only where it fits 64 bits.
use Rattle.std.proofs.Common.{◌+◌, sym, ◌∙◌, arith, leb-true}
use Rattle.answer.proofs.Tests.{pick_true, pick_false}
use Rattle.address.specs.Address.{device_limit, in_device_range}
use Rattle.iommu.specs.Requests.{end_of}
use Rattle.iommu.proofs.end_of.Goals as goal

pub overflow_add-result : goal.overflow_add-result
unfolding in_device_range
overflow_add-result c =
    let a = c.args in
    let f = leb-true (a.d.0 + a.n) device_limit (sym c.in_device_range.ensures ∙ c.if-in_device_range.true) in
    omega arith

pub returns-then-in_device_range : goal.returns-then-in_device_range
unfolding end_of
returns-then-in_device_range c = sym (pick_true _ _ _ (sym c.in_device_range.ensures ∙ c.if-in_device_range.true))

pub returns-else-in_device_range : goal.returns-else-in_device_range
unfolding end_of
returns-else-in_device_range c = sym (pick_false _ _ _ (sym c.in_device_range.ensures ∙ c.if-in_device_range.false))
