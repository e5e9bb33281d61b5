use Rattle.std.proofs.Common.{◌+◌, ◌-◌, ◌≡◌, sym, ◌∙◌, arith, leb-true}
use Rattle.answer.proofs.Tests.{and_true, pick_true, pick_false}
use Rattle.address.specs.Address.{memory_limit, in_memory_range}
use Rattle.iommu.specs.Table.{in_range, address_in, left_in, shown_by}
use Rattle.iommu.proofs.Lookup.{holds-facts}
use Rattle.iommu.proofs.shown_by.Goals as goal

pub returns-then-not-holds : goal.returns-then-not-holds
unfolding shown_by
returns-then-not-holds c = sym (pick_false _ _ _ (sym c.holds.ensures ∙ c.if-not-holds.true))

pub overflow_add-result : goal.overflow_add-result
unfolding in_range in_memory_range
overflow_add-result c =
    let m = c.args.m in
    let e = sym c.holds.ensures ∙ c.if-not-holds.false in
    let h = holds-facts _ _ e in
    let f = leb-true (m.memory.0 + m.size) memory_limit (and_true _ _ (c.requires e)).1 in
    omega arith

pub returns : goal.returns
unfolding shown_by address_in left_in
returns c =
    let m = c.args.m in
    let d = c.args.d in
    let e = sym c.holds.ensures ∙ c.if-not-holds.false in
    let h = holds-facts _ _ e in
    let left : m.device.0 + m.size - d.0 ≡ m.size - (d.0 - m.device.0) = omega arith in
    sym (pick_true _ _ _ e ∙ rw left)
