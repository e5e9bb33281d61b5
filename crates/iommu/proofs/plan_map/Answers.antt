use Rattle.std.proofs.Common.{◌≡◌, ◌+◌, sym, ◌∙◌, arith, rules, false, Bor, length, ltb, leb-true}
use Rattle.std.specs.Prelude.{Err, MatchOption}
use Rattle.answer.specs.Codes.{NoRoom}
use Rattle.answer.specs.Checks.{◌unless◌}
use Rattle.answer.proofs.Tests.{and_true}
use Rattle.answer.proofs.Checks.{unless_pass, decides, goes_on}
use Rattle.address.specs.Address.{memory_limit, in_device_range}
use Rattle.iommu.specs.declared.Mapping.{Mapping}
use Rattle.iommu.specs.Table.{in_range}
use Rattle.iommu.specs.Requests.{map_checks}
use Rattle.iommu.proofs.Requests.{looked_below, overlaps-found, maps-at}
use Rattle.iommu.proofs.plan_map.Goals as goal

pub overflow_add-end : goal.overflow_add-end
unfolding in_range in_device_range
overflow_add-end c =
    let f = leb-true _ _ (and_true _ _ (sym c.is_in_range.ensures ∙ unless_pass _ _ (sym c.in_ok-unless-3.ensures))).0 in
    omega arith

pub returns-in_err-when-2 : goal.returns-in_err-when-2
unfolding map_checks
returns-in_err-when-2 c =
    let m = c.args.m in
    let below : MatchOption c.get.result (c.is_some_and.result ≡ false) (λ (x : Bor Mapping). c.is_some_and.result ≡ ltb x.now.device.0 (m.device.0 + m.size)) = search rules in
    let o = looked_below _ _ _ c.get.ensures.lookup _ _ below ∙ sym (overlaps-found memory_limit _ m _ _ c.requires c.find-at.ensures.1) in
    let e = decides _ (NoRoom unless ltb (length c.args.mappings.now) c.args.room) _ _ (rw o at c.in_err-when-2.ensures) in
    let r : c.from_residual-in_err-when-2.result ≡ Err c.in_err-when-2.field-0.0 = search rules in
    record { checks = rw r (grind (arith, decides, goes_on)); place = search rules }

pub returns-in_err-unless-4 : goal.returns-in_err-unless-4
unfolding map_checks
returns-in_err-unless-4 c =
    let m = c.args.m in
    let below : MatchOption c.get.result (c.is_some_and.result ≡ false) (λ (x : Bor Mapping). c.is_some_and.result ≡ ltb x.now.device.0 (m.device.0 + m.size)) = search rules in
    let o = looked_below _ _ _ c.get.ensures.lookup _ _ below ∙ sym (overlaps-found memory_limit _ m _ _ c.requires c.find-at.ensures.1) in
    let e = rw o at c.in_ok-when-2.ensures in
    record { checks = grind (arith, decides, goes_on); place = search rules }

pub returns : goal.returns
unfolding map_checks
returns c =
    let m = c.args.m in
    let below : MatchOption c.get.result (c.is_some_and.result ≡ false) (λ (x : Bor Mapping). c.is_some_and.result ≡ ltb x.now.device.0 (m.device.0 + m.size)) = search rules in
    let o = looked_below _ _ _ c.get.ensures.lookup _ _ below ∙ sym (overlaps-found memory_limit _ m _ _ c.requires c.find-at.ensures.1) in
    let e = rw o at c.in_ok-when-2.ensures in
    maps-at _ _ _ _ _ _ c.find-at.ensures.1 (grind (arith, decides, goes_on))
