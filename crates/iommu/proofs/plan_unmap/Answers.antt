use Rattle.std.proofs.Common.{◌≡◌, ℕ, Bool, sym, ◌∙◌, arith, rules, eq-eqb, ne_eqb}
use Rattle.std.specs.Prelude.{Err}
use Rattle.answer.specs.Tests.{◌or◌}
use Rattle.answer.specs.Codes.{Range}
use Rattle.answer.specs.Checks.{Pass, ◌unless◌}
use Rattle.answer.proofs.Tests.{and_first, and_second}
use Rattle.answer.proofs.Checks.{when_pass, unless_pass, decides, goes_on}
use Rattle.address.specs.Address.{device_offset, in_device_range}
use Rattle.address.specs.declared.DeviceAddress.{DeviceAddress}
use Rattle.iommu.specs.Requests.{end_of, unmap_checks}
use Rattle.iommu.proofs.Requests.{placed-bound, end_is, uncut, blocked-run, reaching-run, begins-run, cut_is, inside-run}
use Rattle.iommu.proofs.plan_unmap.Goals.{then-at_start-2, else-at_start-2}
use Rattle.iommu.proofs.plan_unmap.Goals as goal

-- behind refusal 9 the end is the sum
ended : (d : DeviceAddress) (n : ℕ) (end : DeviceAddress) (r : Bool) → end ≡ end_of d n → r ≡ in_device_range d n → Pass ≡ (Range unless r) → end ≡ device_offset d n
ended d n end r e f g = e ∙ end_is d n (sym f ∙ unless_pass _ _ (sym g))

pub returns-then-at_start : goal.returns-then-at_start
unfolding unmap_checks
returns-then-at_start c =
    let ends = ended _ _ _ _ c.end_of-end.ensures c.in_device_range.ensures c.in_ok-unless-3.ensures in
    let past = rw ends at c.find-to.ensures.1 in
    let one = eq-eqb _ _ c.if-kind-eq-TYPE1.true in
    let e = uncut c.args.n c.requires c.find-from.ensures.1 past c.args.kind one in
    record {
      checks = grind (arith, decides, goes_on, and_first, and_second);
      range = blocked-run c.args.n c.requires c.find-from.ensures.1 past c.args.kind one (sym c.sticks_out_at-at_start.ensures ∙ c.if-at_start.true);
    }

pub overflow_add-result : goal.overflow_add-result
overflow_add-result c = let b = placed-bound _ _ _ _ c.find-to.ensures.1 in omega arith

pub returns-then-at_end : goal.returns-then-at_end
unfolding unmap_checks
returns-then-at_end c =
    let ends = ended _ _ _ _ c.end_of-end.ensures c.in_device_range.ensures c.in_ok-unless-3.ensures in
    let past = rw ends at c.find-to.ensures.1 in
    let there = rw ends at c.sticks_out_at-at_end.ensures in
    let one = eq-eqb _ _ c.if-kind-eq-TYPE1.true in
    let e = uncut c.args.n c.requires c.find-from.ensures.1 past c.args.kind one in
    record {
      checks = grind (arith, decides, goes_on, and_first, and_second);
      range = reaching-run c.args.n c.requires c.find-from.ensures.1 past c.args.kind one
          (sym c.sticks_out_at-at_start.ensures ∙ c.if-at_start.false) (sym there ∙ c.if-at_end.true);
    }

pub returns-then-kind-eq-TYPE1 : goal.returns-then-kind-eq-TYPE1
unfolding unmap_checks
returns-then-kind-eq-TYPE1 c =
    let ends = ended _ _ _ _ c.end_of-end.ensures c.in_device_range.ensures c.in_ok-unless-3.ensures in
    let past = rw ends at c.find-to.ensures.1 in
    let there = rw ends at c.sticks_out_at-at_end.ensures in
    let one = eq-eqb _ _ c.if-kind-eq-TYPE1.true in
    let e = uncut c.args.n c.requires c.find-from.ensures.1 past c.args.kind one in
    record {
      checks = grind (arith, decides, goes_on, and_first, and_second);
      range = begins-run c.args.n c.requires c.find-from.ensures.1 past c.args.kind one
          (sym c.sticks_out_at-at_start.ensures ∙ c.if-at_start.false) (sym there ∙ c.if-at_end.false);
    }

pub returns-in_err-when-2 : goal.returns-in_err-when-2
unfolding unmap_checks ◌or◌
returns-in_err-when-2 c =
    let ends = ended _ _ _ _ c.end_of-end.ensures c.in_device_range.ensures c.in_ok-unless-3.ensures in
    let past = rw ends at c.find-to.ensures.1 in
    let there = rw ends at c.sticks_out_at-at_end.ensures in
    let other = ne_eqb _ _ c.if-kind-eq-TYPE1.false in
    let o : c.if-at_start-2.when ≡ (c.sticks_out_at-at_start.result or c.sticks_out_at-at_end.result) = elim c.if-at_start-2.branch [
      | then-at_start-2 w ↦ w.when-is ∙ rw w.if-at_start-2.true
      | else-at_start-2 w ↦ w.when-is ∙ rw w.if-at_start-2.false
    ] in
    let e = rw (o, c.sticks_out_at-at_start.ensures, there, ← cut_is c.args.n c.requires c.find-from.ensures.1 past c.args.kind other) at c.in_err-when-2.ensures in
    let r : c.from_residual-in_err-when-2.result ≡ Err c.in_err-when-2.field-0.0 = search rules in
    record { checks = rw r (grind (arith, decides, goes_on, and_first, and_second)); range = search rules }

pub returns : goal.returns
unfolding unmap_checks ◌or◌
returns c =
    let ends = ended _ _ _ _ c.end_of-end.ensures c.in_device_range.ensures c.in_ok-unless-3.ensures in
    let past = rw ends at c.find-to.ensures.1 in
    let there = rw ends at c.sticks_out_at-at_end.ensures in
    let other = ne_eqb _ _ c.if-kind-eq-TYPE1.false in
    let o : c.if-at_start-2.when ≡ (c.sticks_out_at-at_start.result or c.sticks_out_at-at_end.result) = elim c.if-at_start-2.branch [
      | then-at_start-2 w ↦ w.when-is ∙ rw w.if-at_start-2.true
      | else-at_start-2 w ↦ w.when-is ∙ rw w.if-at_start-2.false
    ] in
    let f = rw (o, c.sticks_out_at-at_start.ensures, there) at c.in_ok-when-2.ensures in
    let e = rw (← cut_is c.args.n c.requires c.find-from.ensures.1 past c.args.kind other) at f in
    record {
      checks = grind (arith, decides, goes_on, and_first, and_second);
      range = inside-run c.args.n c.requires c.find-from.ensures.1 past c.args.kind other (when_pass _ _ (sym f));
    }
