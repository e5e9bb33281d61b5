use Rattle.std.proofs.Common.{◌≡◌, ◌<◌, Bool, true, false, true≢false, List, length, refl, sym, ◌∙◌, arith, ltb, ltb-true, ltb-false}
use lib.ListN.{get_or-eq_default}
use Rattle.address.specs.declared.DeviceAddress.{DeviceAddress}
use Rattle.iommu.specs.Table.{blank, shown_by, Placed}
use Rattle.iommu.specs.declared.Mapping.{Mapping}
use Rattle.iommu.proofs.Order.{blank-holds, translate-placed}
use Rattle.iommu.proofs.Requests.{shown-asks}
use Rattle.answer.proofs.Tests.{pick_false}
use Rattle.emulator.proofs.target_at.Goals as goal

-- what holds an address is one of the mappings
held-at : (ms : List Mapping) (d : DeviceAddress) {at : _} {held : Bool} → Placed ms d at held → held ≡ true → at < length ms
held-at ms d {at} {held} p h = go (ltb at (length ms)) refl
  where
    go : (t : Bool) → ltb at (length ms) ≡ t → at < length ms
    go true e = ltb-true _ _ e
    go false e = absurd (true≢false (sym h ∙ p.holder ∙ rw (get_or-eq_default ms blank {n = at} (ltb-false _ _ e)) (blank-holds d)))

pub offset_bounds-mappings-search : goal.offset_bounds-mappings-search
offset_bounds-mappings-search c = omega (arith, held-at _ _ c.requires.1 c.if-search.true, c.requires.0.few)

pub bounds-mappings-search : goal.bounds-mappings-search
bounds-mappings-search c = held-at _ _ c.requires.1 c.if-search.true

pub shown_by-requires : goal.shown_by-requires
shown_by-requires c h = shown-asks _ c.args.mappings.now c.args.d c.args.search.lo c.requires.0.table _ refl h

pub returns-then-search : goal.returns-then-search
returns-then-search c =
    c.shown_by.ensures ∙ rw c.requires.1.place (sym (translate-placed _ c.args.mappings.now c.args.d c.requires.0.table))

pub returns-else-search : goal.returns-else-search
unfolding shown_by
returns-else-search c =
    sym (translate-placed _ c.args.mappings.now c.args.d c.requires.0.table ∙ rw (← c.requires.1.place) (pick_false _ _ _ (sym c.requires.1.holder ∙ c.if-search.false)))
