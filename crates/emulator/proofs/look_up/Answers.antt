use Rattle.std.proofs.Common.{refl, sym, ◌∙◌, ap}
use Rattle.answer.proofs.Checks.{then_pass, unless_pass}
use Rattle.iommu.specs.declared.Search.{Search}
use Rattle.iommu.specs.Halving.{probes_for}
use Rattle.emulator.proofs.Soundness.{sound_fits, sound-records}
use Rattle.emulator.proofs.Locating.{refuses-first, finds}
use Rattle.emulator.proofs.look_up.Goals as goal

pub returns-in-Err : goal.returns-in-Err
returns-in-Err c m = refuses-first c.args.state.now c.args.records.now m c.args.d c.in-Err.refusal c.in-Err.ensures

pub mappings-mappings-requires : goal.mappings-mappings-requires
mappings-mappings-requires c = sound_fits _ _ (unless_pass _ _ (then_pass _ _ (sym c.in_default.ensures)).0)

pub find-search-requires : goal.find-search-requires
find-search-requires c = rw c.mappings-mappings.ensures (sound-records _ _ (unless_pass _ _ (then_pass _ _ (sym c.in_default.ensures)).0)).table

pub target_at-requires : goal.target_at-requires
target_at-requires c = (rw c.mappings-mappings.ensures (sound-records _ _ (unless_pass _ _ (then_pass _ _ (sym c.in_default.ensures)).0)), c.find-search.ensures.1)

pub returns : goal.returns
unfolding probes_for
returns c m =
    finds c.args.state.now c.args.records.now m c.args.d c.in_default.ensures c.target_at.result (rw c.mappings-mappings.ensures at c.target_at.ensures) _
    (c.ok_or.ensures.value ∙ rw c.at.ensures refl) (rw c.mappings-mappings.ensures at (ap (λ (x : Search). x.probes) c.find-search.ensures.0))
