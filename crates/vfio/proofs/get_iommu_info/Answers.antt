-- Each field is written.
use Rattle.std.proofs.Common.{refl}
use Rattle.emulator.specs.Effect.{filled}
use Rattle.emulator.specs.Requests.{get_iommu_info, listed_checks, listed_effect}
use Rattle.emulator.specs.Contract.{request_writes}
use Rattle.vfio.proofs.Handlers.{reports}
use Rattle.vfio.proofs.get_iommu_info.Goals as goal

pub returns : goal.returns
unfolding listed_checks listed_effect request_writes filled
returns c = reports get_iommu_info _ _ 0 _ (λ e. refl) (λ e. refl) refl (cc)
