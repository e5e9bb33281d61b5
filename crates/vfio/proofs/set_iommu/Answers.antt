-- The type that was asked for is kept where the checks pass.
use Rattle.std.proofs.Common.{refl}
use Rattle.emulator.specs.Machine.{emulator_of, machine_of, with_iommu_type}
use Rattle.emulator.specs.Effect.{filled}
use Rattle.emulator.specs.Requests.{set_iommu, requested_type, listed_checks, listed_effect}
use Rattle.emulator.specs.Contract.{request_writes, state_with, records_with}
use Rattle.vfio.proofs.Handlers.{handled-refused, handled-done}
use Rattle.vfio.proofs.set_iommu.Goals as goal

pub returns-in_err-check_set_iommu : goal.returns-in_err-check_set_iommu
unfolding listed_checks requested_type emulator_of machine_of
returns-in_err-check_set_iommu c rs m = handled-refused set_iommu _ _ rs m _ _ c.from_residual.ensures (rw c.get-kind.ensures at c.in_err-check_set_iommu.ensures)

pub returns : goal.returns
unfolding listed_checks listed_effect requested_type emulator_of machine_of with_iommu_type request_writes state_with records_with filled
returns c rs m = handled-done set_iommu _ _ rs m _ _ _ (rw c.get-kind.ensures at c.in_ok-check_set_iommu.ensures) refl (rw c.get-kind.ensures) refl
