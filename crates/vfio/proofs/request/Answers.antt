-- Refusal 1, then checks 2 to 4, then what the handler of the request answers and leaves.
use Rattle.std.proofs.Common.{refl}
use Rattle.vfio.specs.declared.requests.Request.TheVariants.{GetApiVersion, CheckExtension, SetIommu, GetIommuInfo, MapDma, UnmapDma, GetInfo, GetRegionInfo, GetIrqInfo, SetIrqs, ResetDevice}
use Rattle.vfio.proofs.Handlers.{api_version_is}
use Rattle.vfio.proofs.Calls.{not_usable, not_admitted, room, data_room, meets, good_state, good_length}
use Rattle.vfio.proofs.request.Goals as goal

pub returns-in_err-check_usable : goal.returns-in_err-check_usable
returns-in_err-check_usable c = not_usable _ _ _ _ _ _ _ _ c.from_residual.ensures c.in_err-check_usable.ensures

pub returns-in_err-admit : goal.returns-in_err-admit
returns-in_err-admit c = not_admitted _ _ _ _ _ _ c.in_ok-check_usable.ensures _ _ c.from_residual-in_err-admit.ensures c.in_err-admit.ensures.checks

pub check_extension-requires : goal.check_extension-requires
check_extension-requires c = room _ _ _ _ c.in_ok-admit.ensures CheckExtension c.in-CheckExtension.is

pub set_iommu-requires : goal.set_iommu-requires
set_iommu-requires c = room _ _ _ _ c.in_ok-admit.ensures SetIommu c.in-SetIommu.is

pub get_iommu_info-requires : goal.get_iommu_info-requires
get_iommu_info-requires c = room _ _ _ _ c.in_ok-admit.ensures GetIommuInfo c.in-GetIommuInfo.is

pub map_dma-requires : goal.map_dma-requires
map_dma-requires c = (good_state c.args.state.now c.args.records.now _ c.in_ok-check_usable.ensures, room _ _ _ _ c.in_ok-admit.ensures MapDma c.in-MapDma.is)

pub unmap_dma-requires : goal.unmap_dma-requires
unmap_dma-requires c = (good_state c.args.state.now c.args.records.now _ c.in_ok-check_usable.ensures, room _ _ _ _ c.in_ok-admit.ensures UnmapDma c.in-UnmapDma.is)

pub get_info-requires : goal.get_info-requires
get_info-requires c = room _ _ _ _ c.in_ok-admit.ensures GetInfo c.in-GetInfo.is

pub get_region_info-requires : goal.get_region_info-requires
get_region_info-requires c = room _ _ _ _ c.in_ok-admit.ensures GetRegionInfo c.in-GetRegionInfo.is

pub get_irq_info-requires : goal.get_irq_info-requires
get_irq_info-requires c = room _ _ _ _ c.in_ok-admit.ensures GetIrqInfo c.in-GetIrqInfo.is

pub set_irqs-requires : goal.set_irqs-requires
set_irqs-requires c = (room _ _ _ _ c.in_ok-admit.ensures SetIrqs c.in-SetIrqs.is, data_room _ _ _ _ c.in_ok-admit.ensures SetIrqs c.in-SetIrqs.is refl)

pub returns-in-GetApiVersion : goal.returns-in-GetApiVersion
returns-in-GetApiVersion c = meets _ _ _ _ c.in_ok-admit.ensures GetApiVersion c.in-GetApiVersion.is _ _ _ c.in_ok-check_usable.ensures (api_version_is _ _ _ _)

pub returns-in-CheckExtension : goal.returns-in-CheckExtension
returns-in-CheckExtension c = meets _ _ _ _ c.in_ok-admit.ensures CheckExtension c.in-CheckExtension.is _ _ _ c.in_ok-check_usable.ensures (c.check_extension.ensures _ _ _)

pub returns-in-SetIommu : goal.returns-in-SetIommu
returns-in-SetIommu c = meets _ _ _ _ c.in_ok-admit.ensures SetIommu c.in-SetIommu.is _ _ _ c.in_ok-check_usable.ensures (c.set_iommu.ensures _ _)

pub returns-in-GetIommuInfo : goal.returns-in-GetIommuInfo
returns-in-GetIommuInfo c = meets _ _ _ _ c.in_ok-admit.ensures GetIommuInfo c.in-GetIommuInfo.is _ _ _ c.in_ok-check_usable.ensures (c.get_iommu_info.ensures _ _ _)

pub returns-in-MapDma : goal.returns-in-MapDma
returns-in-MapDma c = meets _ _ _ _ c.in_ok-admit.ensures MapDma c.in-MapDma.is _ _ _ c.in_ok-check_usable.ensures (c.map_dma.ensures _ (good_length c.args.state.now c.args.records.now _ c.in_ok-check_usable.ensures))

pub returns-in-UnmapDma : goal.returns-in-UnmapDma
returns-in-UnmapDma c = meets _ _ _ _ c.in_ok-admit.ensures UnmapDma c.in-UnmapDma.is _ _ _ c.in_ok-check_usable.ensures (c.unmap_dma.ensures _ (good_length c.args.state.now c.args.records.now _ c.in_ok-check_usable.ensures))

pub returns-in-GetInfo : goal.returns-in-GetInfo
returns-in-GetInfo c = meets _ _ _ _ c.in_ok-admit.ensures GetInfo c.in-GetInfo.is _ _ _ c.in_ok-check_usable.ensures (c.get_info.ensures _ _ _)

pub returns-in-GetRegionInfo : goal.returns-in-GetRegionInfo
returns-in-GetRegionInfo c = meets _ _ _ _ c.in_ok-admit.ensures GetRegionInfo c.in-GetRegionInfo.is _ _ _ c.in_ok-check_usable.ensures (c.get_region_info.ensures _ _ _)

pub returns-in-GetIrqInfo : goal.returns-in-GetIrqInfo
returns-in-GetIrqInfo c = meets _ _ _ _ c.in_ok-admit.ensures GetIrqInfo c.in-GetIrqInfo.is _ _ _ c.in_ok-check_usable.ensures (c.get_irq_info.ensures _ _ _)

pub returns-in-SetIrqs : goal.returns-in-SetIrqs
returns-in-SetIrqs c = meets _ _ _ _ c.in_ok-admit.ensures SetIrqs c.in-SetIrqs.is _ _ _ c.in_ok-check_usable.ensures (c.set_irqs.ensures _ _)

pub returns-in-ResetDevice : goal.returns-in-ResetDevice
returns-in-ResetDevice c = meets _ _ _ _ c.in_ok-admit.ensures ResetDevice c.in-ResetDevice.is _ _ _ c.in_ok-check_usable.ensures (c.reset_device.ensures _ _ _)
