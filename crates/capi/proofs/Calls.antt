-- What look-up finds, at the number that C gives.
use Rattle.std.proofs.Common.{◌≡◌, ℕ, List, sym}
use Rattle.address.specs.Address.{device_address}
use Rattle.address.specs.declared.DeviceAddress.{DeviceAddress}
use Rattle.iommu.specs.declared.Mapping.{Mapping}
use Rattle.emulator.specs.declared.State.{State}
use Rattle.capi.specs.Contract.{FindsAt}
use Rattle.capi.specs.declared.Found.{Found}

pub looked_up : (s : State) (rs : List Mapping) (d : DeviceAddress) (x : ℕ) → d ≡ device_address x → (r : Found) → FindsAt d s rs r → FindsAt (device_address x) s rs r
looked_up s rs d x e r h = rw (sym e) h
