-- Device reads and writes, offset by offset (rules 4.3 to 4.6).
use Rattle.std.specs.Prelude.{ℕ, zero, suc, List, [], ◌∷◌}
use Rattle.answer.specs.Codes.{Range, Unmapped, NoRight}
use Rattle.answer.specs.Checks.{Verdict, Fail, ◌then◌, ◌unless◌, first_fault}
use Rattle.answer.specs.Limits.{length_check}
use Rattle.address.specs.Address.{memory_address, device_offset, in_device_range}
use Rattle.address.specs.declared.DeviceAddress.{DeviceAddress}
use Rattle.address.specs.declared.MemoryAddress.{MemoryAddress}
use Rattle.iommu.specs.Table.{Translation, At, Nowhere, translate, readable, writable}
use Rattle.iommu.specs.declared.Mapping.{Mapping}
use Rattle.memory.specs.Shadow.{Shadow}
use Rattle.memory.specs.Memory.{Memory, Edit, put, byte_at}
use Rattle.memory.specs.Transfers.{unwritten_at}

-- rule 4.3, what is wrong with one byte: 14, then 15, then for a read 16
unfoldable pub read_fault : Shadow → Translation → Verdict
read_fault shadow Nowhere = Fail Unmapped 0
read_fault shadow (At a rights left) =
    NoRight unless readable rights
    then unwritten_at shadow a

unfoldable pub write_fault : Translation → Verdict
write_fault Nowhere = Fail Unmapped 0
write_fault (At a rights left) = NoRight unless writable rights

-- rule 4.3: 13, 9, then each offset in order tries its own; the first fault decides. A length of 0 has no offset to try (rule 4.10).
unfoldable pub transfer_checks : (Translation → Verdict) → List Mapping → DeviceAddress → ℕ → Verdict
transfer_checks fault ms d n =
    length_check n
    then Range unless in_device_range d n
    then first_fault (λ i. fault (translate ms (device_offset d i))) n

unfoldable pub device_read_checks : List Mapping → Shadow → DeviceAddress → ℕ → Verdict
device_read_checks ms shadow d n = transfer_checks (read_fault shadow) ms d n

unfoldable pub device_write_checks : List Mapping → DeviceAddress → ℕ → Verdict
device_write_checks ms d n = transfer_checks write_fault ms d n

-- the memory address that a translation gives; 0 where it gives none, which no accepted transfer meets
unfoldable pub location : Translation → MemoryAddress
location (At a rights left) = a
location Nowhere = memory_address 0

-- rule 4.5: the `n` bytes of memory that the device addresses from `d` on show, in however many mappings (rule 4.4)
unfoldable pub gather : List Mapping → Memory → DeviceAddress → ℕ → List ℕ
gather ms m d zero = []
gather ms m d (suc n) = byte_at m (location (translate ms d)) ∷ gather ms m (device_offset d 1) n

-- rule 4.6: the bytes `xs` stored in the order of their offsets, each where the mappings show its device address
unfoldable pub scatter : List Mapping → DeviceAddress → List ℕ → List Edit
scatter ms d [] = []
scatter ms d (x ∷ xs) = put (location (translate ms d)) x ∷ scatter ms (device_offset d 1) xs
