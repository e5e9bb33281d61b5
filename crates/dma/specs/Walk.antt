-- What the walks over the mappings are stated with: a transfer goes run by run, a run being what one mapping shows of it (rules 4.4, 4.11).
use Rattle.std.specs.Prelude.{ℕ, ◌+◌, ◌≤◌, ◌<◌, Bool, true, ◌≡◌, List, min, length, Option, None, Some}
use Rattle.answer.specs.Tests.{pick}
use Rattle.answer.specs.Checks.{Verdict}
use Rattle.address.specs.Address.{device_limit, memory_limit, memory_address, device_offset}
use Rattle.address.specs.declared.DeviceAddress.{DeviceAddress}
use Rattle.iommu.specs.Table.{capacity, At, Nowhere, Translation, translate, mapped, in_range, sound_table}
use Rattle.iommu.specs.declared.Mapping.{Mapping}
use Rattle.memory.specs.Shadow.{Shadow}
use Rattle.dma.specs.declared.Run.{Run}
use Rattle.dma.specs.Transfers.{read_fault, write_fault, location}

-- what a transfer asks of the mappings over a memory of `size` bytes; refusal 1 has been tried before
pub record Ready (ms : List Mapping) (size : ℕ) : Type 0 where
  pub few : length ms ≤ capacity
  pub sound : sound_table size ms ≡ true
  pub limit : size ≤ memory_limit

-- what an accepted transfer of `n` bytes from `d` on has passed: its addresses lie below 2^48, and mappings hold them
pub record Accepted (ms : List Mapping) (d : DeviceAddress) (n : ℕ) : Type 0 where
  pub range : d.0 + n ≤ device_limit
  pub held : (i : ℕ) → i < n → mapped (translate ms (device_offset d i)) ≡ true

-- the n device addresses from d on show the memory from a on
abbrev pub Contiguous : List Mapping → DeviceAddress → ℕ → ℕ → Type 0
Contiguous ms d a n = (j : ℕ) → j < n → location (translate ms (device_offset d j)) ≡ memory_address (a + j)

-- what is wrong with one byte, of a write or of a read
unfoldable pub fault_of : Bool → Shadow → Translation → Verdict
fault_of write shadow = pick write write_fault (read_fault shadow)

-- rule 4.11: a run is as long as look-up says is left of its mapping, or as what is left of the transfer
unfoldable pub run_length : ℕ → ℕ → ℕ
run_length left n = min left n

-- the run of a transfer of which `n` bytes are left, by what a mapping says of the next address
unfoldable pub run_shown : ℕ → Translation → Option Run
run_shown n Nowhere = None
run_shown n (At a rights left) = Some (record { at = a.0; len = run_length left n; rights = rights })

-- what a look at one record asks of it, at offset `done` of a transfer of `n` bytes from `d` on: no sum leaves 64 bits
pub record RunBounds (m : Mapping) (d : DeviceAddress) (n done : ℕ) : Type 0 where
  pub range : in_range memory_limit m ≡ true
  pub some : done < n
  pub below : d.0 + n ≤ device_limit
