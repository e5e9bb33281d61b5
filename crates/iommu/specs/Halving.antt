-- Search by halving, over mappings by rising device address (rule 4.12).
use Rattle.std.specs.Prelude.{ℕ, zero, suc, ◌+◌, ◌/◌, ◌^◌, ◌≤◌, ◌<◌, ◌≡◌, Bool, true, false, List, ltb, length, get_or}
use Rattle.answer.specs.Tests.{pick}
use Rattle.address.specs.declared.DeviceAddress.{DeviceAddress}
use Rattle.iommu.specs.declared.Mapping.{Mapping}
use Rattle.iommu.specs.declared.Search.{Search}
use Rattle.iommu.specs.Table.{blank, holds, shown_by, translate, mapped, sound_table}

abbrev pub search : ℕ → ℕ → ℕ → Bool → Search
search lo hi probes held = record { lo = lo; hi = hi; probes = probes; held = held }

-- it starts from 0 and the number held
abbrev pub search_of : ℕ → Search
search_of count = search 0 count 0 false

-- of the places from lo up to but not including hi, it looks at the whole part of (lo + hi) / 2
unfoldable pub middle_of : Search → ℕ
middle_of s = (s.lo + s.hi) / 2

-- it stops at a mapping that holds the address; else it goes on below or above that place
unfoldable pub probed : Mapping → DeviceAddress → Search → Search
probed m d s =
    pick (holds m d) (search (middle_of s) (middle_of s) (s.probes + 1) true)
    (pick (ltb d.0 m.device.0) (search s.lo (middle_of s) (s.probes + 1) false)
    (search (middle_of s + 1) s.hi (s.probes + 1) false))

-- it stops when lo = hi; as many steps as there are places are always enough
unfoldable pub searched : ℕ → List Mapping → DeviceAddress → Search → Search
searched zero ms d s = s
searched (suc fuel) ms d s = pick (ltb s.lo s.hi) (searched fuel ms d (probed (get_or ms (middle_of s) blank) d s)) s

-- the rule over all mappings held, and how many places it looks at
unfoldable pub halved : List Mapping → DeviceAddress → Search
halved ms d = searched (length ms) ms d (search_of (length ms))

unfoldable pub probes_for : List Mapping → DeviceAddress → ℕ
probes_for ms d = (halved ms d).probes

-- Two statements about it, of which proofs/Halving.antt has the terms. In every sound table it finds the mapping that look-up tells of:
pub record Finds (ms : List Mapping) (d : DeviceAddress) : Type 0 where
  pub mapping : shown_by (get_or ms (halved ms d).lo blank) d ≡ translate ms d
  pub held : (halved ms d).held ≡ mapped (translate ms d)

abbrev pub HalvingFinds : Type 0
HalvingFinds = (size : ℕ) (ms : List Mapping) (d : DeviceAddress) → sound_table size ms ≡ true → Finds ms d

-- and it looks at no more places than the number held has binary digits: 7 for 64, 13 for 4,096.
abbrev pub HalvingIsShort : Type 0
HalvingIsShort = (ms : List Mapping) (d : DeviceAddress) (digits : ℕ) → length ms < 2 ^ digits → probes_for ms d ≤ digits
