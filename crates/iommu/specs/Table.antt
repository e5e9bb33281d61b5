-- The mapping table, as the list of its records in use (rule 1.8): what look-up, map, unmap and soundness say of it.
use Rattle.std.specs.Prelude.{ℕ, suc, ◌+◌, ◌-◌, ◌/◌, ◌%◌, ◌≤◌, Bool, true, false, not, ◌≡◌, List, [], ◌∷◌, ◌++◌, leb, ltb, eqb, length, take, drop, get_or, Option, None, Some}
use Rattle.answer.specs.Tests.{◌and◌, ◌or◌, pick}
use Rattle.address.specs.Address.{memory_limit, memory_offset, aligned, in_device_range, in_memory_range}
use Rattle.address.specs.declared.DeviceAddress.{DeviceAddress}
use Rattle.address.specs.declared.MemoryAddress.{MemoryAddress}
use Rattle.iommu.specs.declared.Mapping.{Mapping}
use Rattle.iommu.specs.declared.Target.{Target}

-- rule 1.8: how many records are lent at most
abbrev pub capacity : ℕ
capacity = 4096

-- rules 1.19, 3.23 and 3.24: the numbers of the IOMMU types that a container may be of; VFIO_TYPE1_IOMMU, and VFIO_TYPE1v2_IOMMU of later kernel
-- headers
abbrev pub type1 : ℕ
type1 = 1

abbrev pub type1v2 : ℕ
type1v2 = 3

unfoldable pub is_iommu_type : ℕ → Bool
is_iommu_type kind = eqb kind type1 or eqb kind type1v2

-- what a list of mappings reads as past its end
abbrev pub blank : Mapping
blank = record { device = record { 0 = 0 }; memory = record { 0 = 0 }; size = 0; rights = 0 }

-- one past the last device address of a mapping
abbrev pub end : Mapping → ℕ
end m = m.device.0 + m.size

-- ---- look-up

-- What a device address stands for: where its byte lies in memory, with which rights, and how many bytes its mapping shows from there on; or
-- nothing.
pub data Translation : Type 0 where
  At : MemoryAddress → ℕ → ℕ → Translation
  Nowhere : Translation

-- the same, by what the code gives
abbrev pub translation_of : Option Target → Translation
translation_of None = Nowhere
translation_of (Some t) = At t.address t.rights t.left

-- rule 1.8: the mapping shows a device address
unfoldable pub holds : Mapping → DeviceAddress → Bool
holds m d = leb m.device.0 d.0 and ltb d.0 (end m)

-- rule 4.1: the memory address as far behind the mapping's as the device address is behind the mapping's
unfoldable pub address_in : Mapping → DeviceAddress → MemoryAddress
address_in m d = memory_offset m.memory (d.0 - m.device.0)

-- rule 4.11: the bytes from a device address to the end of the mapping, and none of one that adjoins
unfoldable pub left_in : Mapping → DeviceAddress → ℕ
left_in m d = end m - d.0

-- rules 4.1, 4.11: what a mapping says of a device address that it holds: where it lies in memory, with which rights, and how far it runs on
abbrev pub shown : Mapping → DeviceAddress → Translation
shown m d = At (address_in m d) m.rights (left_in m d)

-- what it says of any device address
unfoldable pub shown_by : Mapping → DeviceAddress → Translation
shown_by m d = pick (holds m d) (shown m d) Nowhere

-- rule 4.1: what the mapping says that holds a device address
unfoldable pub translate : List Mapping → DeviceAddress → Translation
translate [] d = Nowhere
translate (m ∷ ms) d = pick (holds m d) (shown m d) (translate ms d)

-- whether a mapping holds the address
unfoldable pub mapped : Translation → Bool
mapped (At a rights left) = true
mapped Nowhere = false

-- ---- what a mapping must satisfy: each is a check of the map request, and all are soundness

-- rules 1.8 and 3.17: READ is bit 0, WRITE bit 1; one of them at least, and no other bit
unfoldable pub valid_rights : ℕ → Bool
valid_rights rights = leb 1 rights and leb rights 3

unfoldable pub readable : ℕ → Bool
readable rights = eqb (rights % 2) 1

unfoldable pub writable : ℕ → Bool
writable rights = eqb (rights / 2 % 2) 1

-- rule 3.17, check 7: both addresses and the size
unfoldable pub aligned_mapping : Mapping → Bool
aligned_mapping m = aligned m.memory.0 and aligned m.device.0 and aligned m.size

-- rule 3.17, check 9: not past 2^48, and not past the end of a memory of `size` bytes
unfoldable pub in_range : ℕ → Mapping → Bool
in_range size m = in_device_range m.device m.size and in_memory_range size m.memory m.size

-- rule 1.12, of one mapping: it passes the checks that a map makes of it alone; `size` is the noted length
unfoldable pub sound_mapping : ℕ → Mapping → Bool
sound_mapping size m = aligned_mapping m and ltb 0 m.size and valid_rights m.rights and in_range size m

-- rule 1.12: each mapping is sound, and begins where the one before ends (`low`), or later
unfoldable pub sound_mappings_from : ℕ → ℕ → List Mapping → Bool
sound_mappings_from size low [] = true
sound_mappings_from size low (m ∷ ms) = leb low m.device.0 and sound_mapping size m and sound_mappings_from size (end m) ms

unfoldable pub sound_table : ℕ → List Mapping → Bool
sound_table size ms = sound_mappings_from size 0 ms

-- ---- ranges of device addresses against mappings

-- a mapping and the `n` device addresses from `d` on share an address
unfoldable pub touches : DeviceAddress → ℕ → Mapping → Bool
touches d n m = ltb d.0 (end m) and ltb m.device.0 (d.0 + n)

-- rule 3.20: a mapping lies wholly inside the range
unfoldable pub inside : DeviceAddress → ℕ → Mapping → Bool
inside d n m = leb d.0 m.device.0 and leb (end m) (d.0 + n)

-- rule 3.25: a mapping begins in the range
unfoldable pub begins_in : DeviceAddress → ℕ → Mapping → Bool
begins_in d n m = leb d.0 m.device.0 and ltb m.device.0 (d.0 + n)

-- a mapping begins before a device address that it holds
unfoldable pub sticks_out : Mapping → DeviceAddress → Bool
sticks_out m d = ltb m.device.0 d.0 and holds m d

-- the test holds of some mapping
unfoldable pub any_of : (Mapping → Bool) → List Mapping → Bool
any_of test [] = false
any_of test (m ∷ ms) = test m or any_of test ms

-- rule 3.17, check 10: a mapping shares a device address with the range, of which all counts, since it may enclose the mapping (rule 7.17);
-- memory may be shared (rule 3.22)
unfoldable pub overlaps : DeviceAddress → ℕ → List Mapping → Bool
overlaps d n ms = any_of (touches d n) ms

-- rule 3.19, check 12: a mapping lies in the range in part: it sticks out at an end, or at both
unfoldable pub cuts : DeviceAddress → ℕ → List Mapping → Bool
cuts d n ms = any_of (λ m. touches d n m and not (inside d n m)) ms

-- rule 3.25: a mapping begins before the range and holds its start
unfoldable pub blocked : DeviceAddress → List Mapping → Bool
blocked d ms = any_of (λ m. sticks_out m d) ms

-- rules 3.20 and 3.25: which of the mappings an unmap removes, by the IOMMU type: under Type1 those that begin in the range, or none where
-- one blocks; under Type1v2 those that lie inside it
unfoldable pub removed : ℕ → List Mapping → DeviceAddress → ℕ → Mapping → Bool
removed kind ms d n = pick (eqb kind type1) (pick (blocked d ms) (λ m. false) (begins_in d n)) (inside d n)

-- ---- changes

-- rule 3.18: with one more mapping, at its place in the order of device addresses
unfoldable pub insert : Mapping → List Mapping → List Mapping
insert m [] = m ∷ []
insert m (x ∷ xs) = pick (ltb m.device.0 x.device.0) (m ∷ x ∷ xs) (x ∷ insert m xs)

-- rules 3.20 and 3.25: without those of which the test holds
unfoldable pub without : (Mapping → Bool) → List Mapping → List Mapping
without test [] = []
without test (m ∷ ms) = pick (test m) (without test ms) (m ∷ without test ms)

-- rules 3.20 and 3.25: the sum of the sizes of those of which the test holds, each whole
unfoldable pub total_size : (Mapping → Bool) → List Mapping → ℕ
total_size test [] = 0
total_size test (m ∷ ms) = pick (test m) m.size 0 + total_size test ms

-- rule 3.18: with a mapping at a place
unfoldable pub inserted_at : ℕ → Mapping → List Mapping → List Mapping
inserted_at at m ms = take at ms ++ m ∷ drop at ms

-- rule 3.20: without those from one place up to but not including another, and the sum of their sizes
unfoldable pub without_run : ℕ → ℕ → List Mapping → List Mapping
without_run from to ms = take from ms ++ drop to ms

unfoldable pub sizes_between : ℕ → ℕ → List Mapping → ℕ
sizes_between from to ms = total_size (λ m. true) (take (to - from) (drop from ms))

-- ---- the records that are lent

-- the records, and how many of them are in use
pub record Table : Type 0 where
  pub entries : List Mapping
  pub count : ℕ

abbrev pub table_of : List Mapping → ℕ → Table
table_of records count = record { entries = records; count = count }

-- rules 1.13, 1.17: the mappings of a table are its records in use; what stands past the count means nothing
unfoldable pub in_use : Table → List Mapping
in_use t = take t.count t.entries

-- rules 1.17, 7.24: the records with other mappings in use; those past the new count keep what they held
unfoldable pub holding : List Mapping → List Mapping → List Mapping
holding ms records = ms ++ drop (length ms) records

-- what functions below refusal 1 may ask of the mappings: no sum over them leaves 64 bits
pub record Sound (ms : List Mapping) : Type 0 where
  pub few : length ms ≤ capacity
  pub table : sound_table memory_limit ms ≡ true

-- ---- what passes over the records are stated with

-- how many mappings, of those in front, end at a device address or before it
unfoldable pub first_past : DeviceAddress → List Mapping → ℕ
first_past d [] = 0
first_past d (m ∷ ms) = pick (leb (end m) d.0) (suc (first_past d ms)) 0

-- `at` is the place of the first mapping that ends past a device address, and `held` says whether it holds it
pub record Placed (ms : List Mapping) (d : DeviceAddress) (at : ℕ) (held : Bool) : Type 0 where
  pub place : at ≡ first_past d ms
  pub holder : held ≡ holds (get_or ms at blank) d
