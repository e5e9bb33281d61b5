-- The checks of look-up, map and unmap, each list in the order of its rule.
use Rattle.std.specs.Prelude.{ℕ, ◌+◌, ◌≤◌, ◌≡◌, Bool, true, not, List, ltb, eqb, length, Result, IfOk}
use Rattle.answer.specs.Tests.{◌and◌, pick}
use Rattle.answer.specs.Codes.{Flags, Unaligned, Empty, Range, Overlap, NoRoom, Cuts, Unmapped}
use Rattle.answer.specs.Checks.{Verdict, ◌then◌, ◌when◌, ◌unless◌}
use Rattle.answer.specs.Answer.{verdict_of}
use Rattle.answer.specs.declared.Refusal.{Refusal}
use Rattle.address.specs.Address.{device_limit, aligned, device_offset, in_device_range}
use Rattle.address.specs.declared.DeviceAddress.{DeviceAddress}
use Rattle.iommu.specs.declared.Mapping.{Mapping}
use Rattle.iommu.specs.declared.Run.{Run}
use Rattle.iommu.specs.Table.{type1, is_iommu_type, translate, mapped, valid_rights, aligned_mapping, in_range, sound_table, overlaps, cuts, removed, insert, inserted_at, without, total_size, without_run, sizes_between}

-- rule 4.1: look-up tries 9 and then 14, both at place 0
unfoldable pub translate_checks : List Mapping → DeviceAddress → Verdict
translate_checks ms d =
    Range unless ltb d.0 device_limit
    then Unmapped unless mapped (translate ms d)

-- rule 3.23: a container takes an IOMMU type while its table is empty
unfoldable pub set_iommu_checks : ℕ → ℕ → Verdict
set_iommu_checks count kind = Flags unless is_iommu_type kind and eqb count 0

-- rule 3.17: map, for a memory of `size` bytes and `room` records; the flags are the mapping's rights. The last line is rule 2.8.
unfoldable pub map_checks : ℕ → ℕ → List Mapping → Mapping → Verdict
map_checks size room ms m =
    Flags unless valid_rights m.rights
    then Empty when eqb m.size 0
    then Unaligned unless aligned_mapping m
    then Range unless in_range size m
    then Overlap when overlaps m.device m.size ms
    then NoRoom unless ltb (length ms) room

-- rule 3.19: one past the last of the n device addresses from d on; of a range past 2^48, which is refused, its start
unfoldable pub end_of : DeviceAddress → ℕ → DeviceAddress
end_of d n = pick (in_device_range d n) (device_offset d n) d

-- rule 3.19: unmap, by the IOMMU type; memory has no part in 9, and Type1 never gives 12 (rule 3.25)
unfoldable pub unmap_checks : ℕ → List Mapping → ℕ → DeviceAddress → ℕ → Verdict
unmap_checks kind ms flags d n =
    Flags unless eqb flags 0
    then Empty when eqb n 0
    then Unaligned unless aligned d.0 and aligned n
    then Range unless in_device_range d n
    then Cuts when not (eqb kind type1) and cuts d n ms

-- ---- what the code is stated with

-- the checks of a map, and the place of the new mapping where they pass
pub record Maps (size room : ℕ) (ms : List Mapping) (m : Mapping) (r : Result ℕ Refusal) : Type 0 where
  pub checks : verdict_of r ≡ map_checks size room ms m
  pub place : IfOk r (λ at. (at ≤ length ms) × (insert m ms ≡ inserted_at at m ms))

-- the mappings of which the test holds stand side by side: those from `from` up to but not including `to`
pub record Removes (test : Mapping → Bool) (ms : List Mapping) (from to : ℕ) : Type 0 where
  pub order : from ≤ to
  pub end : to ≤ length ms
  pub rest : without test ms ≡ without_run from to ms
  pub size : total_size test ms ≡ sizes_between from to ms

-- the verdict of an unmap, and where it passes the run of those mappings
pub record Plans (v : Verdict) (test : Mapping → Bool) (ms : List Mapping) (r : Result Run Refusal) : Type 0 where
  pub checks : verdict_of r ≡ v
  pub range : IfOk r (λ run. Removes test ms run.from run.to)

-- the checks of an unmap under either rule, and what it removes
abbrev pub Unmaps : ℕ → List Mapping → ℕ → DeviceAddress → ℕ → Result Run Refusal → Type 0
Unmaps kind ms flags d n r = Plans (unmap_checks kind ms flags d n) (removed kind ms d n) ms r

-- rules 3.20 and 3.25, both at once: what an unmap leaves of a sound table is sound, so in order and apart; and the sizes that it reports and
-- those of what it leaves make up what was held
pub record Remains : Type 0 where
  pub sound : (kind size : ℕ) (ms : List Mapping) (d : DeviceAddress) (n : ℕ) → sound_table size ms ≡ true → sound_table size (without (removed kind ms d n) ms) ≡ true
  pub sizes : (kind : ℕ) (ms : List Mapping) (d : DeviceAddress) (n : ℕ)
      → total_size (removed kind ms d n) ms + total_size (λ m. true) (without (removed kind ms d n) ms) ≡ total_size (λ m. true) ms
