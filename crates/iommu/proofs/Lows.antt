-- The pass for soundness: where the record before the index ended decides with the mappings still to come.
use Prim.Native.Nat.{ℕ, ◌+◌, ◌≤◌, ◌<◌}
use native.Mathlib.Numerals.{add-one}
use mathlib.Core.Path.{◌≡◌, refl}
use mathlib.Core.Bool.{true}
use mathlib.Core.List.{List}
use lib.Dec.{leb}
use lib.ListN.{length, get_or, drop, drop_of_length-le}
use lib.Seq.{drop-cons}
use Rattle.answer.specs.Tests.{◌and◌}
use Rattle.iommu.specs.declared.Mapping.{Mapping}
use Rattle.iommu.specs.Table.{blank, end, sound_mapping, sound_mappings_from, sound_table}

pub low-start : (size : ℕ) (ms : List Mapping) → sound_table size ms ≡ sound_mappings_from size 0 (drop 0 ms)
unfolding sound_table
low-start size ms = refl

module _ (size low : ℕ) (ms : List Mapping) (i : ℕ) where
  -- the mapping at the index, and those behind it
  pub low_on : i < length ms
      → sound_mappings_from size low (drop i ms) ≡ (leb low (get_or ms i blank).device.0 and sound_mapping size (get_or ms i blank) and sound_mappings_from size (end (get_or ms i blank)) (drop (i + 1) ms))
  unfolding sound_mappings_from
  low_on lt = rw (add-one i, drop-cons ms i blank lt)

  pub low_end : length ms ≤ i → sound_mappings_from size low (drop i ms) ≡ true
  unfolding sound_mappings_from
  low_end h = rw (drop_of_length-le ms {i = i} h)
