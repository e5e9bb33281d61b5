-- The sum of the sizes of mappings that stand side by side.
use Prim.Native.Nat.{ℕ, zero, suc, ◌-◌, ◌≤◌}
use native.Mathlib.Omega.{arith}
use mathlib.Core.Path.{◌≡◌, refl, sym}
use mathlib.Core.Bool.{Bool, true}
use mathlib.Core.List.{List, [], ◌∷◌}
use lib.ListN.{take, drop}
use Rattle.std.specs.Prelude.{sum_by}
use Rattle.std.proofs.lemmas.List.Sums.{sum_by-cons}
use Rattle.answer.specs.Tests.{pick}
use Rattle.address.specs.Address.{device_limit}
use Rattle.iommu.specs.declared.Mapping.{Mapping}
use Rattle.iommu.specs.Table.{total_size, sizes_between, sound_table}
use Rattle.iommu.proofs.Soundness.{size-limit}

-- part of a list has no larger sum
total_take : (test : Mapping → Bool) (k : ℕ) (ms : List Mapping) → total_size test (take k ms) ≤ total_size test ms
unfolding total_size
total_take test zero ms = omega arith
total_take test (suc k) [] = omega arith
total_take test (suc k) (m ∷ ms) = let h = total_take test k ms in omega arith

total_drop : (test : Mapping → Bool) (k : ℕ) (ms : List Mapping) → total_size test (drop k ms) ≤ total_size test ms
unfolding total_size
total_drop test zero ms = omega arith
total_drop test (suc k) [] = omega arith
total_drop test (suc k) (m ∷ ms) = let h = total_drop test k ms in omega arith

pub sizes-limit : (size from to : ℕ) (ms : List Mapping) → sound_table size ms ≡ true → sizes_between from to ms ≤ device_limit
unfolding sizes_between
sizes-limit size from to ms e =
    omega (arith, total_take (λ m. true) (to - from) (drop from ms), total_drop (λ m. true) from ms, size-limit (λ m. true) size ms e)

-- they are the sum of the sizes
total_sum : (ms : List Mapping) → total_size (λ m. true) ms ≡ sum_by (λ (m : Mapping). m.size) ms
unfolding total_size pick
total_sum [] = refl
total_sum (m ∷ ms) = rw (total_sum ms) (sym (sum_by-cons _ m ms))

pub sizes_sum : (from to : ℕ) (ms : List Mapping) → sizes_between from to ms ≡ sum_by (λ (m : Mapping). m.size) (take (to - from) (drop from ms))
unfolding sizes_between
sizes_sum from to ms = total_sum (take (to - from) (drop from ms))
