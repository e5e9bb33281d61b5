-- Soundness as facts, of one mapping and of a list of them.
use Prim.Native.Nat.{ℕ, zero, suc, ◌+◌, ◌≤◌, ◌<◌}
use native.Mathlib.Nat.{not-suc-le-zero, le_of_suc-le-suc}
use native.Mathlib.Omega.{arith}
use mathlib.Core.Path.{◌≡◌, refl}
use mathlib.Core.Bool.{Bool, true, false}
use mathlib.Core.List.{List, [], ◌∷◌}
use lib.Dec.{leb}
use lib.ListN.{length, get_or, drop}
use lib.Seq.{length-take-le}
use borrow.Author.Tests.{leb-true, ltb-true, le-leb, lt-ltb}
use Rattle.answer.specs.Tests.{◌and◌, pick}
use Rattle.answer.proofs.Tests.{and_true, and_made}
use Rattle.address.specs.Address.{device_limit, memory_limit, in_device_range, in_memory_range}
use Rattle.iommu.specs.declared.Mapping.{Mapping}
use Rattle.iommu.specs.Table.{Table, capacity, end, valid_rights, aligned_mapping, in_range, sound_mapping, sound_mappings_from, sound_table, total_size, in_use, Sound}

-- ---- one mapping

pub record Facts (size : ℕ) (m : Mapping) : Type 0 where
  pub aligned : aligned_mapping m ≡ true
  pub filled : 0 < m.size
  pub some : 1 ≤ m.rights
  pub few : m.rights ≤ 3
  pub below : end m ≤ device_limit
  pub within : m.memory.0 + m.size ≤ size

pub mapping-facts : (size : ℕ) (m : Mapping) → sound_mapping size m ≡ true → Facts size m
unfolding sound_mapping valid_rights in_range in_device_range in_memory_range
mapping-facts size m e =
    let p = and_true _ _ e in
    let q = and_true _ _ p.0 in
    let r = and_true _ _ q.0 in
    let rights = and_true _ _ q.1 in
    let range = and_true _ _ p.1 in
    record {
      aligned = r.0;
      filled = ltb-true _ _ r.1;
      some = leb-true _ _ rights.0;
      few = leb-true _ _ rights.1;
      below = leb-true _ _ range.0;
      within = leb-true _ _ range.1;
    }

pub facts-mapping : (size : ℕ) (m : Mapping) → Facts size m → sound_mapping size m ≡ true
unfolding sound_mapping valid_rights in_range in_device_range in_memory_range
facts-mapping size m f =
    and_made _ _ (and_made _ _ (and_made _ _ f.aligned (lt-ltb _ _ f.filled)) (and_made _ _ (le-leb _ _ f.some) (le-leb _ _ f.few)))
    (and_made _ _ (le-leb _ _ f.below) (le-leb _ _ f.within))

-- ---- a list of mappings

pub sound_split : (size low : ℕ) (m : Mapping) (ms : List Mapping) → sound_mappings_from size low (m ∷ ms) ≡ true
    → (low ≤ m.device.0) × (sound_mapping size m ≡ true) × (sound_mappings_from size (end m) ms ≡ true)
unfolding sound_mappings_from
sound_split size low m ms e =
    let p = and_true _ _ e in
    let q = and_true _ _ p.0 in
    (leb-true _ _ q.0, q.1, p.1)

pub sound_join : (size low : ℕ) (m : Mapping) (ms : List Mapping) → low ≤ m.device.0 → sound_mapping size m ≡ true → sound_mappings_from size (end m) ms ≡ true
    → sound_mappings_from size low (m ∷ ms) ≡ true
unfolding sound_mappings_from
sound_join size low m ms p q r = and_made _ _ (and_made _ _ (le-leb _ _ p) q) r

-- what is sound stays so where it may begin lower, and in a longer memory
pub sound-wider : (size size' low low' : ℕ) (ms : List Mapping) → size ≤ size' → low' ≤ low → sound_mappings_from size low ms ≡ true → sound_mappings_from size' low' ms ≡ true
sound-wider size size' low low' [] longer lower e = unfold sound_mappings_from in refl
sound-wider size size' low low' (m ∷ ms) longer lower e =
    let p = sound_split size low m ms e in
    let f = mapping-facts size m p.1 in
    sound_join size' low' m ms (omega arith)
    (facts-mapping size' m (record { aligned = f.aligned; filled = f.filled; some = f.some; few = f.few; below = f.below; within = omega arith }))
    (sound-wider size size' (end m) (end m) ms longer (omega arith) p.2)

-- where `sound` says so of the records in use and of a memory of the given length, they fit those lent, and are sound for every function below
pub sound-table : (t : Table) (size : ℕ) → (leb (length t.entries) capacity and leb t.count (length t.entries) and sound_table size (in_use t)) ≡ true → size ≤ memory_limit
    → (t.count ≤ length t.entries) × Sound (in_use t)
unfolding sound_table in_use
sound-table t size e h =
    let p = and_true _ _ e in
    let q = and_true _ _ p.0 in
    let room = leb-true (length t.entries) capacity q.0 in
    let fits = leb-true t.count (length t.entries) q.1 in
    (fits, record { few = omega (arith, room, fits, length-take-le t.count t.entries fits); table = sound-wider size memory_limit 0 0 (in_use t) h (omega arith) p.1 })

-- each of its mappings is sound
pub sound-at : (size low : ℕ) (ms : List Mapping) (i : ℕ) (blank : Mapping) → sound_mappings_from size low ms ≡ true → i < length ms → Facts size (get_or ms i blank)
sound-at size low [] i blank e h = absurd (not-suc-le-zero h)
sound-at size low (m ∷ ms) zero blank e h = mapping-facts size m (sound_split size low m ms e).1
sound-at size low (m ∷ ms) (suc i) blank e h = sound-at size (end m) ms i blank (sound_split size low m ms e).2 (le_of_suc-le-suc h)

-- what is left of it from an index on is sound from there
pub sound-drop : (size low : ℕ) (ms : List Mapping) (i : ℕ) (blank : Mapping) → sound_mappings_from size low ms ≡ true → i < length ms
    → sound_mappings_from size (get_or ms i blank).device.0 (drop i ms) ≡ true
sound-drop size low [] i blank e h = absurd (not-suc-le-zero h)
sound-drop size low (m ∷ ms) zero blank e h =
    let p = sound_split size low m ms e in
    sound_join size m.device.0 m ms (omega arith) p.1 p.2
sound-drop size low (m ∷ ms) (suc i) blank e h = sound-drop size (end m) ms i blank (sound_split size low m ms e).2 (le_of_suc-le-suc h)

-- the device addresses that a test picks lie apart, so that the sum of their sizes has a bound
pub size-bound : (test : Mapping → Bool) (size low : ℕ) (ms : List Mapping) → low ≤ device_limit → sound_mappings_from size low ms ≡ true → low + total_size test ms ≤ device_limit
unfolding total_size
size-bound test size low [] h e = omega arith
size-bound test size low (m ∷ ms) h e =
    let p = sound_split size low m ms e in
    let f = mapping-facts size m p.1 in
    go (test m) (size-bound test size (end m) ms f.below p.2) p.0
  where
    go : (s : Bool) → end m + total_size test ms ≤ device_limit → low ≤ m.device.0 → low + (pick s m.size 0 + total_size test ms) ≤ device_limit
    go true ih l = unfold pick in omega arith
    go false ih l = unfold pick in omega arith

pub size-limit : (test : Mapping → Bool) (size : ℕ) (ms : List Mapping) → sound_table size ms ≡ true → total_size test ms ≤ device_limit
unfolding sound_table
size-limit test size ms e = omega (arith, size-bound test size 0 ms (omega arith) e)
