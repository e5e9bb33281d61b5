-- What a change keeps: a sound list of mappings stays sound, and a table holds what it was given.
use Prim.Native.Nat.{ℕ, suc, ◌+◌, ◌≤◌, ◌<◌}
use native.Mathlib.Omega.{arith}
use mathlib.Core.Path.{◌≡◌, refl, sym, ◌∙◌, ap}
use mathlib.Core.Bool.{Bool, true, false}
use mathlib.Core.List.{List, [], ◌∷◌}
use lib.Dec.{ltb}
use lib.ListN.{length, length-append, length-drop}
use lib.Seq.{take-append_seam}
use borrow.Author.Tests.{ltb-true, ltb-false, lt-ltb, eqb-false}
use Rattle.answer.specs.Tests.{◌and◌, pick}
use Rattle.answer.specs.Checks.{Pass}
use Rattle.answer.proofs.Tests.{and_made, or_false}
use Rattle.answer.proofs.Checks.{then_pass, when_pass, unless_pass}
use Rattle.address.specs.Address.{memory_limit}
use Rattle.address.specs.declared.DeviceAddress.{DeviceAddress}
use Rattle.iommu.specs.declared.Mapping.{Mapping}
use Rattle.iommu.specs.Table.{Table, table_of, capacity, end, sound_mapping, sound_mappings_from, sound_table, touches, any_of, overlaps, insert, without, total_size, in_use, holding, Sound}
use Rattle.iommu.specs.Requests.{map_checks}
use Rattle.iommu.proofs.Soundness.{mapping-facts, sound_split, sound_join, sound-wider}
use Rattle.iommu.proofs.Passes.{in_use-length}

-- ---- the records that hold a list

module _ (ms records : List Mapping) where
  pub in_use-holding : in_use (table_of (holding ms records) (length ms)) ≡ ms
  unfolding in_use holding
  in_use-holding = take-append_seam ms _

  -- where they have room for it there are as many as before
  module _ (room : length ms ≤ length records) where
    pub length-holding : length (holding ms records) ≡ length records
    unfolding holding
    length-holding = rw (length-append, length-drop) (omega arith)

    pub holding-sound : length ms ≤ capacity → sound_table memory_limit ms ≡ true
        → (length ms ≤ length (holding ms records)) × Sound (in_use (table_of (holding ms records) (length ms)))
    holding-sound few sound = (rw length-holding room, rw in_use-holding (record { few = few; table = sound }))

-- ---- lengths

pub length-insert : (m : Mapping) (ms : List Mapping) → length (insert m ms) ≡ suc (length ms)
unfolding insert
length-insert m [] = refl
length-insert m (x ∷ xs) = go (ltb m.device.0 x.device.0) (length-insert m xs)
  where
    go : (s : Bool) → length (insert m xs) ≡ suc (length xs) → length (pick s (m ∷ x ∷ xs) (x ∷ insert m xs)) ≡ suc (suc (length xs))
    go true ih = unfold pick in refl
    go false ih = unfold pick in ap suc ih

pub length_without : (test : Mapping → Bool) (ms : List Mapping) → length (without test ms) ≤ length ms
unfolding without
length_without test [] = omega arith
length_without test (m ∷ ms) = go (test m) (length_without test ms)
  where
    go : (s : Bool) → length (without test ms) ≤ length ms → length (pick s (without test ms) (m ∷ without test ms)) ≤ suc (length ms)
    go true ih = unfold pick in omega arith
    go false ih = unfold pick in omega arith

-- ---- sizes

-- those removed and those left make up all
pub without_total : (test : Mapping → Bool) (ms : List Mapping) → total_size test ms + total_size (λ m. true) (without test ms) ≡ total_size (λ m. true) ms
unfolding without total_size
without_total test [] = refl
without_total test (m ∷ ms) = go (test m) (without_total test ms)
  where
    go : (s : Bool) → total_size test ms + total_size (λ m. true) (without test ms) ≡ total_size (λ m. true) ms
        → pick s m.size 0 + total_size test ms + total_size (λ m. true) (pick s (without test ms) (m ∷ without test ms)) ≡ pick true m.size 0 + total_size (λ m. true) ms
    go true ih = unfold pick in omega arith
    go false ih = unfold pick in omega arith

-- one more is held
pub insert_total : (m : Mapping) (ms : List Mapping) → total_size (λ m. true) (insert m ms) ≡ m.size + total_size (λ m. true) ms
unfolding insert total_size pick
insert_total m [] = refl
insert_total m (x ∷ xs) = go (ltb m.device.0 x.device.0) (insert_total m xs)
  where
    go : (s : Bool) → total_size (λ m. true) (insert m xs) ≡ m.size + total_size (λ m. true) xs
        → total_size (λ m. true) (pick s (m ∷ x ∷ xs) (x ∷ insert m xs)) ≡ m.size + (x.size + total_size (λ m. true) xs)
    go true ih = refl
    go false ih = omega (arith, ih)

-- ---- a range and a mapping that share no device address

pub apart-facts : (d : DeviceAddress) (n : ℕ) (m : Mapping) → touches d n m ≡ false → d.0 < end m → d.0 + n ≤ m.device.0
unfolding touches ◌and◌
apart-facts d n m e lt = ltb-false _ _ (sym (rw (lt-ltb _ _ lt)) ∙ e)

-- so it lies behind a mapping that begins no later
pub apart-behind : (d : DeviceAddress) (n : ℕ) (m : Mapping) → touches d n m ≡ false → m.device.0 ≤ d.0 → 0 < n → end m ≤ d.0
apart-behind d n m e le some = go (ltb d.0 (end m)) refl
  where
    go : (s : Bool) → ltb d.0 (end m) ≡ s → end m ≤ d.0
    go true t = absurd (omega (arith, apart-facts d n m e (ltb-true _ _ t)))
    go false t = ltb-false _ _ t

pub overlaps_split : (d : DeviceAddress) (n : ℕ) (m : Mapping) (ms : List Mapping) → overlaps d n (m ∷ ms) ≡ false → (touches d n m ≡ false) × (overlaps d n ms ≡ false)
unfolding overlaps any_of
overlaps_split d n m ms e = or_false _ _ e

-- ---- removal and insertion keep soundness

without_from : (test : Mapping → Bool) (size low : ℕ) (ms : List Mapping) → sound_mappings_from size low ms ≡ true → sound_mappings_from size low (without test ms) ≡ true
unfolding without
without_from test size low [] e = e
without_from test size low (m ∷ ms) e =
    let p = sound_split size low m ms e in
    go (test m) p.0 p.1 (without_from test size (end m) ms p.2)
  where
    go : (s : Bool) → low ≤ m.device.0 → sound_mapping size m ≡ true → sound_mappings_from size (end m) (without test ms) ≡ true
        → sound_mappings_from size low (pick s (without test ms) (m ∷ without test ms)) ≡ true
    go true l h ih = unfold pick in sound-wider size size (end m) low (without test ms) (omega arith) (omega arith) ih
    go false l h ih = unfold pick in sound_join size low m (without test ms) l h ih

pub without-sound : (test : Mapping → Bool) (size : ℕ) (ms : List Mapping) → sound_table size ms ≡ true → sound_table size (without test ms) ≡ true
unfolding sound_table
without-sound test size ms e = without_from test size 0 ms e

insert-from : (size low : ℕ) (m : Mapping) (ms : List Mapping) → sound_mappings_from size low ms ≡ true → low ≤ m.device.0 → sound_mapping size m ≡ true
    → overlaps m.device m.size ms ≡ false → sound_mappings_from size low (insert m ms) ≡ true
unfolding insert
insert-from size low m [] e l h o = sound_join size low m [] l h (unfold sound_mappings_from in refl)
insert-from size low m (x ∷ xs) e l h o =
    go (ltb m.device.0 x.device.0) refl (insert-from size (end x) m xs p.2)
  where
    p : (low ≤ x.device.0) × (sound_mapping size x ≡ true) × (sound_mappings_from size (end x) xs ≡ true)
    p = sound_split size low x xs e

    free : (touches m.device m.size x ≡ false) × (overlaps m.device m.size xs ≡ false)
    free = overlaps_split m.device m.size x xs o

    go : (s : Bool) → ltb m.device.0 x.device.0 ≡ s
        → (end x ≤ m.device.0 → sound_mapping size m ≡ true → overlaps m.device m.size xs ≡ false → sound_mappings_from size (end x) (insert m xs) ≡ true)
        → sound_mappings_from size low (pick s (m ∷ x ∷ xs) (x ∷ insert m xs)) ≡ true
    go true t ih =
        let lt = ltb-true m.device.0 x.device.0 t in
        let f = mapping-facts size x p.1 in
        unfold pick in
        sound_join size low m (x ∷ xs) l h (sound_join size (end m) x xs (apart-facts m.device m.size x free.0 (omega arith)) p.1 p.2)
    go false t ih =
        let f = mapping-facts size m h in
        unfold pick in
        sound_join size low x (insert m xs) p.0 p.1 (ih (apart-behind m.device m.size x free.0 (ltb-false _ _ t) f.filled) h free.1)

pub insert-sound : (size : ℕ) (m : Mapping) (ms : List Mapping) → sound_table size ms ≡ true → sound_mapping size m ≡ true → overlaps m.device m.size ms ≡ false
    → sound_table size (insert m ms) ≡ true
unfolding sound_table
insert-sound size m ms e h o = insert-from size 0 m ms e (omega arith) h o

-- ---- what the checks of a request have shown

pub record Mappable (size room : ℕ) (ms : List Mapping) (m : Mapping) : Type 0 where
  pub sound : sound_mapping size m ≡ true
  pub free : overlaps m.device m.size ms ≡ false
  pub fits : length ms < room

pub map-passed : (size room : ℕ) (ms : List Mapping) (m : Mapping) → map_checks size room ms m ≡ Pass → Mappable size room ms m
unfolding map_checks sound_mapping
map-passed size room ms m e =
    let flags = then_pass _ _ e in
    let empty = then_pass _ _ flags.1 in
    let unaligned = then_pass _ _ empty.1 in
    let range = then_pass _ _ unaligned.1 in
    let overlap = then_pass _ _ range.1 in
    let some = eqb-false m.size 0 (when_pass _ _ empty.0) in
    record {
      sound = and_made _ _ (and_made _ _ (and_made _ _ (unless_pass _ _ unaligned.0) (lt-ltb 0 m.size (omega arith))) (unless_pass _ _ flags.0)) (unless_pass _ _ range.0);
      free = when_pass _ _ overlap.0;
      fits = ltb-true _ _ (unless_pass _ _ overlap.1);
    }

-- what `insert` asks
pub map-room : (size room : ℕ) (t : Table) (m : Mapping) → t.count ≤ length t.entries → map_checks size room (in_use t) m ≡ Pass → t.count < room
map-room size room t m fits e =
    let r = (map-passed size room (in_use t) m e).fits in
    omega (arith, in_use-length t fits)
