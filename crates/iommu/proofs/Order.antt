-- The place of a device address among sound mappings, which are in order and apart: what stands there decides look-up, overlap, insertion
-- and removal.
use Prim.Native.Nat.{ℕ, zero, suc, ◌+◌, ◌-◌, ◌≤◌, ◌<◌}
use native.Mathlib.Nat.{not-suc-le-zero, le_of_suc-le-suc}
use native.Mathlib.Omega.{arith}
use mathlib.Core.Path.{◌≡◌, refl, sym, ◌∙◌, ap}
use mathlib.Core.Bool.{Bool, true, false, not, true≢false}
use mathlib.Core.List.{List, [], ◌∷◌, ◌++◌}
use lib.Dec.{leb, ltb}
use lib.ListN.{length, get_or, take, drop, take-append-drop, get_or-eq_default}
use borrow.Author.Tests.{leb-true, leb-false, ltb-true, ltb-false, le-leb, lt-leb, lt-ltb, le-ltb}
use Rattle.answer.specs.Tests.{◌and◌, ◌or◌, pick}
use Rattle.answer.proofs.Tests.{and_true, and_made, and_false, and_second, or_false, pick_true, pick_false, is_false, same_test}
use Rattle.address.specs.Address.{device_offset}
use Rattle.address.specs.declared.DeviceAddress.{DeviceAddress}
use Rattle.iommu.specs.declared.Mapping.{Mapping}
use Rattle.iommu.specs.Table.{Nowhere, blank, end, holds, shown, shown_by, translate, sound_mapping, sound_mappings_from, sound_table, touches, inside, begins_in, sticks_out, any_of, overlaps, cuts, blocked, insert, without, total_size, inserted_at, without_run, sizes_between, first_past}
use Rattle.iommu.specs.Requests.{Removes}
use Rattle.iommu.proofs.Soundness.{mapping-facts, sound_split, sound-at}
use Rattle.iommu.proofs.Changes.{apart-facts, overlaps_split}
use Rattle.iommu.proofs.Lookup.{holds-facts, translate-below}

-- ---- the place

module _ (d : DeviceAddress) where
  past-suc : (m : Mapping) (ms : List Mapping) → end m ≤ d.0 → first_past d (m ∷ ms) ≡ suc (first_past d ms)
  unfolding first_past
  past-suc m ms h = pick_true _ _ _ (le-leb _ _ h)

  past-zero : (m : Mapping) (ms : List Mapping) → d.0 < end m → first_past d (m ∷ ms) ≡ 0
  unfolding first_past
  past-zero m ms h = pick_false _ _ _ (lt-leb _ _ h)

  pub past_bound : (ms : List Mapping) → first_past d ms ≤ length ms
  unfolding first_past
  past_bound [] = omega arith
  past_bound (m ∷ ms) = go (leb (end m) d.0) (past_bound ms)
    where
      go : (s : Bool) → first_past d ms ≤ length ms → pick s (suc (first_past d ms)) 0 ≤ suc (length ms)
      go true ih = unfold pick in omega arith
      go false ih = unfold pick in omega arith

  -- it is the first where all mappings begin past the address
  past-none : (size low : ℕ) (ms : List Mapping) → sound_mappings_from size low ms ≡ true → d.0 < low → first_past d ms ≡ 0
  past-none size low [] e h = unfold first_past in refl
  past-none size low (m ∷ ms) e h = let l = (sound_split size low m ms e).0 in past-zero m ms (omega arith)

  -- the mappings before the place end at the address or below it
  pub past-before : (ms : List Mapping) (i : ℕ) → i < first_past d ms → end (get_or ms i blank) ≤ d.0
  unfolding first_past
  past-before [] i h = absurd (not-suc-le-zero h)
  past-before (m ∷ ms) i h = go (leb (end m) d.0) refl i h (λ j. past-before ms j)
    where
      go : (s : Bool) → leb (end m) d.0 ≡ s → (i : ℕ) → i < pick s (suc (first_past d ms)) 0 → ((j : ℕ) → j < first_past d ms → end (get_or ms j blank) ≤ d.0) → end (get_or (m ∷ ms) i blank) ≤ d.0
      go true e zero h ih = leb-true _ _ e
      go true e (suc i) h ih = ih i (let l : suc i < suc (first_past d ms) = unfold pick in h in omega arith)
      go false e i h ih = absurd (let l : i < 0 = unfold pick in h in omega arith)

  -- one that ends past it stands at the place or behind it
  pub past-below : (ms : List Mapping) (i : ℕ) → d.0 < end (get_or ms i blank) → first_past d ms ≤ i
  past-below ms i h = go (ltb i (first_past d ms)) refl
    where
      go : (s : Bool) → ltb i (first_past d ms) ≡ s → first_past d ms ≤ i
      go true e = absurd (omega (arith, past-before ms i (ltb-true _ _ e)))
      go false e = ltb-false _ _ e

  -- and the one at the place does
  pub past-at : (ms : List Mapping) → first_past d ms < length ms → d.0 < end (get_or ms (first_past d ms) blank)
  past-at [] h = absurd (not-suc-le-zero h)
  past-at (m ∷ ms) h = go (leb (end m) d.0) refl (past-at ms)
    where
      go : (s : Bool) → leb (end m) d.0 ≡ s → (first_past d ms < length ms → d.0 < end (get_or ms (first_past d ms) blank)) → d.0 < end (get_or (m ∷ ms) (first_past d (m ∷ ms)) blank)
      go true e ih = let p = past-suc m ms (leb-true _ _ e) in rw p (ih (omega (arith, p)))
      go false e ih = rw (past-zero m ms (leb-false _ _ e)) (leb-false _ _ e)

-- ---- mappings in order

module _ (size : ℕ) where
  -- none begins below the first
  pub begins-from : (low : ℕ) (ms : List Mapping) (i : ℕ) → sound_mappings_from size low ms ≡ true → i < length ms → low ≤ (get_or ms i blank).device.0
  begins-from low [] i e h = absurd (not-suc-le-zero h)
  begins-from low (m ∷ ms) zero e h = (sound_split size low m ms e).0
  begins-from low (m ∷ ms) (suc i) e h =
      let p = sound_split size low m ms e in
      let l = p.0 in
      omega (arith, begins-from (end m) ms i p.2 (le_of_suc-le-suc h))

  -- each ends where the next begins, or before it
  pub in_order : (low : ℕ) (ms : List Mapping) (i j : ℕ) → sound_mappings_from size low ms ≡ true → i < j → j < length ms → end (get_or ms i blank) ≤ (get_or ms j blank).device.0
  in_order low [] i j e lt h = absurd (not-suc-le-zero h)
  in_order low (m ∷ ms) i zero e lt h = absurd (not-suc-le-zero lt)
  in_order low (m ∷ ms) zero (suc j) e lt h = begins-from (end m) ms j (sound_split size low m ms e).2 (le_of_suc-le-suc h)
  in_order low (m ∷ ms) (suc i) (suc j) e lt h = in_order (end m) ms i j (sound_split size low m ms e).2 (le_of_suc-le-suc lt) (le_of_suc-le-suc h)

  module _ (d : DeviceAddress) (ms : List Mapping) (sound : sound_table size ms ≡ true) (i : ℕ) (h : i < length ms) where
    -- one that ends at the address or below it stands before the place
    pub past-above : end (get_or ms i blank) ≤ d.0 → i < first_past d ms
    unfolding sound_table
    past-above e = go (ltb i (first_past d ms)) refl
      where
        go : (s : Bool) → ltb i (first_past d ms) ≡ s → i < first_past d ms
        go true t = ltb-true _ _ t
        go false t = absurd (same (ltb (first_past d ms) i) refl)
          where
            le : first_past d ms ≤ i
            le = ltb-false _ _ t

            same : (s : Bool) → ltb (first_past d ms) i ≡ s → ⊥
            same true u =
                let lt = ltb-true _ _ u in
                let o = in_order 0 ms (first_past d ms) i sound lt h in
                let p = past-at d ms (omega arith) in
                omega arith
            same false u =
                let is : i ≡ first_past d ms = omega (arith, le, ltb-false (first_past d ms) i u) in
                let p = past-at d ms (omega arith) in
                let q : end (get_or ms (first_past d ms) blank) ≤ d.0 = rw (← is) e in
                omega arith

    -- the one that holds it stands at the place
    pub past-holder : holds (get_or ms i blank) d ≡ true → first_past d ms ≡ i
    unfolding sound_table
    past-holder e = go (ltb (first_past d ms) i) refl
      where
        f : ((get_or ms i blank).device.0 ≤ d.0) × (d.0 < end (get_or ms i blank))
        f = holds-facts (get_or ms i blank) d e

        go : (s : Bool) → ltb (first_past d ms) i ≡ s → first_past d ms ≡ i
        go true t =
            let lt = ltb-true _ _ t in
            let o = in_order 0 ms (first_past d ms) i sound lt h in
            let p = past-at d ms (omega arith) in
            let q = f.0 in
            absurd (omega arith)
        go false t = omega (arith, ltb-false (first_past d ms) i t, past-below d ms i f.1)

    -- where one ends at the address, the next one stands at the place
    pub past_next : end (get_or ms i blank) ≡ d.0 → first_past d ms ≡ i + 1
    unfolding sound_table
    past_next e = go (ltb (i + 1) (length ms)) refl
      where
        above : i < first_past d ms
        above = past-above (omega arith)

        go : (s : Bool) → ltb (i + 1) (length ms) ≡ s → first_past d ms ≡ i + 1
        go true t =
            let l = ltb-true _ _ t in
            let o = in_order 0 ms i (i + 1) sound (omega arith) l in
            let f = (sound-at size 0 ms (i + 1) blank sound l).filled in
            let b = past-below d ms (i + 1) (omega arith) in
            let a = above in
            omega arith
        go false t = omega (arith, above, ltb-false (i + 1) (length ms) t, past_bound d ms)

-- ---- look-up

pub blank-holds : (d : DeviceAddress) → holds blank d ≡ false
unfolding holds
blank-holds d = is_false _ (λ e. let f = holds-facts blank d e in omega arith)

-- a mapping that begins at the address or before it, and does not hold it, ends there or before
pub holds-passed : (m : Mapping) (d : DeviceAddress) → holds m d ≡ false → m.device.0 ≤ d.0 → end m ≤ d.0
unfolding holds
holds-passed m d e h = ltb-false d.0 (end m) (and_second (le-leb m.device.0 d.0 h) refl ∙ e)

holds_not : (m : Mapping) (d : DeviceAddress) → (m.device.0 ≤ d.0 → d.0 < end m → ⊥) → holds m d ≡ false
holds_not m d out = is_false _ (λ e. let f = holds-facts m d e in out f.0 f.1)

translate-from : (size low : ℕ) (ms : List Mapping) (d : DeviceAddress) → sound_mappings_from size low ms ≡ true → translate ms d ≡ shown_by (get_or ms (first_past d ms) blank) d
unfolding translate shown_by
translate-from size low [] d e = sym (pick_false _ _ _ (blank-holds d))
translate-from size low (m ∷ ms) d e = go (leb (end m) d.0) refl (holds m d) refl (translate-from size (end m) ms d (sound_split size low m ms e).2)
  where
    p : (low ≤ m.device.0) × (sound_mapping size m ≡ true) × (sound_mappings_from size (end m) ms ≡ true)
    p = sound_split size low m ms e

    go : (s : Bool) → leb (end m) d.0 ≡ s → (h : Bool) → holds m d ≡ h → translate ms d ≡ shown_by (get_or ms (first_past d ms) blank) d
        → pick (holds m d) (shown m d) (translate ms d) ≡ pick (holds (get_or (m ∷ ms) (first_past d (m ∷ ms)) blank) d) (shown (get_or (m ∷ ms) (first_past d (m ∷ ms)) blank) d) Nowhere
    go true t h u ih =
        let l = leb-true _ _ t in
        rw (past-suc d m ms l) (pick_false _ _ _ (holds_not m d (λ a b. omega arith)) ∙ ih)
    go false t true u ih = let g = leb-false _ _ t in rw (past-zero d m ms g, u) (pick_true _ _ _ refl ∙ sym (pick_true _ _ _ refl))
    go false t false u ih =
        let g = leb-false _ _ t in
        rw (past-zero d m ms g, u) (pick_false _ _ _ refl ∙ translate-below size (end m) ms p.2 d g ∙ sym (pick_false _ _ _ refl))

-- past the last record no mapping is shown
pub shown-end : (ms : List Mapping) (i : ℕ) (d : DeviceAddress) → length ms ≤ i → shown_by (get_or ms i blank) d ≡ Nowhere
unfolding shown_by
shown-end ms i d h = rw (get_or-eq_default ms blank {n = i} h) (pick_false _ _ _ (blank-holds d))

-- a look-up asks the mapping at the place
pub translate-placed : (size : ℕ) (ms : List Mapping) (d : DeviceAddress) → sound_table size ms ≡ true → translate ms d ≡ shown_by (get_or ms (first_past d ms) blank) d
unfolding sound_table
translate-placed size ms d e = translate-from size 0 ms d e

-- ---- overlap and insertion

overlaps-none : (size low : ℕ) (d : DeviceAddress) (n : ℕ) (ms : List Mapping) → sound_mappings_from size low ms ≡ true → d.0 + n ≤ low → overlaps d n ms ≡ false
unfolding overlaps any_of ◌or◌ touches
overlaps-none size low d n [] e h = refl
overlaps-none size low d n (m ∷ ms) e h =
    let p = sound_split size low m ms e in
    let l = p.0 in
    rw (is_false (ltb d.0 (end m) and ltb m.device.0 (d.0 + n)) (λ t. let f = ltb-true m.device.0 (d.0 + n) (and_true _ _ t).1 in omega arith))
    (overlaps-none size (end m) d n ms p.2 (omega arith))

or_second : (s t : Bool) → s ≡ false → (s or t) ≡ t
unfolding ◌or◌
or_second s t h = rw h

or_none_lem : (s : Bool) → (s or false) ≡ s
unfolding ◌or◌
or_none_lem true = refl
or_none_lem false = refl

and_none : (s : Bool) → (s and false) ≡ false
unfolding ◌and◌
and_none true = refl
and_none false = refl

or_implied : (s t : Bool) → (s ≡ true → t ≡ true) → (t or false) ≡ (s or t)
unfolding ◌or◌
or_implied true t h = rw (h refl)
or_implied false true h = refl
or_implied false false h = refl

ltb-suc : (a b : ℕ) → ltb (suc a) (suc b) ≡ ltb a b
ltb-suc a b = same_test _ _ (λ e. lt-ltb a b (omega (arith, ltb-true))) (λ e. lt-ltb (suc a) (suc b) (omega (arith, ltb-true)))

overlaps-from : (size low : ℕ) (d : DeviceAddress) (n : ℕ) (ms : List Mapping) → sound_mappings_from size low ms ≡ true
    → overlaps d n ms ≡ (ltb (first_past d ms) (length ms) and ltb (get_or ms (first_past d ms) blank).device.0 (d.0 + n))
unfolding overlaps any_of touches
overlaps-from size low d n [] e = unfold first_past ◌and◌ in refl
overlaps-from size low d n (m ∷ ms) e = go (leb (end m) d.0) refl (overlaps-from size (end m) d n ms (sound_split size low m ms e).2)
  where
    p : (low ≤ m.device.0) × (sound_mapping size m ≡ true) × (sound_mappings_from size (end m) ms ≡ true)
    p = sound_split size low m ms e

    here : d.0 < end m → (s : Bool) → ltb m.device.0 (d.0 + n) ≡ s → ((ltb d.0 (end m) and s) or overlaps d n ms) ≡ (ltb 0 (suc (length ms)) and s)
    here g true t = unfold ◌and◌ ◌or◌ in rw (lt-ltb _ _ g, lt-ltb 0 (suc (length ms)) (omega arith))
    here g false t =
        let f = ltb-false m.device.0 (d.0 + n) t in
        unfold ◌and◌ ◌or◌ in rw (lt-ltb _ _ g, lt-ltb 0 (suc (length ms)) (omega arith)) (overlaps-none size (end m) d n ms p.2 (omega arith))

    go : (s : Bool) → leb (end m) d.0 ≡ s → overlaps d n ms ≡ (ltb (first_past d ms) (length ms) and ltb (get_or ms (first_past d ms) blank).device.0 (d.0 + n))
        → ((ltb d.0 (end m) and ltb m.device.0 (d.0 + n)) or overlaps d n ms) ≡ (ltb (first_past d (m ∷ ms)) (suc (length ms)) and ltb (get_or (m ∷ ms) (first_past d (m ∷ ms)) blank).device.0 (d.0 + n))
    go true t ih =
        let l = leb-true _ _ t in
        rw (past-suc d m ms l, ltb-suc (first_past d ms) (length ms)) (or_second _ _ (and_false _ _ (le-ltb _ _ l)) ∙ ih)
    go false t ih = let g = leb-false _ _ t in rw (past-zero d m ms g) (here g _ refl)

-- only the mapping at the place can share an address with a range from there on
pub overlaps-placed : (size : ℕ) (d : DeviceAddress) (n : ℕ) (ms : List Mapping) → sound_table size ms ≡ true
    → overlaps d n ms ≡ (ltb (first_past d ms) (length ms) and ltb (get_or ms (first_past d ms) blank).device.0 (d.0 + n))
unfolding sound_table
overlaps-placed size d n ms e = overlaps-from size 0 d n ms e

-- and a mapping that shares none goes to the place of its first
pub insert-placed : (m : Mapping) (ms : List Mapping) → 0 < m.size → overlaps m.device m.size ms ≡ false → insert m ms ≡ inserted_at (first_past m.device ms) m ms
unfolding insert inserted_at
insert-placed m [] h o = unfold first_past in refl
insert-placed m (x ∷ xs) h o =
    let free = overlaps_split m.device m.size x xs o in
    go (leb (end x) m.device.0) refl free.0 (insert-placed m xs h free.1)
  where
    go : (s : Bool) → leb (end x) m.device.0 ≡ s → touches m.device m.size x ≡ false → insert m xs ≡ take (first_past m.device xs) xs ++ m ∷ drop (first_past m.device xs) xs
        → pick (ltb m.device.0 x.device.0) (m ∷ x ∷ xs) (x ∷ insert m xs) ≡ take (first_past m.device (x ∷ xs)) (x ∷ xs) ++ m ∷ drop (first_past m.device (x ∷ xs)) (x ∷ xs)
    go true t free ih =
        let l = leb-true _ _ t in
        rw (past-suc m.device x xs l) (pick_false _ _ _ (le-ltb m.device.0 x.device.0 (omega arith)) ∙ ap (λ (r : List Mapping). x ∷ r) ih)
    go false t free ih =
        let g = leb-false _ _ t in
        let b = apart-facts m.device m.size x free g in
        rw (past-zero m.device x xs g) (pick_true _ _ _ (lt-ltb m.device.0 x.device.0 (omega arith)))

-- ---- removal

-- a mapping that begins at an address or behind it does not stick out there, nor does what stands past the end
sticks_none : (m : Mapping) (d : DeviceAddress) → d.0 ≤ m.device.0 → sticks_out m d ≡ false
unfolding sticks_out
sticks_none m d h = and_false _ _ (le-ltb _ _ h)

pub sticks_blank : (d : DeviceAddress) → sticks_out blank d ≡ false
unfolding sticks_out
sticks_blank d = is_false _ (λ u. true≢false (sym (and_true _ _ u).1 ∙ blank-holds d))

-- nor one that ends there or before
sticks_passed : (m : Mapping) (d : DeviceAddress) → end m ≤ d.0 → sticks_out m d ≡ false
unfolding sticks_out
sticks_passed m d h = is_false _ (λ u. let f = holds-facts m d (and_true _ _ u).1 in omega (arith, f.1))

sticks_behind : (size low : ℕ) (ms : List Mapping) (d : DeviceAddress) (i : ℕ) → sound_mappings_from size low ms ≡ true → d.0 ≤ low → sticks_out (get_or ms i blank) d ≡ false
sticks_behind size low ms d i e h = go (ltb i (length ms)) refl
  where
    go : (s : Bool) → ltb i (length ms) ≡ s → sticks_out (get_or ms i blank) d ≡ false
    go true t = sticks_none (get_or ms i blank) d (omega (arith, begins-from size low ms i e (ltb-true _ _ t)))
    go false t = rw (get_or-eq_default ms blank {n = i} (ltb-false _ _ t)) (sticks_blank d)

-- it does where it begins before an address and ends past it
sticks_is : (m : Mapping) (d : DeviceAddress) → d.0 < end m → sticks_out m d ≡ ltb m.device.0 d.0
unfolding sticks_out holds
sticks_is m d h = same_test _ _ (λ e. (and_true _ _ e).0) (λ e. and_made _ _ e (and_made _ _ (le-leb m.device.0 d.0 (omega (arith, ltb-true m.device.0 d.0 e))) (lt-ltb _ _ h)))

-- one that ends past an address and does not stick out there begins there or behind
begins-behind : (m : Mapping) (d : DeviceAddress) → d.0 < end m → sticks_out m d ≡ false → d.0 ≤ m.device.0
begins-behind m d h e = ltb-false m.device.0 d.0 (sym (sticks_is m d h) ∙ e)

-- whether a range cuts one mapping
unfoldable cuts_one : DeviceAddress → ℕ → Mapping → Bool
cuts_one d n m = touches d n m and not (inside d n m)

cut_at_start : (a b c e : Bool) → a ≡ true → b ≡ true → e ≡ true → ((a and b) and not (c and e)) ≡ not c
unfolding ◌and◌
cut_at_start a b true e p q r = rw (p, q, r)
cut_at_start a b false e p q r = rw (p, q)

pub not-leb : (a b : ℕ) → not (leb a b) ≡ ltb b a
not-leb a b = go (leb a b) refl
  where
    go : (s : Bool) → leb a b ≡ s → not s ≡ ltb b a
    go true e = sym (le-ltb b a (leb-true a b e))
    go false e = sym (lt-ltb b a (leb-false a b e))

module _ (d : DeviceAddress) (n : ℕ) (m : Mapping) where
  module _ (past : end m ≤ d.0) where
    cuts-passed : cuts_one d n m ≡ false
    unfolding cuts_one touches
    cuts-passed = and_false _ _ (and_false _ _ (le-ltb _ _ past))

  -- a mapping that ends in the range is cut where it sticks out at its start
  module _ (reach : d.0 < end m) (ends : end m ≤ d.0 + n) (some : 0 < m.size) where
    cuts_ending : cuts_one d n m ≡ sticks_out m d
    unfolding cuts_one touches inside
    cuts_ending = cut_at_start _ _ _ _ (lt-ltb _ _ reach) (lt-ltb m.device.0 (d.0 + n) (omega arith)) (le-leb _ _ ends) ∙ not-leb d.0 m.device.0 ∙ sym (sticks_is m d reach)

  -- one that ends past it is cut where it sticks out at the range's end
  module _ (past : d.0 + n < end m) where
    inside_out : inside d n m ≡ false
    unfolding inside
    inside_out = is_false _ (λ e. let f = leb-true (end m) (d.0 + n) (and_true _ _ e).1 in omega arith)

    cuts_out : cuts_one d n m ≡ sticks_out m (device_offset d n)
    unfolding cuts_one touches
    cuts_out = rw inside_out (go (ltb m.device.0 (d.0 + n)) ∙ sym (sticks_is m (device_offset d n) past))
      where
        go : (s : Bool) → ((ltb d.0 (end m) and s) and not false) ≡ s
        go true = unfold ◌and◌ in rw (lt-ltb d.0 (end m) (omega arith))
        go false = unfold ◌and◌ in rw (lt-ltb d.0 (end m) (omega arith))

-- a range that ends where mappings begin, or before, cuts none of them
cuts-none : (size low : ℕ) (d : DeviceAddress) (n : ℕ) (ms : List Mapping) → sound_mappings_from size low ms ≡ true → d.0 + n ≤ low → any_of (cuts_one d n) ms ≡ false
unfolding any_of ◌or◌
cuts-none size low d n [] e h = refl
cuts-none size low d n (m ∷ ms) e h =
    let p = sound_split size low m ms e in
    let f = mapping-facts size m p.1 in
    let l = p.0 in
    let s = f.filled in
    rw (cuts_out d n m (omega arith), sticks_none m (device_offset d n) (omega arith)) (cuts-none size (end m) d n ms p.2 (omega arith))

-- a range cuts a mapping where the one at the place of its first address sticks out there, or the one at the place of its end does
cuts-from : (size low : ℕ) (d : DeviceAddress) (n : ℕ) (ms : List Mapping) → sound_mappings_from size low ms ≡ true
    → any_of (cuts_one d n) ms ≡ (sticks_out (get_or ms (first_past d ms) blank) d or sticks_out (get_or ms (first_past (device_offset d n) ms) blank) (device_offset d n))
unfolding any_of
cuts-from size low d n [] e =
    unfold ◌or◌ in rw (sticks_behind size d.0 [] d (first_past d []) (unfold sound_mappings_from in refl) (omega arith), sticks_behind size (d.0 + n) [] (device_offset d n) (first_past (device_offset d n) []) (unfold sound_mappings_from in refl) (omega arith))
cuts-from size low d n (m ∷ ms) e =
    let p = sound_split size low m ms e in
    go (leb (end m) d.0) refl (leb (end m) (d.0 + n)) refl (mapping-facts size m p.1).filled p.2 (cuts-from size (end m) d n ms p.2)
  where
    go : (s : Bool) → leb (end m) d.0 ≡ s → (t : Bool) → leb (end m) (d.0 + n) ≡ t → 0 < m.size → sound_mappings_from size (end m) ms ≡ true
        → any_of (cuts_one d n) ms ≡ (sticks_out (get_or ms (first_past d ms) blank) d or sticks_out (get_or ms (first_past (device_offset d n) ms) blank) (device_offset d n))
        → (cuts_one d n m or any_of (cuts_one d n) ms) ≡ (sticks_out (get_or (m ∷ ms) (first_past d (m ∷ ms)) blank) d or sticks_out (get_or (m ∷ ms) (first_past (device_offset d n) (m ∷ ms)) blank) (device_offset d n))
    go true u t v some rest ih =
        let l = leb-true (end m) d.0 u in
        rw (past-suc d m ms l, past-suc (device_offset d n) m ms (omega arith)) (or_second _ _ (cuts-passed d n m l) ∙ ih)
    go false u true v some rest ih =
        let g = leb-false (end m) d.0 u in
        let l = leb-true (end m) (d.0 + n) v in
        rw (past-zero d m ms g, past-suc (device_offset d n) m ms l, cuts_ending d n m g l some) (ap (λ (r : Bool). sticks_out m d or r) (ih ∙ or_second _ _ (sticks_behind size (end m) ms d (first_past d ms) rest (omega arith))))
    go false u false v some rest ih =
        let g = leb-false (end m) d.0 u in
        let o = leb-false (end m) (d.0 + n) v in
        rw (past-zero d m ms g, past-zero (device_offset d n) m ms o, cuts_out d n m o, cuts-none size (end m) d n ms rest (omega arith), sticks_is m d g, sticks_is m (device_offset d n) o)
        (or_implied _ _ (λ t. lt-ltb m.device.0 (d.0 + n) (omega (arith, ltb-true m.device.0 d.0 t))))

pub cuts-placed : (size : ℕ) (d : DeviceAddress) (n : ℕ) (ms : List Mapping) → sound_table size ms ≡ true
    → cuts d n ms ≡ (sticks_out (get_or ms (first_past d ms) blank) d or sticks_out (get_or ms (first_past (device_offset d n) ms) blank) (device_offset d n))
unfolding sound_table cuts cuts_one
cuts-placed size d n ms e = cuts-from size 0 d n ms e

-- ---- what an unmap removes, by either rule

-- a mapping that begins before an address and holds it stands at the place
blocked-none : (size low : ℕ) (d : DeviceAddress) (ms : List Mapping) → sound_mappings_from size low ms ≡ true → d.0 ≤ low → any_of (λ m. sticks_out m d) ms ≡ false
unfolding any_of ◌or◌
blocked-none size low d [] e h = refl
blocked-none size low d (m ∷ ms) e h =
    let p = sound_split size low m ms e in
    let l = p.0 in
    rw (sticks_none m d (omega arith)) (blocked-none size (end m) d ms p.2 (omega arith))

blocked-from : (size low : ℕ) (d : DeviceAddress) (ms : List Mapping) → sound_mappings_from size low ms ≡ true → any_of (λ m. sticks_out m d) ms ≡ sticks_out (get_or ms (first_past d ms) blank) d
unfolding any_of
blocked-from size low d [] e = sym (sticks_blank d)
blocked-from size low d (m ∷ ms) e =
    let p = sound_split size low m ms e in
    go (leb (end m) d.0) refl p.2 (blocked-from size (end m) d ms p.2)
  where
    go : (s : Bool) → leb (end m) d.0 ≡ s → sound_mappings_from size (end m) ms ≡ true → any_of (λ m. sticks_out m d) ms ≡ sticks_out (get_or ms (first_past d ms) blank) d
        → (sticks_out m d or any_of (λ m. sticks_out m d) ms) ≡ sticks_out (get_or (m ∷ ms) (first_past d (m ∷ ms)) blank) d
    go true t rest ih =
        let l = leb-true _ _ t in
        rw (past-suc d m ms l) (or_second _ _ (sticks_passed m d l) ∙ ih)
    go false t rest ih =
        let g = leb-false _ _ t in
        rw (past-zero d m ms g, blocked-none size (end m) d ms rest (omega arith)) (or_none_lem _)

pub blocked-placed : (size : ℕ) (d : DeviceAddress) (ms : List Mapping) → sound_table size ms ≡ true → blocked d ms ≡ sticks_out (get_or ms (first_past d ms) blank) d
unfolding sound_table blocked
blocked-placed size d ms e = blocked-from size 0 d ms e

-- What the rules have in common, by where a mapping lies: none before the range goes, and all that lie inside it do. They differ in those
-- that end past it, of which under `astride` those go that begin in it, and else none.
pub record Rule (d : DeviceAddress) (n : ℕ) (astride : Bool) (test : Mapping → Bool) : Type 0 where
  pub before : (m : Mapping) → 0 < m.size → end m ≤ d.0 → test m ≡ false
  pub within : (m : Mapping) → 0 < m.size → d.0 ≤ m.device.0 → end m ≤ d.0 + n → test m ≡ true
  pub past : (m : Mapping) → d.0 ≤ m.device.0 → d.0 + n < end m → test m ≡ (astride and ltb m.device.0 (d.0 + n))

module _ (d : DeviceAddress) (n : ℕ) where
  pub inside-rule : Rule d n false (inside d n)
  unfolding inside ◌and◌
  inside-rule =
      record {
        before = λ m some h. and_false _ _ (lt-leb d.0 m.device.0 (omega arith));
        within = λ m some h l. and_made _ _ (le-leb _ _ h) (le-leb _ _ l);
        past = λ m h o. inside_out d n m o;
      }

  pub begins-rule : Rule d n true (begins_in d n)
  unfolding begins_in ◌and◌
  begins-rule =
      record {
        before = λ m some h. and_false _ _ (lt-leb d.0 m.device.0 (omega arith));
        within = λ m some h l. and_made _ _ (le-leb _ _ h) (lt-ltb m.device.0 (d.0 + n) (omega arith));
        past = λ m h o. rw (le-leb _ _ h);
      }

-- a mapping in front of those that go, and the first of them
module _ (test : Mapping → Bool) (m : Mapping) (ms : List Mapping) where
  removes-behind : (from to : ℕ) → test m ≡ false → Removes test ms from to → Removes test (m ∷ ms) (suc from) (suc to)
  unfolding without total_size without_run sizes_between
  removes-behind from to out r =
      let o = r.order in
      let b = r.end in
      let z : suc to - suc from ≡ to - from = omega arith in
      record {
        order = omega arith;
        end = omega arith;
        rest = pick_false _ _ _ out ∙ ap (λ (xs : List Mapping). m ∷ xs) r.rest;
        size = rw (pick_false (test m) m.size 0 out, z) (let q = r.size in omega arith);
      }

  removes-one : (to : ℕ) → test m ≡ true → Removes test ms 0 to → Removes test (m ∷ ms) 0 (suc to)
  unfolding without total_size without_run sizes_between pick
  removes-one to goes r =
      let b = r.end in
      let y : suc to - 0 ≡ suc to = omega arith in
      let z : to - 0 ≡ to = omega arith in
      record {
        order = omega arith;
        end = omega arith;
        rest = pick_true _ _ _ goes ∙ r.rest;
        size = rw (goes, y) (ap (λ (k : ℕ). m.size + k) (rw z at r.size));
      }

  removes_nothing : test m ≡ false → Removes test ms 0 0 → Removes test (m ∷ ms) 0 0
  unfolding without total_size without_run sizes_between pick
  removes_nothing out r = record { order = omega arith; end = omega arith; rest = pick_false _ _ _ out ∙ ap (λ (xs : List Mapping). m ∷ xs) r.rest; size = rw out (let q = r.size in omega arith) }

-- where the test holds of none, any place does
pub removes-any : (test : Mapping → Bool) (ms : List Mapping) (at i : ℕ) → i ≤ length ms → Removes test ms at at → Removes test ms i i
unfolding without_run sizes_between total_size
removes-any test ms at i h r =
    let z : at - at ≡ 0 = omega arith in
    let y : i - i ≡ 0 = omega arith in
    record { order = omega arith; end = h; rest = r.rest ∙ take-append-drop at ms ∙ sym (take-append-drop i ms); size = r.size ∙ rw (z, y) }

removes-empty : (test : Mapping → Bool) → Removes test [] 0 0
unfolding without total_size without_run sizes_between
removes-empty test = record { order = omega arith; end = omega arith; rest = refl; size = refl }

pub removes-none : (ms : List Mapping) → Removes (λ m. false) ms 0 0
removes-none [] = removes-empty _
removes-none (m ∷ ms) = removes_nothing _ m ms refl (removes-none ms)

-- one past the last that goes, where no mapping blocks: the place of the range's end, or behind the mapping there where it goes too
unfoldable pub past_run : Bool → DeviceAddress → List Mapping → ℕ
past_run astride e ms = first_past e ms + pick (astride and sticks_out (get_or ms (first_past e ms) blank) e) 1 0

module _ (astride : Bool) (e : DeviceAddress) (m : Mapping) (ms : List Mapping) where
  run-suc : end m ≤ e.0 → past_run astride e (m ∷ ms) ≡ suc (past_run astride e ms)
  unfolding past_run
  run-suc h = rw (past-suc e m ms h) (omega arith)

  run-here : e.0 < end m → past_run astride e (m ∷ ms) ≡ pick (astride and ltb m.device.0 e.0) 1 0
  unfolding past_run
  run-here h = rw (past-zero e m ms h, sticks_is m e h) (omega arith)

module _ (d : DeviceAddress) (n : ℕ) (astride : Bool) (test : Mapping → Bool) (rule : Rule d n astride test) where
  removes-rest : (size low : ℕ) (ms : List Mapping) → sound_mappings_from size low ms ≡ true → d.0 + n ≤ low → Removes test ms 0 0
  removes-rest size low [] e h = removes-empty test
  removes-rest size low (m ∷ ms) e h =
      let p = sound_split size low m ms e in
      let f = mapping-facts size m p.1 in
      let l = p.0 in
      let s = f.filled in
      removes_nothing test m ms (rule.past m (omega arith) (omega arith) ∙ rw (le-ltb m.device.0 (d.0 + n) (omega arith)) (and_none astride)) (removes-rest size (end m) ms p.2 (omega arith))

  -- where none blocks, the mappings that go stand side by side
  removes-from : (size low : ℕ) (ms : List Mapping) → sound_mappings_from size low ms ≡ true → any_of (λ m. sticks_out m d) ms ≡ false → Removes test ms (first_past d ms) (past_run astride (device_offset d n) ms)
  unfolding any_of
  removes-from size low [] e c = unfold past_run first_past in rw (sticks_blank (device_offset d n), and_none astride) (unfold pick in removes-empty test)
  removes-from size low (m ∷ ms) e c =
      let p = sound_split size low m ms e in
      let o = or_false _ _ c in
      go (leb (end m) d.0) refl (leb (end m) (d.0 + n)) refl (mapping-facts size m p.1).filled p.2 o.0 (removes-from size (end m) ms p.2 o.1)
    where
      last : (s : Bool) → test m ≡ s → Removes test ms 0 0 → Removes test (m ∷ ms) 0 (pick s 1 0)
      last true t r = unfold pick in removes-one test m ms 0 t r
      last false t r = unfold pick in removes_nothing test m ms t r

      go : (s : Bool) → leb (end m) d.0 ≡ s → (t : Bool) → leb (end m) (d.0 + n) ≡ t → 0 < m.size → sound_mappings_from size (end m) ms ≡ true → sticks_out m d ≡ false
          → Removes test ms (first_past d ms) (past_run astride (device_offset d n) ms) → Removes test (m ∷ ms) (first_past d (m ∷ ms)) (past_run astride (device_offset d n) (m ∷ ms))
      go true u t v some rest c ih =
          let l = leb-true (end m) d.0 u in
          rw (past-suc d m ms l, run-suc astride (device_offset d n) m ms (omega arith)) (removes-behind test m ms _ _ (rule.before m some l) ih)
      go false u true v some rest c ih =
          let g = leb-false (end m) d.0 u in
          let l = leb-true (end m) (d.0 + n) v in
          rw (past-zero d m ms g, run-suc astride (device_offset d n) m ms l) (removes-one test m ms _ (rule.within m some (begins-behind m d g c) l) (rw (past-none d size (end m) ms rest g) at ih))
      go false u false v some rest c ih =
          let g = leb-false (end m) d.0 u in
          let o = leb-false (end m) (d.0 + n) v in
          rw (past-zero d m ms g, run-here astride (device_offset d n) m ms o) (last _ (rule.past m (begins-behind m d g c) o) (removes-rest size (end m) ms rest (omega arith)))

  pub removes-placed : (size : ℕ) (ms : List Mapping) → sound_table size ms ≡ true → blocked d ms ≡ false → Removes test ms (first_past d ms) (past_run astride (device_offset d n) ms)
  unfolding sound_table blocked
  removes-placed size ms e c = removes-from size 0 ms e c
