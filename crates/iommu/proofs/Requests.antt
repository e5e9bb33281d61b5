-- Look-up, map and unmap by what was found: the places of addresses, and the records there.
use Prim.Native.Nat.{ℕ, ◌+◌, ◌≤◌, ◌<◌}
use native.Mathlib.Omega.{arith}
use mathlib.Core.Path.{◌≡◌, refl, sym, ◌∙◌}
use mathlib.Core.Bool.{Bool, true, false, not, true≢false}
use mathlib.Core.List.{List}
use lib.Dec.{ltb, eqb}
use lib.ListN.{length, get_or, get_or-eq_default}
use borrow.Author.Tests.{ltb-true, ltb-false, le-leb, lt-ltb, le-ltb}
use Rattle.std.specs.Prelude.{Ok, Option, None, Some, MatchOption, unwrap_or, option_map}
use Rattle.std.specs.Slice.{IsItemAt}
use Rattle.std.proofs.Common.{Bor}
use Rattle.answer.specs.Tests.{◌and◌, ◌or◌, pick}
use Rattle.answer.specs.Codes.{Cuts}
use Rattle.answer.specs.Checks.{Pass, ◌when◌}
use Rattle.answer.proofs.Tests.{and_made, and_first, and_second, and_false, or_false, pick_true, pick_false}
use Rattle.address.specs.Address.{memory_limit, device_offset, in_device_range, in_memory_range}
use Rattle.address.specs.declared.DeviceAddress.{DeviceAddress}
use Rattle.iommu.specs.declared.Mapping.{Mapping}
use Rattle.iommu.specs.Table.{type1, Nowhere, blank, holds, shown, shown_by, translate, mapped, in_range, sound_table, begins_in, sticks_out, overlaps, cuts, blocked, removed, Placed}
use Rattle.iommu.specs.Halving.{halved, HalvingFinds}
use Rattle.iommu.specs.Requests.{end_of, map_checks, Maps, Removes, Remains}
use Rattle.iommu.proofs.Soundness.{Facts, mapping-facts, sound-at}
use Rattle.iommu.proofs.Changes.{without_total, without-sound, map-passed}
use Rattle.iommu.proofs.Halving.{searched-placed}
use Rattle.iommu.proofs.Order.{past_bound, blank-holds, sticks_blank, translate-placed, insert-placed, overlaps-placed, cuts-placed, blocked-placed, Rule, past_run, removes-placed, begins-rule, inside-rule, removes-none, removes-any}

-- ---- look-up

module _ (ms : List Mapping) (d : DeviceAddress) (at : ℕ) (held : Bool) (p : Placed ms d at held) where
  pub placed-bound : at ≤ length ms
  placed-bound = rw p.place (past_bound d ms)

  pub translate-at : (size : ℕ) → sound_table size ms ≡ true → (m : Mapping) → m ≡ get_or ms at blank → translate ms d ≡ shown_by m d
  translate-at size sound m e = translate-placed size ms d sound ∙ rw (e, p.place)

  pub mapped_at : (size : ℕ) → sound_table size ms ≡ true → mapped (translate ms d) ≡ held
  unfolding shown_by
  mapped_at size sound = rw (translate-at size sound (get_or ms at blank) refl, p.holder) (go (holds (get_or ms at blank) d))
    where
      go : (s : Bool) → mapped (pick s (shown (get_or ms at blank) d) Nowhere) ≡ s
      go true = unfold pick mapped in refl
      go false = unfold pick mapped in refl

-- halving finds what look-up tells of
pub halving_finds : HalvingFinds
unfolding halved
halving_finds size ms d sound =
    let p = searched-placed size ms d sound in
    record { mapping = sym (translate-at ms d _ _ p size sound _ refl); held = sym (mapped_at ms d _ _ p size sound) }

-- what `shown_by` asks of a record in use, and of the blank one
facts-range : {size : ℕ} {m : Mapping} → Facts size m → in_range size m ≡ true
unfolding in_range in_device_range in_memory_range
facts-range f = and_made _ _ (le-leb _ _ f.below) (le-leb _ _ f.within)

pub record_range : (size : ℕ) (ms : List Mapping) (i : ℕ) → sound_table size ms ≡ true → i < length ms → in_range size (get_or ms i blank) ≡ true
unfolding sound_table
record_range size ms i sound h = facts-range (sound-at size 0 ms i blank sound h)

-- a record that holds an address is in use
module _ (size : ℕ) (ms : List Mapping) (d : DeviceAddress) (i : ℕ) (sound : sound_table size ms ≡ true) (m : Mapping) (e : m ≡ get_or ms i blank) (h : holds m d ≡ true) where
  pub shown-facts : Facts size m
  unfolding sound_table
  shown-facts = go (ltb i (length ms)) refl
    where
      go : (s : Bool) → ltb i (length ms) ≡ s → Facts size m
      go true t = rw e (sound-at size 0 ms i blank sound (ltb-true _ _ t))
      go false t = absurd (true≢false (sym h ∙ rw (e, get_or-eq_default ms blank {n = i} (ltb-false _ _ t)) (blank-holds d)))

  pub shown-asks : in_range size m ≡ true
  shown-asks = facts-range shown-facts

-- ---- map and unmap, by the places that were found

-- what a look at a place tells: past the last mapping stands a blank one
module _ (ms : List Mapping) (at : ℕ) (got : Option (Bor Mapping)) (item : IsItemAt ms at got) (r : Bool) where
  pub looked : (d : DeviceAddress) → MatchOption got (r ≡ false) (λ (m : Bor Mapping). r ≡ sticks_out m.now d) → r ≡ sticks_out (get_or ms at blank) d
  looked d e = go got (item.4 (omega arith) blank) e
    where
      go : (o : Option (Bor Mapping)) → unwrap_or (option_map (λ (m : Bor Mapping). m.now) o) blank ≡ get_or ms at blank → MatchOption o (r ≡ false) (λ (m : Bor Mapping). r ≡ sticks_out m.now d)
          → r ≡ sticks_out (get_or ms at blank) d
      go None is e = rw (← is) (e ∙ sym (sticks_blank d))
      go (Some m) is e = rw (← is) e

  pub looked_below : (end : ℕ) → MatchOption got (r ≡ false) (λ (m : Bor Mapping). r ≡ ltb m.now.device.0 end) → r ≡ (ltb at (length ms) and ltb (get_or ms at blank).device.0 end)
  looked_below end e = go got item e
    where
      go : (o : Option (Bor Mapping)) → IsItemAt ms at o → MatchOption o (r ≡ false) (λ (m : Bor Mapping). r ≡ ltb m.now.device.0 end) → r ≡ (ltb at (length ms) and ltb (get_or ms at blank).device.0 end)
      go None i e = let l = le-ltb at (length ms) i.3 in and_first _ l (e ∙ sym l)
      go (Some m) i e = let is : m.now ≡ get_or ms at blank = i.4 (omega arith) blank in and_second (lt-ltb _ _ i.3.0) (rw is at e)

pub overlaps-found : (size : ℕ) (ms : List Mapping) (m : Mapping) (at : ℕ) (held : Bool) → sound_table size ms ≡ true → Placed ms m.device at held
    → overlaps m.device m.size ms ≡ (ltb at (length ms) and ltb (get_or ms at blank).device.0 (m.device.0 + m.size))
overlaps-found size ms m at held sound p = rw p.place (overlaps-placed size m.device m.size ms sound)

-- the end of a range that is not refused
pub end_is : (d : DeviceAddress) (n : ℕ) → in_device_range d n ≡ true → end_of d n ≡ device_offset d n
unfolding end_of
end_is d n h = pick_true _ _ _ h

-- where the checks pass, the mapping goes to the place of its start
pub maps-at : (size room : ℕ) (ms : List Mapping) (m : Mapping) (at : ℕ) (held : Bool) → Placed ms m.device at held → Pass ≡ map_checks size room ms m → Maps size room ms m (Ok at)
maps-at size room ms m at held p e =
    let f = map-passed size room ms m (sym e) in
    record {
      checks = e;
      place = (rw p.place (past_bound m.device ms), rw p.place (insert-placed m ms (mapping-facts size m f.sound).filled f.free));
    }

module _ {ms : List Mapping} {d : DeviceAddress} (n : ℕ) {from to : ℕ} {held held' : Bool}
    (sound : sound_table memory_limit ms ≡ true) (first : Placed ms d from held) (last : Placed ms (device_offset d n) to held') where
  pub cuts-found : cuts d n ms ≡ (sticks_out (get_or ms from blank) d or sticks_out (get_or ms to blank) (device_offset d n))
  cuts-found = rw (first.place, last.place) (cuts-placed memory_limit d n ms sound)

  pub blocked-found : blocked d ms ≡ sticks_out (get_or ms from blank) d
  blocked-found = rw first.place (blocked-placed memory_limit d ms sound)

  -- by either rule, where no mapping blocks: up to the range's end, and one more where that goes too
  module _ {astride : Bool} {test : Mapping → Bool} (rule : Rule d n astride test) (free : sticks_out (get_or ms from blank) d ≡ false) where
    run-found : Removes test ms from (to + pick (astride and sticks_out (get_or ms to blank) (device_offset d n)) 1 0)
    unfolding past_run
    run-found = rw (last.place, first.place) (removes-placed d n astride test rule memory_limit ms sound (blocked-found ∙ free))

    pub removes-found : (astride and sticks_out (get_or ms to blank) (device_offset d n)) ≡ false → Removes test ms from to
    removes-found e =
        let r : Removes test ms from (to + 0) = rw (pick_false {A = ℕ} _ 1 0 e) at run-found in
        let z : to + 0 ≡ to = omega arith in
        rw z at r

    pub removes-one_more : (astride and sticks_out (get_or ms to blank) (device_offset d n)) ≡ true → Removes test ms from (to + 1)
    removes-one_more e = rw (pick_true {A = ℕ} _ 1 0 e) at run-found

  -- what goes by the IOMMU type, where the mappings at both ends stick out or not
  module _ (kind : ℕ) where
    module _ (one : eqb kind type1 ≡ true) where
      pub uncut : Pass ≡ (Cuts when not (eqb kind type1) and cuts d n ms)
      unfolding ◌when◌ ◌and◌
      uncut = rw one

      pub blocked-run : sticks_out (get_or ms from blank) d ≡ true → Removes (removed kind ms d n) ms from from
      unfolding removed pick
      blocked-run e =
          let b : blocked d ms ≡ true = blocked-found ∙ e in
          rw (one, b) (removes-any _ ms 0 from (rw first.place (past_bound d ms)) (removes-none ms))

      module _ (free : sticks_out (get_or ms from blank) d ≡ false) where
        begins : removed kind ms d n ≡ begins_in d n
        unfolding removed pick
        begins = let b : blocked d ms ≡ false = blocked-found ∙ free in rw (one, b)

        pub reaching-run : sticks_out (get_or ms to blank) (device_offset d n) ≡ true → Removes (removed kind ms d n) ms from (to + 1)
        reaching-run e = rw begins (removes-one_more (begins-rule d n) free (and_made _ _ refl e))

        pub begins-run : sticks_out (get_or ms to blank) (device_offset d n) ≡ false → Removes (removed kind ms d n) ms from to
        begins-run e = rw begins (removes-found (begins-rule d n) free (sym (and_second refl (sym e))))

    module _ (other : eqb kind type1 ≡ false) where
      pub cut_is : (not (eqb kind type1) and cuts d n ms) ≡ (sticks_out (get_or ms from blank) d or sticks_out (get_or ms to blank) (device_offset d n))
      unfolding ◌and◌
      cut_is = rw other cuts-found

      pub inside-run : (sticks_out (get_or ms from blank) d or sticks_out (get_or ms to blank) (device_offset d n)) ≡ false → Removes (removed kind ms d n) ms from to
      unfolding removed pick
      inside-run e = rw other (removes-found (inside-rule d n) (or_false _ _ e).0 (and_false _ _ refl))

-- ---- both rules at once

pub remains : Remains
remains = record { sound = λ kind size ms d n. without-sound (removed kind ms d n) size ms; sizes = λ kind ms d n. without_total (removed kind ms d n) ms }
