-- A walk over the mappings in step with a transfer of n bytes from the device address d on: what holds at offset k and index i, what
-- the mapping there tells of the translation, and how the walk goes on. Judging, reading and writing are such walks.
use Prim.Native.Nat.{ℕ, ◌+◌, ◌-◌, ◌≤◌, ◌<◌}
use native.Mathlib.Nat.{add-zero}
use native.Mathlib.Omega.{arith}
use mathlib.Core.Path.{◌≡◌, refl, sym, ◌∙◌, ap}
use mathlib.Core.Bool.{true}
use mathlib.Core.List.{List}
use lib.ListN.{length, get_or}
use Rattle.answer.proofs.Tests.{pick_true}
use Rattle.address.specs.Address.{memory_offset, device_offset, device_limit, memory_limit}
use Rattle.address.specs.declared.DeviceAddress.{DeviceAddress}
use Rattle.address.specs.declared.MemoryAddress.{MemoryAddress}
use Rattle.iommu.specs.Table.{At, Nowhere, blank, end, holds, address_in, left_in, shown_by, translate, in_range, sound_table, Sound, first_past}
use Rattle.iommu.specs.declared.Mapping.{Mapping}
use Rattle.iommu.proofs.Soundness.{sound-wider}
use Rattle.iommu.proofs.Order.{past-holder, past_next, shown-end, translate-placed}
use Rattle.iommu.proofs.Requests.{record_range}
use Rattle.dma.specs.Transfers.{location}
use Rattle.dma.specs.Walk.{Ready, Contiguous, RunBounds, run_length}
use Rattle.dma.proofs.Table.{holds-inside, range-facts, range-wider, Shown, shown_means, Length, run_length_lem}

-- the mapping at an index; a blank one past the last
abbrev pub entry : List Mapping → ℕ → Mapping
entry ms i = get_or ms i blank

-- what a transfer asks of the mappings is what look-up asks
pub ready-sound : {ms : List Mapping} {size : ℕ} → Ready ms size → Sound ms
unfolding sound_table
ready-sound {ms} {size} r = record { few = r.few; table = sound-wider size memory_limit 0 0 ms r.limit (omega arith) r.sound }

-- Rule 4.11: the mapping looked at is the one that a look-up of the next address would find, so that a transfer looks, beside the places of
-- its one search, at mappings alone that it goes through, and where it is refused by 14 at the one that shows it.
pub record Come (ms : List Mapping) (size : ℕ) (d : DeviceAddress) (n k i : ℕ) : Type 0 where
  pub ready : Ready ms size
  pub within : k ≤ n
  pub place : k < n → i ≡ first_past (device_offset d k) ms

pub walk_start : {ms : List Mapping} {size : ℕ} (d : DeviceAddress) (n : ℕ) → Ready ms size → Come ms size d n 0 (first_past d ms)
walk_start {ms} d n ready = record { ready = ready; within = omega arith; place = λ _. rw (add-zero d.0) refl }

module _ {ms : List Mapping} {size : ℕ} {d : DeviceAddress} {n k i : ℕ} (w : Come ms size d n k i) where
  -- what it says of that address, look-up says
  pub next-shown : k < n → translate ms (device_offset d k) ≡ shown_by (entry ms i) (device_offset d k)
  next-shown b = translate-placed size ms (device_offset d k) w.ready.sound ∙ rw (w.place b) refl

  -- the table ends before offset k is met
  pub end-nowhere : length ms ≤ i → k < n → translate ms (device_offset d k) ≡ Nowhere
  end-nowhere h b = next-shown b ∙ shown-end ms i (device_offset d k) h

  module _ (more : i < length ms) where
    pub walk-range : in_range size (entry ms i) ≡ true
    walk-range = record_range size ms i w.ready.sound more

    -- what a look at it asks
    pub walk_bounds : k < n → d.0 + n ≤ device_limit → RunBounds (entry ms i) d n k
    walk_bounds h below = record { range = range-wider size memory_limit _ w.ready.limit walk-range; some = h; below = below }

    -- the run that it shows from offset k on
    module _ {a : MemoryAddress} {rights left : ℕ} (is : At a rights left ≡ shown_by (entry ms i) (device_offset d k)) (b : k < n) where
      abbrev len : ℕ
      len = run_length left (n - k)

      shown : Shown (entry ms i) (device_offset d k) a rights left
      shown = shown_means _ _ is

      long-run : Length left (n - k) len
      long-run = run_length_lem left (n - k)

      pub run_room : (a.0 + len ≤ size) × (k + len ≤ n) × (0 < len)
      run_room =
          let fits = range-facts size _ walk-range in
          let s = shown in
          let l = long-run in
          (omega (arith, fits.1, s.start, s.from, s.ends, l.room), omega (arith, l.most, w.within), l.some s.some (omega arith))

      -- each address of the run, as look-up shows it
      pub run-translate : (j : ℕ) → j < len → translate ms (device_offset (device_offset d k) j) ≡ At (memory_offset a j) rights (left - j)
      unfolding shown_by address_in left_in
      run-translate j h =
          let s = shown in
          let l = long-run in
          let e = device_offset (device_offset d k) j in
          let held : holds (entry ms i) e ≡ true = holds-inside _ _ (omega (arith, s.from)) (omega (arith, s.ends, l.room)) in
          let at : (entry ms i).memory.0 + (d.0 + k + j - (entry ms i).device.0) ≡ a.0 + j = omega (arith, s.start, s.from) in
          let rest : end (entry ms i) - (d.0 + k + j) ≡ left - j = omega (arith, s.ends) in
          translate-placed size ms e w.ready.sound
          ∙ ap (λ (p : ℕ). shown_by (entry ms p) e) (past-holder size e ms w.ready.sound i more held)
          ∙ pick_true _ _ _ held
          ∙ rw (at, rest, s.allowed) refl

      pub run-shown : Contiguous ms (device_offset d k) a.0 len
      unfolding location
      run-shown j h = ap location (run-translate j h)

      -- the next run begins where it ends
      pub walk-run : Come ms size d n (k + len) (i + 1)
      walk-run = record {
        ready = w.ready;
        within = run_room.1;
        place = λ more'.
            let s = shown in
            let l = long-run in
            let whole = l.rest (omega arith) in
            sym (past_next size (device_offset d (k + len)) ms w.ready.sound i more (omega (arith, s.ends, whole)));
      }
