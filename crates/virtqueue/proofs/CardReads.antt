-- A card read of a walk lies in one page, and so in one mapping: the mapping that holds its first byte tells all of it.
use Rattle.std.proofs.Common.{◌≡◌, ℕ, ◌+◌, ◌-◌, ◌%◌, ◌^◌, ◌<◌, ◌≤◌, Bool, true, false, ltb, min, Option, Some, None, IsSome, List, length, sym, refl, ap, ◌∙◌, add-zero, true≢false, arith, ltb-false, ltb-true, le-ltb, lt-ltb, eqb-true}
use lib.ListN.{get_or-eq_default}
use borrow.Author.Tests.{lt-leb}
use Rattle.answer.specs.Tests.{pick}
use Rattle.answer.specs.Codes.{Range, Unmapped}
use Rattle.answer.specs.Checks.{Verdict, Pass, Fail, first_fault}
use Rattle.answer.specs.Limits.{transfer_limit, length_check}
use Rattle.answer.specs.Answer.{Answer, done, refused, settle}
use Rattle.answer.proofs.Tests.{and_true, pick_true, pick_false}
use Rattle.answer.proofs.Checks.{then_next, then_fail, when_false, unless_false, first_fault-at, first_fault_cong, first_fault-fault}
use Rattle.wire.specs.Field.{slice}
use Rattle.address.specs.Address.{device_limit, memory_limit, memory_offset, device_address, device_offset, aligned, in_device_range}
use Rattle.address.specs.declared.DeviceAddress.{DeviceAddress}
use Rattle.address.specs.declared.MemoryAddress.{MemoryAddress}
use Rattle.iommu.specs.Table.{Translation, At, Nowhere, blank, translation_of, end, holds, address_in, left_in, in_range, shown_by, translate, aligned_mapping, first_past, Placed}
use Rattle.iommu.specs.declared.Mapping.{Mapping}
use Rattle.iommu.specs.declared.Target.{Target}
use Rattle.iommu.proofs.Soundness.{Facts}
use Rattle.iommu.proofs.Lookup.{holds-facts}
use Rattle.iommu.proofs.Order.{translate-placed, blank-holds}
use Rattle.iommu.proofs.Requests.{shown-facts, shown-asks}
use Rattle.memory.specs.Memory.{memory_of}
use Rattle.memory.specs.Shadow.{Shadow, packed}
use Rattle.dma.specs.Transfers.{transfer_checks, device_read_checks, location, gather}
use Rattle.dma.specs.Walk.{Ready, run_length, fault_of}
use Rattle.dma.proofs.Table.{range-facts, range-wider, shown_means, run_length_lem}
use Rattle.dma.proofs.Ahead.{entry, Come, walk_start, run-translate}
use Rattle.dma.proofs.Transfers.{fault-nowhere, checks-read, checks_offsets, gather-run}
use Rattle.virtqueue.specs.declared.View.{View}
use Rattle.virtqueue.specs.Ring.{capped, placed_from, card_read}
use Rattle.virtqueue.specs.Reads.{reads}

-- ---- starts

capped-below : (x : ℕ) → x < 2 ^ 64 → capped x ≡ x
unfolding capped
capped-below x h = pick_true _ _ _ (lt-ltb _ _ h)

-- a mapping ends where a page does
end-aligned : {size : ℕ} {m : Mapping} → Facts size m → end m % 4096 ≡ 0
unfolding aligned_mapping aligned
end-aligned {size} {m} f =
    let p = and_true _ _ f.aligned in
    let device = eqb-true (m.device.0 % 4096) 0 (and_true _ _ p.0).1 in
    let long = eqb-true (m.size % 4096) 0 p.1 in
    omega (arith, device, long)

-- and so holds what lies in the page of an address that it holds
page-within : (start n e : ℕ) → start % 4096 + n ≤ 4096 → e % 4096 ≡ 0 → start < e → start + n ≤ e
page-within start n e page p h = omega arith

shown-not : {a : MemoryAddress} {rights left : ℕ} → At a rights left ≡ Nowhere → ⊥
shown-not e = cc

-- where the mapping at the place of an address holds it, it shows it
shows : (m : Mapping) (d : DeviceAddress) (t : Option Target) → translation_of t ≡ shown_by m d → holds m d ≡ true → IsSome t
unfolding shown_by
shows m d None e h = absurd (shown-not (sym (e ∙ pick_true _ _ _ h)))
shows m d (Some t) e h = refl

-- ---- what a read gives where one mapping shows all of it

unfoldable pub read_shown : List ℕ → List ℕ → ℕ → ℕ → Translation → Answer (List ℕ)
read_shown bytes shadow d n Nowhere = refused Unmapped d
read_shown bytes shadow d n (At a rights left) =
    settle (placed_from d (first_fault (λ i. fault_of false (packed (length bytes) shadow) (At (memory_offset a i) rights (left - i))) n)) (slice bytes a.0 n)

-- by the mapping at the place of its first address
unfoldable pub read_by : List ℕ → List ℕ → Mapping → DeviceAddress → ℕ → Answer (List ℕ)
read_by bytes shadow m d n = pick (ltb (device_limit - n) d.0) (refused Range d.0) (read_shown bytes shadow d.0 n (shown_by m d))

-- what the verdict of the bytes that a target shows is
abbrev run_of : View → Target → ℕ → Verdict
run_of v t n = first_fault (λ i. fault_of false (packed (length v.bytes.now) v.shadow.now) (At (memory_offset t.address i) t.rights (t.left - i))) n

-- a read from the code's start `s` on of what the mapping at `lo` holds
pub record Held (v : View) (start n s lo : ℕ) : Type 0 where
  pub inside : lo < length v.mappings.now
  pub range : in_range memory_limit (entry v.mappings.now lo) ≡ true
  pub shown : (t : Option Target) → translation_of t ≡ shown_by (entry v.mappings.now lo) (device_address s) → IsSome t
  pub room : (t : Target) → At t.address t.rights t.left ≡ shown_by (entry v.mappings.now lo) (device_address s) → t.address.0 + n ≤ length v.bytes.now
  pub passes : (t : Target) → At t.address t.rights t.left ≡ shown_by (entry v.mappings.now lo) (device_address s) → Pass ≡ run_of v t n → reads v start n ≡ done (slice v.bytes.now t.address.0 n)
  pub faults : (t : Target) → At t.address t.rights t.left ≡ shown_by (entry v.mappings.now lo) (device_address s) → (code place : ℕ) → Fail code place ≡ run_of v t n
      → (place < n) × (s + place < 2 ^ 64) × (reads v start n ≡ refused code (s + place))

module _ (v : View) (start n : ℕ) (some : 0 < n) (page : start % 4096 + n ≤ 4096) where
  abbrev ms : List Mapping
  ms = v.mappings.now

  abbrev bytes : List ℕ
  bytes = v.bytes.now

  abbrev shadow : List ℕ
  shadow = v.shadow.now

  ready : Ready ms (length bytes)
  ready = v.walkable.ready

  abbrev read : Answer (List ℕ)
  read = reads v start n

  abbrev marks : Shadow
  marks = packed (length bytes) shadow

  -- `s` is the code's start, which does not wrap
  module _ (s : ℕ) (sum : s ≡ min start (2 ^ 64 - 1)) where
    far_checks : device_limit - n < start → device_read_checks ms marks (device_address start) n ≡ Fail Range 0
    unfolding device_read_checks transfer_checks length_check in_device_range
    far_checks h =
        then_next _ _ (when_false _ _ (le-ltb transfer_limit n (omega arith))) ∙ then_fail _ _ _ _ (unless_false _ _ (lt-leb (start + n) device_limit (omega arith)))

    capped_is : capped start ≡ s
    unfolding capped
    capped_is = go (ltb start (2 ^ 64)) refl
      where
        go : (t : Bool) → ltb start (2 ^ 64) ≡ t → capped start ≡ s
        go true e = let h = ltb-true _ _ e in pick_true _ _ _ e ∙ omega (arith, sum)
        go false e = let h = ltb-false _ _ e in pick_false _ _ _ e ∙ omega (arith, sum)

    pub far-read : device_limit - n < s → read ≡ refused Range s
    unfolding card_read placed_from settle
    far-read h = rw (far_checks (omega (arith, sum)), add-zero start, capped_is) refl

    module _ (below : s ≤ device_limit - n) where
      is-start : s ≡ start
      is-start = omega (arith, sum)

      abbrev d : DeviceAddress
      d = device_address start

      -- the faults of the bytes, one by one
      abbrev faults : ℕ → Verdict
      faults i = fault_of false marks (translate ms (device_offset d i))

      checks-are : device_read_checks ms marks d n ≡ first_fault faults n
      checks-are = sym (checks-read ms marks d n) ∙ checks_offsets (fault_of false marks) ms d n (omega arith) (omega (arith, sum))

      -- by the verdict on them
      by-verdict : (v : Verdict) → first_fault faults n ≡ v → read ≡ settle (placed_from start v) (gather ms (memory_of bytes shadow) d n)
      unfolding card_read
      by-verdict v e = rw (checks-are, e) refl

      fail_read : (code place : ℕ) → first_fault faults n ≡ Fail code place → read ≡ refused code (s + place)
      unfolding placed_from settle
      fail_read code place e =
          let inside = (first_fault-fault faults n code place e).below in
          by-verdict (Fail code place) e ∙ rw (is-start, capped-below (start + place) (omega (arith, sum))) refl

      -- by what a search for the start found
      module _ (lo : ℕ) (held : Bool) (placed : Placed ms (device_address s) lo held) where
        abbrev m : Mapping
        m = entry ms lo

        holder : held ≡ holds m d
        holder = rw is-start at placed.holder

        first : translate ms d ≡ shown_by m d
        first = translate-placed (length bytes) ms d ready.sound ∙ rw (rw is-start at placed.place) refl

        pub none-read : held ≡ false → read ≡ refused Unmapped s
        unfolding shown_by
        none-read h =
            let nowhere : faults 0 ≡ Fail Unmapped 0 = rw (add-zero start) (ap (fault_of false marks) (first ∙ pick_false _ _ _ (sym holder ∙ h)) ∙ fault-nowhere false marks) in
            fail_read Unmapped 0 (first_fault-at faults n 0 Unmapped 0 some (λ i l. absurd (omega arith)) nowhere) ∙ rw (add-zero s) refl

        module _ (h : held ≡ true) where
          holds-it : holds m d ≡ true
          holds-it = sym holder ∙ h

          facts : Facts (length bytes) m
          facts = shown-facts (length bytes) ms d lo ready.sound m refl holds-it

          range : in_range (length bytes) m ≡ true
          range = shown-asks (length bytes) ms d lo ready.sound m refl holds-it

          held-range : in_range memory_limit m ≡ true
          held-range = range-wider (length bytes) memory_limit m ready.limit range

          -- all of it lies in the mapping
          inside : start + n ≤ end m
          inside = page-within start n (end m) page (end-aligned facts) (holds-facts m d holds-it).1

          held-in : lo < length ms
          held-in = go (ltb lo (length ms)) refl
            where
              go : (t : Bool) → ltb lo (length ms) ≡ t → lo < length ms
              go true e = ltb-true _ _ e
              go false e = absurd (true≢false (sym holds-it ∙ rw (get_or-eq_default ms blank {n = lo} (ltb-false _ _ e)) (blank-holds d)))

          -- where it shows the first byte
          module _ (t : Target) (is : At t.address t.rights t.left ≡ shown_by m (device_address s)) where
            from_start : At t.address t.rights t.left ≡ shown_by m d
            from_start = rw is-start at is

            -- the run is the whole read
            run-all : run_length t.left (n - 0) ≡ n
            run-all = go (ltb (run_length t.left (n - 0)) n) refl
              where
                go : (u : Bool) → ltb (run_length t.left (n - 0)) n ≡ u → run_length t.left (n - 0) ≡ n
                go true e =
                    let w = shown_means m d from_start in
                    let short = ltb-true _ _ e in
                    let whole = (run_length_lem t.left (n - 0)).rest (omega arith) in
                    omega (arith, w.ends, inside)
                go false e = let most = (run_length_lem t.left (n - 0)).most in let long = ltb-false _ _ e in omega arith

            come : Come ms (length bytes) d n 0 lo
            come = rw (← (rw is-start at placed.place)) at (walk_start d n ready)

            run_at : (j : ℕ) → j < n → translate ms (device_offset d j) ≡ At (memory_offset t.address j) t.rights (t.left - j)
            run_at j l = rw (add-zero start) at (run-translate come held-in {a = t.address} {rights = t.rights} {left = t.left} (rw (add-zero start) from_start) some j (rw run-all l))

            in-memory : t.address.0 + n ≤ length bytes
            in-memory = let w = shown_means m d from_start in let r = range-facts (length bytes) m range in omega (arith, w.start, w.from, r.1, inside)

            faults-are : first_fault faults n ≡ run_of v t n
            faults-are = first_fault_cong _ _ n (λ j l. ap (fault_of false marks) (run_at j l))

            pass-read : Pass ≡ run_of v t n → read ≡ done (slice bytes t.address.0 n)
            unfolding placed_from settle location
            pass-read e = by-verdict Pass (faults-are ∙ sym e) ∙ ap done (gather-run ms (memory_of bytes shadow) d t.address.0 n (λ j l. ap location (run_at j l)) in-memory)

            fault-read : (code place : ℕ) → Fail code place ≡ run_of v t n → (place < n) × (s + place < 2 ^ 64) × (read ≡ refused code (s + place))
            fault-read code place e =
                let found = faults-are ∙ sym e in
                let early = (first_fault-fault faults n code place found).below in
                (early, omega arith, fail_read code place found)

          pub held-read : Held v start n s lo
          held-read = record {
            inside = held-in;
            range = held-range;
            shown = λ t is. shows m d t (rw is-start at is) holds-it;
            room = in-memory;
            passes = pass-read;
            faults = fault-read;
          }

  -- ---- the mapping at the place of the start tells all of the read

  abbrev from : DeviceAddress
  from = device_address (capped start)

  abbrev there : Mapping
  there = entry ms (first_past from ms)

  least : capped start ≡ min start (2 ^ 64 - 1)
  least = capped_is (min start (2 ^ 64 - 1)) refl

  module _ (below : capped start ≤ device_limit - n) where
    module _ (h : holds there from ≡ true) where
      all : Held v start n (capped start) (first_past from ms)
      all = held-read (capped start) least below (first_past from ms) true (record { place = refl; holder = sym h }) refl

      abbrev target : Target
      target = record { address = address_in there from; rights = there.rights; left = left_in there from }

      target-is : At target.address target.rights target.left ≡ shown_by there from
      unfolding shown_by
      target-is = sym (pick_true _ _ _ h)

      by-run : (w : Verdict) → w ≡ run_of v target n → read ≡ settle (placed_from (capped start) w) (slice bytes target.address.0 n)
      unfolding settle placed_from
      by-run Pass e = all.passes target target-is e
      by-run (Fail code place) e = let f = all.faults target target-is code place e in f.2 ∙ rw (capped-below _ f.1) refl

    near-read : (t : Bool) → holds there from ≡ t → read ≡ read_shown bytes shadow (capped start) n (shown_by there from)
    unfolding read_shown shown_by
    near-read true h = by-run h _ refl ∙ ap (read_shown bytes shadow (capped start) n) (target-is h)
    near-read false h = none-read (capped start) least below (first_past from ms) false (record { place = refl; holder = sym h }) refl ∙ ap (read_shown bytes shadow (capped start) n) (shown-none h)
      where
        shown-none : holds there from ≡ false → Nowhere ≡ shown_by there from
        shown-none e = sym (pick_false _ _ _ e)

  pub read-shown : (m : Mapping) → m ≡ entry ms (first_past (device_address (capped start)) ms) → card_read ms (memory_of bytes shadow) start n ≡ read_by bytes shadow m (device_address (capped start)) n
  unfolding read_by
  read-shown m is = rw is (go (ltb (device_limit - n) (capped start)) refl)
    where
      go : (t : Bool) → ltb (device_limit - n) (capped start) ≡ t → read ≡ read_by bytes shadow there from n
      go true e = far-read (capped start) least (ltb-true _ _ e) ∙ sym (pick_true _ _ _ e)
      go false e = near-read (ltb-false _ _ e) (holds there from) refl ∙ sym (pick_false _ _ _ e)
