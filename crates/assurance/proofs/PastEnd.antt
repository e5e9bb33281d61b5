-- Calls edit no byte past the end of memory, and so keep the bits there.
use Prim.Native.Nat.{ℕ, zero, suc, ◌+◌, ◌≤◌, ◌<◌}
use native.Mathlib.Omega.{arith}
use mathlib.Core.Path.{◌≡◌, refl, sym, ◌∙◌, ap}
use mathlib.Core.Bool.{Bool, true, false}
use mathlib.Core.List.{List, [], ◌∷◌}
use mathlib.Core.Option.{Option, none, some}
use lib.ListN.{length, get_or, replicate}
use lib.Seq.{get_or-set_other}
use borrow.Author.Tests.{eqb-true}
use Rattle.answer.specs.Tests.{◌and◌, pick}
use Rattle.answer.specs.Checks.{Verdict, Pass, Fail, ◌then◌, ◌unless◌}
use Rattle.answer.proofs.Tests.{and_true}
use Rattle.answer.proofs.Checks.{never, then_pass, unless_pass}
use Rattle.address.specs.Address.{memory_address, device_offset, memory_offset}
use Rattle.address.specs.declared.DeviceAddress.{DeviceAddress}
use Rattle.address.specs.declared.MemoryAddress.{MemoryAddress}
use Rattle.iommu.specs.Table.{Translation, At, Nowhere, translate, sound_table}
use Rattle.iommu.specs.declared.Mapping.{Mapping}
use Rattle.iommu.proofs.Lookup.{translate_bounds}
use Rattle.bitmap.specs.Bits.{bit, with_bit, bit_of}
use Rattle.bitmap.proofs.Bits.{bound}
use Rattle.bitmap.proofs.Lists.{other-bit}
use Rattle.registers.specs.declared.Card.{Card}
use Rattle.memory.specs.Shadow.{Shadow, packed, wide, marked, mark_bytes, shadow_length}
use Rattle.memory.specs.Memory.{Memory, memory_of, Edit, put, clear, edit, edited, stores, clears}
use Rattle.memory.proofs.Marks.{marked-length}
use Rattle.memory.proofs.Transfers.{host_write-room, invalidate-room}
use Rattle.dma.specs.Transfers.{write_fault, device_write_checks, location, scatter}
use Rattle.emulator.specs.Machine.{Machine, Emulator, machine_of, emulator_of, both, usable, lendable, lendable_records, powered_on, as_noted, sound, sound_mappings}
use Rattle.emulator.specs.Effect.{effect_of, outcome_of, after}
use Rattle.emulator.specs.Requests.{Request, get_api_version, check_extension, set_iommu, get_iommu_info, map_dma, unmap_dma, get_info, get_region_info, get_irq_info, set_irqs, reset_device, Entry, identify, request_effect, listed_effect}
use Rattle.emulator.specs.Calls.{Call, power_on, request, look_up, device_read, device_write, host_write, host_read, invalidate, set_register, read_register, show_line, walk_queue, load_parts, save_parts, stop, start, given, own_checks, checks, effect, outcome}
use Rattle.assurance.specs.Packed.{with_packed, PastEnd}
use Rattle.assurance.proofs.Blind.{first, shift, transfer_passed}

-- ---- edits below an address keep the bits from it on

unfoldable place : Edit → ℕ
place (put a x) = a.0
place (clear a) = a.0

unfoldable Below : ℕ → List Edit → Type 0
Below n [] = Unit
Below n (d ∷ ds) = (place d < n) × Below n ds

-- a bit, or a wide mark, as it is kept
unfoldable kept_at : Shadow → ℕ → ℕ
kept_at (packed n l) i = bit_of l i
kept_at (wide l) i = get_or l i 0

marked-kept : (s : Shadow) (a : MemoryAddress) (v : Bool) (i : ℕ) → a.0 < i → kept_at (marked s a v) i ≡ kept_at s i
unfolding kept_at marked
marked-kept (packed n l) a v i h = other-bit l a.0 i (pick v 1 0) (bound v) (λ e. omega arith)
marked-kept (wide l) a v i h = get_or-set_other l a.0 i (pick v 1 0) 0 (λ e. omega arith)

edit-kept : (d : Edit) (m : Memory) (i : ℕ) → place d < i → kept_at (edit d m).shadow i ≡ kept_at m.shadow i
unfolding edit place
edit-kept (put a x) m i h = marked-kept m.shadow a true i h
edit-kept (clear a) m i h = marked-kept m.shadow a false i h

edited-kept : (ds : List Edit) (m : Memory) (n i : ℕ) → Below n ds → n ≤ i → kept_at (edited ds m).shadow i ≡ kept_at m.shadow i
unfolding edited Below
edited-kept [] m n i b h = refl
edited-kept (d ∷ ds) m n i b h = edited-kept ds (edit d m) n i b.1 h ∙ edit-kept d m i (let p : place d < n = b.0 in omega arith)

edit-long : (d : Edit) (m : Memory) → mark_bytes (edit d m).shadow ≡ mark_bytes m.shadow
unfolding edit
edit-long (put a x) m = marked-length m.shadow a true
edit-long (clear a) m = marked-length m.shadow a false

edited-long : (ds : List Edit) (m : Memory) → mark_bytes (edited ds m).shadow ≡ mark_bytes m.shadow
unfolding edited
edited-long [] m = refl
edited-long (d ∷ ds) m = edited-long ds (edit d m) ∙ edit-long d m

-- ---- the edits of accepted calls lie in memory

stores-below : (n : ℕ) (xs : List ℕ) (a : MemoryAddress) → a.0 + length xs ≤ n → Below n (stores a xs)
unfolding Below stores place
stores-below n [] a h = tt
stores-below n (x ∷ xs) a h = (omega arith, stores-below n xs (memory_offset a 1) (omega arith))

clears-below : (n k : ℕ) (a : MemoryAddress) → a.0 + k ≤ n → Below n (clears a k)
unfolding Below clears place
clears-below n zero a h = tt
clears-below n (suc k) a h = (omega arith, clears-below n k (memory_offset a 1) (omega arith))

located-below : (n : ℕ) (ms : List Mapping) (d : DeviceAddress) → sound_table n ms ≡ true → write_fault (translate ms d) ≡ Pass → (location (translate ms d)).0 < n
unfolding write_fault location
located-below n ms d s ok = go (translate ms d) refl ok
  where
    go : (t : Translation) → translate ms d ≡ t → write_fault t ≡ Pass → (location t).0 < n
    go Nowhere e p = never _ _ p
    go (At a rights left) e p = (translate_bounds n ms d a rights left s e).0

scatter-below : (n : ℕ) (ms : List Mapping) → sound_table n ms ≡ true → (xs : List ℕ) (d : DeviceAddress)
    → ((i : ℕ) → i < length xs → write_fault (translate ms (device_offset d i)) ≡ Pass) → Below n (scatter ms d xs)
unfolding Below scatter place
scatter-below n ms s [] d ok = tt
scatter-below n ms s (x ∷ xs) d ok =
    let P : DeviceAddress → Type 0 = λ k. write_fault (translate ms k) ≡ Pass in
    (located-below n ms d s (first P d (length xs) ok), scatter-below n ms s xs (device_offset d 1) (shift P d (length xs) ok))

usable-table : (e : Emulator) → usable both e ≡ true → sound_table (length e.memory.bytes) e.machine.mappings ≡ true
unfolding usable as_noted sound sound_mappings
usable-table e h =
    let r = and_true _ _ h in
    let noted : length e.memory.bytes ≡ e.machine.memory_length = eqb-true _ _ (and_true _ _ r.0).1 in
    rw noted (and_true _ _ (and_true _ _ (and_true _ _ r.1).0).1).1

listed_below : (n : ℕ) (q : Request) (buf : List ℕ) (e : Emulator) → Below n (listed_effect q buf e).edits
unfolding Below listed_effect
listed_below n get_api_version buf e = tt
listed_below n check_extension buf e = tt
listed_below n set_iommu buf e = tt
listed_below n get_iommu_info buf e = tt
listed_below n map_dma buf e = tt
listed_below n unmap_dma buf e = tt
listed_below n get_info buf e = tt
listed_below n get_region_info buf e = tt
listed_below n get_irq_info buf e = tt
listed_below n set_irqs buf e = tt
listed_below n reset_device buf e = tt

request-below : (n : ℕ) (o : Option Entry) (buf : List ℕ) (e : Emulator) → Below n (request_effect o buf e).edits
unfolding Below request_effect
request-below n none buf e = tt
request-below n (some r) buf e = listed_below n r.request buf e

call_below : (c : Call) (buf : List ℕ) (e : Emulator) → usable (given c) e ≡ true → own_checks c buf e ≡ Pass
    → Below (length e.memory.bytes) (effect c buf e).edits
unfolding Below given own_checks effect device_write_checks
call_below (power_on card) buf e good ok = clears-below _ _ (memory_address 0) (omega arith)
call_below (request target number) buf e good ok = request-below _ (identify target number) buf e
call_below (look_up d) buf e good ok = tt
call_below (device_read d) buf e good ok = tt
call_below (device_write d) buf e good ok =
    scatter-below (length e.memory.bytes) e.machine.mappings (usable-table e good) buf d (transfer_passed write_fault _ d (length buf) ok)
call_below (host_write a) buf e good ok = stores-below _ buf a (host_write-room _ a (length buf) ok)
call_below (host_read a) buf e good ok = tt
call_below (invalidate a n) buf e good ok = clears-below _ n a (invalidate-room _ a n ok)
call_below (set_register kind selector) buf e good ok = tt
call_below (read_register kind selector) buf e good ok = tt
call_below (show_line index i) buf e good ok = tt
call_below (walk_queue queue last) buf e good ok = tt
call_below load_parts buf e good ok = tt
call_below save_parts buf e good ok = tt
call_below stop buf e good ok = tt
call_below start buf e good ok = tt

-- a refused call has no edit
verdict-below : (c : Call) (buf : List ℕ) (e : Emulator) (v : Verdict) → checks c buf e ≡ v → Below (length e.memory.bytes) (effect_of v (effect c buf e) e.machine).edits
unfolding checks effect_of Below
verdict-below c buf e Pass p = let t = then_pass _ _ p in call_below c buf e (unless_pass _ _ t.0) t.1
verdict-below c buf e (Fail code place) p = tt

outcome-below : (c : Call) (buf : List ℕ) (e : Emulator) → Below (length e.memory.bytes) (outcome c buf e).effect.edits
unfolding outcome outcome_of
outcome-below c buf e = verdict-below c buf e (checks c buf e) refl

-- ---- the statement

past_end_lem : (c : Call) (buf bytes bytes' marks marks' : List ℕ) (room room' : ℕ) (k k' : Machine)
    → after (outcome c buf (with_packed bytes marks room k)).effect (with_packed bytes marks room k) ≡ with_packed bytes' marks' room' k'
    → (length marks' ≡ length marks) × ((i : ℕ) → length bytes ≤ i → bit_of marks' i ≡ bit_of marks i)
unfolding after with_packed kept_at
past_end_lem c buf bytes bytes' marks marks' room room' k k' h =
    let e : Emulator = with_packed bytes marks room k in
    let ds : List Edit = (outcome c buf e).effect.edits in
    let left : edited ds (memory_of bytes marks) ≡ memory_of bytes' marks' = ap (λ (x : Emulator). x.memory) h in (
      sym (ap (λ (m : Memory). mark_bytes m.shadow) left) ∙ edited-long ds (memory_of bytes marks),
      λ i b. sym (ap (λ (m : Memory). kept_at m.shadow i) left) ∙ edited-kept ds (memory_of bytes marks) (length bytes) i (outcome-below c buf e) b,
    )

eleven-bytes : (card : Card) (k : Machine)
    → let e = with_packed (replicate 11 0xA5) (0xFF ∷ 0xFF ∷ []) 64 k in
    after (outcome (power_on card) [] e).effect e ≡ with_packed (replicate 11 0xA5) (0x00 ∷ 0xF8 ∷ []) 64 (powered_on card 11)
unfolding with_packed outcome outcome_of effect_of checks own_checks given usable lendable lendable_records shadow_length ◌and◌ ◌then◌ ◌unless◌ effect after edited edit clears marked pick bit with_bit
eleven-bytes card k = refl

pub past_end : PastEnd
unfolding after with_packed emulator_of
past_end =
    record {
      outcomes = past_end_lem;
      code = λ c buf buf' bytes bytes' marks marks' s s' rs rs' r meets.
          past_end_lem c buf bytes bytes' marks marks' (length rs) (length rs) (machine_of s rs) _
          (ap (λ (m : Memory). record { memory = m; room = length rs; machine = (outcome c buf (emulator_of s rs (memory_of bytes marks))).effect.machine }) (sym meets.memory));
      eleven = eleven-bytes;
    }
