-- No call looks at a stale byte of its buffer or at unwritten memory: its outcome is the one with those bytes masked.
use Prim.Native.Nat.{ℕ, zero, suc, ◌+◌, ◌*◌, ◌≤◌, ◌<◌}
use native.Mathlib.Nat.{add-zero, add-suc, suc-add}
use native.Mathlib.Numerals.{add-one}
use native.Mathlib.Omega.{arith}
use mathlib.Core.Path.{◌≡◌, refl, sym, ◌∙◌, ap, ap₂}
use mathlib.Core.Bool.{Bool, true, false}
use mathlib.Core.List.{List, [], ◌∷◌}
use mathlib.Core.Option.{Option, none, some}
use lib.ListN.{length}
use lib.Dec.{eqb, leb, ltb}
use borrow.Author.Tests.{leb-true}
use Rattle.answer.specs.Tests.{◌and◌, ◌or◌, pick}
use Rattle.answer.specs.Checks.{Verdict, Pass, Fail, ◌then◌, first_fault}
use Rattle.answer.specs.Answer.{Answer, settle, result_or}
use Rattle.answer.proofs.Tests.{and_true}
use Rattle.answer.proofs.Checks.{never, then_pass, unless_pass, first_fault-all}
use Rattle.address.specs.Address.{device_address, memory_address, device_offset, memory_offset, in_memory_range}
use Rattle.address.specs.declared.DeviceAddress.{DeviceAddress}
use Rattle.address.specs.declared.MemoryAddress.{MemoryAddress}
use Rattle.wire.specs.Field.{field, slice}
use Rattle.iommu.specs.Table.{Translation, At, Nowhere, translate}
use Rattle.iommu.specs.declared.Mapping.{Mapping}
use Rattle.memory.specs.Shadow.{Shadow, initialized}
use Rattle.memory.specs.Memory.{Memory, byte_at, bytes_from}
use Rattle.memory.specs.Transfers.{unwritten_at, unwritten_in, host_write_checks, host_read_checks}
use Rattle.dma.specs.Transfers.{read_fault, transfer_checks, device_read_checks, location, gather}
use Rattle.virtqueue.specs.Ring.{Reader, placed_from, card_read, Walked, found, walk}
use Rattle.interrupts.specs.Requests.{flags_of, count_of, kind_of, width, data_start, reads_data}
use Rattle.interrupts.specs.declared.Line.{Line}
use Rattle.interrupts.proofs.Requests.{Agrees, checks-agree, lines-agree}
use Rattle.emulator.specs.Machine.{Machine, Emulator, Given, memory_alone, state_alone, both, usable, lendable, as_noted, with_lines}
use Rattle.emulator.specs.Effect.{Effect, Outcome, effect_of, outcome_of, leaving, writing}
use Rattle.emulator.specs.Requests.{Request, get_api_version, check_extension, set_iommu, get_iommu_info, map_dma, unmap_dma, get_info, get_region_info, get_irq_info, set_irqs, reset_device, Entry, requests, entry_in, identify, in_fields, data_of, input_of, requested_type, requested_mapping, requested_start, requested_size, requested_index, argsz_checks, listed_checks, size_checks, request_checks, listed_effect, request_effect}
use Rattle.emulator.specs.Calls.{Call, power_on, request, look_up, device_read, device_write, host_write, host_read, invalidate, set_register, read_register, show_line, walk_queue, load_parts, save_parts, stop, start, given, input, queue_value, walk_of, own_checks, checks, walking, effect, probes_of, outcome}
use Rattle.assurance.specs.Overwrite.{overwrite, mask}
use Rattle.assurance.specs.Runs.{written}
use Rattle.assurance.proofs.Entries.{every, entry-by}
use Rattle.assurance.proofs.Overwrite.{length-overwrite, length-mask, mask-all, get_or-kept, part-kept, keeps, keeps-at, field-over, field-kept}

-- the emulator as a call may look at it: no unwritten byte is seen
unfoldable pub seen : Emulator → Emulator
seen e =
    record { memory = record { bytes = mask (written e.memory) e.memory.bytes; shadow = e.memory.shadow }; room = e.room; machine = e.machine }

-- a refused call has no effect, so effects need only agree where the checks pass
outcome_eq : (u v : Verdict) (e f : Effect) (k : Machine) (n : ℕ) → u ≡ v → (u ≡ Pass → e ≡ f) → outcome_of u e k n ≡ outcome_of v f k n
unfolding outcome_of effect_of settle
outcome_eq u v e f k n p h = go u refl ∙ ap (λ (x : Verdict). outcome_of x f k n) p
  where
    go : (t : Verdict) → u ≡ t → outcome_of t e k n ≡ outcome_of t f k n
    go Pass q = ap (λ (x : Effect). outcome_of Pass x k n) (h q)
    go (Fail code place) q = refl

-- ---- refusal 1 goes by lengths, marks and state

usable-blind : (g : Given) (e : Emulator) → usable g (seen e) ≡ usable g e
unfolding usable lendable as_noted seen
usable-blind memory_alone e = simp length-mask
usable-blind state_alone e = refl
usable-blind both e = simp length-mask

-- ---- requests read their input fields alone

-- the fields that a request looks at are kept
unfoldable reads_kept : (ℕ → Bool) → Request → Bool
reads_kept keep get_api_version = true
reads_kept keep check_extension = keeps keep 0 4
reads_kept keep set_iommu = keeps keep 0 4
reads_kept keep get_iommu_info = true
reads_kept keep map_dma = keeps keep 4 4 and keeps keep 8 8 and keeps keep 16 8 and keeps keep 24 8
reads_kept keep unmap_dma = keeps keep 4 4 and keeps keep 8 8 and keeps keep 16 8
reads_kept keep get_info = true
reads_kept keep get_region_info = keeps keep 8 4
reads_kept keep get_irq_info = keeps keep 8 4
reads_kept keep set_irqs = keeps keep 0 20 and keeps keep 4 4 and keeps keep 16 4
reads_kept keep reset_device = true

-- argsz and the fields of its request are input fields of an entry
unfoldable entry_reads : List ℕ → Entry → Bool
entry_reads buf r = pick r.argsz (keeps (input_of (some r) buf) 0 4) true and reads_kept (input_of (some r) buf) r.request

all_read : (buf : List ℕ) → every (entry_reads buf) requests ≡ true
unfolding every entry_reads reads_kept keeps input_of in_fields pick ◌and◌ ◌or◌
all_read buf = refl

module _ (keep : ℕ → Bool) (buf : List ℕ) (e : Emulator) where
  mapping-blind : reads_kept keep map_dma ≡ true → requested_mapping (mask keep buf) ≡ requested_mapping buf
  unfolding reads_kept requested_mapping
  mapping-blind h =
      let a = and_true _ _ h in
      let b = and_true _ _ a.0 in
      let c = and_true _ _ b.0 in
      rw (field-kept keep buf 4 4 c.0, field-kept keep buf 8 8 c.1, field-kept keep buf 16 8 b.1, field-kept keep buf 24 8 a.1)

  -- a request to the lines: the bytes that it reads are kept
  irqs_agree : reads_kept keep set_irqs ≡ true → ((i : ℕ) → reads_data buf i ≡ true → keep i ≡ true) → Agrees buf (mask keep buf)
  unfolding reads_kept mask
  irqs_agree h covers = record {
    fields = λ i lt.
        let e : 0 + i ≡ i = omega arith in
        sym (get_or-kept keep (λ j. 0) buf i (rw e at (keeps-at keep 0 20 i (and_true _ _ (and_true _ _ h).0).0 lt)));
    bytes = λ i r. sym (get_or-kept keep (λ j. 0) buf i (covers i r));
  }

  listed_checks-blind : (q : Request) → reads_kept keep q ≡ true → ((i : ℕ) → data_of q buf i ≡ true → keep i ≡ true) → listed_checks q (mask keep buf) (seen e) ≡ listed_checks q buf e
  unfolding reads_kept listed_checks data_of requested_type requested_start requested_size requested_index seen
  listed_checks-blind get_api_version h covers = refl
  listed_checks-blind check_extension h covers = refl
  listed_checks-blind set_iommu h covers = rw (field-kept keep buf 0 4 h)
  listed_checks-blind get_iommu_info h covers = refl
  listed_checks-blind map_dma h covers = rw (length-mask (written e.memory) e.memory.bytes, mapping-blind h)
  listed_checks-blind unmap_dma h covers =
      let a = and_true _ _ h in
      let b = and_true _ _ a.0 in
      rw (field-kept keep buf 4 4 b.0, field-kept keep buf 8 8 b.1, field-kept keep buf 16 8 a.1)
  listed_checks-blind get_info h covers = refl
  listed_checks-blind get_region_info h covers = rw (field-kept keep buf 8 4 h)
  listed_checks-blind get_irq_info h covers = rw (field-kept keep buf 8 4 h)
  listed_checks-blind set_irqs h covers = sym (checks-agree buf (mask keep buf) (irqs_agree h covers))
  listed_checks-blind reset_device h covers = refl

  listed_effect-blind : (q : Request) → reads_kept keep q ≡ true → ((i : ℕ) → data_of q buf i ≡ true → keep i ≡ true) → listed_effect q (mask keep buf) (seen e) ≡ listed_effect q buf e
  unfolding reads_kept listed_effect data_of requested_type requested_start requested_size requested_index seen
  listed_effect-blind get_api_version h covers = refl
  listed_effect-blind check_extension h covers = rw (field-kept keep buf 0 4 h)
  listed_effect-blind set_iommu h covers = rw (field-kept keep buf 0 4 h)
  listed_effect-blind get_iommu_info h covers = refl
  listed_effect-blind map_dma h covers = rw (mapping-blind h)
  listed_effect-blind unmap_dma h covers =
      let a = and_true _ _ h in
      let b = and_true _ _ a.0 in
      rw (field-kept keep buf 8 8 b.1, field-kept keep buf 16 8 a.1)
  listed_effect-blind get_info h covers = refl
  listed_effect-blind get_region_info h covers = rw (field-kept keep buf 8 4 h)
  listed_effect-blind get_irq_info h covers = rw (field-kept keep buf 8 4 h)
  listed_effect-blind set_irqs h covers = ap (λ (ls : List Line). leaving (with_lines ls e.machine)) (sym (lines-agree buf (mask keep buf) e.machine.lines (irqs_agree h covers)))
  listed_effect-blind reset_device h covers = refl

  argsz-blind : (t : Bool) (size : ℕ) → pick t (keeps keep 0 4) true ≡ true → argsz_checks t size (mask keep buf) ≡ argsz_checks t size buf
  unfolding argsz_checks pick
  argsz-blind false size h = refl
  argsz-blind true size h = rw (field-kept keep buf 0 4 h, length-mask keep buf)

-- data are input
data_input : (buf : List ℕ) (r : Entry) (i : ℕ) → data_of r.request buf i ≡ true → input_of (some r) buf i ≡ true
unfolding input_of
data_input buf r i d = go (in_fields r.input i) d
  where
    go : (s : Bool) {t : Bool} → t ≡ true → (s or t) ≡ true
    go true e = unfold ◌or◌ in refl
    go false e = unfold ◌or◌ in e

-- a request's checks and effect, both
record RequestBlind (buf : List ℕ) (e : Emulator) (o : Option Entry) : Type 0 where
  its-checks : request_checks o (mask (input_of o buf) buf) (seen e) ≡ request_checks o buf e
  its-effect : request_effect o (mask (input_of o buf) buf) (seen e) ≡ request_effect o buf e

request-blind : (buf : List ℕ) (e : Emulator) (target number : ℕ) → RequestBlind buf e (identify target number)
unfolding identify size_checks request_checks request_effect seen entry_reads
request-blind buf e = entry-by (entry_reads buf) (RequestBlind buf e) absent listed requests (all_read buf)
  where
    absent : RequestBlind buf e none
    absent = record { its-checks = refl; its-effect = refl }

    listed : (r : Entry) → entry_reads buf r ≡ true → RequestBlind buf e (some r)
    listed r h =
        let a = and_true _ _ h in
        let keep : ℕ → Bool = input_of (some r) buf in
        let covers : (i : ℕ) → data_of r.request buf i ≡ true → input_of (some r) buf i ≡ true = λ i d. data_input buf r i d in
        record {
          its-checks = rw (length-mask keep buf, argsz-blind keep buf e r.argsz r.size a.0, listed_checks-blind keep buf e r.request a.1 covers);
          its-effect = listed_effect-blind keep buf e r.request a.1 covers;
        }

-- ---- which bytes are input, the input bytes say

irqs_stable : (keep : ℕ → Bool) (w : ℕ → ℕ) (buf : List ℕ) → reads_kept keep set_irqs ≡ true → data_of set_irqs (overwrite keep w buf) ≡ data_of set_irqs buf
unfolding reads_kept data_of reads_data
irqs_stable keep w buf h =
    let p = and_true _ _ h in
    let new = overwrite keep w buf in
    ap {B = ℕ → Bool} (λ (n : ℕ) (i : ℕ). leb data_start i and ltb i (data_start + n * width (kind_of (flags_of new)))) (field-over keep w buf 16 4 p.1)
    ∙ ap {B = ℕ → Bool} (λ (flags : ℕ) (i : ℕ). leb data_start i and ltb i (data_start + count_of buf * width (kind_of flags))) (field-over keep w buf 4 4 (and_true _ _ p.0).1)

data_stable : (q : Request) (keep : ℕ → Bool) (w : ℕ → ℕ) (buf : List ℕ) → reads_kept keep q ≡ true → data_of q (overwrite keep w buf) ≡ data_of q buf
unfolding data_of
data_stable get_api_version keep w buf h = refl
data_stable check_extension keep w buf h = refl
data_stable set_iommu keep w buf h = refl
data_stable get_iommu_info keep w buf h = refl
data_stable map_dma keep w buf h = refl
data_stable unmap_dma keep w buf h = refl
data_stable get_info keep w buf h = refl
data_stable get_region_info keep w buf h = refl
data_stable get_irq_info keep w buf h = refl
data_stable set_irqs keep w buf h = irqs_stable keep w buf h
data_stable reset_device keep w buf h = refl

entry_stable : (w : ℕ → ℕ) (buf : List ℕ) (r : Entry) → entry_reads buf r ≡ true → input_of (some r) (overwrite (input_of (some r) buf) w buf) ≡ input_of (some r) buf
unfolding input_of entry_reads
entry_stable w buf r h = ap {B = ℕ → Bool} (λ (f : ℕ → Bool) (i : ℕ). in_fields r.input i or f i) (data_stable r.request (input_of (some r) buf) w buf (and_true _ _ h).1)

request_stable : (w : ℕ → ℕ) (buf : List ℕ) (target number : ℕ) → input_of (identify target number) (overwrite (input_of (identify target number) buf) w buf) ≡ input_of (identify target number) buf
unfolding identify input_of
request_stable w buf = entry-by (entry_reads buf) (λ o. input_of o (overwrite (input_of o buf) w buf) ≡ input_of o buf) refl (entry_stable w buf) requests (all_read buf)

-- what others write leaves it as it is
pub input_stable : (c : Call) (w : ℕ → ℕ) (buf : List ℕ) → input c (overwrite (input c buf) w buf) ≡ input c buf
unfolding input
input_stable (power_on card) w buf = refl
input_stable (request target number) w buf = request_stable w buf target number
input_stable (look_up d) w buf = refl
input_stable (device_read d) w buf = refl
input_stable (device_write d) w buf = refl
input_stable (host_write a) w buf = refl
input_stable (host_read a) w buf = refl
input_stable (invalidate a n) w buf = refl
input_stable (set_register kind selector) w buf = refl
input_stable (read_register kind selector) w buf = refl
input_stable (show_line index i) w buf = refl
input_stable (walk_queue queue last) w buf = refl
input_stable load_parts w buf = refl
input_stable save_parts w buf = refl
input_stable stop w buf = refl
input_stable start w buf = refl

-- ---- what accepted reads show

pub unwritten_clear : (shadow : Shadow) (a : MemoryAddress) → unwritten_at shadow a ≡ Pass → initialized shadow a ≡ true
unfolding unwritten_at
unwritten_clear shadow a h = unless_pass _ _ h

-- a device address that may be read shows a written byte
pub read-clear : (shadow : Shadow) (t : Translation) → read_fault shadow t ≡ Pass → initialized shadow (location t) ≡ true
unfolding read_fault location
read-clear shadow Nowhere h = never _ _ h
read-clear shadow (At a rights left) h = unwritten_clear shadow a (then_pass _ _ h).1

byte-blind : (e : Emulator) (a : MemoryAddress) → initialized e.memory.shadow a ≡ true → byte_at (seen e).memory a ≡ byte_at e.memory a
unfolding byte_at seen mask written
byte-blind e a h = get_or-kept (written e.memory) (λ i. 0) e.memory.bytes a.0 h

-- what the next offset says of the next address
pub shift : (P : DeviceAddress → Type 0) (d : DeviceAddress) (n : ℕ) → ((i : ℕ) → i < suc n → P (device_offset d i)) → (i : ℕ) → i < n → P (device_offset (device_offset d 1) i)
shift P d n h i lt = let e : d.0 + suc i ≡ d.0 + 1 + i = omega arith in rw e at (h (suc i) (omega arith))

pub first : (P : DeviceAddress → Type 0) (d : DeviceAddress) (n : ℕ) → ((i : ℕ) → i < suc n → P (device_offset d i)) → P d
first P d n h = rw add-zero at (h 0 (omega arith))

gather-blind : (ms : List Mapping) (e : Emulator) (n : ℕ) (d : DeviceAddress) → ((i : ℕ) → i < n → read_fault e.memory.shadow (translate ms (device_offset d i)) ≡ Pass)
    → gather ms (seen e).memory d n ≡ gather ms e.memory d n
unfolding gather
gather-blind ms e zero d h = refl
gather-blind ms e (suc n) d h =
    let P : DeviceAddress → Type 0 = λ x. read_fault e.memory.shadow (translate ms x) ≡ Pass in
    ap₂ ◌∷◌ (byte-blind e _ (read-clear _ _ (first P d n h))) (gather-blind ms e n (device_offset d 1) (shift P d n h))

-- what passed checks say of every offset
pub host_read-passed : (size : ℕ) (shadow : Shadow) (a : MemoryAddress) (n : ℕ) → host_read_checks size shadow a n ≡ Pass
    → (a.0 + n ≤ size) × ((i : ℕ) → i < n → initialized shadow (memory_offset a i) ≡ true)
unfolding host_read_checks host_write_checks unwritten_in in_memory_range
host_read-passed size shadow a n h =
    let t = then_pass _ _ h in
    (leb-true _ _ (unless_pass _ _ (then_pass _ _ t.0).1), λ i lt. unwritten_clear shadow (memory_offset a i) (first_fault-all _ n t.1 i lt))

pub transfer_passed : (fault : Translation → Verdict) (ms : List Mapping) (d : DeviceAddress) (n : ℕ) → transfer_checks fault ms d n ≡ Pass
    → (i : ℕ) → i < n → fault (translate ms (device_offset d i)) ≡ Pass
unfolding transfer_checks
transfer_passed fault ms d n h = first_fault-all _ n (then_pass _ _ (then_pass _ _ h).1).1

-- ---- a walk: what its card reads answer, and so what it comes to

card-blind : (ms : List Mapping) (e : Emulator) → card_read ms (seen e).memory ≡ card_read ms e.memory
unfolding card_read seen device_read_checks
card-blind ms e = λ i from n. go from n (device_read_checks ms e.memory.shadow (device_address from) n) refl i
  where
    go : (from n : ℕ) (v : Verdict) → device_read_checks ms e.memory.shadow (device_address from) n ≡ v
        → settle (placed_from from v) (gather ms (seen e).memory (device_address from) n) ≡ settle (placed_from from v) (gather ms e.memory (device_address from) n)
    go from n Pass ok = rw (gather-blind ms e n (device_address from) (transfer_passed _ ms (device_address from) n ok))
    go from n (Fail code place) ok = unfold placed_from settle in refl

walk-blind : (e : Emulator) (queue last room : ℕ) → walk_of (seen e) queue last room ≡ walk_of e queue last room
unfolding walk_of seen
walk-blind e queue last room =
    ap (λ (read : Reader). walk read queue (queue_value e.machine.words e.machine.registers queue) last room) (card-blind e.machine.mappings e)

-- ---- the checks of every call

own_checks-blind : (c : Call) (buf : List ℕ) (e : Emulator) → own_checks c (mask (input c buf) buf) (seen e) ≡ own_checks c buf e
unfolding own_checks seen input
own_checks-blind (power_on card) buf e = refl
own_checks-blind (request target number) buf e = (request-blind buf e target number).its-checks
own_checks-blind (look_up d) buf e = refl
own_checks-blind (device_read d) buf e = simp length-mask
own_checks-blind (device_write d) buf e = simp length-mask
own_checks-blind (host_write a) buf e = simp length-mask
own_checks-blind (host_read a) buf e = simp length-mask
own_checks-blind (invalidate a n) buf e = simp length-mask
own_checks-blind (set_register kind selector) buf e = simp mask-all
own_checks-blind (read_register kind selector) buf e = simp length-mask
own_checks-blind (show_line index i) buf e = refl
own_checks-blind (walk_queue queue last) buf e = rw (length-mask (input (walk_queue queue last) buf) buf, walk-blind e queue last (length buf))
own_checks-blind load_parts buf e = simp mask-all
own_checks-blind save_parts buf e = simp length-mask
own_checks-blind stop buf e = refl
own_checks-blind start buf e = refl

checks-blind : (c : Call) (buf : List ℕ) (e : Emulator) → checks c (mask (input c buf) buf) (seen e) ≡ checks c buf e
unfolding checks
checks-blind c buf e = rw (usable-blind (given c) e, own_checks-blind c buf e)

-- ---- the effects of accepted calls

effect-blind : (c : Call) (buf : List ℕ) (e : Emulator) → own_checks c buf e ≡ Pass → effect c (mask (input c buf) buf) (seen e) ≡ effect c buf e
unfolding effect own_checks seen input device_read_checks bytes_from written mask
effect-blind (power_on card) buf e ok = simp length-mask
effect-blind (request target number) buf e ok = (request-blind buf e target number).its-effect
effect-blind (look_up d) buf e ok = refl
effect-blind (device_read d) buf e ok =
    rw (length-mask (input (device_read d) buf) buf, gather-blind e.machine.mappings e (length buf) d (transfer_passed _ _ d (length buf) ok))
effect-blind (device_write d) buf e ok = simp mask-all
effect-blind (host_write a) buf e ok = simp mask-all
effect-blind (host_read a) buf e ok =
    let h = host_read-passed _ _ a (length buf) ok in
    rw (length-mask (input (host_read a) buf) buf, part-kept (written e.memory) (λ i. 0) e.memory.bytes a.0 (length buf) h.0 h.1)
effect-blind (invalidate a n) buf e ok = refl
effect-blind (set_register kind selector) buf e ok = simp mask-all
effect-blind (read_register kind selector) buf e ok = refl
effect-blind (show_line index i) buf e ok = refl
effect-blind (walk_queue queue last) buf e ok =
    rw (length-mask (input (walk_queue queue last) buf) buf) (ap (λ (a : Answer Walked). walking (result_or (found [] 0) a) e.machine) (walk-blind e queue last (length buf)))
effect-blind load_parts buf e ok = simp mask-all
effect-blind save_parts buf e ok = refl
effect-blind stop buf e ok = refl
effect-blind start buf e ok = refl

pub blind : (c : Call) (buf : List ℕ) (e : Emulator) → outcome c (mask (input c buf) buf) (seen e) ≡ outcome c buf e
unfolding outcome checks seen
blind c buf e =
    outcome_eq _ _ _ _ e.machine (probes_of c e.machine.mappings) (checks-blind c buf e)
    (λ ok. effect-blind c buf e (then_pass _ _ (sym (checks-blind c buf e) ∙ ok)).1)
