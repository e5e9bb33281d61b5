-- Shadows with the same marks by address, however they are kept, are one to every call.
use Prim.Native.Nat.{ℕ, zero, suc}
use mathlib.Core.Path.{◌≡◌, refl, ap, ap₂, fun_ext}
use mathlib.Core.Bool.{Bool}
use mathlib.Core.List.{List, ◌∷◌}
use mathlib.Core.Option.{Option, some, none}
use lib.ListN.{length}
use Rattle.answer.specs.Codes.{NoRight, Unwritten, Range}
use Rattle.answer.specs.Checks.{Verdict, ◌then◌, ◌unless◌}
use Rattle.answer.specs.Limits.{length_check}
use Rattle.answer.proofs.Checks.{first_fault_cong}
use Rattle.address.specs.Address.{device_offset, memory_offset, in_device_range}
use Rattle.address.specs.declared.MemoryAddress.{MemoryAddress}
use Rattle.address.specs.declared.DeviceAddress.{DeviceAddress}
use Rattle.iommu.specs.Table.{Translation, At, Nowhere, translate, readable}
use Rattle.iommu.specs.declared.Mapping.{Mapping}
use Rattle.memory.specs.Shadow.{Shadow, initialized}
use Rattle.memory.specs.Transfers.{unwritten_at, unwritten_in, host_write_checks, host_read_checks}
use Rattle.memory.specs.Memory.{byte_at, bytes_from}
use Rattle.dma.specs.Transfers.{read_fault, transfer_checks, device_read_checks, gather}
use Rattle.virtqueue.specs.Ring.{Reader, card_read, walk}
use Rattle.emulator.specs.Machine.{Emulator, Given, memory_alone, state_alone, both, lendable, as_noted, usable}
use Rattle.emulator.specs.Requests.{Request, Entry, get_api_version, check_extension, set_iommu, get_iommu_info, map_dma, unmap_dma, get_info, get_region_info, get_irq_info, set_irqs, reset_device, identify, request_checks, listed_checks, request_effect, listed_effect}
use Rattle.emulator.specs.Calls.{Call, power_on, request, look_up, device_read, device_write, host_write, host_read, invalidate, set_register, read_register, show_line, walk_queue, load_parts, save_parts, stop, start, given, queue_value, walk_of, own_checks, checks, effect, outcome}

-- the same emulator with another shadow
unfoldable pub shadowed_by : Shadow → Emulator → Emulator
shadowed_by t e = record { memory = record { bytes = e.memory.bytes; shadow = t }; room = e.room; machine = e.machine }

module _ (t : Shadow) (e : Emulator)
    (lent : lendable (shadowed_by t e).memory ≡ lendable e.memory)
    (same : (a : MemoryAddress) → initialized t a ≡ initialized e.memory.shadow a)
  where
    usable_same : (g : Given) → usable g (shadowed_by t e) ≡ usable g e
    unfolding usable shadowed_by as_noted
    usable_same memory_alone = rw lent
    usable_same state_alone = refl
    usable_same both = rw lent

    -- ---- what looks at marks

    fault-same : (x : Translation) → read_fault t x ≡ read_fault e.memory.shadow x
    unfolding read_fault unwritten_at
    fault-same Nowhere = refl
    fault-same (At a rights left) = ap (λ (b : Bool). NoRight unless readable rights then Unwritten unless b) (same a)

    read_same : (ms : List Mapping) (d : DeviceAddress) (n : ℕ) → device_read_checks ms t d n ≡ device_read_checks ms e.memory.shadow d n
    unfolding device_read_checks transfer_checks
    read_same ms d n =
        ap (λ (v : Verdict). length_check n then Range unless in_device_range d n then v) (first_fault_cong _ _ n (λ i h. fault-same (translate ms (device_offset d i))))

    host_same : (size : ℕ) (a : MemoryAddress) (n : ℕ) → host_read_checks size t a n ≡ host_read_checks size e.memory.shadow a n
    unfolding host_read_checks unwritten_in unwritten_at
    host_same size a n =
        ap (λ (v : Verdict). host_write_checks size a n then v)
        (first_fault_cong _ _ n (λ i h. ap (λ (b : Bool). Unwritten unless b) (same (memory_offset a i))))

    -- ---- what looks at bytes

    gather-same : (ms : List Mapping) (n : ℕ) (d : DeviceAddress) → gather ms (shadowed_by t e).memory d n ≡ gather ms e.memory d n
    unfolding gather byte_at shadowed_by
    gather-same ms zero d = refl
    gather-same ms (suc n) d = ap₂ ◌∷◌ refl (gather-same ms n (device_offset d 1))

    -- ---- a walk: its card reads are the same, and so the rule over them

    card-same : (ms : List Mapping) → card_read ms (shadowed_by t e).memory ≡ card_read ms e.memory
    unfolding card_read shadowed_by
    card-same ms = fun_ext (λ start. fun_ext (λ n. simp (read_same, gather-same)))

    walk_same : (queue last room : ℕ) → walk_of (shadowed_by t e) queue last room ≡ walk_of e queue last room
    unfolding walk_of shadowed_by
    walk_same queue last room =
        ap (λ (read : Reader). walk read queue (queue_value e.machine.words e.machine.registers queue) last room) (card-same e.machine.mappings)

    -- ---- requests

    listed-checks : (r : Request) (buf : List ℕ) → listed_checks r buf (shadowed_by t e) ≡ listed_checks r buf e
    unfolding listed_checks shadowed_by
    listed-checks get_api_version buf = refl
    listed-checks check_extension buf = refl
    listed-checks set_iommu buf = refl
    listed-checks get_iommu_info buf = refl
    listed-checks map_dma buf = refl
    listed-checks unmap_dma buf = refl
    listed-checks get_info buf = refl
    listed-checks get_region_info buf = refl
    listed-checks get_irq_info buf = refl
    listed-checks set_irqs buf = refl
    listed-checks reset_device buf = refl

    request-checks : (r : Option Entry) (buf : List ℕ) → request_checks r buf (shadowed_by t e) ≡ request_checks r buf e
    unfolding request_checks
    request-checks none buf = refl
    request-checks (some r) buf = rw (listed-checks r.request buf)

    listed-effect : (r : Request) (buf : List ℕ) → listed_effect r buf (shadowed_by t e) ≡ listed_effect r buf e
    unfolding listed_effect shadowed_by
    listed-effect get_api_version buf = refl
    listed-effect check_extension buf = refl
    listed-effect set_iommu buf = refl
    listed-effect get_iommu_info buf = refl
    listed-effect map_dma buf = refl
    listed-effect unmap_dma buf = refl
    listed-effect get_info buf = refl
    listed-effect get_region_info buf = refl
    listed-effect get_irq_info buf = refl
    listed-effect set_irqs buf = refl
    listed-effect reset_device buf = refl

    request-effect : (r : Option Entry) (buf : List ℕ) → request_effect r buf (shadowed_by t e) ≡ request_effect r buf e
    unfolding request_effect shadowed_by
    request-effect none buf = refl
    request-effect (some r) buf = listed-effect r.request buf

    -- ---- every call

    own_checks-same : (c : Call) (buf : List ℕ) → own_checks c buf (shadowed_by t e) ≡ own_checks c buf e
    unfolding own_checks shadowed_by
    own_checks-same (power_on card) buf = refl
    own_checks-same (request target number) buf = request-checks (identify target number) buf
    own_checks-same (look_up d) buf = refl
    own_checks-same (device_read d) buf = read_same e.machine.mappings d (length buf)
    own_checks-same (device_write d) buf = refl
    own_checks-same (host_write a) buf = refl
    own_checks-same (host_read a) buf = host_same (length e.memory.bytes) a (length buf)
    own_checks-same (invalidate a n) buf = refl
    own_checks-same (set_register kind selector) buf = refl
    own_checks-same (read_register kind selector) buf = refl
    own_checks-same (show_line index i) buf = refl
    own_checks-same (walk_queue queue last) buf = simp walk_same
    own_checks-same load_parts buf = refl
    own_checks-same save_parts buf = refl
    own_checks-same stop buf = refl
    own_checks-same start buf = refl

    effect-same : (c : Call) (buf : List ℕ) → effect c buf (shadowed_by t e) ≡ effect c buf e
    unfolding effect shadowed_by bytes_from
    effect-same (power_on card) buf = refl
    effect-same (request target number) buf = request-effect (identify target number) buf
    effect-same (look_up d) buf = refl
    effect-same (device_read d) buf = rw (gather-same e.machine.mappings (length buf) d)
    effect-same (device_write d) buf = refl
    effect-same (host_write a) buf = refl
    effect-same (host_read a) buf = refl
    effect-same (invalidate a n) buf = refl
    effect-same (set_register kind selector) buf = refl
    effect-same (read_register kind selector) buf = refl
    effect-same (show_line index i) buf = refl
    effect-same (walk_queue queue last) buf = simp walk_same
    effect-same load_parts buf = refl
    effect-same save_parts buf = refl
    effect-same stop buf = refl
    effect-same start buf = refl

    pub outcome-same : (c : Call) (buf : List ℕ) → outcome c buf (shadowed_by t e) ≡ outcome c buf e
    unfolding outcome checks shadowed_by
    outcome-same c buf = rw (usable_same (given c), own_checks-same c buf, effect-same c buf)
