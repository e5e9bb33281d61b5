-- Laws of device transfers: what an accepted one has passed, and gather and scatter over a run and over runs one behind the other.
use Prim.Native.Nat.{ℕ, zero, suc, ◌+◌, ◌-◌, ◌≤◌, ◌<◌}
use native.Mathlib.Nat.{add-zero}
use native.Mathlib.Numerals.{add-one}
use native.Mathlib.Omega.{arith}
use mathlib.Core.Path.{◌≡◌, refl, sym, ◌∙◌, ap}
use mathlib.Core.Bool.{Bool, true, false}
use mathlib.Core.List.{List, [], ◌∷◌, ◌++◌}
use lib.ListN.{length, get_or, drop, take-append-drop}
use lib.Seq.{sets, drop-cons, drop-drop}
use borrow.Author.Tests.{le-ltb, le-leb, leb-true}
use Rattle.answer.specs.Tests.{pick}
use Rattle.answer.specs.Codes.{Unmapped, NoRight}
use Rattle.answer.specs.Checks.{Verdict, Pass, Fail, ◌then◌, ◌unless◌, first_fault}
use Rattle.answer.specs.Limits.{transfer_limit, length_check}
use Rattle.answer.proofs.Checks.{never, then_pass, then_next, when_false, unless_pass, unless_true, first_fault-all, first_fault_pass, first_fault-at}
use Rattle.wire.specs.Field.{slice}
use Rattle.wire.proofs.Laws.{sets-append, length_part}
use Rattle.address.specs.Address.{device_limit, memory_address, memory_offset, device_offset, in_device_range}
use Rattle.address.specs.declared.DeviceAddress.{DeviceAddress}
use Rattle.iommu.specs.Table.{Translation, At, Nowhere, translate, mapped, readable, writable}
use Rattle.iommu.specs.declared.Mapping.{Mapping}
use Rattle.memory.specs.Memory.{Memory, Edit, put, edited, stores, byte_at}
use Rattle.memory.specs.Shadow.{Shadow, packed}
use Rattle.memory.specs.Transfers.{unwritten_in}
use Rattle.memory.proofs.Edits.{edited-append}
use Rattle.dma.specs.Transfers.{read_fault, write_fault, transfer_checks, device_read_checks, device_write_checks, location, gather, scatter}
use Rattle.dma.specs.Walk.{Accepted, Contiguous, fault_of}
use Rattle.dma.proofs.Gather.{gather_append}

-- ---- the fault of one byte

-- of a run from `a` on
abbrev pub run_fault : Bool → Shadow → ℕ → ℕ → ℕ → ℕ → Verdict
run_fault write shadow a rights left i = fault_of write shadow (At (memory_offset (memory_address a) i) rights (left - i))

pub fault-nowhere : (write : Bool) (shadow : Shadow) → fault_of write shadow Nowhere ≡ Fail Unmapped 0
unfolding fault_of pick read_fault write_fault
fault-nowhere true shadow = refl
fault-nowhere false shadow = refl

-- a byte without a fault is mapped
fault-mapped : (write : Bool) (shadow : Shadow) (at : Translation) → fault_of write shadow at ≡ Pass → mapped at ≡ true
unfolding mapped
fault-mapped write shadow (At a rights left) h = refl
fault-mapped write shadow Nowhere h = never Unmapped 0 (sym (fault-nowhere write shadow) ∙ h)

-- ---- the first fault of a run: the rights are those of each of its bytes, and so judged once

guarded : (t : Bool) (f : ℕ → Verdict) (n : ℕ) → 0 < n → first_fault (λ i. NoRight unless t then f i) n ≡ (NoRight unless t then first_fault f n)
unfolding ◌then◌ ◌unless◌
guarded true f n some = refl
guarded false f n some = first_fault-at _ n 0 NoRight 0 some (λ i l. absurd (omega arith)) refl

unguarded : (t : Bool) (n : ℕ) → 0 < n → first_fault (λ i. NoRight unless t) n ≡ (NoRight unless t)
unfolding ◌unless◌
unguarded true n some = first_fault_pass _ n (λ i l. refl)
unguarded false n some = first_fault-at _ n 0 NoRight 0 some (λ i l. absurd (omega arith)) refl

module _ (write : Bool) (shadow : Shadow) (a n rights left : ℕ) (some : 0 < n) where
  pub written-fault : write ≡ true → first_fault (run_fault write shadow a rights left) n ≡ (NoRight unless writable rights)
  unfolding fault_of pick write_fault
  written-fault is = rw is (unguarded (writable rights) n some)

  pub read-fault : write ≡ false → first_fault (run_fault write shadow a rights left) n ≡ (NoRight unless readable rights then unwritten_in shadow (memory_address a) n)
  unfolding fault_of pick read_fault unwritten_in
  read-fault is = rw is (guarded (readable rights) _ n some)

-- ---- checks

pub checks-read : (ms : List Mapping) (shadow : Shadow) (d : DeviceAddress) (n : ℕ) → transfer_checks (fault_of false shadow) ms d n ≡ device_read_checks ms shadow d n
unfolding fault_of pick device_read_checks
checks-read ms shadow d n = refl

pub checks-write : (ms : List Mapping) (shadow : Shadow) (d : DeviceAddress) (n : ℕ) → transfer_checks (fault_of true shadow) ms d n ≡ device_write_checks ms d n
unfolding fault_of pick device_write_checks
checks-write ms shadow d n = refl

module _ (fault : Translation → Verdict) (ms : List Mapping) (d : DeviceAddress) (n : ℕ) where
  module _ (short : n ≤ transfer_limit) where
    in-length : length_check n ≡ Pass
    unfolding length_check
    in-length = when_false _ _ (le-ltb _ _ short)

    pub checks_offsets : d.0 + n ≤ device_limit → transfer_checks fault ms d n ≡ first_fault (λ i. fault (translate ms (device_offset d i))) n
    unfolding transfer_checks in_device_range
    checks_offsets h = then_next _ _ in-length ∙ then_next _ _ (unless_true _ _ (le-leb _ _ h))

accepted : (write : Bool) (shadow : Shadow) (ms : List Mapping) (d : DeviceAddress) (n : ℕ) → transfer_checks (fault_of write shadow) ms d n ≡ Pass → Accepted ms d n
unfolding transfer_checks in_device_range
accepted write shadow ms d n h =
    let behind = then_pass _ _ (then_pass _ _ h).1 in
    record { range = leb-true _ _ (unless_pass _ _ behind.0); held = λ i l. fault-mapped write shadow _ (first_fault-all _ n behind.1 i l) }

-- a transfer that passes its checks is what `read` and `write` ask for
pub read-accepted : (ms : List Mapping) (shadow : Shadow) (d : DeviceAddress) (n : ℕ) → device_read_checks ms shadow d n ≡ Pass → Accepted ms d n
read-accepted ms shadow d n h = accepted false shadow ms d n (checks-read ms shadow d n ∙ h)

pub write-accepted : (ms : List Mapping) (d : DeviceAddress) (n : ℕ) → device_write_checks ms d n ≡ Pass → Accepted ms d n
write-accepted ms d n h = accepted true (packed 0 []) ms d n (checks-write ms (packed 0 []) d n ∙ h)

-- ---- gather and scatter

pub scatter-append : (ms : List Mapping) (d : DeviceAddress) (xs ys : List ℕ)
    → scatter ms d (xs ++ ys) ≡ scatter ms d xs ++ scatter ms (device_offset d (length xs)) ys
unfolding scatter
scatter-append ms d [] ys = rw (add-zero d.0)
scatter-append ms d (x ∷ xs) ys =
    let e : d.0 + suc (length xs) ≡ d.0 + 1 + length xs = omega arith in
    rw (e, scatter-append ms (device_offset d 1) xs ys)

module _ (ms : List Mapping) (d : DeviceAddress) (a n : ℕ) (run : Contiguous ms d a (suc n)) where
  run-first : location (translate ms d) ≡ memory_address a
  run-first = rw (add-zero d.0, add-zero a) at (run 0 (omega arith))

  run-later : Contiguous ms (device_offset d 1) (a + 1) n
  run-later j h =
      let e : d.0 + suc j ≡ d.0 + 1 + j = omega arith in
      let f : a + suc j ≡ a + 1 + j = omega arith in
      rw (e, f) at (run (suc j) (omega arith))

pub gather-run : (ms : List Mapping) (m : Memory) (d : DeviceAddress) (a n : ℕ) → Contiguous ms d a n → a + n ≤ length m.bytes
    → gather ms m d n ≡ slice m.bytes a n
unfolding gather byte_at
gather-run ms m d a zero run room = refl
gather-run ms m d a (suc n) run room =
    rw (drop-cons m.bytes a 0 (omega arith), run-first ms d a n run, ← add-one a)
    (ap (λ (rest : List ℕ). get_or m.bytes a 0 ∷ rest) (gather-run ms m (device_offset d 1) (a + 1) n (run-later ms d a n run) (omega arith)))

pub scatter-run : (ms : List Mapping) (d : DeviceAddress) (a : ℕ) (xs : List ℕ) → Contiguous ms d a (length xs) → scatter ms d xs ≡ stores (memory_address a) xs
unfolding scatter stores
scatter-run ms d a [] run = refl
scatter-run ms d a (x ∷ xs) run =
    rw (run-first ms d a (length xs) run) (ap (λ (rest : List Edit). put (memory_address a) x ∷ rest) (scatter-run ms (device_offset d 1) (a + 1) xs (run-later ms d a (length xs) run)))

-- a run of a transfer that has come to offset k, and what is still to come
module _ (ms : List Mapping) (d : DeviceAddress) (k a len : ℕ) (run : Contiguous ms (device_offset d k) a len) where
  next : d.0 + (k + len) ≡ d.0 + k + len
  next = omega arith

  pub gather-more : (m : Memory) (n : ℕ) (buf : List ℕ) → k + len ≤ n → a + len ≤ length m.bytes
      → sets (sets buf k (slice m.bytes a len)) (k + len) (gather ms m (device_offset d (k + len)) (n - (k + len)))
      ≡ sets buf k (gather ms m (device_offset d k) (n - k))
  gather-more m n buf fits room =
      let e : n - k ≡ len + (n - (k + len)) = omega arith in
      rw (e, next, gather_append ms m (device_offset d k) len (n - (k + len)), gather-run ms m (device_offset d k) a len run room, sets-append, length_part m.bytes a len room)

  pub scatter-more : (m : Memory) (buf : List ℕ) → k + len ≤ length buf
      → edited (scatter ms (device_offset d (k + len)) (drop (k + len) buf)) (edited (stores (memory_address a) (slice buf k len)) m)
      ≡ edited (scatter ms (device_offset d k) (drop k buf)) m
  scatter-more m buf fits =
      let e : length (slice buf k len) ≡ len = length_part buf k len fits in
      let split : drop k buf ≡ slice buf k len ++ drop (k + len) buf =
      sym (take-append-drop len (drop k buf)) ∙ ap (λ (rest : List ℕ). slice buf k len ++ rest) (drop-drop len k buf) in
      let first : scatter ms (device_offset d k) (slice buf k len) ≡ stores (memory_address a) (slice buf k len) =
      scatter-run ms (device_offset d k) a (slice buf k len) (rw e run) in
      sym (ap (λ (xs : List ℕ). edited (scatter ms (device_offset d k) xs) m) split ∙ rw (scatter-append, edited-append, first, e, next))
