-- A run against the ledger.
use Prim.Native.Nat.{ℕ, zero, suc, ◌+◌, ◌≤◌, ◌<◌}
use native.Mathlib.Nat.{add-zero, le_of_suc-le-suc, not-suc-le-zero}
use native.Mathlib.Omega.{arith}
use mathlib.Core.Path.{◌≡◌, refl, sym, ◌∙◌, ap, subst}
use mathlib.Core.Bool.{Bool, true, false}
use mathlib.Core.List.{List, [], ◌∷◌}
use mathlib.Core.Option.{Option, none, some}
use lib.ListN.{length, get_or, drop, length-drop}
use lib.Seq.{sets, length-take-le, get_or-take, get_or-drop}
use borrow.Author.Tests.{eqb-true}
use Rattle.answer.specs.Tests.{◌and◌, pick}
use Rattle.answer.specs.Answer.{Answer, done, refused, settle, ◌onward◌, verdict, result_or}
use Rattle.answer.specs.Checks.{Verdict, Pass, Fail}
use Rattle.answer.proofs.Tests.{and_true}
use Rattle.answer.proofs.Checks.{never, then_pass, when_pass, unless_pass}
use Rattle.address.specs.Address.{device_address, memory_address, device_offset, memory_offset}
use Rattle.address.specs.declared.DeviceAddress.{DeviceAddress}
use Rattle.wire.specs.Field.{slice}
use Rattle.wire.proofs.Laws.{sets-all}
use Rattle.iommu.specs.Table.{Translation, At, Nowhere, type1v2, holds, translate, removed}
use Rattle.iommu.specs.Requests.{map_checks}
use Rattle.iommu.specs.declared.Mapping.{Mapping}
use Rattle.iommu.proofs.Lookup.{find, located, unless, translate-find, Apart, find-insert, free-find, find-without, without-apart, removed-same, sound-apart}
use Rattle.memory.specs.Shadow.{initialized, marks, shadow_length}
use Rattle.memory.specs.Memory.{Memory, edited, byte_at, bytes_from}
use Rattle.memory.proofs.Marks.{initialized-below}
use Rattle.dma.specs.Transfers.{read_fault, write_fault, device_read_checks, device_write_checks, location, gather}
use Rattle.dma.proofs.Gather.{gather-length}
use Rattle.virtqueue.specs.Ring.{placed_from, card_read, Walked, numbers_of}
use Rattle.virtqueue.proofs.Laws.{never_done, walk-fits, walk-follows}
use Rattle.registers.specs.declared.Card.{Card}
use Rattle.emulator.specs.Machine.{Machine, Emulator, both, usable, lendable, sound, sound_mappings, powered_on, with_mappings, with_registers, with_running, with_iommu_type, with_lines}
use Rattle.emulator.specs.Effect.{Result, value, Effect, Outcome, effect_of, outcome_of, after, filled}
use Rattle.emulator.specs.Requests.{Request, get_api_version, check_extension, set_iommu, get_iommu_info, map_dma, unmap_dma, get_info, get_region_info, get_irq_info, set_irqs, reset_device, Entry, identify, requested_mapping, requested_start, requested_size, listed_checks, size_checks, request_checks, listed_effect, request_effect}
use Rattle.emulator.specs.Calls.{Call, power_on, request, look_up, device_read, device_write, host_write, host_read, invalidate, set_register, read_register, show_line, walk_queue, load_parts, save_parts, stop, start, given, input, walk_of, own_checks, checks, effect, probes_of, outcome}
use Rattle.assurance.specs.Overwrite.{mask}
use Rattle.assurance.specs.Runs.{Ask, Others, Event, written, disturbed, lent_to, event, turn, run}
use Rattle.assurance.specs.Ledger.{Bytes, Ledger, empty, ledger_after_request, ledger_after_listed, ledger_after, input_bytes, fed, held_at, FilledBy, or_refused, held_read, Owed, OwedIf, Follows}
use Rattle.assurance.proofs.Overwrite.{length-overwrite, overwrite_overwrite, length-mask, get_or-kept, front-taken}
use Rattle.assurance.proofs.Blind.{seen, blind, first, shift, read-clear, host_read-passed, transfer_passed}
use Rattle.assurance.proofs.Agreement.{mask-over, mask-lent}
use Rattle.assurance.proofs.Books.{Holds, stores-holds, scatter-holds, clears-holds, cleared_outside}

-- the ledger has the IOMMU type, holds each written byte, and finds each device address in the mapping where the table does
record Books (l : Ledger) (e : Emulator) : Type 0 where
  kind : e.machine.iommu_type ≡ l.iommu_type
  bytes : Holds l.byte e.memory
  maps : (d : DeviceAddress) → find e.machine.mappings d ≡ find l.mappings d
  apart : Apart l.mappings

translates : (l : Ledger) (e : Emulator) → Books l e → (d : DeviceAddress) → translate e.machine.mappings d ≡ translate l.mappings d
translates l e h d =
    translate-find e.machine.mappings d ∙ ap (located d) (h.maps d) ∙ sym (translate-find l.mappings d)

-- ---- others

books_disturbed : (l : Ledger) (w : Others) (room : ℕ) (e : Emulator) → Books l e → Books l (disturbed w room e)
unfolding disturbed byte_at written
books_disturbed l w room e h =
    record {
      kind = h.kind;
      bytes = record {
        level = length-overwrite _ _ e.memory.bytes ∙ h.bytes.level;
        bytes = λ k p. rw (get_or-kept (written e.memory) w.memory e.memory.bytes k.0 p) (h.bytes.bytes k p);
      };
      maps = h.maps;
      apart = h.apart;
    }

-- ---- the books after each call, accepted

usable-apart : (e : Emulator) → usable both e ≡ true → Apart e.machine.mappings
unfolding usable sound sound_mappings
usable-apart e h = sound-apart _ _ (and_true _ _ (and_true _ _ (and_true _ _ (and_true _ _ h).1).0).1).1

module _ (l : Ledger) (e : Emulator) (buf : List ℕ) (h : Books l e) where
  listed_books : (q : Request) → Apart e.machine.mappings → listed_checks q buf e ≡ Pass → Books (ledger_after_request q buf l) (after (listed_effect q buf e) e)
  unfolding ledger_after_request listed_effect listed_checks after edited with_mappings with_registers with_iommu_type with_lines Apart find map_checks
  listed_books get_api_version a ok = h
  listed_books check_extension a ok = h
  listed_books set_iommu a ok = record { kind = refl; bytes = h.bytes; maps = h.maps; apart = h.apart }
  listed_books get_iommu_info a ok = h
  listed_books map_dma a ok =
      let m : Mapping = requested_mapping buf in
      let free = when_pass _ _ (then_pass _ _ (then_pass _ _ (then_pass _ _ (then_pass _ _ (then_pass _ _ ok).1).1).1).1).0 in
      record {
        kind = h.kind;
        bytes = h.bytes;
        maps = λ d. find-insert m e.machine.mappings free d ∙ ap (λ (o : Option Mapping). pick (holds m d) (some m) o) (h.maps d);
        apart = ((λ d p. sym (h.maps d) ∙ free-find m e.machine.mappings free d p), h.apart);
      }
  listed_books unmap_dma a ok =
      let test : Mapping → Bool = removed e.machine.iommu_type e.machine.mappings (requested_start buf) (requested_size buf) in
      let same : removed l.iommu_type l.mappings (requested_start buf) (requested_size buf) ≡ test =
      rw h.kind (sym (removed-same l.iommu_type e.machine.mappings l.mappings a h.apart h.maps (requested_start buf) (requested_size buf))) in
      rw same
      record {
        kind = h.kind;
        bytes = h.bytes;
        maps = λ d. find-without test e.machine.mappings a d ∙ ap (unless test) (h.maps d) ∙ sym (find-without test l.mappings h.apart d);
        apart = without-apart test l.mappings h.apart;
      }
  listed_books get_info a ok = h
  listed_books get_region_info a ok = h
  listed_books get_irq_info a ok = h
  listed_books set_irqs a ok = record { kind = h.kind; bytes = h.bytes; maps = h.maps; apart = h.apart }
  listed_books reset_device a ok = record { kind = h.kind; bytes = h.bytes; maps = h.maps; apart = h.apart }

  request_books : (o : Option Entry) → Apart e.machine.mappings → request_checks o buf e ≡ Pass → Books (ledger_after_listed o buf l) (after (request_effect o buf e) e)
  unfolding ledger_after_listed request_effect size_checks request_checks
  request_books none a ok = never _ _ ok
  request_books (some r) a ok = listed_books r.request a (then_pass _ _ ok).1

books_after : (c : Call) (l : Ledger) (e : Emulator) (buf : List ℕ) → Books l e → usable (given c) e ≡ true → own_checks c buf e ≡ Pass
    → Books (ledger_after c buf l) (after (effect c buf e) e)
unfolding given ledger_after effect own_checks after edited find Apart empty powered_on with_registers with_running device_write_checks
books_after (power_on card) l e buf h good ok =
    record {
      kind = refl;
      bytes = clears-holds l.byte (λ a. none) (memory_address 0) (length e.memory.bytes) e.memory h.bytes
          (λ k p q. absurd (q (omega arith) (omega (arith, initialized-below e.memory.shadow k p, h.bytes.level))));
      maps = λ d. refl;
      apart = tt;
    }
books_after (request target number) l e buf h good ok = request_books l e buf h (identify target number) (usable-apart e good) ok
books_after (look_up d) l e buf h good ok = h
books_after (device_read d) l e buf h good ok = h
books_after (device_write d) l e buf h good ok =
    record {
      kind = h.kind;
      bytes = scatter-holds buf l.byte e.memory e.machine.mappings l.mappings d (translates l e h) (transfer_passed write_fault _ d (length buf) ok) h.bytes;
      maps = h.maps;
      apart = h.apart;
    }
books_after (host_write a) l e buf h good ok = record { kind = h.kind; bytes = stores-holds buf l.byte e.memory a h.bytes; maps = h.maps; apart = h.apart }
books_after (host_read a) l e buf h good ok = h
books_after (invalidate a n) l e buf h good ok =
    record {
      kind = h.kind;
      bytes = clears-holds l.byte _ a n e.memory h.bytes (λ k p q. cleared_outside a k n l.byte q);
      maps = h.maps;
      apart = h.apart;
    }
books_after (set_register kind selector) l e buf h good ok = record { kind = h.kind; bytes = h.bytes; maps = h.maps; apart = h.apart }
books_after (read_register kind selector) l e buf h good ok = h
books_after (show_line index i) l e buf h good ok = record { kind = h.kind; bytes = h.bytes; maps = h.maps; apart = h.apart }
books_after (walk_queue queue last) l e buf h good ok = h
books_after load_parts l e buf h good ok = record { kind = h.kind; bytes = h.bytes; maps = h.maps; apart = h.apart }
books_after save_parts l e buf h good ok = h
books_after stop l e buf h good ok = record { kind = h.kind; bytes = h.bytes; maps = h.maps; apart = h.apart }
books_after start l e buf h good ok = record { kind = h.kind; bytes = h.bytes; maps = h.maps; apart = h.apart }

-- ---- what an accepted read puts into the buffer

gather-at : (ms : List Mapping) (m : Memory) (n : ℕ) (d : DeviceAddress) (i : ℕ) → i < n → get_or (gather ms m d n) i 0 ≡ byte_at m (location (translate ms (device_offset d i)))
unfolding gather
gather-at ms m zero d i h = absurd (not-suc-le-zero h)
gather-at ms m (suc n) d zero h = rw add-zero
gather-at ms m (suc n) d (suc i) h =
    let e : d.0 + 1 + i ≡ d.0 + suc i = omega arith in
    rw (← e) (gather-at ms m n (device_offset d 1) i (le_of_suc-le-suc h))

-- a device address that may be read: the ledger holds its byte
read_held : (l : Ledger) (m : Memory) (t : Translation) → Holds l.byte m → read_fault m.shadow t ≡ Pass → held_at l t ≡ some (byte_at m (location t))
unfolding held_at location read_fault
read_held l m Nowhere h e = never _ _ e
read_held l m (At a rights left) h e = h.bytes a (read-clear m.shadow (At a rights left) e)

-- card reads and the ledger's: what the one accepts the other gives
held-gather : (l : Ledger) (e : Emulator) → Books l e → (n : ℕ) (d : DeviceAddress) → let ms = e.machine.mappings in
    ((i : ℕ) → i < n → read_fault e.memory.shadow (translate ms (device_offset d i)) ≡ Pass) → held_read l d.0 n ≡ done (gather ms e.memory d n)
unfolding held_read gather or_refused ◌onward◌
held-gather l e h zero d ok = refl
held-gather l e h (suc n) d ok =
    let P : DeviceAddress → Type 0 = λ x. read_fault e.memory.shadow (translate e.machine.mappings x) ≡ Pass in
    rw (← translates l e h d, read_held l e.memory _ h.bytes (first P d n ok), held-gather l e h n (device_offset d 1) (shift P d n ok))

card-held : (l : Ledger) (e : Emulator) → Books l e → (from n : ℕ) (bs : List ℕ) → card_read e.machine.mappings e.memory from n ≡ done bs → held_read l from n ≡ done bs
unfolding card_read placed_from settle device_read_checks
card-held l e h from n bs is = go (device_read_checks e.machine.mappings e.memory.shadow (device_address from) n) refl is
  where
    go : (v : Verdict) → device_read_checks e.machine.mappings e.memory.shadow (device_address from) n ≡ v
        → settle (placed_from from v) (gather e.machine.mappings e.memory (device_address from) n) ≡ done bs → held_read l from n ≡ done bs
    go Pass ok k = held-gather l e h n (device_address from) (transfer_passed _ e.machine.mappings (device_address from) n ok) ∙ k
    go (Fail code place) ok k = never_done k

passed-done : {R : Type 0} (a : Answer R) → verdict a ≡ Pass → (x : R) × (a ≡ done x)
unfolding verdict
passed-done (done x) h = (x, refl)
passed-done (refused code place) h = never code place h

walk-owed : (queue last : ℕ) (l : Ledger) (e : Emulator) (buf lent : List ℕ) → length lent ≡ length buf → Books l e → (x : Walked) → walk_of e queue last (length buf) ≡ done x
    → Owed l (walk_queue queue last) (length buf) (effect (walk_queue queue last) buf e).result (filled (effect (walk_queue queue last) buf e).pieces lent) e.machine
unfolding Owed effect filled result_or walk_of
walk-owed queue last l e buf lent p h x is =
    rw is
    record {
      finds = x;
      rule = walk-follows _ (held_read l) (card-held l e h) queue _ last (length buf) x is;
      told = refl;
      front = front-taken lent (numbers_of x.buffers) (omega (arith, walk-fits _ queue _ last (length buf) x is));
    }

filled-by : (held : ℕ → Option ℕ) (lent out : List ℕ) (n : ℕ) → length lent ≡ n → length out ≡ n
    → ((i : ℕ) → i < n → held i ≡ some (get_or out i 0)) → FilledBy held n (sets lent 0 out)
filled-by held lent out n e f h = rw (sets-all lent out (f ∙ sym e)) (record { whole = f; each = h })

owed : (c : Call) (l : Ledger) (e : Emulator) (buf lent : List ℕ) → length lent ≡ length buf → Books l e → own_checks c buf e ≡ Pass
    → Owed l c (length buf) (effect c buf e).result (filled (effect c buf e).pieces lent) (effect c buf e).machine
unfolding Owed effect own_checks filled device_read_checks bytes_from byte_at
owed (power_on card) l e buf lent p h ok = tt
owed (request target number) l e buf lent p h ok = tt
owed (look_up d) l e buf lent p h ok = tt
owed (device_read d) l e buf lent p h ok =
    let ms : List Mapping = e.machine.mappings in
    filled-by _ lent (gather ms e.memory d (length buf)) (length buf) p (gather-length ms e.memory d (length buf))
    (λ i q. rw (gather-at ms e.memory (length buf) d i q, ← translates l e h (device_offset d i))
    (read_held l e.memory _ h.bytes (transfer_passed _ ms d (length buf) ok i q)))
owed (device_write d) l e buf lent p h ok = tt
owed (host_write a) l e buf lent p h ok = tt
owed (host_read a) l e buf lent p h ok =
    let r = host_read-passed _ _ a (length buf) ok in
    let bytes : List ℕ = e.memory.bytes in
    filled-by _ lent (slice bytes a.0 (length buf)) (length buf) p
    (length-take-le (length buf) (drop a.0 bytes) (omega (arith, length-drop a.0 bytes)))
    (λ i q. rw (get_or-take (length buf) (drop a.0 bytes) i 0 q, get_or-drop a.0 bytes i 0) (h.bytes.bytes (memory_offset a i) (r.1 i q)))
owed (invalidate a n) l e buf lent p h ok = tt
owed (set_register kind selector) l e buf lent p h ok = tt
owed (read_register kind selector) l e buf lent p h ok = tt
owed (show_line index i) l e buf lent p h ok = tt
owed (walk_queue queue last) l e buf lent p h ok = let r = passed-done _ ok in walk-owed queue last l e buf lent p h r.0 r.1
owed load_parts l e buf lent p h ok = tt
owed save_parts l e buf lent p h ok = tt
owed stop l e buf lent p h ok = tt
owed start l e buf lent p h ok = tt

-- ---- runs

-- the call is what it is on its input bytes alone
pub lent-outcome : (w : Others) (q : Ask) (e : Emulator) → outcome q.call (lent_to w q) e ≡ outcome q.call (input_bytes q) e
unfolding input_bytes mask
lent-outcome w q e =
    sym (blind q.call (lent_to w q) e)
    ∙ ap (λ (l : List ℕ). outcome q.call l (seen e)) (mask-lent w q ∙ sym (mask-over q.call (λ i. 0) q.buffer))
    ∙ blind q.call (mask (input q.call q.buffer) q.buffer) e

-- one call, by its verdict
call-follows : (q : Ask) (l : Ledger) (e : Emulator) (lent : List ℕ) → length lent ≡ length q.buffer → Books l e
    → (v : Verdict) → checks q.call (input_bytes q) e ≡ v → (o : Outcome) → o ≡ outcome_of v (effect q.call (input_bytes q) e) e.machine (probes_of q.call e.machine.mappings)
    → OwedIf o.answer l q.call (length q.buffer) (filled o.effect.pieces lent) o.effect.machine × Books (fed o.answer q l) (after o.effect e)
unfolding checks outcome_of effect_of settle OwedIf fed after edited input_bytes
call-follows q l e lent p h Pass ok o is =
    let c : Call = q.call in
    let n : length (mask (input c q.buffer) q.buffer) ≡ length q.buffer = length-mask (input c q.buffer) q.buffer in
    let t = then_pass _ _ ok in
    rw is (
      subst (λ (k : ℕ). Owed l c k (effect c (mask (input c q.buffer) q.buffer) e).result (filled (effect c (mask (input c q.buffer) q.buffer) e).pieces lent) (effect c (mask (input c q.buffer) q.buffer) e).machine) n (owed c l e (mask (input c q.buffer) q.buffer) lent (p ∙ sym n) h t.1),
      books_after c l e (mask (input c q.buffer) q.buffer) h (unless_pass _ _ t.0) t.1,
    )
call-follows q l e lent p h (Fail code place) ok o is = rw is (tt, h)

turn-follows : (l : Ledger) (q : Ask) (w : Others) (e : Emulator) → Books l e
    → OwedIf (turn w q e).outcome.answer l q.call (length q.buffer) (turn w q e).buffer (turn w q e).left.machine × Books (fed (turn w q e).outcome.answer q l) (turn w q e).left
unfolding turn event outcome outcome_of lent_to after
turn-follows l q w e h =
    call-follows q l (disturbed w q.room e) (lent_to w q) (length-overwrite _ _ q.buffer) (books_disturbed l w q.room e h) _ refl _ (lent-outcome w q (disturbed w q.room e))

follows : (l : Ledger) (e : Emulator) → Books l e → (qs : List Ask) (w : ℕ → Others) → Follows l qs (run e qs w)
unfolding run Follows
follows l e h [] w = tt
follows l e h (q ∷ qs) w =
    let r = turn-follows l q (w 0) e h in
    (r.0, follows (fed (turn (w 0) q e).outcome.answer q l) (turn (w 0) q e).left r.1 qs (λ n. w (suc n)))

-- ---- a fresh start: whatever memory held, nothing of it is written

-- any emulator whose memory can be lent, with no mapping, agrees with a ledger of its own bytes
unfoldable own_ledger : Memory → Ledger
own_ledger m = record { iommu_type = type1v2; mappings = []; byte = λ a. some (byte_at m a) }

fresh_books : (card : Card) (e : Emulator) → usable (given (power_on card)) e ≡ true → Books empty (after (effect (power_on card) [] e) e)
unfolding usable lendable shadow_length given effect own_ledger find Apart ledger_after after powered_on own_checks
fresh_books card e good =
    let level : length e.memory.bytes ≡ marks e.memory.shadow = sym (eqb-true _ _ (and_true _ _ (and_true _ _ (and_true _ _ good).0).0).0) in
    let bare : Emulator = record { memory = e.memory; room = e.room; machine = powered_on card 0 } in
    let own : Books (own_ledger e.memory) bare = record { kind = refl; bytes = record { level = level; bytes = λ k p. refl }; maps = λ d. refl; apart = tt } in
    let r = books_after (power_on card) (own_ledger e.memory) bare [] own good refl in
    record { kind = r.kind; bytes = r.bytes; maps = r.maps; apart = r.apart }

-- a refused fresh start does not answer with a result
fresh-by : (card : Card) (e : Emulator) (v : Verdict) → checks (power_on card) [] e ≡ v → settle v (value 0) ≡ done (value 0)
    → Books empty (after (effect_of v (effect (power_on card) [] e) e.machine) e)
unfolding checks settle effect_of
fresh-by card e Pass p h = fresh_books card e (unless_pass _ _ (then_pass _ _ p).0)
fresh-by card e (Fail code place) p h = absurd (let z : ◌≡◌ {A = ℕ} 0 1 = cc in omega arith)

pub following : (card : Card) (e : Emulator) → (outcome (power_on card) [] e).answer ≡ done (value 0) → (qs : List Ask) (w : ℕ → Others)
    → Follows empty qs (run (after (outcome (power_on card) [] e).effect e) qs w)
unfolding outcome outcome_of effect
following card e ok qs w = follows empty _ (fresh-by card e _ refl ok) qs w
