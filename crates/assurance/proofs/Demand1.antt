-- The term of demand 1: the checks of every call, taken apart by the laws of proofs/Listed.antt; and what a refusal leaves.
use Prim.Native.Nat.{ℕ, zero, suc}
use mathlib.Core.Path.{◌≡◌, refl, sym, ◌∙◌, ap}
use mathlib.Core.Bool.{Bool, true, false}
use mathlib.Core.List.{List}
use mathlib.Core.Option.{Option, none, some}
use Rattle.answer.specs.Limits.{length_check}
use Rattle.answer.specs.Answer.{Answer, refused, verdict}
use Rattle.answer.specs.Checks.{Verdict, Pass, Fail}
use Rattle.iommu.specs.Requests.{translate_checks, set_iommu_checks, map_checks, unmap_checks}
use Rattle.iommu.specs.Table.{Translation, At, Nowhere}
use Rattle.iommu.specs.declared.Mapping.{Mapping}
use Rattle.memory.specs.Memory.{Memory, edited}
use Rattle.memory.specs.Shadow.{Shadow}
use Rattle.memory.specs.Transfers.{unwritten_at, unwritten_in, host_write_checks, host_read_checks, invalidate_checks}
use Rattle.dma.specs.Transfers.{read_fault, write_fault, transfer_checks, device_read_checks, device_write_checks}
use Rattle.registers.specs.File.{File}
use Rattle.registers.specs.Values.{content_checks, value_checks}
use Rattle.registers.specs.Access.{selector_checks, set_checks, read_checks}
use Rattle.parts.specs.Step.{Step, Part, End, Refused, header_checks, part_at, step_on, part_step, step_at}
use Rattle.parts.specs.Load.{Seen, listed_checks as listed_part_checks, part_checks, finish, on_step, load_from, load}
use Rattle.parts.specs.Save.{save_checks}
use Rattle.virtqueue.specs.Ring.{Reader, placed_from, card_read, readied, open_queue, in_table, described, chain, head_at, taken, near, walked, fitting, walk}
use Rattle.virtqueue.specs.declared.Queue.{Queue}
use Rattle.virtqueue.specs.declared.Descriptor.{Descriptor}
use Rattle.interrupts.specs.Requests.{set_checks as irq_checks, field_checks, data_checks, show_checks}
use Rattle.emulator.specs.Machine.{Emulator, emulator_of}
use Rattle.emulator.specs.Effect.{effect_of, outcome_of, after, filled}
use Rattle.emulator.specs.Requests.{Request, get_api_version, check_extension, set_iommu, get_iommu_info, map_dma, unmap_dma, get_info, get_region_info, get_irq_info, set_irqs, reset_device, Entry, argsz_checks, listed_checks, size_checks, request_checks}
use Rattle.emulator.specs.Calls.{Call, power_on, request, look_up, device_read, device_write, host_write, host_read, invalidate, set_register, read_register, show_line, walk_queue, load_parts, save_parts, stop, start, walk_of, own_checks, checks, effect, outcome}
use Rattle.emulator.specs.Contract.{Meets, returned, left_records}
use Rattle.emulator.specs.declared.State.{State}
use Rattle.assurance.specs.Demand1.{Listed, step_verdict, Unchanged, Demand1}
use Rattle.assurance.proofs.Answers.{refused_fails}
use Rattle.assurance.proofs.Listed.{at_listed, settle-listed, done-listed, onward-listed, pick_either, listing}

-- ---- requests

argsz-listed : (t : Bool) (size : ℕ) (buf : List ℕ) → Listed (argsz_checks t size buf)
unfolding argsz_checks
argsz-listed false size buf = search listing
argsz-listed true size buf = search listing

listed_listed : (q : Request) (buf : List ℕ) (e : Emulator) → Listed (listed_checks q buf e)
unfolding listed_checks set_iommu_checks map_checks unmap_checks irq_checks field_checks data_checks
listed_listed get_api_version buf e = search listing
listed_listed check_extension buf e = search listing
listed_listed set_iommu buf e = search listing
listed_listed get_iommu_info buf e = search listing
listed_listed map_dma buf e = search listing depth 10
listed_listed unmap_dma buf e = search listing depth 10
listed_listed get_info buf e = search listing
listed_listed get_region_info buf e = search listing
listed_listed get_irq_info buf e = search listing
listed_listed set_irqs buf e = search listing depth 12
listed_listed reset_device buf e = search listing

request-listed : (o : Option Entry) (buf : List ℕ) (e : Emulator) → Listed (request_checks o buf e)
unfolding size_checks request_checks
request-listed none buf e = search listing
request-listed (some r) buf e = search (listing, argsz-listed, listed_listed)

-- ---- transfers

read_fault-listed : (shadow : Shadow) (t : Translation) → Listed (read_fault shadow t)
unfolding read_fault unwritten_at
read_fault-listed shadow (At a rights left) = search listing
read_fault-listed shadow Nowhere = search listing

write_fault-listed : (t : Translation) → Listed (write_fault t)
unfolding write_fault
write_fault-listed (At a rights left) = search listing
write_fault-listed Nowhere = search listing

-- ---- registers and streams

value-listed : (w i : ℕ) (twice : Bool) (v : List ℕ) → Listed (value_checks w i twice v)
unfolding value_checks content_checks
value-listed w i twice v = search listing depth 10

on_listed : (v : Verdict) (part : Step) → Listed v → Listed (step_verdict part) → Listed (step_verdict (step_on v part))
unfolding step_on step_verdict
on_listed Pass part h k = k
on_listed (Fail code place) part h k = h

step-listed : (s : List ℕ) (p : ℕ) → Listed (step_verdict (step_at s p))
unfolding step_at part_step header_checks part_at step_verdict
step-listed s p =
    let P : Step → Type 0 = λ x. Listed (step_verdict x) in
    pick_either P _ _ _ (search listing) (pick_either P _ _ _ (search listing) (on_listed _ _ (search listing depth 10) (search listing)))

part-listed : (w : ℕ) (twice : Bool) (kind flags selector : ℕ) (v : List ℕ) → Listed (part_checks w twice kind flags selector v)
unfolding part_checks listed_part_checks
part-listed w twice kind flags selector v = search (listing, value-listed) depth 10

finish-listed : (seen : Seen) (p : ℕ) → Listed (verdict (finish seen p))
unfolding finish
finish-listed seen p = settle-listed _ _ (search listing)

on_step-listed : (w : ℕ) (more : ℕ → Seen → Answer File) → ((p : ℕ) (seen : Seen) → Listed (verdict (more p seen)))
    → (s : List ℕ) (p : ℕ) (seen : Seen) (x : Step) → Listed (step_verdict x) → Listed (verdict (on_step w more s p seen x))
unfolding on_step step_verdict verdict
on_step-listed w more rest s p seen End h = finish-listed seen p
on_step-listed w more rest s p seen (Refused code place) h = h
on_step-listed w more rest s p seen (Part kind flags selector next) h =
    onward-listed _ _ (settle-listed _ _ (at_listed _ p (part-listed w _ kind flags selector _))) (rest next)

load_from-listed : (w fuel : ℕ) (s : List ℕ) (p : ℕ) (seen : Seen) → Listed (verdict (load_from w fuel s p seen))
unfolding load_from verdict
load_from-listed w zero s p seen = search listing
load_from-listed w (suc fuel) s p seen = on_step-listed w (load_from w fuel s) (load_from-listed w fuel s) s p seen _ (step-listed s p)

load-listed : (w : ℕ) (running : Bool) (s : List ℕ) → Listed (verdict (load w running s))
unfolding load length_check
load-listed w running s = onward-listed _ _ (settle-listed _ _ (search listing)) (load_from-listed w _ s 0)

-- ---- walks, over a reader that refuses by listed numbers

placed-listed : (from : ℕ) (v : Verdict) → Listed v → Listed (placed_from from v)
unfolding placed_from Listed
placed-listed from Pass h = h
placed-listed from (Fail code offset) h = h

card-listed : (ms : List Mapping) (m : Memory) (from n : ℕ) → Listed (verdict (card_read ms m from n))
unfolding card_read device_read_checks transfer_checks length_check
card-listed ms m from n = settle-listed _ _ (placed-listed from _ (search (listing, read_fault-listed)))

open_listed : (queue : ℕ) (v : Option (List ℕ)) → Listed (verdict (open_queue queue v))
unfolding open_queue
open_listed queue v = onward-listed _ _ (settle-listed _ _ (search listing)) ready
  where
    ready : (v : Option (List ℕ)) → Listed (verdict (readied v))
    ready none = unfold readied in settle-listed _ _ (search listing)
    ready (some x) = unfold readied in settle-listed _ _ (search listing)

module _ (read : Reader) (reads : (from n : ℕ) → Listed (verdict (read from n))) where
  module _ (q : Queue) where
    in-table-listed : (heads d : ℕ) → Listed (verdict (in_table q heads d))
    unfolding in_table
    in-table-listed heads d = settle-listed _ _ (search listing)

    described-listed : (heads d : ℕ) → Listed (verdict (described read q heads d))
    unfolding described
    described-listed heads d = onward-listed _ _ (reads _ 16) (λ b. settle-listed _ _ (search listing))

    chain-listed : (heads more d : ℕ) → Listed (verdict (chain read q heads more d))
    unfolding chain
    chain-listed heads zero d = onward-listed _ _ (described-listed heads d) (λ x. settle-listed _ _ (search listing))
    chain-listed heads (suc more) d =
        onward-listed _ _ (described-listed heads d)
        (λ x. pick_either (λ (a : Answer (List Descriptor)). Listed (verdict a)) _ _ _ (onward-listed _ _ (in-table-listed heads _) (λ e. onward-listed _ _ (chain-listed heads more e) (λ xs. done-listed _))) (done-listed _))

    taken-listed : (n heads i : ℕ) → Listed (verdict (taken read q n heads i))
    unfolding taken head_at
    taken-listed zero heads i = done-listed _
    taken-listed (suc n) heads i =
        onward-listed _ _ (onward-listed _ _ (reads _ 2) (λ b. in-table-listed heads _))
        (λ h. onward-listed _ _ (chain-listed heads _ h) (λ xs. onward-listed _ _ (taken-listed n _ _) (λ ys. done-listed _)))

    walked-listed : (last : ℕ) → Listed (verdict (walked read q last))
    unfolding walked near
    walked-listed last =
        onward-listed _ _ (reads _ 2)
        (λ b. onward-listed _ _ (settle-listed _ _ (search listing)) (λ index. onward-listed _ _ (taken-listed _ 0 last) (λ xs. done-listed _)))

  walk-listed : (queue : ℕ) (v : Option (List ℕ)) (last room : ℕ) → Listed (verdict (walk read queue v last room))
  unfolding walk fitting
  walk-listed queue v last room = onward-listed _ _ (open_listed queue v) (λ q. onward-listed _ _ (walked-listed q last) (λ w. settle-listed _ _ (search listing)))

-- ---- every call

own_checks-listed : (c : Call) (buf : List ℕ) (e : Emulator) → Listed (own_checks c buf e)
unfolding own_checks translate_checks device_read_checks device_write_checks transfer_checks length_check host_write_checks host_read_checks unwritten_in unwritten_at invalidate_checks set_checks selector_checks read_checks show_checks save_checks walk_of
own_checks-listed (power_on card) buf e = search listing
own_checks-listed (request target number) buf e = request-listed _ buf e
own_checks-listed (look_up d) buf e = search listing
own_checks-listed (device_read d) buf e = search (listing, read_fault-listed)
own_checks-listed (device_write d) buf e = search (listing, write_fault-listed)
own_checks-listed (host_write a) buf e = search listing
own_checks-listed (host_read a) buf e = search listing
own_checks-listed (invalidate a n) buf e = search listing
own_checks-listed (set_register kind selector) buf e = search (listing, value-listed) depth 10
own_checks-listed (read_register kind selector) buf e = search listing depth 10
own_checks-listed (show_line index i) buf e = search listing
own_checks-listed (walk_queue queue last) buf e = walk-listed _ (card-listed e.machine.mappings e.memory) queue _ last _
own_checks-listed load_parts buf e = load-listed _ _ buf
own_checks-listed save_parts buf e = search listing
own_checks-listed stop buf e = search listing
own_checks-listed start buf e = search listing

checks-listed : (c : Call) (buf : List ℕ) (e : Emulator) → Listed (checks c buf e)
unfolding checks
checks-listed c buf e = search (listing, own_checks-listed)

-- ---- refusals

unchanged : (c : Call) (buf : List ℕ) (e : Emulator) (code place : ℕ) → (outcome c buf e).answer ≡ refused code place → Unchanged buf e (outcome c buf e).effect
unfolding outcome outcome_of effect_of filled after edited
unchanged c buf e code place h =
    rw (refused_fails c buf e code place h) (record { pieces = refl; edits = refl; machine = refl; buffer = refl; emulator = refl })

kept : (c : Call) (buf buf' : List ℕ) (s s' : State) (rs rs' : List Mapping) (m m' : Memory) (code place : ℕ) → Meets c buf s rs m (refused code place) buf' m' s' rs'
    → (buf' ≡ buf) × (m' ≡ m) × (s' ≡ s) × (rs' ≡ rs)
unfolding returned left_records after emulator_of
kept c buf buf' s s' rs rs' m m' code place h =
    let e : Emulator = emulator_of s rs m in
    let u = unchanged c buf e code place (sym h.answer) in
    let fails = refused_fails c buf e code place (sym h.answer) in
    (h.buffer ∙ u.buffer, h.memory ∙ ap (λ (x : Emulator). x.memory) u.emulator, h.state ∙ rw fails, h.records ∙ rw fails)

pub demand1 : Demand1
unfolding outcome outcome_of
demand1 = record { listed = λ c buf e. settle-listed _ _ (checks-listed c buf e); unchanged = unchanged; kept = kept; steps = step-listed }
