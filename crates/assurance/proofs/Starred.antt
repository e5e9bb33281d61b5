-- The worked values hold: one test that is computed over the whole table, and the law that a passed test is the statement.
use Prim.Native.Nat.{ℕ}
use mathlib.Core.Path.{◌≡◌, refl, ◌∙◌, ap, ap₂}
use mathlib.Core.Bool.{Bool, true, false, false≢true}
use mathlib.Core.List.{List, [], ◌∷◌, ◌++◌}
use lib.Dec.{eqb}
use borrow.Author.Tests.{eqb-true}
use Rattle.answer.specs.Tests.{◌and◌, ◌or◌, pick, is_some}
use Rattle.answer.specs.Limits.{length_check}
use Rattle.answer.specs.Checks.{◌then◌, ◌when◌, ◌unless◌, ◌at◌, first_fault, passes}
use Rattle.answer.specs.Answer.{Answer, done, refused, settle, ◌onward◌, verdict, result_or}
use Rattle.answer.proofs.Tests.{and_true}
use Rattle.address.specs.Address.{memory_address, aligned, in_device_range, in_memory_range}
use Rattle.address.specs.declared.MemoryAddress.{MemoryAddress}
use Rattle.wire.specs.Field.{field, bytes_of}
use Rattle.iommu.specs.Table.{is_iommu_type, holds, address_in, left_in, translate, mapped, valid_rights, readable, aligned_mapping, in_range, sound_mapping, sound_mappings_from, sound_table, touches, inside, begins_in, sticks_out, any_of, overlaps, cuts, blocked, removed, insert, without, total_size}
use Rattle.iommu.specs.Halving.{middle_of, probed, searched, halved, probes_for}
use Rattle.iommu.specs.Requests.{set_iommu_checks, map_checks, unmap_checks, translate_checks}
use Rattle.memory.specs.Shadow.{initialized, marked, shadow_length}
use Rattle.bitmap.specs.Bits.{bit, with_bit}
use Rattle.memory.specs.Memory.{edit, edited, stores, clears, byte_at as memory_byte}
use Rattle.memory.specs.Transfers.{unwritten_at, host_write_checks}
use Rattle.dma.specs.Transfers.{read_fault, transfer_checks, device_read_checks, location as place_of, gather}
use Rattle.virtqueue.specs.Ring.{capped, placed_from, card_read, queue_of, readied, open_queue, descriptor_of, goes_on, is_indirect, in_table, described, chain, next_index, distance, head_at, taken as taken_heads, near, walked as walked_by, numbers_of, fitting, walk}
use Rattle.registers.specs.Cards.{words_of, is_card}
use Rattle.registers.specs.Rows.{kind_of, selector_of, width_of, size_in, size_of, row_from, row_of, selects, listed, selector_width}
use Rattle.registers.specs.Values.{offered_word, offered, each_word, within, power_of_two, valid_queue, content_checks, value_checks}
use Rattle.registers.specs.File.{current, with_value, reset, sound_value, sound_values_from, sound_file}
use Rattle.registers.specs.Access.{selector_checks, set_checks, set_to}
use Rattle.parts.specs.Step.{value_size, header_checks, part_at, step_on, part_step, step_at, value_to}
use Rattle.parts.specs.Load.{flags_of, listed_checks as listed_part_checks, part_checks, named, taken, finish, on_step, load_from, load}
use Rattle.parts.specs.Save.{encoded, part_of, saved_from, saved, save_checks}
use Rattle.interrupts.specs.Lines.{index_at, maskable, automasked, count_before, first_line, event_number, assigned, lower, sound_lines, stored, off, with_flags, raised, triggered, with_mask, unmasked, disabled_lines}
use Rattle.interrupts.specs.Requests.{one_of_three, width, event_at, byte_at, disables, field_checks, any_lower, data_checks, set_checks as irq_checks, acted, selected, changed_line, changed_run, range_start, range_count, changed_lines, show_checks, line_at}
use Rattle.interrupts.specs.declared.Line.{Line}
use Rattle.emulator.specs.Machine.{lendable_records, sound_mappings, sound_length, sound_card, sound_iommu_type, sound_interrupts, sound_registers, sound, lendable, as_noted, usable, powered_on, with_mappings, with_registers, with_iommu_type, with_lines}
use Rattle.emulator.specs.Effect.{Result, value, location, line, walked, effect_of, carried, outcome_of, after, filled}
use Rattle.emulator.specs.Requests.{entry_in, identify, region_at, requested_type, requested_mapping, requested_start, requested_size, requested_index, argsz_checks, listed_checks, size_checks, request_checks, listed_effect, request_effect}
use Rattle.emulator.specs.Calls.{given, walk_of, own_checks, checks, located, effect, probes_of, outcome}
use Rattle.assurance.specs.Starred.{lent_records, Case, Right, AllRight, none, more, outcome_to, behind, outcome_in, map_at, unmap_buffer, unmap_at, set_iommu_to, set_irqs_to, two_mappings, set_queue, describe, offers, two_heads, long_chain, status_part, offered_part, offered_part128, region_seven, cases, Starred}

-- ---- the test, and that it tells

same_result : Result → Result → Bool
same_result (value m) (value n) = eqb m n
same_result (value m) (location b s k) = false
same_result (location a r l) (value n) = false
same_result (location a r l) (location b s k) = eqb a.0 b.0 and eqb r s and eqb l k
same_result (line l) (line k) = eqb l.number k.number and eqb l.tally k.tally and eqb l.masked k.masked and eqb l.pending k.pending
same_result (line l) (value n) = false
same_result (line l) (location b s k) = false
same_result (value m) (line k) = false
same_result (location a r l) (line k) = false
same_result (walked m i) (walked n j) = eqb m n and eqb i j
same_result (walked m i) (value n) = false
same_result (walked m i) (location b s k) = false
same_result (walked m i) (line k) = false
same_result (value m) (walked n j) = false
same_result (location a r l) (walked n j) = false
same_result (line l) (walked n j) = false

same_answer : Answer Result → Answer Result → Bool
same_answer (done r) (done s) = same_result r s
same_answer (done r) (refused d q) = false
same_answer (refused c p) (done s) = false
same_answer (refused c p) (refused d q) = eqb c d and eqb p q

same_bytes : List ℕ → List ℕ → Bool
same_bytes [] [] = true
same_bytes [] (y ∷ ys) = false
same_bytes (x ∷ xs) [] = false
same_bytes (x ∷ xs) (y ∷ ys) = eqb x y and same_bytes xs ys

same_line : (l k : Line) → l.number ≡ k.number → l.tally ≡ k.tally → l.masked ≡ k.masked → l.pending ≡ k.pending → line l ≡ line k
same_line l k n t m p =
    ap₂ (λ (a b : ℕ). line (record { number = a; tally = b; masked = l.masked; pending = l.pending })) n t
    ∙ ap₂ (λ (a b : ℕ). line (record { number = k.number; tally = k.tally; masked = a; pending = b })) m p

same-result : (r s : Result) → same_result r s ≡ true → r ≡ s
unfolding same_result
same-result (value m) (value n) h = ap value (eqb-true m n h)
same-result (value m) (location b s k) h = absurd (false≢true h)
same-result (location a r l) (value n) h = absurd (false≢true h)
same-result (location a r l) (location b s k) h =
    let p = and_true _ _ h in
    let q = and_true _ _ p.0 in
    rw (eqb-true r s q.1, eqb-true l k p.1) (ap (λ (x : MemoryAddress). location x s k) (ap memory_address (eqb-true a.0 b.0 q.0)))
same-result (line l) (line k) h =
    let p = and_true _ _ h in
    let q = and_true _ _ p.0 in
    let r = and_true _ _ q.0 in
    same_line l k (eqb-true l.number k.number r.0) (eqb-true l.tally k.tally r.1) (eqb-true l.masked k.masked q.1) (eqb-true l.pending k.pending p.1)
same-result (line l) (value n) h = absurd (false≢true h)
same-result (line l) (location b s k) h = absurd (false≢true h)
same-result (value m) (line k) h = absurd (false≢true h)
same-result (location a r l) (line k) h = absurd (false≢true h)
same-result (walked m i) (walked n j) h = ap₂ walked (eqb-true m n (and_true _ _ h).0) (eqb-true i j (and_true _ _ h).1)
same-result (walked m i) (value n) h = absurd (false≢true h)
same-result (walked m i) (location b s k) h = absurd (false≢true h)
same-result (walked m i) (line k) h = absurd (false≢true h)
same-result (value m) (walked n j) h = absurd (false≢true h)
same-result (location a r l) (walked n j) h = absurd (false≢true h)
same-result (line l) (walked n j) h = absurd (false≢true h)

same_answer_lem : (a b : Answer Result) → same_answer a b ≡ true → a ≡ b
unfolding same_answer
same_answer_lem (done r) (done s) h = ap done (same-result r s h)
same_answer_lem (done r) (refused d q) h = absurd (false≢true h)
same_answer_lem (refused c p) (done s) h = absurd (false≢true h)
same_answer_lem (refused c p) (refused d q) h = ap₂ refused (eqb-true c d (and_true _ _ h).0) (eqb-true p q (and_true _ _ h).1)

same_bytes_lem : (l m : List ℕ) → same_bytes l m ≡ true → l ≡ m
unfolding same_bytes
same_bytes_lem [] [] h = refl
same_bytes_lem [] (y ∷ ys) h = absurd (false≢true h)
same_bytes_lem (x ∷ xs) [] h = absurd (false≢true h)
same_bytes_lem (x ∷ xs) (y ∷ ys) h = ap₂ ◌∷◌ (eqb-true x y (and_true _ _ h).0) (same_bytes_lem xs ys (and_true _ _ h).1)

right : Case → Bool
right c =
    same_answer (outcome_in c).answer c.answer and eqb (outcome_in c).probes c.probes
    and same_bytes (filled (outcome_in c).effect.pieces c.ask.buffer) c.leaves

all_right : List Case → Bool
all_right [] = true
all_right (c ∷ cs) = right c and all_right cs

is_right : (c : Case) → right c ≡ true → Right c
unfolding right
is_right c h =
    let p = and_true _ _ h in
    let q = and_true _ _ p.0 in
    record { answer = same_answer_lem _ _ q.0; probes = eqb-true _ _ q.1; buffer = same_bytes_lem _ _ p.1 }

all_right_lem : (cs : List Case) → all_right cs ≡ true → AllRight cs
unfolding all_right
all_right_lem [] h = none
all_right_lem (c ∷ cs) h = more (is_right c (and_true _ _ h).0) (all_right_lem cs (and_true _ _ h).1)

-- ---- the test passes

tested : all_right cases ≡ true
unfolding same_result same_answer same_bytes right all_right lent_records outcome_to behind outcome_in map_at unmap_buffer unmap_at set_iommu_to set_irqs_to two_mappings status_part offered_part offered_part128 region_seven cases ◌and◌ ◌or◌ pick is_some length_check ◌then◌ ◌when◌ ◌unless◌ ◌at◌ first_fault passes settle ◌onward◌ verdict result_or is_iommu_type aligned in_device_range in_memory_range field bytes_of holds address_in translate mapped valid_rights readable aligned_mapping in_range sound_mapping sound_mappings_from sound_table touches inside begins_in sticks_out any_of overlaps cuts blocked removed insert without total_size set_iommu_checks map_checks unmap_checks initialized marked bit with_bit shadow_length edit edited stores clears unwritten_at host_write_checks read_fault transfer_checks device_read_checks kind_of selector_of width_of size_in size_of row_from row_of selects listed selector_width offered_word offered each_word within power_of_two valid_queue content_checks value_checks current with_value reset sound_value sound_values_from sound_file selector_checks set_checks value_size header_checks part_at step_on part_step step_at value_to flags_of listed_part_checks part_checks named taken finish on_step load_from load encoded part_of saved_from saved save_checks lendable_records sound_mappings sound_length words_of is_card sound_card sound_iommu_type sound_registers sound lendable as_noted usable powered_on with_mappings with_registers with_iommu_type effect_of outcome_of after filled entry_in identify region_at requested_type requested_mapping requested_start requested_size requested_index argsz_checks listed_checks size_checks request_checks listed_effect request_effect given own_checks checks effect outcome left_in translate_checks located carried probes_of middle_of probed searched halved probes_for with_lines sound_interrupts index_at maskable automasked count_before first_line event_number assigned lower sound_lines stored off with_flags raised triggered with_mask unmasked disabled_lines one_of_three width event_at byte_at disables field_checks any_lower data_checks irq_checks acted selected changed_line changed_run range_start range_count changed_lines show_checks line_at set_queue describe offers two_heads long_chain capped placed_from card_read queue_of readied open_queue descriptor_of goes_on is_indirect in_table described chain next_index distance head_at taken_heads near walked_by numbers_of fitting walk memory_byte place_of gather walk_of set_to
tested = refl

pub starred : Starred
starred = all_right_lem cases tested
