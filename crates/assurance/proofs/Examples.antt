-- The two worked runs are as stated: computed.
use mathlib.Core.Path.{refl}
use mathlib.Core.List.{◌++◌}
use Rattle.answer.specs.Tests.{◌and◌, ◌or◌, pick, is_some}
use Rattle.answer.specs.Limits.{length_check}
use Rattle.answer.specs.Checks.{◌then◌, ◌when◌, ◌unless◌, ◌at◌, first_fault, passes}
use Rattle.answer.specs.Answer.{settle}
use Rattle.address.specs.Address.{in_memory_range}
use Rattle.wire.specs.Field.{field, bytes_of}
use Rattle.iommu.specs.Table.{is_iommu_type, sound_mappings_from, sound_table}
use Rattle.memory.specs.Shadow.{initialized, marked, shadow_length}
use Rattle.bitmap.specs.Bits.{bit, with_bit}
use Rattle.memory.specs.Memory.{edit, edited, stores, clears, bytes_from}
use Rattle.memory.specs.Transfers.{unwritten_at, unwritten_in, host_write_checks, host_read_checks, invalidate_checks}
use Rattle.registers.specs.Cards.{words_of, is_card}
use Rattle.registers.specs.Rows.{kind_of, width_of, size_in, size_of}
use Rattle.registers.specs.Values.{content_checks, value_checks}
use Rattle.registers.specs.File.{current, with_value, reset, sound_value, sound_values_from, sound_file}
use Rattle.interrupts.specs.Lines.{index_at, sound_lines, event_number, lower, stored, off, disabled_lines}
use Rattle.emulator.specs.Machine.{lendable_records, sound_mappings, sound_length, sound_card, sound_iommu_type, sound_registers, sound, lendable, as_noted, usable, powered_on, sound_interrupts}
use Rattle.emulator.specs.Effect.{effect_of, outcome_of, after, filled}
use Rattle.emulator.specs.Requests.{data_of, entry_in, identify, in_fields, input_of, requested_index, argsz_checks, listed_checks, size_checks, request_checks, listed_effect, request_effect}
use Rattle.emulator.specs.Calls.{given, input, own_checks, checks, effect, outcome}
use Rattle.assurance.specs.Overwrite.{overwrite}
use Rattle.assurance.specs.Runs.{written, disturbed, lent_to, event, turn, run}
use Rattle.assurance.specs.Examples.{filled_with, noise, calls, answers_of, buffers_of, expected_answers, expected_buffers, WorkedRuns}

pub worked : WorkedRuns
unfolding filled_with noise calls answers_of buffers_of expected_answers expected_buffers overwrite written disturbed lent_to event turn run given input own_checks checks effect outcome ◌and◌ ◌or◌ pick is_some length_check ◌then◌ ◌when◌ ◌unless◌ ◌at◌ first_fault passes settle in_memory_range field bytes_of sound_mappings_from sound_table initialized marked bit with_bit shadow_length edit edited stores clears bytes_from unwritten_at unwritten_in host_write_checks host_read_checks invalidate_checks kind_of width_of size_in size_of content_checks value_checks current with_value reset sound_value sound_values_from sound_file sound_mappings sound_length words_of is_card is_iommu_type sound_card sound_iommu_type sound_registers sound lendable as_noted usable lendable_records powered_on effect_of outcome_of after filled entry_in identify in_fields data_of input_of index_at requested_index argsz_checks listed_checks size_checks request_checks listed_effect request_effect sound_interrupts sound_lines event_number lower stored off disabled_lines
worked = record { first = refl; first-buffers = refl; second = refl; second-buffers = refl }
