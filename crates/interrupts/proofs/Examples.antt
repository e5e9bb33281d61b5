-- The worked values are right: the tables compute.
use Rattle.std.proofs.Common.{refl}
use Rattle.answer.specs.Tests.{◌and◌, ◌or◌, pick}
use Rattle.answer.specs.Checks.{◌then◌, ◌when◌, ◌unless◌}
use Rattle.wire.specs.Field.{field, bytes_of}
use Rattle.interrupts.specs.Lines.{index_at, maskable, automasked, count_before, first_line, event_number, assigned, lower, stored, off, with_flags, raised, triggered, with_mask, unmasked}
use Rattle.interrupts.specs.Requests.{one_of_three, width, event_at, byte_at, disables, field_checks, any_lower, data_checks, set_checks, acted, selected, changed_line, changed_run, range_start, range_count, changed_lines}
use Rattle.interrupts.specs.Examples.{cases, Right, asked, Answered, left, Leaves}

pub cases-right : Right cases
unfolding pick event_number assigned stored with_flags raised triggered with_mask unmasked
cases-right = refl

pub asked-answered : Answered asked
unfolding ◌and◌ ◌or◌ pick ◌then◌ ◌when◌ ◌unless◌ field bytes_of index_at maskable event_number lower one_of_three width event_at disables field_checks any_lower data_checks set_checks
asked-answered = refl

pub left-right : Leaves left
unfolding ◌and◌ ◌or◌ pick field bytes_of index_at automasked count_before first_line event_number assigned stored off with_flags raised triggered event_at byte_at disables acted selected changed_line changed_run range_start range_count changed_lines
left-right = refl
