-- The worked values are right: the tables compute.
use mathlib.Core.Path.{refl}
use borrow.Author.Tests.{lt-ltb}
use Rattle.answer.specs.Tests.{◌and◌, ◌or◌, pick, is_some}
use Rattle.answer.specs.Checks.{◌then◌, ◌when◌, ◌unless◌, ◌at◌}
use Rattle.answer.specs.Limits.{length_check}
use Rattle.answer.specs.Answer.{settle, ◌onward◌}
use Rattle.wire.specs.Field.{field, bytes_of}
use Rattle.device_file.specs.Layout.{is_magic, is_type, is_sub, least_length, fits, valid_content}
use Rattle.device_file.specs.Read.{in_region, room_end, at_level, record_checks, record_fault, own_length, record_at, region_end, at_end, records_from, header_checks, file_of, read_file}
use Rattle.device_file.specs.Write.{start_checks, started, start_file, last_region, record_length, bare_fits, append_checks, grown, encoded, appended, append_to, used_checks, read_used, append_record}
use Rattle.device_file.specs.Examples.{readings, Answered, Limited, writings, Given}

pub readings-right : Answered readings
unfolding ◌and◌ ◌or◌ pick ◌then◌ ◌when◌ ◌unless◌ ◌at◌ length_check settle ◌onward◌ field bytes_of is_magic is_type is_sub least_length fits valid_content in_region room_end at_level record_checks record_fault own_length record_at region_end at_end records_from header_checks file_of read_file
readings-right = refl

pub limited : Limited
unfolding read_file header_checks length_check settle ◌onward◌ ◌then◌ ◌when◌
limited s h = rw (lt-ltb _ _ h)

pub writings-right : Given writings
unfolding ◌and◌ ◌or◌ pick is_some ◌then◌ ◌when◌ ◌unless◌ ◌at◌ length_check settle ◌onward◌ field bytes_of is_magic is_type is_sub least_length fits valid_content in_region room_end at_level record_checks record_fault own_length record_at region_end at_end records_from header_checks file_of read_file start_checks started start_file last_region record_length bare_fits append_checks grown encoded appended append_to used_checks read_used append_record
writings-right = refl
