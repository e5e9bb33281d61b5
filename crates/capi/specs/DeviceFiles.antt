-- Device files as C has them (rule 8.11): the structs of what is read and written.
use Rattle.std.specs.Prelude.{ℕ, ◌+◌, ◌≤◌, ◌≡◌, Bool, true, false, List, length, Option, None, Some}
use Rattle.answer.specs.Answer.{Answer, done, refused}
use Rattle.wire.specs.Field.{slice}
use Rattle.device_file.specs.Read.{read_record}
use Rattle.device_file.specs.Write.{Written}
use Rattle.device_file.specs.Scan.{record_of, content_of, reply_of, left_by}
use Rattle.device_file.specs.declared.Header.{Header}
use Rattle.device_file.specs.declared.Record.{Record}
use Rattle.capi.specs.Structs.{success, refusal}
use Rattle.capi.specs.declared.Outcome.{Outcome}
use Rattle.capi.specs.declared.DeviceHeader.{DeviceHeader}
use Rattle.capi.specs.declared.DeviceRecord.{DeviceRecord}
use Rattle.capi.specs.declared.WrittenFile.{WrittenFile}

-- the header, whose result is how many records there are
abbrev pub header_struct : Answer Header → DeviceHeader
header_struct (done h) = record { outcome = success h.records; magic = h.magic; version = h.version; flags = h.flags }
header_struct (refused code place) = record { outcome = refusal code place; magic = 0; version = 0; flags = 0 }

-- where no record is handed out: the file has no more, or it is refused
abbrev pub no_record : Outcome → Bool → DeviceRecord
no_record o end = record { outcome = o; end = end; kind = 0; start = 0; content_start = 0; content_length = 0 }

abbrev pub record_struct : Answer (Option Record) → DeviceRecord
record_struct (done (Some r)) =
    record {
      outcome = success 0;
      end = false;
      kind = r.kind;
      start = r.start;
      content_start = r.content_start;
      content_length = r.content_length;
    }
record_struct (done None) = no_record (success 0) true
record_struct (refused code place) = no_record (refusal code place) false

-- Record `n` of the file `s`: the bounds that are given of its content lie in the file, and between them stands the content.
pub record HandsRecord (s : List ℕ) (n : ℕ) (r : DeviceRecord) : Type 0 where
  pub answer : r ≡ record_struct (record_of (read_record s n))
  pub inside : r.content_start + r.content_length ≤ length s
  pub content : slice s r.content_start r.content_length ≡ content_of (read_record s n)

-- what a writer answers: the result is 0, and the bytes in use stand beside it
abbrev pub written_struct : Answer ℕ → WrittenFile
written_struct (done used) = record { outcome = success 0; used = used }
written_struct (refused code place) = record { outcome = refusal code place; used = 0 }

-- A writer's answer on a buffer, with the buffer as it is left.
pub record WritesFile (buf : List ℕ) (a : Answer Written) (r : WrittenFile) (buf' : List ℕ) : Type 0 where
  pub answer : r ≡ written_struct (reply_of a)
  pub buffer : buf' ≡ left_by buf a
