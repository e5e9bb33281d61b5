-- The writer of device files (rules 9.8 to 9.10; the values of rules 7.57 to 7.59). Bytes that `sets` does not write stay.
use Rattle.std.specs.Prelude.{ℕ, ◌+◌, Bool, not, List, [], ◌∷◌, ◌++◌, length, take, ltb, eqb}
use Rattle.std.proofs.Math.Option.{Option, none, some}
use Rattle.std.proofs.lemmas.List.Edits.{sets}
use Rattle.answer.specs.Tests.{◌and◌, pick, is_some}
use Rattle.answer.specs.Codes.{Truncated, Header, UnknownPart, Value, NoSpace, Magic}
use Rattle.answer.specs.Checks.{Verdict, ◌then◌, ◌when◌, ◌unless◌}
use Rattle.answer.specs.Limits.{length_check}
use Rattle.answer.specs.Answer.{Answer, settle, ◌onward◌}
use Rattle.wire.specs.Field.{bytes_of}
use Rattle.device_file.specs.Layout.{header_size, is_magic, Region, is_type, is_sub, prefix_size, region_size, fits, valid_content}
use Rattle.device_file.specs.Read.{Record, File, length_at, read_file}

-- what a writer leaves: the buffer, and how many bytes of it are in use
pub record Written : Type 0 where
  pub buffer : List ℕ
  pub used : ℕ

-- rule 9.8: starting a file in a buffer of `room` bytes
unfoldable pub start_checks : ℕ → ℕ → Verdict
start_checks room magic =
    length_check room
    then Magic unless is_magic magic
    then NoSpace when ltb room header_size

unfoldable pub started : List ℕ → ℕ → ℕ → ℕ → Written
started buf magic version flags =
    record { buffer = sets buf 0 (bytes_of 4 magic ++ bytes_of 4 version ++ bytes_of 4 flags); used = header_size }

unfoldable pub start_file : List ℕ → ℕ → ℕ → ℕ → Answer Written
start_file buf magic version flags = settle (start_checks (length buf) magic) (started buf magic version flags)

-- rule 9.9: where the last record that stands outside begins, if it is a REGION
unfoldable pub last_region : List Record → Option ℕ → Option ℕ
last_region [] region = region
last_region (r ∷ rs) region =
    last_region rs (pick (is_sub r.type) region (pick (eqb r.type Region) (some r.start) none))

-- rule 9.9: the length that the record has, with its type and length before the content
unfoldable pub record_length : List ℕ → ℕ
record_length v = prefix_size + length v

-- rule 9.9: the length of a bare record; a REGION is given without sub-records
unfoldable pub bare_fits : ℕ → ℕ → Bool
bare_fits t n = pick (eqb t Region) (eqb n region_size) (fits t n)

-- rule 9.9: the record's own checks, where the bytes in use read well, and `region` is where a sub-record's REGION begins
unfoldable pub append_checks : ℕ → ℕ → Option ℕ → ℕ → List ℕ → Verdict
append_checks room used region t v =
    UnknownPart unless is_type t
    then Header when is_sub t and not (is_some region)
    then Value unless bare_fits t (record_length v)
    then Value unless valid_content t v
    then NoSpace when ltb room (used + record_length v)

-- rule 9.10: a sub-record's length is added to that of its REGION
unfoldable pub grown : List ℕ → Option ℕ → ℕ → ℕ → List ℕ
grown buf none t n = buf
grown buf (some region) t n = pick (is_sub t) (sets buf (region + 4) (bytes_of 4 (length_at buf region + n))) buf

-- rule 9.3: a record's bytes
unfoldable pub encoded : ℕ → List ℕ → List ℕ
encoded t v = bytes_of 4 t ++ bytes_of 4 (record_length v) ++ v

unfoldable pub appended : List ℕ → ℕ → Option ℕ → ℕ → List ℕ → Written
appended buf used region t v =
    record { buffer = sets (grown buf region t (record_length v)) used (encoded t v); used = used + record_length v }

unfoldable pub append_to : List ℕ → ℕ → Option ℕ → ℕ → List ℕ → Answer Written
append_to buf used region t v = settle (append_checks (length buf) used region t v) (appended buf used region t v)

-- rule 9.9: 13, then 18 at 0 where the bytes in use go past the buffer
unfoldable pub used_checks : ℕ → ℕ → Verdict
used_checks room used =
    length_check room
    then Truncated when ltb room used

-- rule 9.9: behind those, the reader's refusal of the bytes in use
unfoldable pub read_used : List ℕ → ℕ → Answer File
read_used buf used = settle (used_checks (length buf) used) (take used buf) onward read_file

-- rule 9.9, whole: behind those, the record's own checks, at place 0
unfoldable pub append_record : List ℕ → ℕ → ℕ → List ℕ → Answer Written
append_record buf used t v = read_used buf used onward λ file. append_to buf used (last_region file.records none) t v
