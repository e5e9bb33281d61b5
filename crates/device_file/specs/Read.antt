-- The reader of device files (rules 9.4 to 9.7; the values of rules 7.52 to 7.55): the whole file is judged, record by record in file order, before anything is handed out.
use Rattle.std.specs.Prelude.{ℕ, zero, suc, ◌+◌, ◌-◌, Bool, false, not, List, [], ◌∷◌, length, leb, ltb, eqb}
use Rattle.std.proofs.Math.Option.{Option, none, some}
use Rattle.answer.specs.Tests.{pick}
use Rattle.answer.specs.Codes.{Truncated, Header, UnknownPart, Value, Magic}
use Rattle.answer.specs.Checks.{Verdict, ◌then◌, ◌when◌, ◌unless◌, ◌at◌}
use Rattle.answer.specs.Limits.{length_check}
use Rattle.answer.specs.Answer.{Answer, done, settle, ◌onward◌}
use Rattle.wire.specs.Field.{field, slice}
use Rattle.device_file.specs.Layout.{header_size, is_magic, Region, is_type, is_sub, prefix_size, region_size, fits, valid_content}

-- rule 9.7: what is handed out of a record; of a REGION its fixed content alone
pub record Record : Type 0 where
  pub type : ℕ
  pub start : ℕ
  pub content : List ℕ

-- rule 9.7: the header's fields, and the records in file order
pub record File : Type 0 where
  pub magic : ℕ
  pub version : ℕ
  pub flags : ℕ
  pub records : List Record

-- Where the reader stands: at place `p`, and in a REGION that ends at `e` where that lies ahead.
unfoldable pub in_region : ℕ → ℕ → Bool
in_region p e = ltb p e

-- rule 9.5: the end of the room around a record: that of its REGION, or of the file
unfoldable pub room_end : List ℕ → ℕ → ℕ → ℕ
room_end s p e = pick (in_region p e) e (length s)

abbrev pub type_at : List ℕ → ℕ → ℕ
type_at s p = field s p 4

abbrev pub length_at : List ℕ → ℕ → ℕ
length_at s p = field s (p + 4) 4

-- rule 9.5: whether a type stands at its level
unfoldable pub at_level : ℕ → Bool → Bool
at_level t inside = pick inside (is_sub t) (not (is_sub t))

-- rule 9.5: the checks of the record at a place, in order; 18 of a length comes before 22
unfoldable pub record_checks : List ℕ → ℕ → ℕ → Verdict
record_checks s p e =
    Truncated unless leb (p + prefix_size) (room_end s p e)
    then UnknownPart unless is_type (type_at s p)
    then Header unless at_level (type_at s p) (in_region p e)
    then Truncated when ltb (room_end s p e) (p + length_at s p)
    then Value unless fits (type_at s p) (length_at s p)
    then Value unless valid_content (type_at s p) (slice s (p + prefix_size) (length_at s p - prefix_size))

-- its start is the place of a refusal
unfoldable pub record_fault : List ℕ → ℕ → ℕ → Verdict
record_fault s p e = record_checks s p e at p

-- rule 9.7: how long a record is before its sub-records
unfoldable pub own_length : List ℕ → ℕ → ℕ
own_length s p = pick (eqb (type_at s p) Region) region_size (length_at s p)

unfoldable pub record_at : List ℕ → ℕ → Record
record_at s p = record { type = type_at s p; start = p; content = slice s (p + prefix_size) (own_length s p - prefix_size) }

-- where the REGION ends in which the next record stands, if it stands in one
unfoldable pub region_end : List ℕ → ℕ → ℕ → ℕ
region_end s p e = pick (eqb (type_at s p) Region) (p + length_at s p) e

-- rule 9.4: the file ends behind a record that stands outside, and nowhere else
unfoldable pub at_end : List ℕ → ℕ → ℕ → Bool
at_end s p e = pick (in_region p e) false (eqb p (length s))

-- The records from a place on. Each is at least 8 bytes long, so that a file has fewer than `turns` where that is its length.
unfoldable pub records_from : List ℕ → ℕ → ℕ → ℕ → Answer (List Record)
records_from s zero p e = done []
records_from s (suc turns) p e =
    pick (at_end s p e) (done [])
    (settle (record_fault s p e) (record_at s p)
    onward λ r. records_from s turns (p + own_length s p) (region_end s p e)
    onward λ rs. done (r ∷ rs))

-- rule 9.4: 13, then a header that ends early, then the magic, each at place 0
unfoldable pub header_checks : List ℕ → Verdict
header_checks s =
    length_check (length s)
    then Truncated unless leb header_size (length s)
    then Magic unless is_magic (field s 0 4)

unfoldable pub file_of : List ℕ → List Record → File
file_of s rs = record { magic = field s 0 4; version = field s 4 4; flags = field s 8 4; records = rs }

-- rules 9.4 and 9.5, whole
unfoldable pub read_file : List ℕ → Answer File
read_file s =
    settle (header_checks s) s
    onward λ s. records_from s (length s) header_size header_size
    onward λ rs. done (file_of s rs)

-- rule 9.7: record `n` of a list, the first being 0, or none past the last
unfoldable pub nth : {A : Type 0} → List A → ℕ → Option A
nth [] n = none
nth (x ∷ xs) zero = some x
nth (x ∷ xs) (suc n) = nth xs n

unfoldable pub read_record : List ℕ → ℕ → Answer (Option Record)
read_record s n = read_file s onward λ file. done (nth file.records n)
