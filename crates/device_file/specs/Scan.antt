-- What the pass over a file keeps, and what the code gives for an answer.
use Rattle.std.specs.Prelude.{ℕ, ◌+◌, ◌-◌, ◌≤◌, ◌≡◌, true, List, [], length, eqb, Option as CodeOption, Some, None, Result, IfOk, IfSome}
use Rattle.std.proofs.Math.Option.{Option, none, some}
use Rattle.answer.specs.Tests.{pick}
use Rattle.answer.specs.Limits.{transfer_limit}
use Rattle.answer.specs.Answer.{Answer, done, refused, ◌onward◌, told}
use Rattle.answer.specs.declared.Refusal.{Refusal}
use Rattle.wire.specs.Field.{slice}
use Rattle.device_file.specs.Layout.{Region, is_sub, prefix_size}
use Rattle.device_file.specs.Read.{Record, File, type_at, length_at, nth, read_record}
use Rattle.device_file.specs.Write.{Written, last_region, record_length}
use Rattle.device_file.specs.Types.{own_length_of}
use Rattle.device_file.specs.declared.Cursor.{Cursor}
use Rattle.device_file.specs.declared.Notes.{Notes}
use Rattle.device_file.specs.declared.Header.{Header}
use Rattle.device_file.specs.declared.Record.{Record as FoundRecord}

-- ---- options

-- what an option of the code stands for
unfoldable pub option_in : {A : Type 0} → CodeOption A → Option A
option_in None = none
option_in (Some x) = some x

-- what the code gives for one
unfoldable pub option_of : {A B : Type 0} → (A → B) → Option A → CodeOption B
option_of f none = None
option_of f (some x) = Some (f x)

-- ---- the pass

-- what is found of the record at `p`: its type, its start and its length
pub record IsEntry (s : List ℕ) (p t start n : ℕ) : Type 0 where
  pub kind : t ≡ type_at s p
  pub here : start ≡ p
  pub long : n ≡ length_at s p

-- a cursor that lies in the file
pub record Inside (s : List ℕ) (c : Cursor) : Type 0 where
  pub here : c.at ≤ length s
  pub region : c.region_end ≤ length s

-- behind a record of type `t` and length `n` at `p`
unfoldable pub behind : ℕ → ℕ → ℕ → Cursor → Cursor
behind t p n c = record { at = p + own_length_of t n; region_end = pick (eqb t Region) (p + n) c.region_end }

-- the bounds that are given of its content
abbrev pub found_of : ℕ → ℕ → ℕ → FoundRecord
found_of t p n = record { kind = t; start = p; content_start = p + prefix_size; content_length = own_length_of t n - prefix_size }

-- with that record more; record `asked` is the one that is asked for
unfoldable pub with_entry : ℕ → ℕ → ℕ → ℕ → Notes → Notes
with_entry asked t p n notes =
    record {
      records = notes.records + 1;
      found = pick (eqb notes.records asked) (Some (found_of t p n)) notes.found;
      region = pick (is_sub t) notes.region (pick (eqb t Region) (Some p) None);
    }

-- what is given of a record of the definitions
abbrev pub handed : Record → FoundRecord
handed r = record { kind = r.type; start = r.start; content_start = r.start + prefix_size; content_length = length r.content }

-- how many records there are, record `n`, and where the last REGION begins if no other record stands outside behind it
unfoldable pub notes_of : ℕ → File → Notes
notes_of n file =
    record { records = length file.records; found = option_of handed (nth file.records n); region = option_of (λ (p : ℕ). p) (last_region file.records none) }

unfoldable pub scan_of : ℕ → Answer File → Answer Notes
scan_of n a = a onward λ file. done (notes_of n file)

-- a record has room in the buffer behind the bytes in use, and where it is a sub-record, its REGION stands there
pub record HasRoom (buf : List ℕ) (used : ℕ) (region : CodeOption ℕ) (t : ℕ) (v : List ℕ) : Type 0 where
  pub room : used + record_length v ≤ length buf
  pub small : length buf ≤ transfer_limit
  pub grows : is_sub t ≡ true → IfSome region (λ g. (g + prefix_size ≤ length buf) × (length_at buf g ≤ transfer_limit))

-- ---- what the code gives for an answer

unfoldable pub header_of : Answer File → Answer Header
header_of a = a onward λ file. done (record { records = length file.records; magic = file.magic; version = file.version; flags = file.flags })

unfoldable pub record_of : Answer (Option Record) → Answer (CodeOption FoundRecord)
record_of a = a onward λ r. done (option_of handed r)

-- the content that an answer hands out
unfoldable pub content_of : Answer (Option Record) → List ℕ
content_of (done (some r)) = r.content
content_of (done none) = []
content_of (refused code place) = []

-- a fact of the record that a result hands out, where it does
abbrev pub IfFound : Result (CodeOption FoundRecord) Refusal → (FoundRecord → Type 0) → Type 0
IfFound result P = IfOk result (λ found. IfSome found P)

-- Record `n` of the file `s`: the bounds that are given of its content lie in the file, and between them stands the content.
pub record Hands (s : List ℕ) (n : ℕ) (result : Result (CodeOption FoundRecord) Refusal) : Type 0 where
  pub answer : told result ≡ record_of (read_record s n)
  pub inside : IfFound result (λ r. r.content_start + r.content_length ≤ length s)
  pub content : IfFound result (λ r. slice s r.content_start r.content_length ≡ content_of (read_record s n))

-- how many bytes are in use
unfoldable pub reply_of : Answer Written → Answer ℕ
reply_of a = a onward λ w. done w.used

-- the buffer that a writer leaves; a refusal leaves every byte
unfoldable pub left_by : List ℕ → Answer Written → List ℕ
left_by buf (done w) = w.buffer
left_by buf (refused code place) = buf

-- A writer's answer on a buffer, as the code tells it, with the buffer as it is left.
pub record Writes (buf : List ℕ) (a : Answer Written) (said : Answer ℕ) (buf' : List ℕ) : Type 0 where
  pub answer : said ≡ reply_of a
  pub buffer : buf' ≡ left_by buf a
