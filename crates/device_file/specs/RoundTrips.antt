-- What reader and writer are to each other (rules 9.11 to 9.13).
use Rattle.std.specs.Prelude.{ℕ, ◌≤◌, ◌<◌, ◌^◌, ◌≡◌, List, [], ◌∷◌, ◌++◌, length, get_or, take, drop}
use Rattle.answer.specs.Limits.{transfer_limit}
use Rattle.answer.specs.Answer.{Answer, done, refused, ◌onward◌}
use Rattle.device_file.specs.Read.{Record, File, read_file}
use Rattle.device_file.specs.Write.{Written, start_file, append_record}

-- the bytes in use
abbrev pub in_use : Written → List ℕ
in_use w = take w.used w.buffer

-- each element is a byte
abbrev pub Bytes : List ℕ → Type 0
Bytes l = (j : ℕ) → get_or l j 0 < 256

abbrev pub with_records : File → List Record → File
with_records file rs = record { magic = file.magic; version = file.version; flags = file.flags; records = rs }

-- rule 9.11: what is written reads back the same. A file that was started has its header and no record; a record that was appended is the
-- last, behind those that were there, which are the same.
pub record ReadsBack : Type 0 where
  pub start : (buf : List ℕ) (magic version flags : ℕ) (w : Written) → version < 2 ^ 32 → flags < 2 ^ 32 → start_file buf magic version flags ≡ done w
      → read_file (in_use w) ≡ done (record { magic = magic; version = version; flags = flags; records = [] })
  pub append : (buf : List ℕ) (used t : ℕ) (v : List ℕ) (w : Written) (file : File) → read_file (take used buf) ≡ done file → append_record buf used t v ≡ done w
      → read_file (in_use w) ≡ done (with_records file (file.records ++ (record { type = t; start = used; content = v } ∷ [])))

-- the records of a file appended one by one
unfoldable pub append_all : Answer Written → List Record → Answer Written
append_all a [] = a
append_all a (r ∷ rs) = append_all (a onward λ w. append_record w.buffer w.used r.type r.content) rs

-- rule 9.12: what is read writes back the same bytes. A file that reads well, started and appended record by record in a buffer that has room
-- for it, is that file; what stands behind it in the buffer stays.
pub record WritesBack : Type 0 where
  pub same : (s buf : List ℕ) (file : File) → Bytes s → read_file s ≡ done file → length s ≤ length buf → length buf ≤ transfer_limit
      → append_all (start_file buf file.magic file.version file.flags) file.records ≡ done (record { buffer = s ++ drop (length s) buf; used = length s })

-- two answers of a writer on buffers that may differ behind the bytes in use: the same refusal, or the same bytes in use, and all behind them as
-- each buffer had it
unfoldable pub Alike : List ℕ → List ℕ → Answer Written → Answer Written → Type 0
Alike buf buf' (refused code place) b = b ≡ refused code place
Alike buf buf' (done w) (refused code place) = ⊥
Alike buf buf' (done w) (done w') =
    (w'.used ≡ w.used) × (in_use w' ≡ in_use w) × (drop w.used w.buffer ≡ drop w.used buf) × (drop w.used w'.buffer ≡ drop w.used buf')

-- rule 9.13: nothing but arguments, lengths and the bytes in use decides what is answered and written
pub record Blind : Type 0 where
  pub start : (buf buf' : List ℕ) (magic version flags : ℕ) → length buf ≡ length buf' → Alike buf buf' (start_file buf magic version flags) (start_file buf' magic version flags)
  pub append : (buf buf' : List ℕ) (used t : ℕ) (v : List ℕ) → length buf ≡ length buf' → take used buf ≡ take used buf'
      → Alike buf buf' (append_record buf used t v) (append_record buf' used t v)
