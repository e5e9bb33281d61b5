-- Laws of what is handed out of a file.
use Prim.Native.Nat.{ℕ, ◌+◌, ◌-◌, ◌≤◌}
use native.Mathlib.Omega.{arith}
use mathlib.Core.Path.{◌≡◌, refl, sym, ◌∙◌, ap}
use mathlib.Core.List.{List}
use mathlib.Core.Option.{Option, none, some}
use lib.ListN.{length}
use Rattle.std.proofs.Common.{Option as CodeOption, Result, Ok, Err}
use Rattle.answer.specs.Answer.{Answer, done, refused, ◌onward◌, number_of}
use Rattle.answer.specs.declared.Refusal.{Refusal}
use Rattle.wire.specs.Field.{slice}
use Rattle.wire.proofs.Laws.{length_part}
use Rattle.device_file.specs.Layout.{header_size, prefix_size}
use Rattle.device_file.specs.Read.{Record, File, own_length, record_at, read_file, nth, read_record}
use Rattle.device_file.specs.Scan.{option_in, option_of, handed, notes_of, scan_of, record_of, content_of, Hands}
use Rattle.device_file.specs.declared.Notes.{Notes}
use Rattle.device_file.specs.declared.Record.{Record as FoundRecord}
use Rattle.device_file.proofs.Scanning.{header-whole, placed}
use Rattle.device_file.proofs.Reading.{refused≢done, same-done, file-read, Lies, nth-lies}

-- ---- what the pass tells

pub scan-refused : (n : ℕ) (a : Answer File) (code place : ℕ) → refused code place ≡ scan_of n a → a ≡ refused code place
unfolding scan_of ◌onward◌
scan-refused n (done file) code place e = refused≢done code place _ e
scan-refused n (refused code' place') code place e = cc

pub record Passed (n : ℕ) (a : Answer File) (notes : Notes) : Type 0 where
  pub file : File
  pub is : a ≡ done file
  pub noted : notes ≡ notes_of n file

pub scan-passed : (n : ℕ) (a : Answer File) (notes : Notes) → done notes ≡ scan_of n a → Passed n a notes
unfolding scan_of ◌onward◌
scan-passed n (done file) notes e = record { file = file; is = refl; noted = same-done notes (notes_of n file) e }
scan-passed n (refused code place) notes e = refused≢done code place notes (sym e)

-- ---- a record

pub hands_refused : (s : List ℕ) (n : ℕ) (r : Result (CodeOption FoundRecord) Refusal) (e : Refusal) → r ≡ Err e → read_file s ≡ refused (number_of e.reason) e.place → Hands s n r
unfolding read_record record_of ◌onward◌
hands_refused s n r e is h = rw is (record { answer = rw h; inside = tt; content = tt })

module _ (s : List ℕ) (n : ℕ) (file : File) (e : read_file s ≡ done file) where
  lies : (r : Record) → nth file.records n ≡ some r → Lies s header_size r
  lies r is = let f = file-read s file e in nth-lies s file.records n header_size header_size r (header-whole s f.header) f.all is

  -- what is handed out of a record is the content that the file has there
  module _ (r : Record) (is : nth file.records n ≡ some r) where
    long : length r.content ≡ own_length s r.start - prefix_size
    unfolding record_at
    long =
        let l = lies r is in
        ap (λ (r : Record). length r.content) l.is ∙ length_part s (r.start + prefix_size) (own_length s r.start - prefix_size) (omega (arith, l.least, l.inside))

    inside : r.start + prefix_size + length r.content ≤ length s
    inside = let l = lies r is in omega (arith, long, l.least, l.inside)

    content : slice s (r.start + prefix_size) (length r.content) ≡ r.content
    unfolding record_at
    content = rw long (sym (ap (λ (r : Record). r.content) (lies r is).is))

  pub hands_done : Hands s n (Ok (option_of handed (nth file.records n)))
  unfolding read_record record_of content_of option_of ◌onward◌
  hands_done = go (nth file.records n) refl
    where
      go : (x : Option Record) → nth file.records n ≡ x → Hands s n (Ok (option_of handed x))
      go none f = record { answer = rw (e, f); inside = tt; content = tt }
      go (some r) f = record { answer = rw (e, f); inside = inside r f; content = rw (e, f) (content r f) }

-- ---- the REGION that a file ends in

pub region-back : (region : Option ℕ) → option_in (placed region) ≡ region
unfolding option_in option_of
region-back none = refl
region-back (some g) = refl
