-- Laws of appending: the bytes in use, the checks of a record, and where its REGION lies.
use Prim.Native.Nat.{ℕ, ◌+◌, ◌-◌, ◌≤◌}
use native.Mathlib.Omega.{arith}
use mathlib.Core.Path.{◌≡◌, refl, sym, ◌∙◌}
use mathlib.Core.Bool.{Bool, true, false, not, true≢false}
use mathlib.Core.List.{List}
use mathlib.Core.Option.{Option, none, some}
use lib.ListN.{length, take}
use lib.Dec.{ltb}
use lib.Seq.{get_or-take, length-take-le}
use borrow.Author.Tests.{ltb-true, ltb-false, le-ltb, lt-ltb}
use Rattle.answer.specs.Tests.{◌and◌, is_some}
use Rattle.answer.proofs.Tests.{same_test}
use Rattle.answer.specs.Codes.{Header, UnknownPart, Value, NoSpace}
use Rattle.answer.specs.Checks.{Pass, Fail, ◌then◌, ◌when◌, ◌unless◌}
use Rattle.answer.specs.Limits.{transfer_limit, length_check}
use Rattle.answer.specs.Answer.{done, refused, settle, ◌onward◌}
use Rattle.answer.proofs.Checks.{then_pass, when_pass, unless_pass}
use Rattle.wire.specs.Field.{field}
use Rattle.wire.proofs.Laws.{field_cong}
use Rattle.device_file.specs.Layout.{header_size, is_type, is_sub, valid_content}
use Rattle.device_file.specs.Read.{File, read_file}
use Rattle.device_file.specs.Write.{Written, last_region, record_length, bare_fits, append_checks, appended, append_to, used_checks, read_used, append_record}
use Rattle.device_file.specs.Scan.{option_of, HasRoom}
use Rattle.device_file.proofs.Scanning.{placed}
use Rattle.device_file.proofs.Reading.{onward-done, settle-done, IsFile, file-read, Holds, last-holds}

-- ---- the bytes in use

pub used-read : (buf : List ℕ) (used : ℕ) → length buf ≤ transfer_limit → used ≤ length buf → read_used buf used ≡ read_file (take used buf)
unfolding read_used used_checks length_check settle ◌onward◌ ◌then◌ ◌when◌
used-read buf used h inside = rw (le-ltb _ _ h, le-ltb _ _ inside)

-- they read well
pub record Used (buf : List ℕ) (used : ℕ) (file : File) : Type 0 where
  pub small : length buf ≤ transfer_limit
  pub inside : used ≤ length buf
  pub reads : read_file (take used buf) ≡ done file

pub used-is : (buf : List ℕ) (used : ℕ) (file : File) → read_used buf used ≡ done file → Used buf used file
unfolding read_used used_checks length_check
used-is buf used file h =
    let a = onward-done _ _ file h in
    let c = settle-done _ _ _ a.1 in
    let d = then_pass _ _ c.0 in
    record { small = ltb-false _ _ (when_pass _ _ d.0); inside = ltb-false _ _ (when_pass _ _ d.1); reads = rw c.1 a.2 }

-- ---- the answer

pub used-fault : (buf : List ℕ) (used t : ℕ) (v : List ℕ) (code place : ℕ) → Fail code place ≡ used_checks (length buf) used → refused code place ≡ append_record buf used t v
unfolding append_record read_used settle ◌onward◌
used-fault buf used t v code place e = rw (← e)

pub append-refused : (buf : List ℕ) (used t : ℕ) (v : List ℕ) (code place : ℕ) → read_used buf used ≡ refused code place → append_record buf used t v ≡ refused code place
unfolding append_record ◌onward◌
append-refused buf used t v code place e = rw e

pub append-read : (buf : List ℕ) (used t : ℕ) (v : List ℕ) (file : File) → read_used buf used ≡ done file
    → append_record buf used t v ≡ append_to buf used (last_region file.records none) t v
unfolding append_record ◌onward◌
append-read buf used t v file e = rw e

-- ---- the checks of a record

pub record Fit (room used : ℕ) (region : Option ℕ) (t : ℕ) (v : List ℕ) : Type 0 where
  pub known : is_type t ≡ true
  pub level : (is_sub t and not (is_some region)) ≡ false
  pub size : bare_fits t (record_length v) ≡ true
  pub valid : valid_content t v ≡ true
  pub ends : used + record_length v ≤ room

-- as the code makes them: lengths are compared with what is left, so that no sum can wrap
pub checks_read : (room used : ℕ) (region : Option ℕ) (t n : ℕ) (v : List ℕ) (b : Bool) → used ≤ room → n ≡ record_length v → b ≡ (is_sub t and not (is_some region))
    → append_checks room used region t v
    ≡ (UnknownPart unless is_type t
    then Header when b
    then Value unless bare_fits t n
    then Value unless valid_content t v
    then NoSpace when ltb (room - used) n)
unfolding append_checks
checks_read room used region t n v b h e f =
    let room_is : ltb room (used + n) ≡ ltb (room - used) n = same_test _ _ (λ p. let q = ltb-true _ _ p in lt-ltb _ _ (omega arith)) (λ p. let q = ltb-true _ _ p in lt-ltb _ _ (omega arith)) in
    rw (f, ← e, room_is)

module _ (room used : ℕ) (region : Option ℕ) (t : ℕ) (v : List ℕ) where
  pub fit : append_checks room used region t v ≡ Pass → Fit room used region t v
  unfolding append_checks
  fit h =
      let a = then_pass _ _ h in
      let b = then_pass _ _ a.1 in
      let c = then_pass _ _ b.1 in
      let d = then_pass _ _ c.1 in
      record {
        known = unless_pass _ _ a.0;
        level = when_pass _ _ b.0;
        size = unless_pass _ _ c.0;
        valid = unless_pass _ _ d.0;
        ends = ltb-false _ _ (when_pass _ _ d.1);
      }

  pub fit-passes : Fit room used region t v → append_checks room used region t v ≡ Pass
  unfolding append_checks ◌then◌ ◌when◌ ◌unless◌
  fit-passes f = rw (f.known, f.level, f.size, f.valid, le-ltb _ _ f.ends)

  -- a sub-record has its REGION
  pub has_region : Fit room used region t v → is_sub t ≡ true → (g : ℕ) × (region ≡ some g)
  unfolding is_some ◌and◌
  has_region f sub = go region refl
    where
      go : (x : Option ℕ) → region ≡ x → (g : ℕ) × (region ≡ some g)
      go none e = absurd (true≢false (sym (rw (sub, e) refl) ∙ f.level))
      go (some g) e = (g, e)

-- ---- where its REGION lies

pub field-take : (l : List ℕ) (n o w : ℕ) → o + w ≤ n → field (take n l) o w ≡ field l o w
field-take l n o w h = field_cong (take n l) l o w (λ i lt. get_or-take n l (o + i) 0 (omega arith))

module _ (buf : List ℕ) (used : ℕ) (file : File) (u : Used buf used file) where
  pub used-length : length (take used buf) ≡ used
  used-length = length-take-le used buf u.inside

  pub used-file : IsFile (take used buf) file
  used-file = file-read (take used buf) file u.reads

  pub region-used : (g : ℕ) → last_region file.records none ≡ some g → Holds (take used buf) header_size g
  region-used g e = last-holds (take used buf) file g used-file e

  pub has_room : (t : ℕ) (v : List ℕ) → Fit (length buf) used (last_region file.records none) t v → HasRoom buf used (placed (last_region file.records none)) t v
  unfolding option_of
  has_room t v f = record {
    room = f.ends;
    small = u.small;
    grows = λ sub.
        let x = has_region (length buf) used _ t v f sub in
        let h = region-used x.0 x.1 in
        rw x.1 (
          omega (arith, h.fixed, used-length, u.inside),
          omega (arith, field-take buf used (x.0 + 4) 4 (omega (arith, h.fixed, used-length)), h.inside, used-length, u.inside, u.small),
        );
  }

-- ---- what an append tells

pub record IsAppend (buf : List ℕ) (used t : ℕ) (v : List ℕ) (w : Written) (file : File) : Type 0 where
  pub before : Used buf used file
  pub fit : Fit (length buf) used (last_region file.records none) t v
  pub is : appended buf used (last_region file.records none) t v ≡ w

pub append-is : (buf : List ℕ) (used t : ℕ) (v : List ℕ) (w : Written) → append_record buf used t v ≡ done w → (file : File) × IsAppend buf used t v w file
unfolding append_record append_to
append-is buf used t v w h =
    let a = onward-done _ _ w h in
    let c = settle-done _ _ w a.2 in
    (a.0, record { before = used-is buf used a.0 a.1; fit = fit _ _ _ _ _ c.0; is = c.1 })

-- a record that fits is appended
pub append_made : (buf : List ℕ) (used t : ℕ) (v : List ℕ) (file : File) → Used buf used file → Fit (length buf) used (last_region file.records none) t v
    → append_record buf used t v ≡ done (appended buf used (last_region file.records none) t v)
unfolding append_to settle
append_made buf used t v file u f =
    append-read buf used t v file (used-read buf used u.small u.inside ∙ u.reads) ∙ rw (fit-passes _ _ _ _ _ f)
