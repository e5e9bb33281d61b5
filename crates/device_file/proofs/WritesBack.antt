-- What is read writes back the same bytes (rule 9.12).
use Prim.Native.Nat.{ℕ, zero, suc, ◌+◌, ◌-◌, ◌/◌, ◌^◌, ◌≤◌, ◌<◌}
use native.Mathlib.Omega.{arith}
use mathlib.Core.Path.{◌≡◌, refl, sym, ◌∙◌, ap}
use mathlib.Core.Bool.{Bool, true, false, not}
use mathlib.Core.List.{List, [], ◌∷◌, ◌++◌, append-nil}
use mathlib.Core.Option.{Option, none, some}
use lib.ListN.{length, set, take, drop, take-append-drop}
use lib.Seq.{sets, length-sets, append_snoc, drop-drop, get_or-drop}
use lib.Dec.{eqb}
use borrow.Author.Tests.{eqb-true, eq-eqb}
use Rattle.answer.specs.Tests.{◌and◌, pick, is_some}
use Rattle.answer.specs.Limits.{transfer_limit}
use Rattle.answer.specs.Answer.{done, settle, ◌onward◌}
use Rattle.wire.specs.Field.{bytes_of, slice}
use Rattle.wire.proofs.Laws.{field_lt, length_part}
use Rattle.device_file.specs.Layout.{header_size, is_magic, Region, is_sub, prefix_size, region_size, fits, valid_content}
use Rattle.device_file.specs.Read.{Record, File, type_at, length_at, own_length, record_at, region_end, file_of, read_file}
use Rattle.device_file.specs.Write.{Written, started, start_file, last_region, record_length, bare_fits, grown, encoded, appended, append_record}
use Rattle.device_file.specs.RoundTrips.{in_use, Bytes, with_records, append_all, WritesBack}
use Rattle.device_file.proofs.Records.{level_in, level_out, region-valid, Good, own-region, own-other, end-other, own, own-inside, region-inside}
use Rattle.device_file.proofs.Scanning.{header-whole, header-magic}
use Rattle.device_file.proofs.Reading.{Reads, IsFile, file-read}
use Rattle.device_file.proofs.Writing.{start_made}
use Rattle.device_file.proofs.Appending.{Used, Fit, append_made, used-length, region-used}
use Rattle.device_file.proofs.Lists.{take-written, drop-written}
use Rattle.device_file.proofs.Growth.{used-after, rest-after, length-after}
use Rattle.device_file.proofs.Kept.{ended}
use Rattle.device_file.proofs.ReadsBack.{new, after, header-long, append-reads, reads-back}
use Rattle.device_file.proofs.Unique.{unique}

-- ---- what is written is bytes

bytes-number : (w x : ℕ) → Bytes (bytes_of w x)
unfolding bytes_of
bytes-number zero x j = omega arith
bytes-number (suc w) x zero = omega arith
bytes-number (suc w) x (suc j) = bytes-number w (x / 256) j

bytes-append : (l m : List ℕ) → Bytes l → Bytes m → Bytes (l ++ m)
bytes-append [] m a b j = b j
bytes-append (x ∷ l) m a b zero = a zero
bytes-append (x ∷ l) m a b (suc j) = bytes-append l m (λ j. a (suc j)) b j

bytes-set : (l : List ℕ) (o x : ℕ) → Bytes l → x < 256 → Bytes (set l o x)
bytes-set [] o x a b j = omega arith
bytes-set (y ∷ l) zero x a b zero = b
bytes-set (y ∷ l) zero x a b (suc j) = a (suc j)
bytes-set (y ∷ l) (suc o) x a b zero = a zero
bytes-set (y ∷ l) (suc o) x a b (suc j) = bytes-set l o x (λ j. a (suc j)) b j

bytes-sets : (l : List ℕ) (o : ℕ) (xs : List ℕ) → Bytes l → Bytes xs → Bytes (sets l o xs)
bytes-sets l o [] a b = a
bytes-sets l o (x ∷ xs) a b = bytes-sets (set l o x) (suc o) xs (bytes-set l o x a (b zero)) (λ j. b (suc j))

bytes_take : (n : ℕ) (l : List ℕ) → Bytes l → Bytes (take n l)
bytes_take zero l a j = omega arith
bytes_take (suc n) [] a j = omega arith
bytes_take (suc n) (x ∷ l) a zero = a zero
bytes_take (suc n) (x ∷ l) a (suc j) = bytes_take n l (λ j. a (suc j)) j

bytes-slice : (l : List ℕ) (o n : ℕ) → Bytes l → Bytes (slice l o n)
bytes-slice l o n a = bytes_take n (drop o l) (λ j. rw (get_or-drop o l j 0) (a (o + j)))

bytes-grown : (l : List ℕ) (region : Option ℕ) (t n : ℕ) → Bytes l → Bytes (grown l region t n)
unfolding grown pick
bytes-grown l none t n a = a
bytes-grown l (some g) t n a = go (is_sub t)
  where
    go : (b : Bool) → Bytes (pick b (sets l (g + 4) (bytes_of 4 (length_at l g + n))) l)
    go true = bytes-sets l (g + 4) (bytes_of 4 (length_at l g + n)) a (bytes-number 4 (length_at l g + n))
    go false = a

-- two numbers, and more behind
bytes_three : (x y : ℕ) (l : List ℕ) → Bytes l → Bytes (bytes_of 4 x ++ bytes_of 4 y ++ l)
bytes_three x y l a = bytes-append (bytes_of 4 x ++ bytes_of 4 y) l (bytes-append (bytes_of 4 x) (bytes_of 4 y) (bytes-number 4 x) (bytes-number 4 y)) a

bytes-encoded : (t : ℕ) (v : List ℕ) → Bytes v → Bytes (encoded t v)
unfolding encoded
bytes-encoded t v a = bytes_three t (record_length v) v a

-- ---- a record of a file, to be appended

module _ (s : List ℕ) (p e : ℕ) (r : Record) (g : Good s p e) (b : e ≤ length s) (is : r ≡ record_at s p) where
  is-type : r.type ≡ type_at s p
  unfolding record_at
  is-type = ap (λ (r : Record). r.type) is

  is-start : r.start ≡ p
  unfolding record_at
  is-start = ap (λ (r : Record). r.start) is

  is-content : r.content ≡ slice s (p + prefix_size) (own_length s p - prefix_size)
  unfolding record_at
  is-content = ap (λ (r : Record). r.content) is

  pub is-long : record_length r.content ≡ own_length s p
  unfolding record_length
  is-long =
      let o = own s p e g in
      omega (arith, ap length is-content, length_part s (p + prefix_size) (own_length s p - prefix_size) (omega (arith, own-inside s p e g b)))

  pub is-fit : (room : ℕ) (region : Option ℕ) → p + own_length s p ≤ room → (p < e → is_some region ≡ true) → Fit room p region r.type r.content
  unfolding bare_fits pick ◌and◌
  is-fit room region ends inside = record {
    known = rw is-type g.known;
    level = rw is-type (level (is_sub (type_at s p)) refl);
    size = rw (is-type, is-long) (size (eqb (type_at s p) Region) refl);
    valid = rw (is-type, is-content) (valid (eqb (type_at s p) Region) refl);
    ends = omega (arith, is-long);
  }
    where
      level : (c : Bool) → is_sub (type_at s p) ≡ c → (c and not (is_some region)) ≡ false
      level true h = rw (inside (level_in _ p e g.level h))
      level false h = refl

      size : (c : Bool) → eqb (type_at s p) Region ≡ c → pick c (eqb (own_length s p) region_size) (fits (type_at s p) (own_length s p)) ≡ true
      size true h = eq-eqb _ _ (own-region s p (eqb-true _ _ h))
      size false h = rw (own-other s p h) g.fit

      valid : (c : Bool) → eqb (type_at s p) Region ≡ c → valid_content (type_at s p) (slice s (p + prefix_size) (own_length s p - prefix_size)) ≡ true
      valid true h = region-valid _ _ h
      valid false h = rw (own-other s p h) g.valid

  -- where a record behind it is inside, its REGION has been seen
  pub region-seen : (region : Option ℕ) → (p < e → is_some region ≡ true) → p + own_length s p < region_end s p e → is_some (after r region) ≡ true
  unfolding is_some pick
  region-seen region inside lt = rw (is-type, is-start) (go (is_sub (type_at s p)) refl (eqb (type_at s p) Region) refl)
    where
      go : (c : Bool) → is_sub (type_at s p) ≡ c → (d : Bool) → eqb (type_at s p) Region ≡ d → is_some (pick c region (pick d (some p) none)) ≡ true
      go true c d z = inside (level_in _ p e g.level c)
      go false c true z = refl
      go false c false z = absurd (omega (arith, level_out _ p e g.level c, end-other s p e z))

last-region : (rs : List Record) (r : Record) (region : Option ℕ) → last_region (rs ++ (r ∷ [])) region ≡ after r (last_region rs region)
unfolding last_region
last-region [] r region = refl
last-region (x ∷ rs) r region = last-region rs r (after x region)

-- ---- record by record

-- the file so far, in the buffer
record Going (buf : List ℕ) (w : Written) (file : File) : Type 0 where
  reads : read_file (in_use w) ≡ done file
  long : length w.buffer ≡ length buf
  rest : drop w.used w.buffer ≡ drop w.used buf
  bytes : Bytes (in_use w)

module _ (s buf : List ℕ) (file : File) (a : Bytes s) (room : length s ≤ length buf) (most : length buf ≤ transfer_limit) where
  one_more : (p e : ℕ) (r : Record) (rs : List Record) (w : Written) → Good s p e → e ≤ length s → r ≡ record_at s p → w.used ≡ p → (p < e → is_some (last_region rs none) ≡ true) → Going buf w (with_records file rs)
      → (w' : Written) × (append_record w.buffer w.used r.type r.content ≡ done w') × (w'.used ≡ p + own_length s p) × Going buf w' (with_records file (rs ++ (r ∷ [])))
  unfolding appended
  one_more p e r rs w g b is at inside going =
      let region = last_region rs none in
      let t = r.type in
      let v = r.content in
      let within = own-inside s p e g b in
      let long = is-long s p e r g b is in
      let all = going.long in
      let u : Used w.buffer w.used (with_records file rs) = record { small = omega arith; inside = omega arith; reads = going.reads } in
      let f : Fit (length w.buffer) w.used region t v = rw at (is-fit s p e r g b is (length w.buffer) region (omega arith) inside) in
      let there : (h : ℕ) → region ≡ some h → h + prefix_size ≤ w.used =
      λ h z. omega (arith, (region-used w.buffer w.used (with_records file rs) u h z).fixed, used-length w.buffer w.used (with_records file rs) u) in
      let one : new t w.used v ≡ r = ap (λ (n : ℕ). new t n v) (at ∙ sym (is-start s p e r g b is)) in (
        appended w.buffer w.used region t v,
        append_made w.buffer w.used t v (with_records file rs) u f,
        omega arith,
        record {
          reads = rw one at (append-reads w.buffer w.used t v _ (with_records file rs) record { before = u; fit = f; is = refl });
          long = length-after w.buffer w.used region t v f.ends there ∙ all;
          rest =
              rest-after w.buffer w.used region t v f.ends there
              ∙ sym (drop-drop (record_length v) w.used w.buffer) ∙ ap (drop (record_length v)) going.rest ∙ drop-drop (record_length v) w.used buf;
          bytes = rw (used-after w.buffer w.used region t v f.ends there)
              (bytes-append (grown (take w.used w.buffer) region t (record_length v)) (encoded t v) (bytes-grown (take w.used w.buffer) region t (record_length v) going.bytes) (bytes-encoded t v (rw (is-content s p e r g b is) (bytes-slice s (p + prefix_size) (own_length s p - prefix_size) a))));
        },
      )

  all_more : (rs : List Record) (p e : ℕ) (before : List Record) (w : Written) → Reads s p e rs → e ≤ length s → w.used ≡ p → (p < e → is_some (last_region before none) ≡ true) → Going buf w (with_records file before)
      → (w' : Written) × (append_all (done w) rs ≡ done w') × (w'.used ≡ length s) × Going buf w' (with_records file (before ++ rs))
  unfolding append_all ◌onward◌
  all_more [] p e before w h b at inside going = (w, refl, at ∙ (ended s p e h).0, rw (append-nil before) going)
  all_more (r ∷ rs) p e before w h b at inside going =
      let g = h.0.good in
      let o = one_more p e r before w g b h.0.is at inside going in
      let seen : p + own_length s p < region_end s p e → is_some (last_region (before ++ (r ∷ [])) none) ≡ true = λ lt. rw (last-region before r none) (region-seen s p e r g b h.0.is (last_region before none) inside lt) in
      let m = all_more rs (p + own_length s p) (region_end s p e) (before ++ (r ∷ [])) o.0 h.1 (region-inside s p e g b) o.2 seen o.3 in
      (m.0, rw o.1 m.1, m.2, rw (append_snoc before r rs) at m.3)

-- ---- the whole file

module _ (s buf : List ℕ) (file : File) (a : Bytes s) (h : read_file s ≡ done file) (room : length s ≤ length buf) (most : length buf ≤ transfer_limit) where
  is-file : IsFile s file
  is-file = file-read s file h

  least : header_size ≤ length s
  least = header-whole s is-file.header

  abbrev first : Written
  first = started buf file.magic file.version file.flags

  begun : start_file buf file.magic file.version file.flags ≡ done first
  unfolding start_file settle file_of
  begun =
      let magic : is_magic file.magic ≡ true = rw (ap (λ (file : File). file.magic) is-file.is) (header-magic s is-file.header) in
      rw (start_made (length buf) file.magic most magic (omega (arith, least)))

  going : Going buf first (with_records file [])
  unfolding started file_of
  going =
      let header = bytes_of 4 file.magic ++ bytes_of 4 file.version ++ bytes_of 4 file.flags in
      let end = header-long file.magic file.version file.flags in
      let version : file.version < 2 ^ 32 = rw (ap (λ (file : File). file.version) is-file.is) (field_lt s a 4 4) in
      let flags : file.flags < 2 ^ 32 = rw (ap (λ (file : File). file.flags) is-file.is) (field_lt s a 8 4) in
      record {
        reads = reads-back.start buf file.magic file.version file.flags first version flags begun;
        long = length-sets buf 0 header;
        rest = drop-written buf 0 header header_size (omega arith) (omega (arith, least));
        bytes = rw (take-written buf 0 header header_size (omega arith) (omega (arith, least)))
            (bytes_three file.magic file.version (bytes_of 4 file.flags) (bytes-number 4 file.flags));
      }

  written : append_all (start_file buf file.magic file.version file.flags) file.records ≡ done (record { buffer = s ++ drop (length s) buf; used = length s })
  unfolding started
  written =
      let m = all_more s buf file a room most file.records header_size header_size [] first is-file.all least refl (λ lt. absurd (omega arith)) going in
      let w = m.0 in
      let same : in_use w ≡ s = unique (in_use w) s m.3.bytes a file (file-read (in_use w) file m.3.reads) is-file in
      let buffer : w.buffer ≡ s ++ drop (length s) buf =
      sym (take-append-drop w.used w.buffer) ∙ rw (same, m.3.rest, m.2) in
      rw (begun, m.1) (λ i. done (record { buffer = buffer i; used = m.2 i }))

pub writes-back : WritesBack
writes-back = record { same = λ s buf file a h room most. written s buf file a h room most }
