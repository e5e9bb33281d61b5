-- What is written reads back the same (rule 9.11).
use Prim.Native.Nat.{ℕ, ◌+◌, ◌^◌, ◌≤◌, ◌<◌}
use native.Mathlib.Nat.{add_assoc}
use native.Mathlib.Omega.{arith}
use mathlib.Core.Path.{◌≡◌, refl, sym, ◌∙◌, ap}
use mathlib.Core.Bool.{Bool, true, false, true≢false}
use mathlib.Core.List.{List, [], ◌∷◌, ◌++◌}
use mathlib.Core.Option.{Option, none, some}
use mathlib.Core.Logic.{◌⊎◌, inl, inr, ⊎_elim}
use lib.ListN.{length, get_or, take, length-append, get_or-append}
use lib.Seq.{sets, length-sets}
use lib.Dec.{eqb, ltb}
use borrow.Author.Tests.{eqb-true, eqb-false, eq-eqb, ltb-true, ltb-false, lt-ltb, le-leb}
use Rattle.answer.specs.Tests.{◌or◌, pick}
use Rattle.answer.specs.Limits.{transfer_limit}
use Rattle.answer.specs.Answer.{done}
use Rattle.wire.specs.Field.{field, bytes_of}
use Rattle.wire.proofs.Laws.{length-bytes, field-bytes, get_or_sets_other, field-sets}
use Rattle.device_file.specs.Layout.{header_size, is_magic, Region, is_type, is_sub, prefix_size, region_size, least_length, fits, valid_content}
use Rattle.device_file.specs.Read.{Record, File, in_region, room_end, type_at, length_at, own_length, record_at, region_end, file_of, read_file}
use Rattle.device_file.specs.Write.{Written, started, start_file, last_region, record_length, bare_fits, grown, encoded}
use Rattle.device_file.specs.RoundTrips.{in_use, with_records, ReadsBack}
use Rattle.device_file.proofs.Records.{region-least, level_outside, level-inside, level-sub, level-not, level_out, Good, own-region, end-region, own, own-inside, region-inside}
use Rattle.device_file.proofs.Scanning.{header-whole, header-magic, header_made}
use Rattle.device_file.proofs.Reading.{same-done, settle-done, none≢some, same_some, Reads, IsFile, read-file, Holds, region-holds, last-holds}
use Rattle.device_file.proofs.Writing.{start-room, start-magic, grown-some, grown-none}
use Rattle.device_file.proofs.Appending.{Fit, has_region, used-length, used-file, region-used, IsAppend, append-is}
use Rattle.device_file.proofs.Lists.{Same, same-field, same-append, take-written}
use Rattle.device_file.proofs.Growth.{length-encoded, record_least, used-after}
use Rattle.device_file.proofs.Kept.{not_end, ended, at-end, room_outside, room_within, kept-type, kept-own, kept_record, kept-good, stays, stays-own, stays-region, stays-inside, new-reads}

abbrev pub new : ℕ → ℕ → List ℕ → Record
new t p v = record { type = t; start = p; content = v }

wider : (s s' : List ℕ) (p e : ℕ) → length s ≤ length s' → room_end s p e ≤ room_end s' p e
unfolding room_end pick
wider s s' p e h = go (in_region p e)
  where
    go : (b : Bool) → pick b e (length s) ≤ pick b e (length s')
    go true = omega arith
    go false = h

-- which REGION later sub-records stand in, behind a record
abbrev pub after : Record → Option ℕ → Option ℕ
after r region = pick (is_sub r.type) region (pick (eqb r.type Region) (some r.start) none)

after_is : (r : Record) (region : Option ℕ) (g : ℕ) → after r region ≡ some g → ((is_sub r.type ≡ true) × (region ≡ some g)) ⊎ (r.start ≡ g)
unfolding pick
after_is r region g = go (is_sub r.type) refl (eqb r.type Region)
  where
    go : (sub : Bool) → is_sub r.type ≡ sub → (is : Bool) → pick sub region (pick is (some r.start) none) ≡ some g
        → ((is_sub r.type ≡ true) × (region ≡ some g)) ⊎ (r.start ≡ g)
    go true e is h = inl (e, h)
    go false e true h = inr (same_some r.start g h)
    go false e false h = none≢some g h

after-region : (r : Record) (region : Option ℕ) → r.type ≡ Region → after r region ≡ some r.start
unfolding is_sub pick ◌or◌
after-region r region e = rw e

region_not_sub : is_sub Region ≡ false
unfolding is_sub ◌or◌
region_not_sub = refl

region-fits : (n : ℕ) → region_size ≤ n → fits Region n ≡ true
unfolding fits least_length pick ◌or◌
region-fits n h = le-leb region_size n h

module _ (t : ℕ) (v : List ℕ) (known : is_type t ≡ true) (size : bare_fits t (record_length v) ≡ true) (valid : valid_content t v ≡ true) (small : record_length v < 256 ^ 4) where
  -- ---- a record outside, behind all others

  module _ (s : List ℕ) (sub : is_sub t ≡ false) where
    longer : length s ≤ length (s ++ encoded t v)
    longer = omega (arith, length-append s (encoded t v))

    reads_outside : (rs : List Record) (p e : ℕ) → e ≤ length s → Reads s p e rs → Reads (s ++ encoded t v) p e (rs ++ (new t (length s) v ∷ []))
    reads_outside [] p e b h =
        let z = ended s p e h in
        rw z.0
        (new-reads s t v e known size valid small (level_outside t (length s) e sub b) (room_outside _ (length s) e b ∙ length-append s (encoded t v) ∙ rw (length-encoded t v)) (omega arith))
    reads_outside (r ∷ rs) p e b h =
        let g = h.0.good in
        let inside = own-inside s p e g b in
        let same : Same (s ++ encoded t v) s p (p + own_length s p) = λ i from lt. same-append s (encoded t v) p i from (omega arith) in (
          stays s (s ++ encoded t v) p e e g same inside longer refl (wider s (s ++ encoded t v) p e longer) r h.0,
          rw (stays-own s (s ++ encoded t v) p e e g same inside longer, stays-region s (s ++ encoded t v) p e e g same inside longer)
              (reads_outside rs (p + own_length s p) (region_end s p e) (region-inside s p e g b) h.1),
        )

  -- ---- a record inside the last REGION, which grows

  module _ (s : List ℕ) (g : ℕ) (holds : Holds s header_size g) (sub : is_sub t ≡ true) (total : length s + record_length v < 256 ^ 4) where
    abbrev wide : List ℕ
    wide = sets s (g + 4) (bytes_of 4 (length_at s g + record_length v))

    abbrev all : List ℕ
    all = wide ++ encoded t v

    wide-long : length wide ≡ length s
    wide-long = length-sets s (g + 4) (bytes_of 4 (length_at s g + record_length v))

    all-long : length all ≡ length s + record_length v
    all-long = omega (arith, length-append wide (encoded t v), wide-long, length-encoded t v)

    -- all bytes stay, but for the length of the REGION
    agree : (i : ℕ) → i < length s → (g + 4 ≤ i → i < g + 8 → ⊥) → get_or all i 0 ≡ get_or s i 0
    agree i lt out =
        let long = length-bytes 4 (length_at s g + record_length v) in
        get_or-append wide (encoded t v) 0 i (omega (arith, wide-long))
        ∙ get_or_sets_other s (g + 4) (bytes_of 4 (length_at s g + record_length v)) i (λ a b. out a (omega arith))

    grown-length : length_at all g ≡ length_at s g + record_length v
    grown-length =
        same-field all wide (g + 4) 4 (λ i from lt. same-append wide (encoded t v) (g + 4) i from (omega (arith, wide-long, holds.fixed)))
        ∙ field-sets s (g + 4) 4 (length_at s g + record_length v) (omega (arith, holds.fixed)) (omega (arith, holds.inside))

    -- the records behind its fixed part
    reads-inside : (rs : List Record) (p e : ℕ) → g + 8 ≤ p → p ≤ e → e ≤ length s → last_region rs (some g) ≡ some g → Reads s p e rs
        → Reads all p (e + record_length v) (rs ++ (new t (length s) v ∷ []))
    unfolding last_region record_at in_region pick
    reads-inside [] p e behind le b last h =
        let z = ended s p e h in
        let end : e ≡ length s = omega arith in
        let long : prefix_size ≤ record_length v = record_least v in
        let ahead : length wide < e + record_length v = omega (arith, wide-long) in
        let room : room_end all (length wide) (e + record_length v) ≡ length wide + record_length v = room_within all (length wide) _ ahead ∙ omega (arith, wide-long) in
        rw (z.0, ← wide-long)
        (new-reads wide t v (e + record_length v) known size valid small (level-inside t (length wide) _ sub ahead) room (omega (arith, wide-long)))
    reads-inside (r ∷ rs) p e behind le b last h = go (ltb p e) refl (λ x y z w. reads-inside rs (p + own_length s p) e x y b z w)
      where
        good : Good s p e
        good = h.0.good

        within : p + own_length s p ≤ length s
        within = own-inside s p e good b

        same : Same all s p (p + own_length s p)
        same i from lt = agree i (omega (arith, within)) (λ a c. omega arith)

        longer : length s ≤ length all
        longer = omega (arith, all-long)

        is-type : r.type ≡ type_at s p
        is-type = ap (λ (r : Record). r.type) h.0.is

        -- no record outside follows the REGION
        go : (c : Bool) → ltb p e ≡ c
            → (g + 8 ≤ p + own_length s p → p + own_length s p ≤ e → last_region rs (some g) ≡ some g → Reads s (p + own_length s p) e rs
            → Reads all (p + own_length s p) (e + record_length v) (rs ++ (new t (length s) v ∷ [])))
            → Reads all p (e + record_length v) (r ∷ (rs ++ (new t (length s) v ∷ [])))
        go true c others =
            let lt = ltb-true p e c in
            let is-sub = level-sub (type_at s p) p e good.level lt in
            let own-sub : is_sub r.type ≡ true = ap is_sub is-type ∙ is-sub in
            let end = room_within s p e lt in
            let end' = room_within all p (e + record_length v) (omega arith) in
            let level : in_region p (e + record_length v) ≡ in_region p e = lt-ltb p (e + record_length v) (omega arith) ∙ sym (lt-ltb p e lt) in
            let ends = stays-inside s all p e (e + record_length v) good same within longer is-sub in (
              stays s all p e (e + record_length v) good same within longer level (omega arith) r h.0,
              rw (stays-own s all p e (e + record_length v) good same within longer, ends.1)
                  (others (omega arith) (omega (arith, own s p e good, good.within)) (rw own-sub at last) (rw ends.0 at h.1)),
            )
        go false c others =
            let past = ltb-false p e c in
            let not-sub : is_sub r.type ≡ false = ap is_sub is-type ∙ level-not (type_at s p) p e good.level past in
            absurd
            (⊎_elim
            (λ x. ⊎_elim (λ y. true≢false (sym y.0 ∙ not-sub)) (λ y. omega (arith, y, ap (λ (r : Record). r.start) h.0.is)) (after_is r (some g) g x))
            (λ l. omega (arith, l.from))
            (region-holds s rs (p + own_length s p) (region_end s p e) (after r (some g)) g (region-inside s p e good b) h.1 last))

    -- the REGION itself
    reads-region : (rs : List Record) (r : Record) (e : ℕ) (region : Option ℕ) → e ≤ length s → last_region rs (after r region) ≡ some g → Reads s g e (r ∷ rs)
        → Reads all g e (r ∷ (rs ++ (new t (length s) v ∷ [])))
    unfolding record_at
    reads-region rs r e region b last h =
        let good = h.0.good in
        let fixed = own-region s g holds.is in
        let within = own-inside s g e good b in
        let outside = level_out (type_at s g) g e good.level (ap is_sub holds.is ∙ region_not_sub) in
        let kind : Same all s g (g + 4) = λ i from lt. agree i (omega arith) (λ a c. omega arith) in
        let rest : Same all s (g + 8) (g + own_length s g) = λ i from lt. agree i (omega arith) (λ a c. omega arith) in
        let other : eqb (type_at s g) Region ≡ false → length_at all g ≡ length_at s g = λ z. absurd (true≢false (sym (eq-eqb _ _ holds.is) ∙ z)) in
        let longer : length s ≤ length all = omega (arith, all-long) in
        let room = room_outside all g e outside in
        let least = region-least (length_at s g) (rw holds.is at good.fit) in
        let is = kept-type s all g e e good kind rest other within longer ∙ holds.is in (
          record {
            ahead = not_end all g e (omega (arith, all-long));
            good = kept-good s all g e e good kind rest other within longer refl (omega (arith, all-long, holds.fixed)) (omega (arith, all-long, grown-length, holds.inside)) (rw (holds.is, grown-length) (region-fits _ (omega arith)));
            is = h.0.is ∙ sym (kept_record s all g e e good kind rest other within longer);
          },
          rw (kept-own s all g e e good kind rest other within longer, fixed, end-region all g e is, grown-length, ← add_assoc g (length_at s g) (record_length v))
              (reads-inside rs (g + region_size) (g + length_at s g) (omega arith) (omega arith) holds.inside
              (rw (after-region r region (ap (λ (r : Record). r.type) h.0.is ∙ holds.is), ap (λ (r : Record). r.start) h.0.is) at last)
              (rw (fixed, end-region s g e holds.is) at h.1)),
        )

    -- the records up to it
    reads_before : (rs : List Record) (p e : ℕ) (region : Option ℕ) → p ≤ g → e ≤ length s → (region ≡ some g → ⊥) → last_region rs region ≡ some g → Reads s p e rs
        → Reads all p e (rs ++ (new t (length s) v ∷ []))
    unfolding last_region record_at
    reads_before [] p e region le b fresh last h = absurd (fresh last)
    reads_before (r ∷ rs) p e region le b fresh last h =
        go (eqb p g) refl (λ x y. reads_before rs (p + own_length s p) (region_end s p e) (after r region) x (region-inside s p e h.0.good b) y last h.1)
      where
        go : (c : Bool) → eqb p g ≡ c
            → (p + own_length s p ≤ g → (after r region ≡ some g → ⊥) → Reads all (p + own_length s p) (region_end s p e) (rs ++ (new t (length s) v ∷ [])))
            → Reads all p e (r ∷ (rs ++ (new t (length s) v ∷ [])))
        go true c others = let at = eqb-true p g c in rw at (reads-region rs r e region b last (rw at at h))
        go false c others =
            let other = eqb-false p g c in
            let good = h.0.good in
            let no_more : after r region ≡ some g → ⊥ = λ x. ⊎_elim (λ y. fresh y.1) (λ y. other (sym (ap (λ (r : Record). r.start) h.0.is) ∙ y)) (after_is r region g x) in
            let next : p + own_length s p ≤ g =
            ⊎_elim (λ x. absurd (no_more x)) (λ l. l.from) (region-holds s rs (p + own_length s p) (region_end s p e) (after r region) g (region-inside s p e good b) h.1 last) in
            let within = own-inside s p e good b in
            let same : Same all s p (p + own_length s p) = λ i from lt. agree i (omega arith) (λ a d. omega arith) in
            let longer : length s ≤ length all = omega (arith, all-long) in (
              stays s all p e e good same within longer refl (wider s all p e longer) r h.0,
              rw (stays-own s all p e e good same within longer, stays-region s all p e e good same within longer) (others next no_more),
            )

-- ---- the whole file

-- with the same header
same-header : (s s' : List ℕ) (file : File) (rs : List Record) → IsFile s file → header_size ≤ length s' → length s' ≤ transfer_limit → Same s' s 0 header_size → Reads s' header_size header_size rs
    → read_file s' ≡ done (with_records file rs)
unfolding file_of
same-header s s' file rs f long most same reads =
    let magic = same-field s' s 0 4 (λ i from lt. same i from (omega arith)) in
    let version = same-field s' s 4 4 (λ i from lt. same i (omega arith) (omega arith)) in
    let flags = same-field s' s 8 4 (λ i from lt. same i (omega arith) (omega arith)) in
    read-file s' rs (header_made s' most long (rw magic (header-magic s f.header))) reads ∙ rw (magic, version, flags, f.is)

module _ (s : List ℕ) (file : File) (t : ℕ) (v : List ℕ) (room : ℕ) (f : IsFile s file) (fit : Fit room (length s) (last_region file.records none) t v) (most : room ≤ transfer_limit) where
  long : header_size ≤ length s
  long = header-whole s f.header

  small : length s + record_length v < 256 ^ 4
  small = omega (arith, fit.ends)

  ends : (l : List ℕ) → length l ≡ length s → length (l ++ encoded t v) ≡ length s + record_length v
  ends l e = omega (arith, length-append l (encoded t v), length-encoded t v)

  pub grown-reads : read_file (grown s (last_region file.records none) t (record_length v) ++ encoded t v) ≡ done (with_records file (file.records ++ (new t (length s) v ∷ [])))
  grown-reads = go (is_sub t) refl
    where
      go : (b : Bool) → is_sub t ≡ b
          → read_file (grown s (last_region file.records none) t (record_length v) ++ encoded t v) ≡ done (with_records file (file.records ++ (new t (length s) v ∷ [])))
      go false sub =
          rw (← grown-none s (last_region file.records none) t (record_length v) sub)
          (same-header s (s ++ encoded t v) file _ f (omega (arith, long, ends s refl)) (omega (arith, ends s refl, fit.ends)) (λ i from lt. same-append s (encoded t v) 0 i from (omega (arith, long)))
          (reads_outside t v fit.known fit.size fit.valid (omega (arith, small)) s sub file.records header_size header_size long f.all))
      go true sub =
          let x = has_region room (length s) _ t v fit sub in
          let g = x.0 in
          let holds = last-holds s file g f x.1 in
          let wide = wide-long t v fit.known fit.size fit.valid (omega (arith, small)) s g holds sub small in
          let end = ends (sets s (g + 4) (bytes_of 4 (length_at s g + record_length v))) wide in
          rw (x.1, grown-some s g t (record_length v) sub)
          (same-header s _ file _ f (omega (arith, long)) (omega (arith, fit.ends))
          (λ i from lt. agree t v fit.known fit.size fit.valid (omega (arith, small)) s g holds sub small i (omega (arith, long)) (λ a b. omega (arith, holds.from)))
          (reads_before t v fit.known fit.size fit.valid (omega (arith, small)) s g holds sub small file.records header_size header_size none holds.from long (λ z. none≢some g z) x.1 f.all))

-- the bytes in use behind an append
pub append-reads : (buf : List ℕ) (used t : ℕ) (v : List ℕ) (w : Written) (file : File) → IsAppend buf used t v w file
    → read_file (in_use w) ≡ done (with_records file (file.records ++ (new t used v ∷ [])))
append-reads buf used t v w file a =
    let u = a.before in
    let long = used-length buf used file u in
    let fit : Fit (length buf) (length (take used buf)) (last_region file.records none) t v = rw long a.fit in
    let there : (g : ℕ) → last_region file.records none ≡ some g → g + prefix_size ≤ used = λ g e. omega (arith, (region-used buf used file u g e).fixed, long) in
    rw (← a.is, used-after buf used _ t v a.fit.ends there)
    (rw long at (grown-reads (take used buf) file t v (length buf) (used-file buf used file u) fit u.small))

-- a header alone
pub header-long : (magic version flags : ℕ) → length (bytes_of 4 magic ++ bytes_of 4 version ++ bytes_of 4 flags) ≡ header_size
unfolding bytes_of
header-long magic version flags = refl

module _ (magic version flags : ℕ) (is : is_magic magic ≡ true) (v : version < 2 ^ 32) (f : flags < 2 ^ 32) where
  abbrev header : List ℕ
  header = bytes_of 4 magic ++ bytes_of 4 version ++ bytes_of 4 flags

  magic-small : magic < 256 ^ 4
  unfolding is_magic ◌or◌
  magic-small = go (eqb magic 0x70636900) refl is
    where
      go : (b : Bool) → eqb magic 0x70636900 ≡ b → (b or eqb magic 0x64740000) ≡ true → magic < 256 ^ 4
      go true e h = omega (arith, eqb-true magic _ e)
      go false e h = omega (arith, eqb-true magic _ h)

  magic-read : field header 0 4 ≡ magic
  unfolding bytes_of field
  magic-read = field-bytes 4 magic [] magic-small

  version-read : field header 4 4 ≡ version
  unfolding bytes_of field
  version-read = field-bytes 4 version [] v

  flags-read : field header 8 4 ≡ flags
  unfolding bytes_of field
  flags-read = field-bytes 4 flags [] f

  header-reads : read_file header ≡ done (record { magic = magic; version = version; flags = flags; records = [] })
  unfolding file_of
  header-reads =
      read-file header [] (header_made header (omega (arith, header-long magic version flags)) (omega (arith, header-long magic version flags)) (rw magic-read is)) (at-end header header_size header_size (sym (header-long magic version flags)) (omega arith))
      ∙ rw (magic-read, version-read, flags-read)

pub reads-back : ReadsBack
unfolding start_file started
reads-back = record {
  start = λ buf magic version flags w v f e.
      let c = settle-done _ _ w e in
      rw (← c.1, take-written buf 0 (bytes_of 4 magic ++ bytes_of 4 version ++ bytes_of 4 flags) header_size (omega (arith, header-long magic version flags)) (start-room (length buf) magic c.0))
      (header-reads magic version flags (start-magic (length buf) magic c.0) v f);
  append = λ buf used t v w file h e.
      let a = append-is buf used t v w e in
      rw (← same-done a.0 file (sym a.1.before.reads ∙ h)) (append-reads buf used t v w a.0 a.1);
}
