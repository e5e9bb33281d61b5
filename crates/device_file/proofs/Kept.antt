-- One record in a file that has grown: a record that was there is still good, and so is the new one.
use Prim.Native.Nat.{ℕ, ◌+◌, ◌-◌, ◌^◌, ◌≤◌, ◌<◌}
use native.Mathlib.Nat.{add-zero}
use native.Mathlib.Omega.{arith}
use mathlib.Core.Path.{◌≡◌, refl, sym, ◌∙◌, ap}
use mathlib.Core.Bool.{Bool, true, false, false≢true}
use mathlib.Core.List.{List, [], ◌∷◌, ◌++◌}
use lib.ListN.{length, length-append}
use lib.Seq.{take_all, drop-append-add}
use lib.Dec.{eqb, ltb}
use borrow.Author.Tests.{eqb-true, eq-eqb, ne_eqb, leb-true, lt-ltb, le-ltb, ltb-false}
use Rattle.answer.specs.Tests.{pick}
use Rattle.answer.proofs.Tests.{and_true}
use Rattle.wire.specs.Field.{field, bytes_of, slice}
use Rattle.wire.proofs.Laws.{field-bytes}
use Rattle.device_file.specs.Layout.{Region, is_type, is_sub, prefix_size, region_size, fits, valid_content}
use Rattle.device_file.specs.Read.{Record, in_region, room_end, type_at, length_at, at_level, own_length, record_at, region_end, at_end}
use Rattle.device_file.specs.Write.{record_length, bare_fits, encoded}
use Rattle.device_file.proofs.Records.{region-valid, Good, own-other, end-sub, own}
use Rattle.device_file.proofs.Reading.{Next, Reads}
use Rattle.device_file.proofs.Writing.{bare_fits_lem}
use Rattle.device_file.proofs.Lists.{Same, same-field, same-slice, field-behind}
use Rattle.device_file.proofs.Growth.{length-encoded}

-- ---- where a file ends

pub not_end : (s : List ℕ) (p e : ℕ) → p < length s → at_end s p e ≡ false
unfolding at_end pick
not_end s p e h = go (in_region p e)
  where
    go : (b : Bool) → pick b false (eqb p (length s)) ≡ false
    go true = refl
    go false = ne_eqb p (length s) (λ z. omega arith)

pub ended : (s : List ℕ) (p e : ℕ) → at_end s p e ≡ true → (p ≡ length s) × (e ≤ p)
unfolding at_end in_region pick
ended s p e = go (ltb p e) refl
  where
    go : (b : Bool) → ltb p e ≡ b → pick b false (eqb p (length s)) ≡ true → (p ≡ length s) × (e ≤ p)
    go true h z = absurd (false≢true z)
    go false h z = (eqb-true p (length s) z, ltb-false p e h)

pub at-end : (s : List ℕ) (p e : ℕ) → p ≡ length s → e ≤ p → at_end s p e ≡ true
unfolding at_end in_region pick
at-end s p e h le = rw (le-ltb p e le, eq-eqb p (length s) h)

-- ---- the room around a record

pub room_outside : (s : List ℕ) (p e : ℕ) → e ≤ p → room_end s p e ≡ length s
unfolding room_end in_region pick
room_outside s p e h = rw (le-ltb p e h)

pub room_within : (s : List ℕ) (p e : ℕ) → p < e → room_end s p e ≡ e
unfolding room_end in_region pick
room_within s p e h = rw (lt-ltb p e h)

-- ---- a record that was there

-- its bytes are the same, but for the length of a REGION
module _
    (s s' : List ℕ) (p e e' : ℕ) (g : Good s p e) (kind : Same s' s p (p + 4)) (rest : Same s' s (p + prefix_size) (p + own_length s p))
    (size : eqb (type_at s p) Region ≡ false → length_at s' p ≡ length_at s p) (inside : p + own_length s p ≤ length s) (longer : length s ≤ length s')
  where
    pub kept-type : type_at s' p ≡ type_at s p
    kept-type = same-field s' s p 4 kind

    pub kept-own : own_length s' p ≡ own_length s p
    unfolding own_length pick
    kept-own = rw kept-type (go (eqb (type_at s p) Region) refl)
      where
        go : (b : Bool) → eqb (type_at s p) Region ≡ b → pick b region_size (length_at s' p) ≡ pick b region_size (length_at s p)
        go true e = refl
        go false e = size e

    content : slice s' (p + prefix_size) (own_length s p - prefix_size) ≡ slice s (p + prefix_size) (own_length s p - prefix_size)
    content =
        let least = own s p e g in
        let end : p + prefix_size + (own_length s p - prefix_size) ≡ p + own_length s p = omega arith in
        same-slice s' s (p + prefix_size) (own_length s p - prefix_size) (omega arith) (omega arith) (rw end rest)

    pub kept_record : record_at s' p ≡ record_at s p
    unfolding record_at
    kept_record = rw (kept-type, kept-own, content)

    pub kept-good : in_region p e' ≡ in_region p e → p + prefix_size ≤ room_end s' p e' → p + length_at s' p ≤ room_end s' p e' → fits (type_at s p) (length_at s' p) ≡ true → Good s' p e'
    kept-good level room within fit = record {
      prefix = room;
      known = rw kept-type g.known;
      level = rw (kept-type, level) g.level;
      within = within;
      fit = rw kept-type fit;
      valid = rw kept-type (valid (eqb (type_at s p) Region) refl);
    }
      where
        valid : (b : Bool) → eqb (type_at s p) Region ≡ b → valid_content (type_at s p) (slice s' (p + prefix_size) (length_at s' p - prefix_size)) ≡ true
        valid true h = region-valid _ _ h
        valid false h = rw (size h, ← own-other s p h, content) (rw (← own-other s p h) at g.valid)

-- all its bytes are the same, and the room around it is no smaller
module _
    (s s' : List ℕ) (p e e' : ℕ) (g : Good s p e) (same : Same s' s p (p + own_length s p)) (inside : p + own_length s p ≤ length s) (longer : length s ≤ length s')
  where
    kind : Same s' s p (p + 4)
    kind i from lt = same i from (omega (arith, own s p e g))

    rest : Same s' s (p + prefix_size) (p + own_length s p)
    rest i from lt = same i (omega arith) lt

    stays-length : length_at s' p ≡ length_at s p
    stays-length = same-field s' s (p + 4) 4 (λ i from lt. same i (omega arith) (omega (arith, own s p e g)))

    pub stays : in_region p e' ≡ in_region p e → room_end s p e ≤ room_end s' p e' → (r : Record) → Next s p e r → Next s' p e' r
    stays level room r h = record {
      ahead = not_end s' p e' (omega (arith, own s p e g));
      good = kept-good s s' p e e' g kind rest (λ z. stays-length) inside longer level (omega (arith, g.prefix)) (omega (arith, g.within, stays-length)) (rw stays-length g.fit);
      is = h.is ∙ sym (kept_record s s' p e e' g kind rest (λ z. stays-length) inside longer);
    }

    pub stays-own : own_length s' p ≡ own_length s p
    stays-own = kept-own s s' p e e' g kind rest (λ z. stays-length) inside longer

    pub stays-region : region_end s' p e ≡ region_end s p e
    unfolding region_end
    stays-region = rw (kept-type s s' p e e' g kind rest (λ z. stays-length) inside longer, stays-length)

    -- a record inside leaves the end of its REGION
    pub stays-inside : is_sub (type_at s p) ≡ true → (region_end s p e ≡ e) × (region_end s' p e' ≡ e')
    stays-inside sub = (end-sub s p e sub, end-sub s' p e' (rw (kept-type s s' p e e' g kind rest (λ z. stays-length) inside longer) sub))

-- ---- the record behind all others

module _ (s : List ℕ) (t : ℕ) (v : List ℕ) (e : ℕ) (known : is_type t ≡ true) (size : bare_fits t (record_length v) ≡ true) (valid : valid_content t v ≡ true) (small : record_length v < 256 ^ 4) where
  new-end : length (s ++ encoded t v) ≡ length s + record_length v
  new-end = length-append s (encoded t v) ∙ ap (λ (n : ℕ). length s + n) (length-encoded t v)

  type-small : t < 256 ^ 4
  unfolding is_type
  type-small = omega (arith, leb-true t 7 (and_true _ _ known).1)

  new-type : type_at (s ++ encoded t v) (length s) ≡ t
  unfolding encoded bytes_of field
  new-type = rw (add-zero (length s)) at (field-behind s (encoded t v) 0 4 ∙ field-bytes 4 t [] type-small)

  new-length : length_at (s ++ encoded t v) (length s) ≡ record_length v
  unfolding encoded bytes_of field
  new-length = field-behind s (encoded t v) 4 4 ∙ field-bytes 4 (record_length v) [] small

  new-own : own_length (s ++ encoded t v) (length s) ≡ record_length v
  unfolding own_length bare_fits pick
  new-own = rw (new-type, new-length) (go (eqb t Region) size)
    where
      go : (b : Bool) → pick b (eqb (record_length v) region_size) (fits t (record_length v)) ≡ true → pick b region_size (record_length v) ≡ record_length v
      go true h = sym (eqb-true (record_length v) region_size h)
      go false h = refl

  new-content : slice (s ++ encoded t v) (length s + prefix_size) (record_length v - prefix_size) ≡ v
  unfolding encoded record_length bytes_of
  new-content =
      let n : prefix_size + length v - prefix_size ≡ length v = omega arith in
      rw (drop-append-add s (encoded t v) prefix_size, n) (take_all (length v) v (omega arith))

  -- the room around it ends with the file
  module _ (level : at_level t (in_region (length s) e) ≡ true) (room : room_end (s ++ encoded t v) (length s) e ≡ length s + record_length v) (inside : e ≤ length s + record_length v) where
    new-region : region_end (s ++ encoded t v) (length s) e ≤ length s + record_length v
    unfolding region_end pick
    new-region = rw (new-type, new-length) (go (eqb t Region))
      where
        go : (b : Bool) → pick b (length s + record_length v) e ≤ length s + record_length v
        go true = omega arith
        go false = inside

    -- it is read as it was given
    pub new-reads : Reads (s ++ encoded t v) (length s) e (record { type = t; start = length s; content = v } ∷ [])
    unfolding record_at record_length
    new-reads = (
      record {
        ahead = not_end _ _ e (omega (arith, new-end));
        good = record {
          prefix = omega (arith, room);
          known = rw new-type known;
          level = rw new-type level;
          within = omega (arith, room, new-length);
          fit = rw (new-type, new-length) (bare_fits_lem t _ size);
          valid = rw (new-type, new-length, new-content) valid;
        };
        is = rw (new-type, new-own, new-content);
      },
      at-end _ _ _ (rw (new-own, new-end) refl) (rw new-own new-region),
    )
