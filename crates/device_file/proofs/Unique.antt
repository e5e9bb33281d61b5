-- A file is its header and its records: no other bytes read as they do.
use Prim.Native.Nat.{ℕ, zero, suc, ◌+◌, ◌-◌, ◌≤◌, ◌<◌}
use native.Mathlib.Omega.{arith}
use mathlib.Core.Path.{◌≡◌, refl, sym, ◌∙◌, ap}
use mathlib.Core.Bool.{Bool, true, false}
use mathlib.Core.List.{List, [], ◌∷◌}
use lib.ListN.{length, get_or, drop}
use lib.Seq.{ext_get_or, get_or-take, get_or-drop}
use lib.Dec.{eqb, ltb}
use borrow.Author.Tests.{eqb-true, eqb-false, ltb-true, ltb-false}
use Rattle.wire.specs.Field.{field, slice}
use Rattle.wire.proofs.Laws.{length_part}
use Rattle.device_file.specs.Layout.{header_size, Region, is_sub, prefix_size}
use Rattle.device_file.specs.Read.{Record, File, type_at, length_at, own_length, record_at, region_end, file_of}
use Rattle.device_file.specs.RoundTrips.{Bytes}
use Rattle.device_file.proofs.Records.{region-least, level_out, level_in, Good, own-region, own-other, end-region, end-sub, own, own-inside, region-inside}
use Rattle.device_file.proofs.Scanning.{header-whole}
use Rattle.device_file.proofs.Reading.{Reads, IsFile}
use Rattle.device_file.proofs.Lists.{Same}
use Rattle.device_file.proofs.Kept.{ended, room_within}

-- ---- bytes

-- a field tells its bytes
field-bytes : (l m : List ℕ) → Bytes l → Bytes m → (w o : ℕ) → field l o w ≡ field m o w → Same l m o (o + w)
unfolding field
field-bytes l m a b zero o e i from lt = absurd (omega arith)
field-bytes l m a b (suc w) o e i from lt = go (eqb i o) refl (λ le. field-bytes l m a b w (suc o) (omega (arith, a o, b o)) i le (omega arith))
  where
    go : (c : Bool) → eqb i o ≡ c → (suc o ≤ i → get_or l i 0 ≡ get_or m i 0) → get_or l i 0 ≡ get_or m i 0
    go true c others = rw (eqb-true i o c) (omega (arith, a o, b o, e))
    go false c others = others (omega (arith, eqb-false i o c))

-- so does a part
slice-bytes : (l m : List ℕ) (o n : ℕ) → slice l o n ≡ slice m o n → Same l m o (o + n)
slice-bytes l m o n e i from lt =
    let at : o + (i - o) ≡ i = omega arith in
    rw at at (sym (get_or-take n (drop o l) (i - o) 0 (omega arith) ∙ get_or-drop o l (i - o) 0) ∙ ap (λ (l : List ℕ). get_or l (i - o) 0) e ∙ get_or-take n (drop o m) (i - o) 0 (omega arith) ∙ get_or-drop o m (i - o) 0)

-- ---- records

same_end : (x y q : ℕ) → q ≤ x → q ≤ y → (q < x → x ≡ y) → (q < y → x ≡ y) → x ≡ y
same_end x y q a b f g = go (ltb q x) refl (ltb q y) refl
  where
    go : (c : Bool) → ltb q x ≡ c → (d : Bool) → ltb q y ≡ d → x ≡ y
    go true c d e = f (ltb-true q x c)
    go false c true e = g (ltb-true q y e)
    go false c false e = omega (arith, ltb-false q x c, ltb-false q y e)

-- two files that have the same records from a place on
pub record Twin (s s' : List ℕ) (p e e' : ℕ) : Type 0 where
  pub long : length s ≡ length s'
  pub same : Same s s' p (length s)
  pub end : p < e → e ≡ e'
  pub end' : p < e' → e ≡ e'

module _ (s s' : List ℕ) (a : Bytes s) (a' : Bytes s') where
  -- the record at a place, and those behind it
  module _ (p e e' : ℕ) (r : Record) (g : Good s p e) (g' : Good s' p e') (b : e ≤ length s) (b' : e' ≤ length s') (is : r ≡ record_at s p) (is' : r ≡ record_at s' p) where
    one_record : record_at s p ≡ record_at s' p
    one_record = sym is ∙ is'

    one_type : type_at s p ≡ type_at s' p
    unfolding record_at
    one_type = ap (λ (r : Record). r.type) one_record

    one-content : slice s (p + prefix_size) (own_length s p - prefix_size) ≡ slice s' (p + prefix_size) (own_length s' p - prefix_size)
    unfolding record_at
    one-content = ap (λ (r : Record). r.content) one_record

    pub one-own : own_length s p ≡ own_length s' p
    one-own =
        let o = own s p e g in
        let o' = own s' p e' g' in
        let n = length_part s (p + prefix_size) (own_length s p - prefix_size) (omega (arith, own-inside s p e g b)) in
        let n' = length_part s' (p + prefix_size) (own_length s' p - prefix_size) (omega (arith, own-inside s' p e' g' b')) in
        omega (arith, ap length one-content)

    module _ (t : Twin s s' (p + own_length s p) (region_end s p e) (region_end s' p e')) where
      -- the REGION that it stands in, or is, has the same end
      one_end : p + own_length s p ≤ region_end s p e → p + own_length s p ≤ region_end s' p e' → region_end s p e ≡ region_end s' p e'
      one_end x y = same_end (region_end s p e) (region_end s' p e') (p + own_length s p) x y t.end t.end'

      one-length : length_at s p ≡ length_at s' p
      one-length = go (eqb (type_at s p) Region) refl
        where
          go : (c : Bool) → eqb (type_at s p) Region ≡ c → length_at s p ≡ length_at s' p
          go false c = sym (own-other s p c) ∙ one-own ∙ own-other s' p (rw (← one_type) c)
          go true c =
              let region = eqb-true (type_at s p) Region c in
              let region' = sym one_type ∙ region in
              let fixed = own-region s p region in
              let least = region-least _ (rw region at g.fit) in
              let least' = region-least _ (rw region' at g'.fit) in
              let end = end-region s p e region in
              let end' = end-region s' p e' region' in
              omega (arith, one_end (omega arith) (omega arith))

      one-sub : is_sub (type_at s p) ≡ true → e ≡ e'
      one-sub sub =
          let sub' : is_sub (type_at s' p) ≡ true = rw (← one_type) sub in
          let room = room_within s p e (level_in _ p e g.level sub) in
          let room' = room_within s' p e' (level_in _ p e' g'.level sub') in
          let end = end-sub s p e sub in
          let end' = end-sub s' p e' sub' in
          let o = own s p e g in
          let o' = own s' p e' g' in
          omega (arith, one_end (omega (arith, g.within)) (omega (arith, g'.within, one-own)))

      one-bytes : Same s s' p (p + own_length s p)
      one-bytes i from lt = go (ltb i (p + 4)) refl (ltb i (p + 8)) refl
        where
          go : (x : Bool) → ltb i (p + 4) ≡ x → (y : Bool) → ltb i (p + 8) ≡ y → get_or s i 0 ≡ get_or s' i 0
          go true x y z = field-bytes s s' a a' 4 p one_type i from (ltb-true i (p + 4) x)
          go false x true z = field-bytes s s' a a' 4 (p + 4) one-length i (ltb-false i (p + 4) x) (omega (arith, ltb-true i (p + 8) z))
          go false x false z =
              slice-bytes s s' (p + prefix_size) (own_length s p - prefix_size) (rw (← one-own) at one-content) i (ltb-false i (p + 8) z) (omega (arith, own s p e g))

      pub one-twin : Twin s s' p e e'
      one-twin = record {
        long = t.long;
        same = same;
        end = λ lt. at_level_lem (λ h. omega (arith, level_out _ p e g.level h));
        end' = λ lt. at_level_lem (λ h. omega (arith, level_out _ p e' g'.level (rw (← one_type) h)));
      }
        where
          same : Same s s' p (length s)
          same i from lt = go (ltb i (p + own_length s p)) refl
            where
              go : (x : Bool) → ltb i (p + own_length s p) ≡ x → get_or s i 0 ≡ get_or s' i 0
              go true x = one-bytes i from (ltb-true _ _ x)
              go false x = t.same i (ltb-false _ _ x) lt

          at_level_lem : (is_sub (type_at s p) ≡ false → ⊥) → e ≡ e'
          at_level_lem outside = go (is_sub (type_at s p)) refl
            where
              go : (x : Bool) → is_sub (type_at s p) ≡ x → e ≡ e'
              go true x = one-sub x
              go false x = absurd (outside x)

  twin : (rs : List Record) (p e e' : ℕ) → e ≤ length s → e' ≤ length s' → Reads s p e rs → Reads s' p e' rs → Twin s s' p e e'
  twin [] p e e' b b' h h' =
      let z = ended s p e h in
      let z' = ended s' p e' h' in
      record { long = omega arith; same = λ i from lt. absurd (omega arith); end = λ lt. omega arith; end' = λ lt. omega arith }
  twin (r ∷ rs) p e e' b b' h h' =
      let g = h.0.good in
      let g' = h'.0.good in
      let next = one-own p e e' r g g' b b' h.0.is h'.0.is in
      one-twin p e e' r g g' b b' h.0.is h'.0.is
      (twin rs (p + own_length s p) (region_end s p e) (region_end s' p e') (region-inside s p e g b) (region-inside s' p e' g' b') h.1 (rw (← next) at h'.1))

  -- ---- the whole file

  pub unique : (file : File) → IsFile s file → IsFile s' file → s ≡ s'
  unfolding file_of
  unique file f f' =
      let long = header-whole s f.header in
      let all = twin file.records header_size header_size header_size long (header-whole s' f'.header) f.all f'.all in
      ext_get_or 0 s s' all.long (λ i lt. go i lt all (ltb i 4) refl (ltb i 8) refl (ltb i 12) refl)
    where
      same : file_of s file.records ≡ file_of s' file.records
      same = sym f.is ∙ f'.is

      go : (i : ℕ) → i < length s → Twin s s' header_size header_size header_size → (x : Bool) → ltb i 4 ≡ x → (y : Bool) → ltb i 8 ≡ y → (z : Bool) → ltb i 12 ≡ z
          → get_or s i 0 ≡ get_or s' i 0
      go i lt all true x y y' z z' = field-bytes s s' a a' 4 0 (ap (λ (file : File). file.magic) same) i (omega arith) (ltb-true i 4 x)
      go i lt all false x true y z z' = field-bytes s s' a a' 4 4 (ap (λ (file : File). file.version) same) i (ltb-false i 4 x) (ltb-true i 8 y)
      go i lt all false x false y true z = field-bytes s s' a a' 4 8 (ap (λ (file : File). file.flags) same) i (ltb-false i 8 y) (ltb-true i 12 z)
      go i lt all false x false y false z = all.same i (ltb-false i 12 z) lt
