-- Laws of one record: what its checks tell, how long it is, and where it ends.
use Prim.Native.Nat.{ℕ, ◌+◌, ◌-◌, ◌≤◌, ◌<◌}
use native.Mathlib.Omega.{arith}
use mathlib.Core.Path.{◌≡◌, refl, sym, ◌∙◌, ap}
use mathlib.Core.Bool.{Bool, true, false, not, true≢false}
use mathlib.Core.List.{List}
use lib.ListN.{length}
use lib.Dec.{leb, ltb, eqb}
use borrow.Author.Tests.{leb-true, ltb-true, ltb-false, eqb-true, le-leb, le-ltb, lt-ltb, ne_eqb, not-true}
use Rattle.answer.specs.Tests.{◌and◌, ◌or◌, pick}
use Rattle.answer.specs.Checks.{Pass, ◌then◌, ◌when◌, ◌unless◌, ◌at◌}
use Rattle.answer.proofs.Tests.{and_true, below, below_at}
use Rattle.answer.proofs.Checks.{then_pass, when_pass, unless_pass, at_pass}
use Rattle.wire.specs.Field.{slice}
use Rattle.device_file.specs.Layout.{Region, DtPath, DtIndex, Interrupt, is_type, is_sub, prefix_size, region_size, least_length, fits, valid_content}
use Rattle.device_file.specs.Read.{in_region, room_end, type_at, length_at, at_level, record_checks, record_fault, own_length, region_end}

-- ---- lengths and content of a type

pub fits-least : (t n : ℕ) → fits t n ≡ true → least_length t ≤ n
unfolding fits pick
fits-least t n = go (eqb t Region or eqb t DtPath)
  where
    go : (b : Bool) → pick b (leb (least_length t) n) (eqb n (least_length t)) ≡ true → least_length t ≤ n
    go true h = leb-true _ _ h
    go false h = omega (arith, eqb-true n (least_length t) h)

pub region-least : (n : ℕ) → fits Region n ≡ true → region_size ≤ n
unfolding least_length
region-least n h = fits-least Region n h

pub index-length : (t n : ℕ) → fits t n ≡ true → t ≡ DtIndex → 16 ≤ n
unfolding least_length
index-length t n h e = fits-least DtIndex n (rw e at h)

unfoldable long_enough : ℕ → Bool
long_enough t = not (is_type t) or leb prefix_size (least_length t)

long-enough : (t : ℕ) → t ≤ 7 → long_enough t ≡ true
unfolding long_enough is_type least_length below ◌and◌ ◌or◌
long-enough t lt = below_at long_enough 8 refl t (omega arith)

-- every type has a prefix in its length
pub least-length : (t : ℕ) → is_type t ≡ true → prefix_size ≤ least_length t
unfolding is_type long_enough ◌or◌
least-length t h =
    leb-true _ _ (ap (λ (b : Bool). not b or leb prefix_size (least_length t)) (sym h) ∙ long-enough t (leb-true t 7 (and_true _ _ h).1))

pub valid-other : (t : ℕ) (v : List ℕ) → eqb t DtIndex ≡ false → true ≡ valid_content t v
unfolding valid_content pick
valid-other t v e = rw e

pub region-valid : (t : ℕ) (v : List ℕ) → eqb t Region ≡ true → valid_content t v ≡ true
region-valid t v e = let r = eqb-true t Region e in sym (valid-other t v (ne_eqb t DtIndex (λ z. omega arith)))

-- ---- levels

pub level_outside : (t p e : ℕ) → is_sub t ≡ false → e ≤ p → at_level t (in_region p e) ≡ true
unfolding at_level in_region pick
level_outside t p e sub h = rw (le-ltb p e h, sub)

pub level-inside : (t p e : ℕ) → is_sub t ≡ true → p < e → at_level t (in_region p e) ≡ true
unfolding at_level in_region pick
level-inside t p e sub h = rw (lt-ltb p e h, sub)

pub level-sub : (t p e : ℕ) → at_level t (in_region p e) ≡ true → p < e → is_sub t ≡ true
unfolding at_level in_region pick
level-sub t p e h lt = rw (lt-ltb p e lt) at h

pub level-not : (t p e : ℕ) → at_level t (in_region p e) ≡ true → e ≤ p → is_sub t ≡ false
unfolding at_level in_region pick
level-not t p e h le = not-true (is_sub t) (rw (le-ltb p e le) at h)

pub level_out : (t p e : ℕ) → at_level t (in_region p e) ≡ true → is_sub t ≡ false → e ≤ p
unfolding at_level in_region pick
level_out t p e h sub = go (ltb p e) refl h
  where
    go : (b : Bool) → ltb p e ≡ b → pick b (is_sub t) (not (is_sub t)) ≡ true → e ≤ p
    go true c z = absurd (true≢false (sym z ∙ sub))
    go false c z = ltb-false p e c

pub level_in : (t p e : ℕ) → at_level t (in_region p e) ≡ true → is_sub t ≡ true → p < e
unfolding at_level in_region pick
level_in t p e h sub = go (ltb p e) refl h
  where
    go : (b : Bool) → ltb p e ≡ b → pick b (is_sub t) (not (is_sub t)) ≡ true → p < e
    go true c z = ltb-true p e c
    go false c z = absurd (true≢false (sym sub ∙ not-true (is_sub t) z))

-- ---- the checks of a record

pub record Good (s : List ℕ) (p e : ℕ) : Type 0 where
  pub prefix : p + prefix_size ≤ room_end s p e
  pub known : is_type (type_at s p) ≡ true
  pub level : at_level (type_at s p) (in_region p e) ≡ true
  pub within : p + length_at s p ≤ room_end s p e
  pub fit : fits (type_at s p) (length_at s p) ≡ true
  pub valid : valid_content (type_at s p) (slice s (p + prefix_size) (length_at s p - prefix_size)) ≡ true

pub good : (s : List ℕ) (p e : ℕ) → record_fault s p e ≡ Pass → Good s p e
unfolding record_fault record_checks
good s p e h =
    let a = then_pass _ _ (at_pass _ p h) in
    let b = then_pass _ _ a.1 in
    let d = then_pass _ _ b.1 in
    let f = then_pass _ _ d.1 in
    let g = then_pass _ _ f.1 in
    record {
      prefix = leb-true _ _ (unless_pass _ _ a.0);
      known = unless_pass _ _ b.0;
      level = unless_pass _ _ d.0;
      within = ltb-false _ _ (when_pass _ _ f.0);
      fit = unless_pass _ _ g.0;
      valid = unless_pass _ _ g.1;
    }

pub passes : (s : List ℕ) (p e : ℕ) → Good s p e → record_fault s p e ≡ Pass
unfolding record_fault record_checks ◌then◌ ◌when◌ ◌unless◌ ◌at◌
passes s p e g = rw (le-leb _ _ g.prefix, g.known, g.level, le-ltb _ _ g.within, g.fit, g.valid)

-- ---- where a record that is good ends

pub room-inside : (s : List ℕ) (p e : ℕ) → e ≤ length s → room_end s p e ≤ length s
unfolding room_end pick
room-inside s p e h = go (in_region p e)
  where
    go : (b : Bool) → pick b e (length s) ≤ length s
    go true = h
    go false = omega arith

pub own-region : (s : List ℕ) (p : ℕ) → type_at s p ≡ Region → own_length s p ≡ region_size
unfolding own_length pick
own-region s p e = rw e

pub own-other : (s : List ℕ) (p : ℕ) → eqb (type_at s p) Region ≡ false → own_length s p ≡ length_at s p
unfolding own_length pick
own-other s p e = rw e

pub end-region : (s : List ℕ) (p e : ℕ) → type_at s p ≡ Region → region_end s p e ≡ p + length_at s p
unfolding region_end pick
end-region s p e h = rw h

pub end-other : (s : List ℕ) (p e : ℕ) → eqb (type_at s p) Region ≡ false → region_end s p e ≡ e
unfolding region_end pick
end-other s p e h = rw h

pub sub-type : (t : ℕ) → is_sub t ≡ true → eqb t Region ≡ false
unfolding is_sub ◌or◌
sub-type t = go (eqb t Region)
  where
    go : (b : Bool) → not (b or eqb t Interrupt) ≡ true → b ≡ false
    go true h = sym h
    go false h = refl

pub end-sub : (s : List ℕ) (p e : ℕ) → is_sub (type_at s p) ≡ true → region_end s p e ≡ e
end-sub s p e h = end-other s p e (sub-type (type_at s p) h)

module _ (s : List ℕ) (p e : ℕ) (g : Good s p e) where
  pub length-least : prefix_size ≤ length_at s p
  length-least = omega (arith, fits-least _ _ g.fit, least-length _ g.known)

  -- how long the record is before its sub-records
  pub own : (prefix_size ≤ own_length s p) × (own_length s p ≤ length_at s p)
  unfolding own_length pick
  own = go (eqb (type_at s p) Region) refl
    where
      go : (b : Bool) → eqb (type_at s p) Region ≡ b → (prefix_size ≤ pick b region_size (length_at s p)) × (pick b region_size (length_at s p) ≤ length_at s p)
      go true h = (omega arith, region-least _ (rw (eqb-true (type_at s p) Region h) at g.fit))
      go false h = (length-least, omega arith)

  module _ (h : e ≤ length s) where
    pub own-inside : p + own_length s p ≤ length s
    own-inside = omega (arith, own, g.within, room-inside s p e h)

    pub region-inside : region_end s p e ≤ length s
    unfolding region_end pick
    region-inside = go (eqb (type_at s p) Region)
      where
        go : (b : Bool) → pick b (p + length_at s p) e ≤ length s
        go true = omega (arith, g.within, room-inside s p e h)
        go false = h
