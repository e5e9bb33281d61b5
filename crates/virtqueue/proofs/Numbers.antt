-- Laws of the numbers that a walk reads and stores.
use Rattle.std.proofs.Common.{◌≡◌, ℕ, suc, ◌+◌, ◌*◌, ◌<◌, ◌≤◌, List, [], ◌∷◌, ◌++◌, length, drop, set, sym, refl, ap, ◌∙◌, add-zero, add-one, arith, get_or-take, le-ltb, lt-ltb}
use Rattle.answer.proofs.Tests.{pick_true, pick_false}
use Rattle.wire.specs.Field.{field, slice}
use Rattle.wire.proofs.Laws.{field_cong, field-drop}
use Rattle.virtqueue.specs.declared.Descriptor.{Descriptor}
use Rattle.virtqueue.specs.Ring.{descriptor_of, numbers_of}
use Rattle.virtqueue.specs.Passes.{put_at}

-- ---- fields

-- a field of a part is one of the whole
pub field-part : (l : List ℕ) (a n o w : ℕ) → o + w ≤ n → field (slice l a n) o w ≡ field l (a + o) w
field-part l a n o w h = field_cong (slice l a n) (drop a l) o w (λ i b. get_or-take n (drop a l) (o + i) 0 (omega arith)) ∙ field-drop l a o w

-- two bytes, whole
pub pair : (l : List ℕ) (a : ℕ) → field (slice l a 2) 0 2 ≡ field l a 2
pair l a = rw (field-part l a 2 0 2 (omega arith), add-zero a) refl

pub descriptor_part : (l : List ℕ) (a : ℕ) (x : Descriptor) → x.address ≡ field l a 8 → x.length ≡ field l (a + 8) 4 → x.flags ≡ field l (a + 12) 2 → x.next ≡ field l (a + 14) 2 → x ≡ descriptor_of (slice l a 16)
unfolding descriptor_of
descriptor_part l a x address long flags next =
    rw (field-part l a 16 0 8 (omega arith), add-zero a, field-part l a 16 8 4 (omega arith), field-part l a 16 12 2 (omega arith), field-part l a 16 14 2 (omega arith), ← address, ← long, ← flags, ← next) refl

-- ---- three numbers for each buffer

pub numbers-length : (xs : List Descriptor) → length (numbers_of xs) ≡ 3 * length xs
unfolding numbers_of
numbers-length [] = refl
numbers-length (x ∷ xs) = omega (arith, numbers-length xs)

pub numbers-append : (xs ys : List Descriptor) → numbers_of (xs ++ ys) ≡ numbers_of xs ++ numbers_of ys
unfolding numbers_of
numbers-append [] ys = refl
numbers-append (x ∷ xs) ys = ap (λ (rest : List ℕ). x.address ∷ x.length ∷ x.flags ∷ rest) (numbers-append xs ys)

module _ (ns : List ℕ) (buffers : ℕ) (x : Descriptor) where
  pub put-short : length ns < 3 * buffers + 3 → ns ≡ put_at ns buffers x
  unfolding put_at
  put-short h = sym (pick_true _ _ _ (lt-ltb _ _ h))

  pub put-fits : 3 * buffers + 3 ≤ length ns → set (set (set ns (3 * buffers) x.address) (3 * buffers + 1) x.length) (3 * buffers + 2) x.flags ≡ put_at ns buffers x
  unfolding put_at numbers_of
  put-fits h =
      let e : 3 * buffers + 2 ≡ suc (suc (3 * buffers)) = omega arith in
      rw (add-one (3 * buffers), e) (sym (pick_false _ _ _ (le-ltb _ _ h)))
