-- The laws of single marks, for whoever does not look at how marks are kept.
use Prim.Native.Nat.{ℕ, zero, suc, ◌*◌, ◌/◌, ◌%◌, ◌<◌, ◌≤◌}
use native.Mathlib.Omega.{arith}
use mathlib.Core.Path.{◌≡◌, refl, sym, ◌∙◌, ap}
use mathlib.Core.Bool.{Bool, true, false, false≢true}
use mathlib.Core.List.{List, [], ◌∷◌}
use lib.ListN.{length, get_or, set, length-set}
use lib.Seq.{get_or-set_same, get_or-set_other, set_out}
use lib.Dec.{eqb, ltb}
use borrow.Author.Tests.{ltb-true, ltb-false, lt-ltb, eqb-true, eqb-false}
use Rattle.answer.specs.Tests.{◌and◌, pick}
use Rattle.answer.proofs.Tests.{and_true}
use Rattle.address.specs.declared.MemoryAddress.{MemoryAddress}
use Rattle.bitmap.specs.Bits.{with_bit, bit_of, with_bit_of}
use Rattle.memory.specs.Shadow.{Shadow, packed, wide, initialized, marked, marks, mark_bytes, shadow_length, SameMarks}
use Rattle.bitmap.proofs.Bits.{bound, bit-zero}
use Rattle.bitmap.proofs.Lists.{get_or_out, own-bit, other-bit}

pub marked-length : (s : Shadow) (a : MemoryAddress) (v : Bool) → mark_bytes (marked s a v) ≡ mark_bytes s
unfolding marked
marked-length (packed m l) a v = length-set l _ _
marked-length (wide l) a v = length-set l _ _

-- as many bytes have one
pub marked-marks : (s : Shadow) (a : MemoryAddress) (v : Bool) → marks (marked s a v) ≡ marks s
unfolding marked
marked-marks (packed m l) a v = refl
marked-marks (wide l) a v = length-set l _ _

-- the same number of mark bytes is due
pub marked-due : (s : Shadow) (a : MemoryAddress) (v : Bool) (n : ℕ) → shadow_length (marked s a v) n ≡ shadow_length s n
unfolding marked shadow_length
marked-due (packed m l) a v n = refl
marked-due (wide l) a v n = refl

-- each byte of a memory has a mark
pub due-room : (s : Shadow) (n : ℕ) → mark_bytes s ≡ shadow_length s n → n ≤ 8 * mark_bytes s
unfolding shadow_length
due-room (packed m l) n e = omega arith
due-room (wide l) n e = omega arith

pub is_one : (v : Bool) → eqb (pick v 1 0) 1 ≡ v
unfolding pick
is_one true = refl
is_one false = refl

-- ---- one mark

-- another byte's mark stays
pub marked_other : (s : Shadow) (a k : MemoryAddress) (v : Bool) → (k.0 ≡ a.0 → ⊥) → initialized (marked s a v) k ≡ initialized s k
unfolding marked initialized
marked_other (packed m l) a k v n =
    ap (λ (x : ℕ). ltb k.0 m and eqb x 1) (other-bit l a.0 k.0 (pick v 1 0) (bound v) n)
marked_other (wide l) a k v n = ap (λ (x : ℕ). eqb x 1) (get_or-set_other l a.0 k.0 (pick v 1 0) 0 n)

-- a byte in memory has the mark that was given to it
pub marked-same : (s : Shadow) (a : MemoryAddress) (v : Bool) → mark_bytes s ≡ shadow_length s (marks s) → a.0 < marks s → initialized (marked s a v) a ≡ v
unfolding marked initialized shadow_length ◌and◌
marked-same (packed m l) a v e h =
    rw (lt-ltb a.0 m h, own-bit l a.0 (pick v 1 0) (bound v) (omega arith)) (is_one v)
marked-same (wide l) a v e h = rw (get_or-set_same l a.0 (pick v 1 0) 0 (omega arith)) (is_one v)

-- what is still written is not the byte whose mark was cleared
pub cleared-off : (s : Shadow) (a k : MemoryAddress) → initialized (marked s a false) k ≡ true → k.0 ≡ a.0 → ⊥
unfolding marked initialized pick
cleared-off (packed m l) a k both e = go (ltb (a.0 / 8) (length l)) refl
  where
    h : eqb (bit_of (with_bit_of l a.0 0) k.0) 1 ≡ true
    h = (and_true _ _ both).1

    y : ℕ
    y = with_bit (a.0 % 8) 0 (get_or l (a.0 / 8) 0)

    go : (u : Bool) → ltb (a.0 / 8) (length l) ≡ u → ⊥
    go true d = false≢true (rw (e, own-bit l a.0 0 (omega arith) (ltb-true _ _ d)) at h)
    go false d =
        false≢true (rw (e, set_out l (a.0 / 8) y (ltb-false _ _ d), get_or_out l (a.0 / 8) (ltb-false _ _ d), bit-zero (a.0 % 8)) at h)
cleared-off (wide l) a k h e = off_at l a.0 k.0 h e
  where
    off_at : (s : List ℕ) (a k : ℕ) → eqb (get_or (set s a 0) k 0) 1 ≡ true → k ≡ a → ⊥
    off_at [] a k h e = false≢true h
    off_at (x ∷ s) zero zero h e = false≢true h
    off_at (x ∷ s) zero (suc k) h e = omega arith
    off_at (x ∷ s) (suc a) zero h e = omega arith
    off_at (x ∷ s) (suc a) (suc k) h e = off_at s a k h (omega arith)

-- and was written
pub cleared_was : (s : Shadow) (a k : MemoryAddress) → initialized (marked s a false) k ≡ true → initialized s k ≡ true
cleared_was s a k h = sym (marked_other s a k false (cleared-off s a k h)) ∙ h

-- a written byte has a mark
pub initialized-below : (s : Shadow) (k : MemoryAddress) → initialized s k ≡ true → k.0 < marks s
unfolding initialized
initialized-below (packed m l) k h = ltb-true _ _ (and_true _ _ h).0
initialized-below (wide l) k h = go (ltb k.0 (length l)) refl
  where
    go : (u : Bool) → ltb k.0 (length l) ≡ u → k.0 < length l
    go true d = ltb-true k.0 (length l) d
    go false d = absurd (false≢true (rw (get_or_out l k.0 (ltb-false _ _ d)) at h))

-- ---- shadows with the same marks

-- the mark of a byte once it was given one: that, where there is a place for it, and else what it was
own-packed : (n : ℕ) (l : List ℕ) (a : MemoryAddress) (v : Bool)
    → initialized (marked (packed n l) a v) a ≡ pick (ltb (a.0 / 8) (length l)) (ltb a.0 n and v) (initialized (packed n l) a)
unfolding initialized marked pick
own-packed n l a v = go (ltb (a.0 / 8) (length l)) refl
  where
    go : (u : Bool) → ltb (a.0 / 8) (length l) ≡ u
        → (ltb a.0 n and eqb (bit_of (with_bit_of l a.0 (pick v 1 0)) a.0) 1) ≡ pick u (ltb a.0 n and v) (ltb a.0 n and eqb (bit_of l a.0) 1)
    go true d =
        rw (own-bit l a.0 (pick v 1 0) (bound v) (ltb-true _ _ d), is_one v)
    go false d = rw (set_out l (a.0 / 8) (with_bit (a.0 % 8) (pick v 1 0) (get_or l (a.0 / 8) 0)) (ltb-false _ _ d))

own-wide : (l : List ℕ) (a : MemoryAddress) (v : Bool) → initialized (marked (wide l) a v) a ≡ pick (ltb a.0 (length l)) v (initialized (wide l) a)
unfolding initialized marked pick
own-wide l a v = go (ltb a.0 (length l)) refl
  where
    go : (u : Bool) → ltb a.0 (length l) ≡ u → eqb (get_or (set l a.0 (pick v 1 0)) a.0 0) 1 ≡ pick u v (eqb (get_or l a.0 0) 1)
    go true d = rw (get_or-set_same l a.0 (pick v 1 0) 0 (ltb-true _ _ d)) (is_one v)
    go false d = rw (set_out l a.0 (pick v 1 0) (ltb-false _ _ d))

own_same : (s t : Shadow) (a : MemoryAddress) (v : Bool) → SameMarks s t → initialized (marked s a v) a ≡ initialized (marked t a v) a
unfolding shadow_length
own_same (packed n l) (packed m k) a v h = own-packed n l a v ∙ rw (h.at a, h.level, h.long) (sym (own-packed m k a v))
own_same (packed n l) (wide k) a v h = absurd (omega (arith, h.way 2))
own_same (wide l) (packed m k) a v h = absurd (omega (arith, h.way 2))
own_same (wide l) (wide k) a v h = own-wide l a v ∙ rw (h.at a, h.long) (sym (own-wide k a v))

pub marked-alike : (s t : Shadow) (a : MemoryAddress) (v : Bool) → SameMarks s t → SameMarks (marked s a v) (marked t a v)
marked-alike s t a v h =
    record {
      level = marked-marks s a v ∙ h.level ∙ sym (marked-marks t a v);
      long = marked-length s a v ∙ h.long ∙ sym (marked-length t a v);
      way = λ n. marked-due s a v n ∙ h.way n ∙ sym (marked-due t a v n);
      at = λ k. go k (eqb k.0 a.0) refl;
    }
  where
    go : (k : MemoryAddress) (u : Bool) → eqb k.0 a.0 ≡ u → initialized (marked s a v) k ≡ initialized (marked t a v) k
    go k true e = let f : k ≡ a = (λ i. record { 0 = eqb-true k.0 a.0 e i }) in rw f (own_same s t a v h)
    go k false e = let f = eqb-false k.0 a.0 e in marked_other s a k v f ∙ h.at k ∙ sym (marked_other t a k v f)
