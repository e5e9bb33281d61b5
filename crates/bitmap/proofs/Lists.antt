-- Laws of a single bit of a list.
use Prim.Native.Nat.{ℕ, zero, suc, ◌/◌, ◌%◌, ◌≤◌, ◌<◌}
use native.Mathlib.Nat.{not-suc-le-zero}
use native.Mathlib.Omega.{arith}
use Rattle.std.specs.List.{fold}
use Rattle.std.specs.Int.Bits.{bit_and}
use Rattle.std.proofs.lemmas.Nat.{and_le_l, and_le_r}
use mathlib.Core.Path.{◌≡◌, refl, ap}
use mathlib.Core.Bool.{Bool, true, false}
use mathlib.Core.List.{List, [], ◌∷◌}
use lib.ListN.{length, get_or, set}
use lib.Seq.{get_or-set_same, get_or-set_other, set_out}
use lib.Dec.{eqb, ltb}
use borrow.Author.Tests.{ltb-true, ltb-false, eqb-true, eqb-false}
use Rattle.bitmap.specs.Bits.{bit, with_bit, bit_of, with_bit_of}
use Rattle.bitmap.proofs.Bits.{bit-same, bit-other}

pub get_or_out : (l : List ℕ) (i : ℕ) → length l ≤ i → get_or l i 0 ≡ 0
get_or_out [] i h = refl
get_or_out (x ∷ l) zero h = absurd (omega arith)
get_or_out (x ∷ l) (suc i) h = get_or_out l i (omega arith)

-- an element, under a function that keeps what a store changes
kept_at : (f : ℕ → ℕ) (l : List ℕ) (i k y : ℕ) → (k ≡ i → f y ≡ f (get_or l i 0)) → f (get_or (set l i y) k 0) ≡ f (get_or l k 0)
kept_at f l i k y h = go (eqb k i) (ltb i (length l)) refl refl
  where
    go : (t u : Bool) → eqb k i ≡ t → ltb i (length l) ≡ u → f (get_or (set l i y) k 0) ≡ f (get_or l k 0)
    go false u e d = ap f (get_or-set_other l i k y 0 (eqb-false k i e))
    go true true e d = let p = eqb-true k i e in rw (p, get_or-set_same l i y 0 (ltb-true i (length l) d)) (h p)
    go true false e d = rw (set_out l i y (ltb-false i (length l) d))

-- a bit that was given a value has it, where the list has a byte for it
pub own-bit : (l : List ℕ) (a v : ℕ) → v ≤ 1 → a / 8 < length l → bit_of (with_bit_of l a v) a ≡ v
own-bit l a v b h = rw (get_or-set_same l (a / 8) (with_bit (a % 8) v (get_or l (a / 8) 0)) 0 h) (bit-same (a % 8) v (get_or l (a / 8) 0) b)

-- every other bit stays
pub other-bit : (l : List ℕ) (a k v : ℕ) → v ≤ 1 → (k ≡ a → ⊥) → bit_of (with_bit_of l a v) k ≡ bit_of l k
other-bit l a k v b n = kept_at (bit (k % 8)) l (a / 8) (k / 8) _ (λ e. bit-other (k % 8) (a % 8) v _ b (λ f. n (omega arith)))

-- bytes that have 255 in common are 255
pub common-255 : (a : ℕ) (xs : List ℕ) → a < 256 → ((i : ℕ) → i < length xs → get_or xs i 0 < 256) → fold bit_and a xs ≡ 255
    → (a ≡ 255) × ((i : ℕ) → i < length xs → get_or xs i 0 ≡ 255)
common-255 a [] la lx h = (h, λ i lt. absurd (not-suc-le-zero lt))
common-255 a (x ∷ xs) la lx h = step (common-255 (bit_and a x) xs (omega (arith, and_le_l a x)) (λ i lt. lx (suc i) (omega arith)) h)
  where
    each : (bit_and a x ≡ 255) → ((i : ℕ) → i < length xs → get_or xs i 0 ≡ 255) → (i : ℕ) → i < suc (length xs) → get_or (x ∷ xs) i 0 ≡ 255
    each first rest zero lt = omega (arith, first, and_le_r a x, lx 0 (omega arith))
    each first rest (suc i) lt = rest i (omega arith)

    step : (bit_and a x ≡ 255) × ((i : ℕ) → i < length xs → get_or xs i 0 ≡ 255)
        → (a ≡ 255) × ((i : ℕ) → i < suc (length xs) → get_or (x ∷ xs) i 0 ≡ 255)
    step r = (omega (arith, r.0, and_le_l a x), each r.0 r.1)
