-- Laws of bits, each over the bit's index.
use Prim.Native.Nat.{ℕ, zero, suc, ◌+◌, ◌*◌, ◌-◌, ◌/◌, ◌%◌, ◌^◌, ◌≤◌, ◌<◌}
use native.Mathlib.Nat.{pow-suc, mul_comm, mul_assoc, div-div-eq-div-mul}
use native.Mathlib.Omega.{arith}
use mathlib.Core.Path.{◌≡◌, refl, sym, ◌∙◌, ap}
use mathlib.Core.Bool.{Bool, true, false}
use lib.Arith.{mod-mul}
use lib.Pow.{pow_pos}
use Rattle.answer.specs.Tests.{pick}
use Rattle.bitmap.specs.Bits.{bit, with_bit, with_bits, Ones}

-- ---- half of a number, under a power of two

div_half : (x e : ℕ) → x / 2 ^ suc e ≡ x / 2 / 2 ^ e
div_half x e = rw (pow-suc 2 e, mul_comm (2 ^ e) 2) (sym (div-div-eq-div-mul x 2 (2 ^ e)))

mod_half : (x e : ℕ) → x % 2 ^ suc e ≡ x / 2 % 2 ^ e * 2 + x % 2
mod_half x e = rw (pow-suc 2 e) (mod-mul x (pow_pos e) (omega arith))

high_half : (x e : ℕ) → x / 2 ^ suc e * 2 ^ suc e ≡ x / 2 / 2 ^ e * 2 ^ e * 2
high_half x e = rw (div_half x e, pow-suc 2 e) (sym (mul_assoc (x / 2 / 2 ^ e) (2 ^ e) 2))

-- ---- one bit

pub bit_is : (k x : ℕ) → bit k x ≡ x / 2 ^ k % 2
unfolding bit
bit_is zero x = omega arith
bit_is (suc k) x = bit_is k (x / 2) ∙ rw (div_half x k)

pub bit-zero : (k : ℕ) → bit k 0 ≡ 0
unfolding bit
bit-zero zero = refl
bit-zero (suc k) = bit-zero k

pub bit-same : (k v x : ℕ) → v ≤ 1 → bit k (with_bit k v x) ≡ v
unfolding bit with_bit
bit-same zero v x h = omega arith
bit-same (suc k) v x h =
    let e : (with_bit k v (x / 2) * 2 + x % 2) / 2 ≡ with_bit k v (x / 2) = omega arith in
    rw e (bit-same k v (x / 2) h)

pub bit-other : (j k v x : ℕ) → v ≤ 1 → (j ≡ k → ⊥) → bit j (with_bit k v x) ≡ bit j x
unfolding bit with_bit
bit-other zero zero v x h n = absurd (n refl)
bit-other zero (suc k) v x h n = omega arith
bit-other (suc j) zero v x h n = let e : (x / 2 * 2 + v) / 2 ≡ x / 2 = omega arith in rw e
bit-other (suc j) (suc k) v x h n =
    let e : (with_bit k v (x / 2) * 2 + x % 2) / 2 ≡ with_bit k v (x / 2) = omega arith in
    rw e (bit-other j k v (x / 2) h (λ p. n (ap suc p)))

-- ---- several bits

-- none
pub bits_none : (k v x : ℕ) → with_bits k k v x ≡ x
unfolding with_bits
bits_none zero v x = refl
bits_none (suc k) v x = rw (bits_none k v (x / 2)) (omega arith)

-- one more
pub bits_more : (k e v x : ℕ) → k ≤ e → v ≤ 1 → with_bit e v (with_bits k e v x) ≡ with_bits k (suc e) v x
unfolding with_bit with_bits
bits_more zero zero v x l h = refl
bits_more zero (suc e) v x l h =
    let w = with_bits zero e v (x / 2) in
    let p : (w * 2 + v) / 2 ≡ w = omega arith in
    let q : (w * 2 + v) % 2 ≡ v = omega arith in
    rw (p, q, bits_more zero e v (x / 2) (omega arith) h)
bits_more (suc k) zero v x l h = absurd (omega arith)
bits_more (suc k) (suc e) v x l h =
    let w = with_bits k e v (x / 2) in
    let p : (w * 2 + x % 2) / 2 ≡ w = omega arith in
    let q : (w * 2 + x % 2) % 2 ≡ x % 2 = omega arith in
    rw (p, q, bits_more k e v (x / 2) (omega arith) h)

pub bits_lt : (k e w v x : ℕ) → e ≤ w → v ≤ 1 → x < 2 ^ w → with_bits k e v x < 2 ^ w
unfolding with_bits
bits_lt k zero w v x l h r = r
bits_lt k (suc e) zero v x l h r = absurd (omega arith)
bits_lt zero (suc e) (suc w) v x l h r =
    let p = pow-suc 2 w in
    let q : with_bits zero e v (x / 2) < 2 ^ w = bits_lt zero e w v (x / 2) (omega arith) h (omega arith) in
    omega arith
bits_lt (suc k) (suc e) (suc w) v x l h r =
    let p = pow-suc 2 w in
    let q : with_bits k e v (x / 2) < 2 ^ w = bits_lt k e w v (x / 2) (omega arith) h (omega arith) in
    omega arith

-- the bits above, those below, and between them a power less a power
pub bits_are : (k e x : ℕ) (v : Bool) → k ≤ e → with_bits k e (pick v 1 0) x ≡ x / 2 ^ e * 2 ^ e + x % 2 ^ k + pick v (2 ^ e - 2 ^ k) 0
unfolding with_bits pick
bits_are zero zero x true l = omega arith
bits_are zero zero x false l = omega arith
bits_are zero (suc e) x true l =
    omega (arith, high_half x e, pow-suc 2 e, pow_pos e, bits_are zero e (x / 2) true (omega arith))
bits_are zero (suc e) x false l =
    omega (arith, high_half x e, pow-suc 2 e, pow_pos e, bits_are zero e (x / 2) false (omega arith))
bits_are (suc k) zero x v l = absurd (omega arith)
bits_are (suc k) (suc e) x true l =
    omega (arith, high_half x e, mod_half x k, pow-suc 2 e, pow-suc 2 k, bits_are k e (x / 2) true (omega arith))
bits_are (suc k) (suc e) x false l =
    omega (arith, high_half x e, mod_half x k, pow-suc 2 e, pow-suc 2 k, bits_are k e (x / 2) false (omega arith))

-- all of a byte
pub bits_all : (x : ℕ) (v : Bool) → x < 256 → with_bits 0 8 (pick v 1 0) x ≡ pick v 255 0
unfolding pick
bits_all x true h = omega (arith, bits_are 0 8 x true (omega arith))
bits_all x false h = omega (arith, bits_are 0 8 x false (omega arith))

-- ---- bits that are all set

low_ones : (m x : ℕ) → x % 2 ^ m + 1 ≡ 2 ^ m → (j : ℕ) → j < m → bit j x ≡ 1
unfolding bit
low_ones zero x h j l = absurd (omega arith)
low_ones (suc m) x h zero l = omega (arith, mod_half x m, pow-suc 2 m)
low_ones (suc m) x h (suc j) l = low_ones m (x / 2) (omega (arith, mod_half x m, pow-suc 2 m)) j (omega arith)

bit-above : (k j x : ℕ) → bit j (x / 2 ^ k) ≡ bit (k + j) x
unfolding bit
bit-above zero j x = let e : x / 2 ^ 0 ≡ x = omega arith in let f : 0 + j ≡ j = omega arith in rw (e, f)
bit-above (suc k) j x = let f : suc k + j ≡ suc (k + j) = omega arith in rw (div_half x k, f) (bit-above k j (x / 2))

pub ones-are : (k e x : ℕ) → k ≤ e → x / 2 ^ k % 2 ^ (e - k) + 1 ≡ 2 ^ (e - k) → Ones k e x
unfolding Ones
ones-are k e x l h j from to =
    let f : k + (j - k) ≡ j = omega arith in
    rw f at (sym (bit-above k (j - k) x) ∙ low_ones (e - k) (x / 2 ^ k) h (j - k) (omega arith))

pub ones-byte : Ones 0 8 255
ones-byte = ones-are 0 8 255 (omega arith) refl

pub bound : (v : Bool) → pick v 1 0 ≤ 1
unfolding pick
bound true = omega arith
bound false = omega arith
