-- Laws of powers of two, by the ones among a number's binary digits.
use Prim.Native.Nat.{ℕ, zero, suc, ◌+◌, ◌*◌, ◌/◌, ◌%◌, ◌^◌, ◌≤◌, ◌<◌}
use native.Mathlib.Nat.{lt_of_not-le, le_of_suc-le-suc}
use native.Mathlib.Decide.{le_ind}
use native.Mathlib.Omega.{arith}
use mathlib.Core.Path.{◌≡◌, refl, sym}
use mathlib.Core.Bool.{Bool, true, false, ◌&&◌}
use lib.Dec.{eqb, leb}
use lib.Count.{ones, ones_step, ones_cat, ones-le}
use lib.Pow.{pow_pos, pow_mono, pow-lt}
use borrow.Author.Tests.{eq-eqb, eqb-true, leb-true, leb-false}
use Rattle.answer.specs.Tests.{◌or◌}
use Rattle.answer.proofs.Tests.{or_left, is_false, same_test}
use Rattle.registers.specs.PowersOfTwo.{PowerByOnes}
use Rattle.registers.specs.Values.{power_of_two}

-- ---- the count of ones, over the number of digits

-- only 0 has none
no_ones : (w n : ℕ) → n < 2 ^ w → ones n ≡ 0 → n ≡ 0
no_ones zero n h e = omega arith
no_ones (suc w) n h e =
    let s = ones_step n in
    omega (arith, no_ones w (n / 2) (omega arith) (omega arith))

-- the 1 of a number that has one: it stands above the lowest digit, or is that digit, and the others are 0
one_one : (w n : ℕ) → n < 2 ^ w → ones n ≡ 1 → (k : ℕ) × (n ≡ 2 ^ k)
one_one zero n h e = absurd (omega (arith, ones-le 0 n h))
one_one (suc w) n h e = go (n % 2) refl (ones_step n) (one_one w (n / 2) (omega arith))
  where
    go : (d : ℕ) → n % 2 ≡ d → ones n ≡ n % 2 + ones (n / 2) → (ones (n / 2) ≡ 1 → (k : ℕ) × (n / 2 ≡ 2 ^ k)) → (k : ℕ) × (n ≡ 2 ^ k)
    go zero d s above = let p = above (omega arith) in (suc p.0, omega arith)
    go (suc x) d s above = (0, omega (arith, no_ones w (n / 2) (omega arith) (omega arith)))

power-ones : (k : ℕ) → ones (2 ^ k) ≡ 1
unfolding ones
power-ones k =
    let e : 1 * 2 ^ k + 0 ≡ 2 ^ k = omega arith in
    rw e at (ones_cat k 1 0 (pow_pos k))

pub power_by_ones : PowerByOnes
unfolding PowerByOnes
power_by_ones n h = (one_one 16 n h, λ p. rw p.1 (power-ones p.0))

-- ---- powers of two up to a bound

power-is : (m n : ℕ) → power_of_two m n ≡ true → (k : ℕ) × (k ≤ m) × (n ≡ 2 ^ k)
unfolding power_of_two ◌or◌
power-is zero n h = (0, omega arith, eqb-true _ _ h)
power-is (suc m) n h = go (eqb n (2 ^ suc m)) refl (power-is m n) h
  where
    go : (t : Bool) → eqb n (2 ^ suc m) ≡ t → (power_of_two m n ≡ true → (k : ℕ) × (k ≤ m) × (n ≡ 2 ^ k)) → (t or power_of_two m n) ≡ true
        → (k : ℕ) × (k ≤ suc m) × (n ≡ 2 ^ k)
    go true e less p = (suc m, omega arith, eqb-true _ _ e)
    go false e less p = let r = less p in (r.0, omega arith, r.2)

pub power-most : (m n : ℕ) → 2 ^ m < n → power_of_two m n ≡ false
power-most m n h = is_false _ (λ t. let p = power-is m n t in omega (arith, pow_mono p.1))

or_right : (s t : Bool) → t ≡ true → (s or t) ≡ true
unfolding ◌or◌
or_right true t h = refl
or_right false t h = h

greatest : (k : ℕ) → power_of_two k (2 ^ k) ≡ true
unfolding power_of_two
greatest zero = refl
greatest (suc k) = or_left _ _ (eq-eqb (2 ^ suc k) _ refl)

power_made : (m k : ℕ) → 2 ^ k ≤ 2 ^ m → power_of_two m (2 ^ k) ≡ true
unfolding power_of_two
power_made m k h =
    le_ind (λ m. power_of_two m (2 ^ k) ≡ true) (greatest k) (λ m l. or_right (eqb (2 ^ k) (2 ^ suc m)) _) m
    (le_of_suc-le-suc (lt_of_not-le (λ (g : m < k). omega (arith, pow-lt g))))

-- they are what has one 1
power-counted : (m n : ℕ) → m < 16 → n ≤ 2 ^ m → eqb (ones n) 1 ≡ power_of_two m n
unfolding PowerByOnes
power-counted m n l h =
    let law = power_by_ones n (omega (arith, pow-lt l)) in
    same_test _ _
    (λ t. let p = law.0 (eqb-true _ _ t) in rw p.1 (power_made m p.0 (omega arith)))
    (λ t. let p = power-is m n t in eq-eqb _ _ (law.1 (p.0, p.2)))

-- the code's test of any number
pub power-tested : (m n : ℕ) → m < 16 → (leb n (2 ^ m) && eqb (ones n) 1) ≡ power_of_two m n
power-tested m n l = go (leb n (2 ^ m)) refl
  where
    go : (t : Bool) → leb n (2 ^ m) ≡ t → (t && eqb (ones n) 1) ≡ power_of_two m n
    go true e = power-counted m n l (leb-true _ _ e)
    go false e = sym (power-most m n (leb-false _ _ e))
