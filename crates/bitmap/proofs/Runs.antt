-- Laws of runs of bits of a list: bits of one byte, of whole bytes, and one run behind another.
use Prim.Native.Nat.{ℕ, zero, suc, ◌+◌, ◌*◌, ◌-◌, ◌/◌, ◌%◌, ◌≤◌, ◌<◌}
use native.Mathlib.Nat.{add-zero, add-suc}
use native.Mathlib.Omega.{arith}
use mathlib.Core.Path.{◌≡◌, refl, sym, ◌∙◌, ap}
use mathlib.Core.Bool.{Bool, true, false}
use mathlib.Core.List.{List}
use lib.ListN.{length, get_or, set, replicate, length-set}
use lib.Seq.{sets, get_or-set_same, get_or-set_other, set-get_or, set-set}
use lib.Dec.{ltb}
use borrow.Author.Tests.{ltb-true, ltb-false}
use Rattle.answer.specs.Tests.{pick}
use Rattle.bitmap.specs.Bits.{with_bit, with_bits, Ones, bit_of, with_bit_of, with_run, OnesOf}
use Rattle.bitmap.proofs.Bits.{bound, bits_none, bits_more, bits_all, ones-byte}

-- ---- bits that are set

pub ones_none : (l : List ℕ) (a : ℕ) → OnesOf l a 0
unfolding OnesOf
ones_none l a i h = absurd (omega arith)

-- a run's start and length may be other terms
pub ones-same : (l : List ℕ) (a b m n : ℕ) → a ≡ b → m ≡ n → OnesOf l a m → OnesOf l b n
ones-same l a b m n e f h = rw (← e, ← f) h

-- one run behind another
pub ones_then : (l : List ℕ) (a m b n k : ℕ) → a + m ≡ b → m + n ≡ k → OnesOf l a m → OnesOf l b n → OnesOf l a k
unfolding OnesOf
ones_then l a m b n k e f first second i h = go (ltb i m) refl
  where
    go : (t : Bool) → ltb i m ≡ t → bit_of l (a + i) ≡ 1
    go true d = first i (ltb-true i m d)
    go false d = let g : b + (i - m) ≡ a + i = omega (arith, ltb-false i m d) in rw g at (second (i - m) (omega (arith, ltb-false i m d)))

-- bits of one byte
pub ones_in : (l : List ℕ) (q k e : ℕ) → e ≤ 8 → Ones k e (get_or l q 0) → OnesOf l (8 * q + k) (e - k)
unfolding OnesOf Ones
ones_in l q k e r h i d =
    let f : (8 * q + k + i) / 8 ≡ q = omega arith in
    let g : (8 * q + k + i) % 8 ≡ k + i = omega arith in
    rw (f, g) (h (k + i) (omega arith) (omega arith))

-- bits of whole bytes
pub ones-whole : (l : List ℕ) (q c : ℕ) → ((j : ℕ) → j < c → get_or l (q + j) 0 ≡ 255) → OnesOf l (8 * q) (8 * c)
unfolding OnesOf Ones
ones-whole l q c h i d =
    let f : (8 * q + i) / 8 ≡ q + i / 8 = omega arith in
    let g : (8 * q + i) % 8 ≡ i % 8 = omega arith in
    rw (f, g, h (i / 8) (omega arith)) (ones-byte (i % 8) (omega arith) (omega arith))

-- ---- bits that are written

-- one run behind another
pub run_join : (l : List ℕ) (a m n v : ℕ) → with_run (with_run l a m v) (a + m) n v ≡ with_run l a (m + n) v
unfolding with_run
run_join l a zero n v = let e : a + 0 ≡ a = omega arith in let f : 0 + n ≡ n = omega arith in rw (e, f)
run_join l a (suc m) n v =
    let e : a + suc m ≡ a + 1 + m = omega arith in
    let f : suc m + n ≡ suc (m + n) = omega arith in
    rw (e, f) (run_join (with_bit_of l a v) (a + 1) m n v)

-- the same, of lists that code has left; a run's start and length may be other terms
pub run-same : (l s : List ℕ) (a b m n v : ℕ) → a ≡ b → m ≡ n → s ≡ with_run l a m v → s ≡ with_run l b n v
run-same l s a b m n v e f h = rw (← e, ← f) h

pub run_then : (l s t : List ℕ) (a m b n k v : ℕ) → a + m ≡ b → m + n ≡ k → s ≡ with_run l a m v → t ≡ with_run s b n v → t ≡ with_run l a k v
run_then l s t a m b n k v e f first second = rw (second, first, ← e, ← f) (run_join l a m n v)

-- its last bit
run-last : (l : List ℕ) (a m v : ℕ) → with_run l a (suc m) v ≡ with_bit_of (with_run l a m v) (a + m) v
unfolding with_run
run-last l a m v = let e : m + 1 ≡ suc m = omega arith in sym (rw e at (run_join l a m 1 v))

-- bits of one byte
module _ (l : List ℕ) (q : ℕ) (room : q < length l) (v : ℕ) (one : v ≤ 1) where
  pub run_in : (k m : ℕ) → k + m ≤ 8 → with_run l (8 * q + k) m v ≡ set l q (with_bits k (k + m) v (get_or l q 0))
  unfolding with_run
  run_in k zero h = rw (add-zero k, bits_none k v (get_or l q 0), set-get_or l q 0)
  run_in k (suc m) h =
      run-last l (8 * q + k) m v
      ∙ ap (λ (s : List ℕ). with_bit_of s (8 * q + k + m) v) (run_in k m (omega arith))
      ∙ last
    where
      w : ℕ
      w = with_bits k (k + m) v (get_or l q 0)

      last : with_bit_of (set l q w) (8 * q + k + m) v ≡ set l q (with_bits k (k + suc m) v (get_or l q 0))
      last =
          let f : (8 * q + k + m) / 8 ≡ q = omega arith in
          let g : (8 * q + k + m) % 8 ≡ k + m = omega arith in
          rw (f, g, get_or-set_same l q w 0 room, set-set l q w (with_bit (k + m) v w), add-suc k m, bits_more k (k + m) v (get_or l q 0) (omega arith) one)

-- bits of whole bytes
pub run-whole : (c : ℕ) (l : List ℕ) (q : ℕ) (v : Bool) → q + c ≤ length l → ((j : ℕ) → q ≤ j → get_or l j 0 < 256)
    → with_run l (8 * q) (8 * c) (pick v 1 0) ≡ sets l q (replicate c (pick v 255 0))
unfolding with_run
run-whole zero l q v room h = refl
run-whole (suc c) l q v room h =
    let e : 8 * suc c ≡ 8 + 8 * c = omega arith in
    let f : 8 * q + 8 ≡ 8 * suc q = omega arith in
    let first : with_run l (8 * q) 8 (pick v 1 0) ≡ set l q (pick v 255 0) =
    rw (add-zero (8 * q), bits_all (get_or l q 0) v (h q (omega arith))) at (run_in l q (omega arith) (pick v 1 0) (bound v) 0 8 (omega arith)) in
    rw e
    (sym (run_join l (8 * q) 8 (8 * c) (pick v 1 0))
    ∙ ap (λ (s : List ℕ). with_run s (8 * q + 8) (8 * c) (pick v 1 0)) first
    ∙ ap (λ (a : ℕ). with_run (set l q (pick v 255 0)) a (8 * c) (pick v 1 0)) f
    ∙ run-whole c (set l q (pick v 255 0)) (suc q) v (omega (arith, length-set l q (pick v 255 0)))
    (λ j g. rw (get_or-set_other l q j (pick v 255 0) 0 (λ e. omega arith)) (h j (omega arith))))
