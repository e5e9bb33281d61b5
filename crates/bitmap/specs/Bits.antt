-- Bits of a number, the lowest first, and of a list of bytes, eight to a byte.
use Rattle.std.specs.Prelude.{ℕ, zero, suc, ◌+◌, ◌*◌, ◌/◌, ◌%◌, ◌≤◌, ◌<◌, ◌≡◌, List, get_or, set}

-- bit `k` of a number
unfoldable pub bit : ℕ → ℕ → ℕ
bit zero x = x % 2
bit (suc k) x = bit k (x / 2)

-- a number with bit `k` set to `v`, all other bits kept
unfoldable pub with_bit : ℕ → ℕ → ℕ → ℕ
with_bit zero v x = x / 2 * 2 + v
with_bit (suc k) v x = with_bit k v (x / 2) * 2 + x % 2

-- a number with its bits from `k` up to `e`, that one left out, set to `v`
unfoldable pub with_bits : ℕ → ℕ → ℕ → ℕ → ℕ
with_bits k zero v x = x
with_bits zero (suc e) v x = with_bits zero e v (x / 2) * 2 + v
with_bits (suc k) (suc e) v x = with_bits k e v (x / 2) * 2 + x % 2

-- the bits from `k` up to `e`, that one left out, are set
unfoldable pub Ones : ℕ → ℕ → ℕ → Type 0
Ones k e x = (j : ℕ) → k ≤ j → j < e → bit j x ≡ 1

-- ---- bit `a` of a list is bit a mod 8 of byte a div 8 (rule 1.4)

abbrev pub bit_of : List ℕ → ℕ → ℕ
bit_of l a = bit (a % 8) (get_or l (a / 8) 0)

abbrev pub with_bit_of : List ℕ → ℕ → ℕ → List ℕ
with_bit_of l a v = set l (a / 8) (with_bit (a % 8) v (get_or l (a / 8) 0))

-- the `n` bits from `a` on set to `v`, one after the other
unfoldable pub with_run : List ℕ → ℕ → ℕ → ℕ → List ℕ
with_run l a zero v = l
with_run l a (suc n) v = with_run (with_bit_of l a v) (a + 1) n v

-- the `n` bits from `a` on are set
unfoldable pub OnesOf : List ℕ → ℕ → ℕ → Type 0
OnesOf l a n = (i : ℕ) → i < n → bit_of l (a + i) ≡ 1
