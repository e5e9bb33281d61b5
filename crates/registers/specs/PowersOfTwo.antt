-- Powers of two by their binary digits.
use Rattle.std.specs.Prelude.{ℕ, ◌^◌, ◌<◌, ◌≡◌, ◌↔◌}
use Rattle.std.specs.Int.Count.{ones}

-- rule 8.13, for every 16-bit number: the count of its ones, which is what `u16::count_ones` gives, is 1 exactly if it is a power of two.
unfoldable pub PowerByOnes : Type 0
PowerByOnes = (n : ℕ) → n < 2 ^ 16 → (ones n ≡ 1) ↔ ((k : ℕ) × (n ≡ 2 ^ k))
