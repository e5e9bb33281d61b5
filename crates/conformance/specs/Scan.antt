-- What the pieces of the pass over a stream find; `w` is the number of words that the card has of features.
use Rattle.std.specs.Prelude.{ℕ, ◌+◌, ◌≤◌, ◌<◌, ◌≡◌, true, false, List, ◌⊎◌, length, drop}
use Rattle.std.proofs.Math.ListN.{get_elem?}
use Rattle.registers.specs.Rows.{size_of}
use Rattle.parts.specs.Step.{header_size}
use Rattle.conformance.specs.Bytes.{header, good_byte}
use Rattle.conformance.specs.declared.Part.{Part}
use Rattle.conformance.specs.declared.Part.TheVariants.{Whole, Broken, Absent}

-- `n` bytes are the longest beginning that two lists share
pub record Common (a b : List ℕ) (n : ℕ) : Type 0 where
  pub first : n ≤ length a
  pub second : n ≤ length b
  pub alike : (j : ℕ) → j < n → get_elem? a j ≡ get_elem? b j
  pub ends : n < length a → get_elem? a n ≡ get_elem? b n → ⊥

-- the first `n` bytes of `v` are good for a value of row `i`, whose size they do not pass
pub record Good (w i : ℕ) (v : List ℕ) (n : ℕ) : Type 0 where
  pub size : n ≤ size_of w i
  pub inside : n ≤ length v
  pub each : (j : ℕ) → j < n → good_byte i v j ≡ true

-- and no further byte is
pub record MostGood (w i : ℕ) (v : List ℕ) (n : ℕ) : Type 0 where
  pub good : Good w i v n
  pub ends : n < size_of w i → (length v ≡ n) ⊎ (good_byte i v n ≡ false)

-- What is found of row `i` at the start of `h`: its part, of `n` bytes; its header and some bytes of its value, `n` in all; or no more than
-- `n` bytes of its header.
pub record IsWhole (w i : ℕ) (h : List ℕ) (n : ℕ) : Type 0 where
  pub long : n ≡ header_size + size_of w i
  pub head : Common (header w i) h header_size
  pub value : Good w i (drop header_size h) (size_of w i)

pub record IsBroken (w i : ℕ) (h : List ℕ) (n : ℕ) : Type 0 where
  pub value : ℕ
  pub long : n ≡ header_size + value
  pub head : Common (header w i) h header_size
  pub short : value < size_of w i
  pub good : MostGood w i (drop header_size h) value

pub record IsAbsent (w i : ℕ) (h : List ℕ) (n : ℕ) : Type 0 where
  pub short : n < header_size
  pub head : Common (header w i) h n

unfoldable pub Finds : ℕ → ℕ → List ℕ → Part → Type 0
Finds w i h (Whole n) = IsWhole w i h n
Finds w i h (Broken n) = IsBroken w i h n
Finds w i h (Absent n) = IsAbsent w i h n
