-- Memory: its bytes and its shadow, and the single-byte edits that calls make of them, in order.
use Rattle.std.specs.Prelude.{ℕ, zero, suc, true, false, List, [], ◌∷◌, length, get_or, set}
use Rattle.wire.specs.Field.{slice}
use Rattle.address.specs.Address.{memory_offset}
use Rattle.address.specs.declared.MemoryAddress.{MemoryAddress}
use Rattle.memory.specs.Shadow.{Shadow, packed, marked}

pub record Memory : Type 0 where
  pub bytes : List ℕ
  pub shadow : Shadow

-- the memory that two lent slices make
abbrev pub memory_of : List ℕ → List ℕ → Memory
memory_of bytes shadow = record { bytes = bytes; shadow = packed (length bytes) shadow }

-- a byte stored, which makes it written (rules 4.6 and 4.7); or a byte's mark cleared, which keeps the byte (rule 4.9)
pub data Edit : Type 0 where
  put : MemoryAddress → ℕ → Edit
  clear : MemoryAddress → Edit

unfoldable pub edit : Edit → Memory → Memory
edit (put a x) m = record { bytes = set m.bytes a.0 x; shadow = marked m.shadow a true }
edit (clear a) m = record { bytes = m.bytes; shadow = marked m.shadow a false }

-- one after the other, so that the later of two edits of one byte wins (rule 4.6)
unfoldable pub edited : List Edit → Memory → Memory
edited [] m = m
edited (e ∷ es) m = edited es (edit e m)

-- rule 4.7: the bytes `xs` stored from `a` on
unfoldable pub stores : MemoryAddress → List ℕ → List Edit
stores a [] = []
stores a (x ∷ xs) = put a x ∷ stores (memory_offset a 1) xs

-- rule 4.9: the marks of the `n` bytes from `a` on cleared
unfoldable pub clears : MemoryAddress → ℕ → List Edit
clears a zero = []
clears a (suc n) = clear a ∷ clears (memory_offset a 1) n

-- the byte at an address
unfoldable pub byte_at : Memory → MemoryAddress → ℕ
byte_at m a = get_or m.bytes a.0 0

-- rule 4.8: the `n` bytes from `a` on
unfoldable pub bytes_from : Memory → MemoryAddress → ℕ → List ℕ
bytes_from m a n = slice m.bytes a.0 n
