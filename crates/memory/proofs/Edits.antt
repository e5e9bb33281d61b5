-- Laws of edits: a run of stores, and a run of marks cleared, as what they make of the list of bytes and of the shadow.
use Prim.Native.Nat.{ℕ, zero, suc, ◌+◌}
use native.Mathlib.Numerals.{add-one}
use mathlib.Core.Path.{◌≡◌, refl, sym, ◌∙◌, ap}
use mathlib.Core.Bool.{true, false}
use mathlib.Core.List.{List, [], ◌∷◌, ◌++◌}
use lib.ListN.{length, set, length-set}
use lib.Seq.{sets, length-sets}
use Rattle.answer.specs.Tests.{pick}
use Rattle.address.specs.Address.{memory_address, memory_offset}
use Rattle.address.specs.declared.MemoryAddress.{MemoryAddress}
use Rattle.memory.specs.Shadow.{packed, marked, mark_bytes}
use Rattle.bitmap.specs.Bits.{with_bit_of, with_run}
use Rattle.memory.specs.Memory.{Memory, memory_of, Edit, put, clear, edit, edited, stores, clears}
use Rattle.memory.proofs.Marks.{marked-length}

-- ---- runs of edits

module _ (size : ℕ) where
  -- bytes stored from `a` on, and their marks set
  edited-stores : (xs : List ℕ) (a : MemoryAddress) (bytes l : List ℕ)
      → edited (stores a xs) (record { bytes = bytes; shadow = packed size l }) ≡ record { bytes = sets bytes a.0 xs; shadow = packed size (with_run l a.0 (length xs) 1) }
  unfolding edited edit stores marked pick with_run
  edited-stores [] a bytes l = refl
  edited-stores (x ∷ xs) a bytes l =
      edited-stores xs (memory_offset a 1) (set bytes a.0 x) (with_bit_of l a.0 1)
      ∙ ap (λ (i : ℕ). record { bytes = sets (set bytes a.0 x) i xs; shadow = packed size (with_run (with_bit_of l a.0 1) (a.0 + 1) (length xs) 1) }) (add-one a.0)

  -- marks cleared from `a` on
  edited-clears : (n : ℕ) (a : MemoryAddress) (bytes l : List ℕ)
      → edited (clears a n) (record { bytes = bytes; shadow = packed size l }) ≡ record { bytes = bytes; shadow = packed size (with_run l a.0 n 0) }
  unfolding edited edit clears marked pick with_run
  edited-clears zero a bytes l = refl
  edited-clears (suc n) a bytes l = edited-clears n (memory_offset a 1) bytes (with_bit_of l a.0 0)

-- ---- what code that writes the lists has made

pub stored : (bytes shadow xs : List ℕ) (a n : ℕ) (b s : List ℕ) → length xs ≡ n → b ≡ sets bytes a xs → s ≡ with_run shadow a n (pick true 1 0)
    → memory_of b s ≡ edited (stores (memory_address a) xs) (memory_of bytes shadow)
unfolding pick
stored bytes shadow xs a n b s l p q =
    rw (p, q, ← l, length-sets bytes a xs) (sym (edited-stores (length bytes) xs (memory_address a) bytes shadow))

pub cleared : (bytes shadow : List ℕ) (a n : ℕ) (s : List ℕ) → s ≡ with_run shadow a n (pick false 1 0)
    → memory_of bytes s ≡ edited (clears (memory_address a) n) (memory_of bytes shadow)
unfolding pick
cleared bytes shadow a n s p = rw p (sym (edited-clears (length bytes) n (memory_address a) bytes shadow))

-- ---- edits one after the other

pub edited-append : (es fs : List Edit) (m : Memory) → edited (es ++ fs) m ≡ edited fs (edited es m)
unfolding edited
edited-append [] fs m = refl
edited-append (e ∷ es) fs m = edited-append es fs (edit e m)

-- ---- lengths

edit-bytes : (e : Edit) (m : Memory) → length (edit e m).bytes ≡ length m.bytes
unfolding edit
edit-bytes (put a x) m = length-set m.bytes a.0 x
edit-bytes (clear a) m = refl

edit-shadow : (e : Edit) (m : Memory) → mark_bytes (edit e m).shadow ≡ mark_bytes m.shadow
unfolding edit
edit-shadow (put a x) m = marked-length m.shadow a true
edit-shadow (clear a) m = marked-length m.shadow a false

pub edited_bytes_length : (es : List Edit) (m : Memory) → length (edited es m).bytes ≡ length m.bytes
unfolding edited
edited_bytes_length [] m = refl
edited_bytes_length (e ∷ es) m = edited_bytes_length es (edit e m) ∙ edit-bytes e m

pub edited-shadow_length : (es : List Edit) (m : Memory) → mark_bytes (edited es m).shadow ≡ mark_bytes m.shadow
unfolding edited
edited-shadow_length [] m = refl
edited-shadow_length (e ∷ es) m = edited-shadow_length es (edit e m) ∙ edit-shadow e m
