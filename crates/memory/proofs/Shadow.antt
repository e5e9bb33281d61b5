-- Laws of the shadow: runs of written bytes, and the fault of reading a run.
use Prim.Native.Nat.{ℕ, zero, suc, ◌+◌, ◌≤◌, ◌<◌}
use native.Mathlib.Nat.{add-zero}
use native.Mathlib.Omega.{arith}
use mathlib.Core.Path.{◌≡◌, refl, sym, ◌∙◌}
use mathlib.Core.Bool.{Bool, true, false, true≢false}
use mathlib.Core.List.{List}
use lib.Dec.{eqb, ltb}
use borrow.Author.Tests.{ltb-true, ltb-false, lt-ltb, eq-eqb}
use Rattle.answer.specs.Tests.{◌and◌, pick}
use Rattle.answer.specs.Codes.{Unwritten}
use Rattle.answer.specs.Checks.{Pass, Fail, ◌when◌, ◌at◌}
use Rattle.answer.proofs.Checks.{unless_true, unless_false, first_fault_pass, first_fault-at}
use Rattle.address.specs.Address.{memory_address, memory_offset}
use Rattle.address.specs.declared.MemoryAddress.{MemoryAddress}
use Rattle.bitmap.specs.Bits.{bit_of, OnesOf}
use Rattle.memory.specs.Shadow.{Shadow, packed, initialized}
use Rattle.memory.specs.Transfers.{unwritten_at, unwritten_in, written_run}

-- ---- one mark of a memory of `size` bytes

module _ (size : ℕ) (l : List ℕ) (a : ℕ) (below : a < size) (t : Bool) where
  pub mark_is : eqb (bit_of l a) 1 ≡ t → initialized (packed size l) (memory_address a) ≡ t
  unfolding initialized ◌and◌
  mark_is h = rw (lt-ltb a size below) h

-- ---- runs

-- r of the n bytes from a on are written, and then comes one that is not, or the end
pub record Run (shadow : Shadow) (a : MemoryAddress) (n r : ℕ) : Type 0 where
  pub within : r ≤ n
  pub before : (i : ℕ) → i < r → initialized shadow (memory_offset a i) ≡ true
  pub stop : r < n → initialized shadow (memory_offset a r) ≡ false

pub run_of : (shadow : Shadow) (a : MemoryAddress) (n : ℕ) → Run shadow a n (written_run shadow a n)
unfolding written_run pick
run_of shadow a zero = record { within = omega arith; before = λ i h. absurd (omega arith); stop = λ h. absurd (omega arith) }
run_of shadow a (suc n) = go (initialized shadow a) refl (run_of shadow (memory_offset a 1) n)
  where
    later : (i : ℕ) (t : Bool) → initialized shadow (memory_offset (memory_offset a 1) i) ≡ t → initialized shadow (memory_offset a (suc i)) ≡ t
    later i t h = let e : a.0 + suc i ≡ a.0 + 1 + i = omega arith in rw e h

    all : (r : ℕ) → initialized shadow a ≡ true → Run shadow (memory_offset a 1) n r → (i : ℕ) → i < suc r → initialized shadow (memory_offset a i) ≡ true
    all r e run zero h = rw (add-zero a.0) e
    all r e run (suc i) h = later i true (run.before i (omega arith))

    go : {r : ℕ} (t : Bool) → initialized shadow a ≡ t → Run shadow (memory_offset a 1) n r → Run shadow a (suc n) (pick t (suc r) 0)
    go {r} true e run = record { within = omega (arith, run.within); before = all r e run; stop = λ h. later r false (run.stop (omega arith)) }
    go {r} false e run = record { within = omega arith; before = λ i h. absurd (omega arith); stop = λ h. rw (add-zero a.0) e }

-- there is one such number
pub run_is : (shadow : Shadow) (a : MemoryAddress) (n r : ℕ) → Run shadow a n r → r ≡ written_run shadow a n
run_is shadow a n r run = go (written_run shadow a n) (run_of shadow a n) (ltb r (written_run shadow a n)) (ltb (written_run shadow a n) r) refl refl
  where
    go : (s : ℕ) → Run shadow a n s → (t u : Bool) → ltb r s ≡ t → ltb s r ≡ u → r ≡ s
    go s other true u e f = absurd (true≢false (sym (other.before r (ltb-true r s e)) ∙ run.stop (omega (arith, ltb-true r s e, other.within))))
    go s other false true e f = absurd (true≢false (sym (run.before s (ltb-true s r f)) ∙ other.stop (omega (arith, ltb-true s r f, run.within))))
    go s other false false e f = omega (arith, ltb-false r s e, ltb-false s r f)

pub run-whole : (shadow : Shadow) (a : MemoryAddress) (n : ℕ) → ((i : ℕ) → i < n → initialized shadow (memory_offset a i) ≡ true) → written_run shadow a n ≡ n
run-whole shadow a n h = sym (run_is shadow a n n (record { within = omega arith; before = h; stop = λ l. absurd (omega arith) }))

pub run-ones : (size : ℕ) (l : List ℕ) (a n : ℕ) → a + n ≤ size → OnesOf l a n → written_run (packed size l) (memory_address a) n ≡ n
unfolding OnesOf
run-ones size l a n room h = run-whole (packed size l) (memory_address a) n (λ i lt. mark_is size l (a + i) (omega arith) true (eq-eqb _ _ (h i lt)))

-- ---- the fault of reading a run

module _ (shadow : Shadow) (a : MemoryAddress) (n r : ℕ) (is : r ≡ written_run shadow a n) where
  run : Run shadow a n r
  run = rw is (run_of shadow a n)

  passes-before : (i : ℕ) → i < r → unwritten_at shadow (memory_offset a i) ≡ Pass
  unfolding unwritten_at
  passes-before i h = unless_true _ _ (run.before i h)

  pub unwritten_none : n ≤ r → unwritten_in shadow a n ≡ Pass
  unfolding unwritten_in
  unwritten_none h = first_fault_pass _ n (λ i l. passes-before i (omega arith))

  pub unwritten_first : r < n → unwritten_in shadow a n ≡ Fail Unwritten r
  unfolding unwritten_in unwritten_at
  unwritten_first h = first_fault-at (λ i. unwritten_at shadow (memory_offset a i)) n r Unwritten 0 h passes-before (unless_false _ _ (run.stop h))

  -- the check of a run, by how many of its bytes are written
  pub unwritten-by : (Unwritten when ltb r n at r) ≡ unwritten_in shadow a n
  unfolding ◌when◌ ◌at◌
  unwritten-by = go (ltb r n) refl
    where
      go : (t : Bool) → ltb r n ≡ t → (Unwritten when t at r) ≡ unwritten_in shadow a n
      go true e = sym (unwritten_first (ltb-true r n e))
      go false e = sym (unwritten_none (ltb-false r n e))
