-- Laws of setting and reading: what passed checks tell, and what the registers that code keeps then hold.
use Prim.Native.Nat.{ℕ, zero, suc, ◌+◌, ◌-◌, ◌≤◌, ◌<◌}
use native.Mathlib.Nat.{not-suc-le-zero}
use native.Mathlib.Omega.{arith}
use mathlib.Core.Path.{◌≡◌, sym, ◌∙◌, ap}
use mathlib.Core.Bool.{true, false}
use mathlib.Core.List.{List}
use mathlib.Core.Option.{some}
use lib.ListN.{length, set, take}
use borrow.Author.Tests.{eqb-false, ltb-false}
use Rattle.answer.specs.Tests.{flagged, is_some}
use Rattle.answer.specs.Checks.{Verdict, Pass, ◌unless◌}
use Rattle.answer.proofs.Checks.{then_pass, unless_pass, when_pass}
use Rattle.registers.specs.Cards.{is_card}
use Rattle.registers.specs.Rows.{row_count, size_of, row_of}
use Rattle.registers.specs.Values.{value_checks}
use Rattle.registers.specs.File.{File, current, with_value, register_value, file_from, file_of, register_of}
use Rattle.registers.specs.Access.{selector_checks, set_checks, set_to, read_checks, or_empty, read_value}
use Rattle.registers.specs.declared.Register.{Register}
use Rattle.registers.specs.declared.Registers.{Registers}
use Rattle.registers.proofs.Cards.{card-small}
use Rattle.registers.proofs.Rows.{size-most, selected, row-kind, kept_row}
use Rattle.registers.proofs.Values.{value-size}
use Rattle.registers.proofs.File.{set_is, value_set, file-set}

pub row_listed : (kind selector : ℕ) → selector_checks kind selector ≡ Pass → row_of kind selector < row_count
unfolding selector_checks
row_listed kind selector h = selected kind selector (unless_pass _ _ (then_pass _ _ h).1)

-- ---- setting

pub record Settable (w kind selector : ℕ) (v : List ℕ) : Type 0 where
  pub bound : row_of kind selector < row_count
  pub kept : 0 < row_of kind selector
  pub size : length v ≡ size_of w (row_of kind selector)

pub settable : (w kind selector : ℕ) (v : List ℕ) → set_checks w kind selector v ≡ Pass → Settable w kind selector v
unfolding set_checks
settable w kind selector v h =
    let a = then_pass _ _ (then_pass _ _ h).1 in
    let b = then_pass _ _ a.1 in
    let row = row_listed kind selector b.0 in
    record {
      bound = row;
      kept = kept_row _ row (λ e. eqb-false _ _ (when_pass _ _ a.0) (sym (row-kind kind selector row) ∙ e));
      size = value-size w _ _ v b.1;
    }

-- a value that may be set fits into a register that is kept
pub set_fits : (w kind selector : ℕ) (v : List ℕ) → is_card w ≡ true → Pass ≡ set_checks w kind selector v
    → (0 < row_of kind selector) × (row_of kind selector < row_count) × (length v ≤ 32)
set_fits w kind selector v card h =
    let can = settable w kind selector v (sym h) in
    (can.kept, can.bound, omega (arith, can.size, size-most w _ (card-small w card) can.bound))

pub kept-value : (file : File) (i : ℕ) (v : List ℕ) → 0 < i → with_value file i v ≡ set file (i - 1) (some v)
unfolding with_value
kept-value file zero v h = absurd (not-suc-le-zero h)
kept-value file (suc i) v h = let e : suc i - 1 ≡ i = omega arith in rw e

-- the value that may be set passes its own checks
pub set_value : (w kind selector : ℕ) (v : List ℕ) → set_checks w kind selector v ≡ Pass → value_checks w (row_of kind selector) false v ≡ Pass
unfolding set_checks
set_value w kind selector v h = (then_pass _ _ (then_pass _ _ (then_pass _ _ h).1).1).1

-- the registers that `set` gives are the file with the register set
pub set-file : (w : ℕ) (old new : Registers) (kind selector : ℕ) (v : List ℕ) → set_checks w kind selector v ≡ Pass
    → new.slots ≡ set old.slots (row_of kind selector - 1) (register_of (some v)) → file_of w new ≡ set_to (file_of w old) kind selector v
unfolding file_of set_to
set-file w old new kind selector v h e =
    let can = settable w kind selector v h in
    let i : 1 + (row_of kind selector - 1) ≡ row_of kind selector = omega (arith, can.kept) in
    ap (file_from w 1) e ∙ file-set w 1 old.slots (row_of kind selector - 1) v (can.size ∙ ap (size_of w) (sym i)) ∙ sym (kept-value _ _ v can.kept)

-- ---- reading

pub record Readable (w : ℕ) (file : File) (kind selector room : ℕ) : Type 0 where
  pub bound : row_of kind selector < row_count
  pub held : is_some (current w file (row_of kind selector)) ≡ true
  pub fits : size_of w (row_of kind selector) ≤ room

pub readable : (w : ℕ) (file : File) (kind selector room : ℕ) → read_checks w file kind selector room ≡ Pass → Readable w file kind selector room
unfolding read_checks
readable w file kind selector room h =
    let a = then_pass _ _ (then_pass _ _ h).1 in
    let b = then_pass _ _ a.1 in
    record { bound = row_listed kind selector a.0; held = unless_pass _ _ b.0; fits = ltb-false _ _ (when_pass _ _ b.1) }

-- the code's test whether the register that a row shows is set
pub shown_set : (w : ℕ) (file : File) (row i : ℕ) (r : Register) (code : ℕ) (v : Verdict) → register_value w row r ≡ current w file row → row ≡ i
    → v ≡ (code unless flagged r.set) → v ≡ (code unless is_some (current w file i))
shown_set w file row i r code v h e t = t ∙ rw (← e, ← h, set_is)

-- what reading gives of a register that is set
pub value_read : (w : ℕ) (file : File) (kind selector row : ℕ) (r : Register) → row ≡ row_of kind selector → register_value w row r ≡ current w file row
    → flagged r.set ≡ true → read_value w file kind selector ≡ take (size_of w row) r.bytes
unfolding read_value or_empty
value_read w file kind selector row r e h s = rw (← e, ← h, value_set w row r s)
