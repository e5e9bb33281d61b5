-- The register file: for each register that is kept its value, or none where it is not set. What depends on the card takes the number of
-- words `w` that it has of features.
use Rattle.std.specs.Prelude.{ℕ, zero, suc, ◌-◌, Bool, true, false, List, [], ◌∷◌, ◌++◌, map, length, get_or, set, take, replicate, eqb}
use Rattle.std.proofs.Math.Option.{Option, none, some}
use Rattle.answer.specs.Tests.{◌and◌, pick, flagged, is_some}
use Rattle.answer.specs.Checks.{passes}
use Rattle.registers.specs.Rows.{status_row, size_of}
use Rattle.registers.specs.Values.{offered, value_checks}
use Rattle.registers.specs.declared.Register.{Register}
use Rattle.registers.specs.declared.Registers.{Registers}

-- the values of rows 1, 2, .. of the table
abbrev pub File : Type 0
File = List (Option (List ℕ))

abbrev pub kept_count : ℕ
kept_count = 14

-- what a row shows; that of offered features is constant and not kept (rule 5.7)
unfoldable pub current : ℕ → File → ℕ → Option (List ℕ)
current w file zero = some (offered w)
current w file (suc i) = get_or file i none

-- the file with a value in a row
unfoldable pub with_value : File → ℕ → List ℕ → File
with_value file zero v = file
with_value file (suc i) v = set file i (some v)

-- no register is set
abbrev pub blank : File
blank = replicate kept_count none

-- rule 5.6: status is 0, and no other register is set
unfoldable pub reset : File
reset = with_value blank status_row (0 ∷ [])

-- rule 1.12: no value, or one that setting accepts
unfoldable pub sound_value : ℕ → ℕ → Option (List ℕ) → Bool
sound_value w i none = true
sound_value w i (some v) = passes (value_checks w i false v)

-- rule 1.12: each of the registers from row `i` on holds no value, or one that setting accepts
unfoldable pub sound_values_from : ℕ → ℕ → File → Bool
sound_values_from w i [] = true
sound_values_from w i (x ∷ file) = sound_value w i x and sound_values_from w (suc i) file

-- rule 1.12, of the registers: status is set, and each value is one that setting accepts
unfoldable pub sound_file : ℕ → File → Bool
sound_file w file = is_some (current w file status_row) and sound_values_from w 1 file

-- ---- the file that the code's registers are

-- rules 1.13 and 1.14: the value that a register of row `i` holds; what is kept behind it, or of a register that is not set, means nothing
unfoldable pub register_value : ℕ → ℕ → Register → Option (List ℕ)
register_value w i r = pick (flagged r.set) (some (take (size_of w i) r.bytes)) none

unfoldable pub file_from : ℕ → ℕ → List Register → File
file_from w i [] = []
file_from w i (r ∷ rs) = register_value w i r ∷ file_from w (suc i) rs

unfoldable pub file_of : ℕ → Registers → File
file_of w registers = file_from w 1 registers.slots

-- rule 1.13: a register as code writes it: zeros behind the value, and nothing but zeros where it is not set
unfoldable pub register_of : Option (List ℕ) → Register
register_of none = record { set = 0; bytes = replicate 32 0 }
register_of (some v) = record { set = 1; bytes = v ++ replicate (32 - length v) 0 }

-- the registers that code writes for a file
unfoldable pub slots_of : File → List Register
slots_of file = map register_of file

-- whether each value has its row's size, from row `i` on: of such a file the registers that code writes are the file again
unfoldable pub sized_from : ℕ → ℕ → File → Bool
sized_from w i [] = true
sized_from w i (none ∷ file) = sized_from w (suc i) file
sized_from w i (some v ∷ file) = eqb (length v) (size_of w i) and sized_from w (suc i) file
