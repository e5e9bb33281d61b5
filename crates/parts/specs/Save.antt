-- Saving the register file as a stream of parts (rules 5.13 and 5.14). `w` is the number of words that the card has of features.
use Rattle.std.specs.Prelude.{ℕ, zero, suc, Bool, List, [], ◌++◌, length, ltb}
use Rattle.std.proofs.Math.Option.{Option, none, some}
use Rattle.answer.specs.Codes.{Running, NoSpace}
use Rattle.answer.specs.Checks.{Verdict, ◌then◌, ◌when◌}
use Rattle.wire.specs.Field.{bytes_of}
use Rattle.registers.specs.Rows.{row_count, kind_of, selector_of, size_of}
use Rattle.registers.specs.File.{File, current}
use Rattle.parts.specs.Load.{flags_of}

-- rule 5.1: a part is type (2), flags (1), reserved (1), selector (8), length (4), and the value
unfoldable pub encoded : ℕ → ℕ → List ℕ → List ℕ
encoded w i v =
    bytes_of 2 (kind_of i) ++ bytes_of 1 (flags_of (kind_of i)) ++ bytes_of 1 0 ++ bytes_of 8 (selector_of i) ++ bytes_of 4 (size_of w i) ++ v

-- rule 5.14: a register that is not set has no part
unfoldable pub part_of : ℕ → ℕ → Option (List ℕ) → List ℕ
part_of w i none = []
part_of w i (some v) = encoded w i v

-- rule 5.14: the `n` rows from `i` on; the table has them by rising type and selector
unfoldable pub saved_from : ℕ → File → ℕ → ℕ → List ℕ
saved_from w file i zero = []
saved_from w file i (suc n) = part_of w i (current w file i) ++ saved_from w file (suc i) n

unfoldable pub saved : ℕ → File → List ℕ
saved w file = saved_from w file 0 row_count

-- rule 5.13: saving into a buffer of `room` bytes
unfoldable pub save_checks : ℕ → Bool → File → ℕ → Verdict
save_checks w running file room =
    Running when running
    then NoSpace when ltb room (length (saved w file))
