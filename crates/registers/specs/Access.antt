-- Setting and reading a register by type and selector number, each list of checks in the order of its rule.
-- Both numbers are whole ones, and nothing of them is cut off (rule 5.17). `w` is the number of words that the card has of features.
use Rattle.std.specs.Prelude.{ℕ, false, List, [], ltb, eqb}
use Rattle.std.proofs.Math.Option.{Option, none, some}
use Rattle.answer.specs.Tests.{◌and◌, is_some}
use Rattle.answer.specs.Codes.{Index, Header, UnknownPart, Unset, ReadOnly, NoSpace}
use Rattle.answer.specs.Checks.{Verdict, ◌then◌, ◌when◌, ◌unless◌}
use Rattle.registers.specs.Rows.{OfferedFeatures, row_of, size_of, selects, listed, selector_width}
use Rattle.registers.specs.Values.{value_checks}
use Rattle.registers.specs.File.{File, current, with_value}

-- rule 5.15: 19 for a number other than 0 where the type uses no selector, then 6 for one that is not listed
unfoldable pub selector_checks : ℕ → ℕ → Verdict
selector_checks kind selector =
    Header when eqb (selector_width kind) 0 and ltb 0 selector
    then Index unless selects kind selector

-- rule 5.15: setting, which has no effect on another register (rule 5.18)
unfoldable pub set_checks : ℕ → ℕ → ℕ → List ℕ → Verdict
set_checks w kind selector v =
    UnknownPart unless listed kind
    then ReadOnly when eqb kind OfferedFeatures
    then selector_checks kind selector
    then value_checks w (row_of kind selector) false v

-- rule 5.15: the file with the register set
unfoldable pub set_to : File → ℕ → ℕ → List ℕ → File
set_to file kind selector v = with_value file (row_of kind selector) v

-- rule 5.16: reading into a buffer of `room` bytes
unfoldable pub read_checks : ℕ → File → ℕ → ℕ → ℕ → Verdict
read_checks w file kind selector room =
    UnknownPart unless listed kind
    then selector_checks kind selector
    then Unset unless is_some (current w file (row_of kind selector))
    then NoSpace when ltb room (size_of w (row_of kind selector))

-- a value, and nothing for a register that is not set
unfoldable pub or_empty : Option (List ℕ) → List ℕ
or_empty none = []
or_empty (some v) = v

-- rule 5.16: the bytes that reading gives
unfoldable pub read_value : ℕ → File → ℕ → ℕ → List ℕ
read_value w file kind selector = or_empty (current w file (row_of kind selector))
