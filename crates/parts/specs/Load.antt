-- Loading a stream of parts (rules 5.9 to 5.12). `w` is the number of words that the card has of features; parts of the other card's
-- features have another length (rule 5.21).
use Rattle.std.specs.Prelude.{ℕ, zero, suc, ◌^◌, Bool, List, ◌∷◌, length, get_or, set, drop, replicate, ltb, leb, eqb}
use Rattle.std.proofs.Math.Option.{Option, none, some}
use Rattle.answer.specs.Tests.{pick, is_some}
use Rattle.answer.specs.Codes.{Index, Running, Truncated, Header, UnknownPart, Missing}
use Rattle.answer.specs.Checks.{Verdict, ◌then◌, ◌when◌, ◌unless◌, ◌at◌}
use Rattle.answer.specs.Limits.{length_check}
use Rattle.answer.specs.Answer.{Answer, done, refused, settle, ◌onward◌}
use Rattle.registers.specs.Rows.{OfferedFeatures, row_count, status_row, row_of, selects, listed, selector_width}
use Rattle.registers.specs.Values.{value_checks}
use Rattle.registers.specs.File.{File, file_from, slots_of}
use Rattle.registers.specs.declared.Register.{Register}
use Rattle.registers.specs.declared.Registers.{Registers}
use Rattle.parts.specs.Step.{Step, Part, End, Refused, step_at, value_to}

-- What the parts so far have named: for each row of the table, that of offered features too, the value or none.
abbrev pub Seen : Type 0
Seen = List (Option (List ℕ))

abbrev pub nothing_seen : Seen
nothing_seen = replicate row_count none

-- rules 5.10 and 5.14: offered features are flagged optional, and no other listed type
unfoldable pub flags_of : ℕ → ℕ
flags_of kind = pick (eqb kind OfferedFeatures) 1 0

-- rule 5.10, a part of a listed type: the optional flag (19), selector bytes that the type does not use (19), the selector number (6); then
-- its value, which came before where `twice` holds
unfoldable pub listed_checks : ℕ → Bool → ℕ → ℕ → ℕ → List ℕ → Verdict
listed_checks w twice kind flags selector v =
    Header unless eqb flags (flags_of kind)
    then Header unless ltb selector (256 ^ selector_width kind)
    then Index unless selects kind selector
    then value_checks w (row_of kind selector) twice v

-- rule 5.10, a part behind the first three checks: from type 0x600 on it is refused, optional or not; below, one that is not listed is
-- skipped if it is optional, wherever the common types end (rule 5.19)
unfoldable pub part_checks : ℕ → Bool → ℕ → ℕ → ℕ → List ℕ → Verdict
part_checks w twice kind flags selector v =
    UnknownPart when leb 0x600 kind
    then pick (listed kind) (listed_checks w twice kind flags selector v) (UnknownPart unless eqb flags 1)

-- rule 5.10, check 21: a part of this stream named the register before
unfoldable pub named : Seen → ℕ → ℕ → Bool
named seen kind selector = is_some (get_or seen (row_of kind selector) none)

-- what is seen with a part that passed: a part of an unlisted type is skipped, so that it may come again
unfoldable pub taken : Seen → ℕ → ℕ → List ℕ → Seen
taken seen kind selector v = pick (listed kind) (set seen (row_of kind selector) (some v)) seen

-- At the end 24, with the stream's length as place (rule 5.11); or the registers: what no part named is `none`, and not zero
-- (rules 5.12 and 7.14). What the stream said of offered features, row 0, is not kept (rule 5.7).
unfoldable pub finish : Seen → ℕ → Answer File
finish seen p = settle ((Missing unless is_some (get_or seen status_row none)) at p) (drop 1 seen)

unfoldable pub on_step : ℕ → (ℕ → Seen → Answer File) → List ℕ → ℕ → Seen → Step → Answer File
on_step w more s p seen End = finish seen p
on_step w more s p seen (Refused code place) = refused code place
on_step w more s p seen (Part kind flags selector next) =
    settle (part_checks w (named seen kind selector) kind flags selector (value_to s p next) at p) (taken seen kind selector (value_to s p next)) onward more next

-- the parts from place `p` on, fewer than `fuel` of them: a part has 16 bytes at least, so a stream has fewer parts than bytes, or none
unfoldable pub load_from : ℕ → ℕ → List ℕ → ℕ → Seen → Answer File
load_from w zero s p seen = refused Truncated p
load_from w (suc fuel) s p seen = on_step w (load_from w fuel s) s p seen (step_at s p)

-- rule 5.9: 17, 13, then each part in order; the register file that an accepted stream makes
unfoldable pub load : ℕ → Bool → List ℕ → Answer File
load w running s =
    settle (Running when running then length_check (length s)) nothing_seen
    onward load_from w (suc (length s)) s 0

-- ---- what the code keeps while it loads, and gives

-- what the parts so far have named, where the code's registers for the rows that are kept hold it, and `x` of offered features
abbrev pub seen_in : ℕ → Option (List ℕ) → List Register → Seen
seen_in w x slots = x ∷ file_from w 1 slots

-- the registers that the code gives for the file of an answer
unfoldable pub loaded_of : Answer File → Answer Registers
loaded_of (done file) = done (record { slots = slots_of file })
loaded_of (refused code place) = refused code place

-- what the parts of a stream come to, from its start
abbrev pub from_start : ℕ → List ℕ → Answer File
from_start w s = load_from w (suc (length s)) s 0 nothing_seen
