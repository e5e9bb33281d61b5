-- One step over a stream of parts (rules 6.2 to 6.4).
-- A part has a header of 16 bytes, type (2), flags (1), reserved (1), selector (8) and length (4), and then its value (rule 5.1).
use Rattle.std.specs.Prelude.{ℕ, ◌+◌, ◌-◌, List, [], length, drop, ltb, eqb, Option, None, Some, Result, Ok, Err}
use Rattle.answer.specs.Tests.{pick}
use Rattle.answer.specs.Codes.{Truncated, Header}
use Rattle.answer.specs.Checks.{Verdict, Pass, Fail, ◌then◌, ◌when◌, ◌unless◌, ◌at◌}
use Rattle.wire.specs.Field.{field, slice}
use Rattle.answer.specs.Answer.{number_of}
use Rattle.answer.specs.declared.Refusal.{Refusal}
use Rattle.parts.specs.declared.Part.{Part as PartOfCode}

-- what stands at a place of a stream: a part's type, flags, selector and next place; the end; or the number and the place of a refusal
pub data Step : Type 0 where
  Part : ℕ → ℕ → ℕ → ℕ → Step
  End : Step
  Refused : ℕ → ℕ → Step

-- the size of a part's header
abbrev pub header_size : ℕ
header_size = 16

-- the length that the header at the start of `h` gives for the value
unfoldable pub value_size : List ℕ → ℕ
value_size h = field h 12 4

-- rule 5.10, the first three checks, which are all that a step makes; `h` is what is left of the stream: a header cut short (18), flags or
-- reserved (19), a value cut short (18)
unfoldable pub header_checks : List ℕ → Verdict
header_checks h =
    Truncated when ltb (length h) header_size
    then Header when ltb 1 (field h 2 1)
    then Header unless eqb (field h 3 1) 0
    then Truncated when ltb (length h - header_size) (value_size h)

-- the same of what is left at place `p`
abbrev pub checks_at : List ℕ → ℕ → Verdict
checks_at h p = header_checks h at p

-- rule 6.3, the part at place `p`: type, flags, all eight bytes of the selector as one number, and the next place
unfoldable pub part_at : List ℕ → ℕ → Step
part_at h p = Part (field h 0 2) (field h 2 1) (field h 4 8) (p + header_size + value_size h)

unfoldable pub step_on : Verdict → Step → Step
step_on Pass part = part
step_on (Fail code place) part = Refused code place

-- the step where something of the stream is left
unfoldable pub part_step : List ℕ → ℕ → Step
part_step h p = step_on (checks_at h p) (part_at h p)

-- rule 6.2: a place past the end is refused there, not at the stream's length; the end is no refusal
unfoldable pub step_at : List ℕ → ℕ → Step
step_at s p =
    pick (ltb (length s) p) (Refused Truncated p)
    (pick (eqb p (length s)) End
    (part_step (drop p s) p))

-- rule 6.4: the value is a stretch of the stream itself: that of the part at `p`, whose next place is `next`
unfoldable pub value_to : List ℕ → ℕ → ℕ → List ℕ
value_to s p next = slice s (p + header_size) (next - (p + header_size))

unfoldable pub step_value : List ℕ → ℕ → Step → List ℕ
step_value s p (Part kind flags selector next) = value_to s p next
step_value s p End = []
step_value s p (Refused code place) = []

-- rule 6.4: the value that a step hands back; nothing where it hands back no part
unfoldable pub value_at : List ℕ → ℕ → List ℕ
value_at s p = step_value s p (step_at s p)

-- ---- what the code gives

abbrev pub shown : PartOfCode → Step
shown part = Part part.kind part.flags part.selector part.next

-- the step that a result tells
abbrev pub step_of : Result (Option PartOfCode) Refusal → Step
step_of (Ok (Some part)) = shown part
step_of (Ok None) = End
step_of (Err e) = Refused (number_of e.reason) e.place
