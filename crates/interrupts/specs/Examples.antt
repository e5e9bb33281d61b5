-- Worked values: what is done to one line (rules 3.28 and 3.29), a row for each case; which refusal a request gives (rule 3.26); and which
-- lines it changes (rule 3.27).
use Rattle.std.specs.Prelude.{◌≡◌, ℕ, ◌-◌, ◌^◌, true, false, List, [], ◌∷◌, ◌++◌, map, replicate}
use Rattle.answer.specs.Codes.{ArgSize, Flags, Index, Empty, Range, Value}
use Rattle.answer.specs.Checks.{Verdict, Pass, Fail}
use Rattle.wire.specs.Field.{bytes_of}
use Rattle.interrupts.specs.declared.Line.{Line}
use Rattle.interrupts.specs.Lines.{line_count, no_event, stored, off, triggered, with_mask, unmasked}
use Rattle.interrupts.specs.Requests.{set_checks, changed_lines}

-- ---- one line

-- number, whether it is masked, whether it is pending, tally
abbrev pub line : ℕ → ℕ → ℕ → ℕ → Line
line number masked pending tally = record { number = number; tally = tally; masked = masked; pending = pending }

-- what is done to a line, and what it becomes
pub record Case : Type 0 where
  pub does : Line → Line
  pub before : Line
  pub after : Line

infix 70 ◌on◌
abbrev pub ◌on◌ : (Line → Line) → Line → Line → Case
(does on before) after = record { does = does; before = before; after = after }

-- a number is stored, whatever the line was; −1 too
abbrev pub storing : ℕ → Line → Line
storing bits l = stored bits

abbrev pub cases : List Case
cases =
    (storing 5 on line no_event 1 1 3) (line 5 0 0 0)
    ∷ (storing 5 on line 7 0 0 3) (line 5 0 0 0)
    ∷ (storing 5 on line 7 1 1 3) (line 5 0 0 0)
    ∷ (storing no_event on line no_event 1 1 3) (line no_event 0 0 0)
    ∷ (storing no_event on line 7 1 1 3) (line no_event 0 0 0)
    -- a trigger
    ∷ (triggered true on line no_event 0 0 0) (line no_event 0 0 0)
    ∷ (triggered true on line no_event 1 1 3) (line no_event 1 1 3)
    ∷ (triggered false on line 0 0 0 3) (line 0 0 0 4)
    ∷ (triggered true on line 7 0 0 3) (line 7 1 0 4)
    ∷ (triggered false on line 7 0 0 (2 ^ 32 - 1)) (line 7 0 0 0)
    ∷ (triggered true on line 7 1 0 3) (line 7 1 1 3)
    ∷ (triggered false on line 7 1 1 3) (line 7 1 1 3)
    ∷ (triggered false on line 7 0 1 3) (line 7 0 1 4)
    -- masking
    ∷ (with_mask on line no_event 0 0 0) (line no_event 0 0 0)
    ∷ (with_mask on line 7 0 1 3) (line 7 1 1 3)
    ∷ (with_mask on line 7 1 1 3) (line 7 1 1 3)
    -- unmasking
    ∷ (unmasked true on line no_event 1 1 3) (line no_event 1 1 3)
    ∷ (unmasked true on line 7 0 0 3) (line 7 0 0 3)
    ∷ (unmasked false on line 7 0 1 3) (line 7 0 0 4)
    ∷ (unmasked true on line 7 0 1 3) (line 7 1 0 4)
    ∷ (unmasked true on line 7 1 0 3) (line 7 0 0 3)
    ∷ (unmasked false on line 7 1 1 3) (line 7 0 0 4)
    ∷ (unmasked true on line 7 1 1 3) (line 7 1 0 4)
    ∷ []

-- every case of a list is right
abbrev pub Right : List Case → Type 0
Right cs = map (λ (c : Case). c.does c.before) cs ≡ map (λ (c : Case). c.after) cs

-- ---- requests

pub record Asked : Type 0 where
  pub buffer : List ℕ
  pub verdict : Verdict

-- argsz, flags, index, start and count, and the bytes of data
infix 70 ◌gives◌
abbrev pub ◌gives◌ : List ℕ → Verdict → Asked
buffer gives verdict = record { buffer = buffer; verdict = verdict }

abbrev pub request : ℕ → ℕ → ℕ → ℕ → ℕ → List ℕ → List ℕ
request argsz flags index start count rest = bytes_of 4 argsz ++ bytes_of 4 flags ++ bytes_of 4 index ++ bytes_of 4 start ++ bytes_of 4 count ++ rest

abbrev pub asked : List Asked
asked =
    -- no kind, two kinds, no action, two actions, a bit beyond
    request 20 32 0 0 1 [] gives Fail Flags 0
    ∷ request 20 35 0 0 1 [] gives Fail Flags 0
    ∷ request 20 1 0 0 1 [] gives Fail Flags 0
    ∷ request 20 57 0 0 1 [] gives Fail Flags 0
    ∷ request 20 97 0 0 1 [] gives Fail Flags 0
    -- event numbers are to be stored by a trigger alone, which is tried before the index
    ∷ request 24 12 9 0 1 (bytes_of 4 3) gives Fail Flags 0
    ∷ request 20 9 9 0 1 [] gives Fail Index 0
    -- mask and unmask on an index without them, which is tried before the range
    ∷ request 20 9 1 99 1 [] gives Fail Flags 0
    ∷ request 20 17 2 0 1 [] gives Fail Flags 0
    ∷ request 20 9 3 0 0 [] gives Fail Flags 0
    ∷ request 20 9 0 0 1 [] gives Pass
    -- the range ends within the index, and the sum does not wrap
    ∷ request 20 33 1 7 1 [] gives Pass
    ∷ request 20 33 1 7 2 [] gives Fail Range 0
    ∷ request 20 33 1 (2 ^ 32 - 1) 2 [] gives Fail Range 0
    ∷ request 20 33 3 0 1 [] gives Fail Range 0
    -- no line: only to disable the index, and then too within it
    ∷ request 20 33 1 3 0 [] gives Pass
    ∷ request 20 33 1 8 0 [] gives Pass
    ∷ request 20 33 1 9 0 [] gives Fail Range 0
    ∷ request 20 33 3 0 0 [] gives Pass
    ∷ request 20 34 1 0 0 [] gives Fail Empty 0
    ∷ request 20 9 0 0 0 [] gives Fail Empty 0
    -- data past argsz, though it may lie in the buffer
    ∷ request 21 34 1 0 2 (1 ∷ 1 ∷ []) gives Fail ArgSize 0
    ∷ request 22 34 1 0 2 (1 ∷ 1 ∷ []) gives Pass
    ∷ request 27 36 1 0 2 (bytes_of 4 5 ++ bytes_of 4 6) gives Fail ArgSize 0
    -- −1 is a number to store, −2 is none
    ∷ request 28 36 1 0 2 (bytes_of 4 5 ++ bytes_of 4 (2 ^ 32 - 1)) gives Pass
    ∷ request 28 36 1 0 2 (bytes_of 4 5 ++ bytes_of 4 (2 ^ 32 - 2)) gives Fail Value 0
    ∷ request 28 36 1 0 2 (bytes_of 4 (2 ^ 31) ++ bytes_of 4 5) gives Fail Value 0
    ∷ []

-- every request of a list gets its answer
abbrev pub Answered : List Asked → Type 0
Answered qs = map (λ (q : Asked). set_checks q.buffer) qs ≡ map (λ (q : Asked). q.verdict) qs

-- ---- which lines a request changes

-- what a request leaves of lines that were all alike
pub record Left : Type 0 where
  pub buffer : List ℕ
  pub lines : List Line

infix 70 ◌leaves◌
abbrev pub ◌leaves◌ : List ℕ → List Line → Left
buffer leaves lines = record { buffer = buffer; lines = lines }

abbrev pub kept : Line
kept = line 7 0 0 3

abbrev pub left : List Left
left =
    -- an index is disabled whole, whatever start is; one without lines too
    request 20 33 1 3 0 [] leaves (replicate 1 kept ++ replicate 8 off ++ replicate 16 kept)
    ∷ request 20 33 3 0 0 [] leaves replicate line_count kept
    -- bytes other than 0 select their lines; index 1 is not automasked, index 0 is
    ∷ request 23 34 1 2 3 (1 ∷ 0 ∷ 255 ∷ []) leaves (replicate 3 kept ++ line 7 0 0 4 ∷ kept ∷ line 7 0 0 4 ∷ replicate 19 kept)
    ∷ request 20 33 0 0 1 [] leaves (line 7 1 0 4 ∷ replicate 24 kept)
    -- event numbers go to the lines of the range in order
    ∷ request 28 36 2 14 2 (bytes_of 4 5 ++ bytes_of 4 no_event) leaves (replicate 23 kept ++ line 5 0 0 0 ∷ off ∷ [])
    ∷ []

-- every request of a list leaves its lines
abbrev pub Leaves : List Left → Type 0
Leaves qs = map (λ (q : Left). changed_lines q.buffer (replicate line_count kept)) qs ≡ map (λ (q : Left). q.lines) qs
