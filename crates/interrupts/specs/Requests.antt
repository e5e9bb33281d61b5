-- Request 110, which sets lines up and acts on them, by the bytes of its buffer; and what the call that shows a line tries and gives.
use Rattle.std.specs.Prelude.{ℕ, zero, suc, ◌+◌, ◌*◌, ◌/◌, ◌%◌, Bool, false, not, List, [], ◌∷◌, length, ◌==◌, nat_eq, nat_le, nat_lt, slice_index, slice_index_or, ◌≡◌, Result, IfOk}
use Rattle.answer.specs.Tests.{◌and◌, ◌or◌, pick}
use Rattle.answer.specs.Codes.{ArgSize, Flags, Index, Empty, Range, Value}
use Rattle.answer.specs.Checks.{Verdict, ◌then◌, ◌when◌, ◌unless◌}
use Rattle.answer.specs.Answer.{verdict_of}
use Rattle.answer.specs.declared.Refusal.{Refusal}
use Rattle.wire.specs.Field.{field}
use Rattle.interrupts.specs.declared.Action.{Action}
use Rattle.interrupts.specs.declared.Action.TheVariants.{Mask, Unmask, Trigger}
use Rattle.interrupts.specs.declared.Data.{Data}
use Rattle.interrupts.specs.declared.Data.TheVariants.{Nothing, Bytes, Numbers}
use Rattle.interrupts.specs.declared.Line.{Line}
use Rattle.interrupts.specs.declared.Request.{Request}
use Rattle.interrupts.specs.Lines.{indices, index_at, maskable, automasked, first_line, lower, stored, off, triggered, with_mask, unmasked}

-- ---- fields of the buffer (rule 3.26)

abbrev pub argsz_of : List ℕ → ℕ
argsz_of buf = field buf 0 4

abbrev pub flags_of : List ℕ → ℕ
flags_of buf = field buf 4 4

abbrev pub index_of : List ℕ → ℕ
index_of buf = field buf 8 4

abbrev pub start_of : List ℕ → ℕ
start_of buf = field buf 12 4

abbrev pub count_of : List ℕ → ℕ
count_of buf = field buf 16 4

-- flag bits 0 to 2: what the data are
abbrev pub kind_of : ℕ → ℕ
kind_of flags = flags % 8

abbrev pub data_none : ℕ
data_none = 1

abbrev pub data_bool : ℕ
data_bool = 2

abbrev pub data_event : ℕ
data_event = 4

-- the bits from 3 on: what is done
abbrev pub action_of : ℕ → ℕ
action_of flags = flags / 8

abbrev pub act_mask : ℕ
act_mask = 1

abbrev pub act_unmask : ℕ
act_unmask = 2

abbrev pub act_trigger : ℕ
act_trigger = 4

-- the numbers of the code's names for them
abbrev pub data_number : Data → ℕ
data_number Nothing = data_none
data_number Bytes = data_bool
data_number Numbers = data_event

abbrev pub action_number : Action → ℕ
action_number Mask = act_mask
action_number Unmask = act_unmask
action_number Trigger = act_trigger

-- rule 3.26: of three bits just one, and none beyond
unfoldable pub one_of_three : ℕ → Bool
one_of_three x = nat_eq x 1 or nat_eq x 2 or nat_eq x 4

-- the one name for the bits, or a refusal
pub record Read {N : Type 0} (number : N → ℕ) (bits : ℕ) (result : Result N Refusal) : Type 0 where
  pub checks : verdict_of result ≡ (Flags unless one_of_three bits)
  pub named : IfOk result (λ name. number name ≡ bits)

-- rule 3.27: the bytes of data for each line
unfoldable pub width : ℕ → ℕ
width kind = pick (kind == data_bool) 1 (pick (kind == data_event) 4 0)

abbrev pub data_start : ℕ
data_start = 20

-- rule 3.27: the event number for the line at offset `j` of the range, and the byte
unfoldable pub event_at : List ℕ → ℕ → ℕ
event_at buf j = field buf (data_start + 4 * j) 4

unfoldable pub byte_at : List ℕ → ℕ → ℕ
byte_at buf j = slice_index buf (data_start + j)

-- rule 3.29: no data, trigger and count 0 disable the index
unfoldable pub disables : ℕ → ℕ → Bool
disables flags count = nat_eq (kind_of flags) data_none and nat_eq (action_of flags) act_trigger and nat_eq count 0

-- ---- checks (rule 3.26)

-- those of the fields; start + count is a sum of whole numbers (rule 3.21)
unfoldable pub field_checks : ℕ → ℕ → ℕ → ℕ → Verdict
field_checks flags index start count =
    Flags unless one_of_three (kind_of flags) and one_of_three (action_of flags)
    then Flags when nat_eq (kind_of flags) data_event and not (action_of flags == act_trigger)
    then Index unless nat_lt index (length indices)
    then Flags unless nat_eq (action_of flags) act_trigger or maskable index
    then Range when nat_lt (index_at index).count (start + count)
    then Empty when nat_eq count 0 and not (disables flags count)

-- whether one of the first `n` event numbers is below −1
unfoldable pub any_lower : List ℕ → ℕ → Bool
any_lower buf zero = false
any_lower buf (suc n) = any_lower buf n or lower (event_at buf n)

-- those of the data, which come last
unfoldable pub data_checks : List ℕ → Verdict
data_checks buf =
    ArgSize when nat_lt (argsz_of buf) (data_start + count_of buf * width (kind_of (flags_of buf)))
    then Value when nat_eq (kind_of (flags_of buf)) data_event and any_lower buf (count_of buf)

unfoldable pub set_checks : List ℕ → Verdict
set_checks buf =
    field_checks (flags_of buf) (index_of buf) (start_of buf) (count_of buf)
    then data_checks buf

-- what the code has of a request whose fields pass: the names of its flags, and what its index has
pub record Asks (flags index start count : ℕ) (request : Request) : Type 0 where
  pub data_is : data_number request.«data» ≡ kind_of flags
  pub action_is : action_number request.action ≡ action_of flags
  pub index_is : request.index ≡ index
  pub interrupt_is : request.interrupt ≡ index_at index
  pub start_is : request.start ≡ start
  pub count_is : request.count ≡ count

abbrev pub AskedBy : List ℕ → Request → Type 0
AskedBy buf request = Asks (flags_of buf) (index_of buf) (start_of buf) (count_of buf) request

-- ---- effect

-- rule 3.28: what an action does to a line
unfoldable pub acted : ℕ → Bool → Line → Line
acted action auto l = pick (action == act_trigger) (triggered auto l) (pick (action == act_mask) (with_mask l) (unmasked auto l))

-- rule 3.27: whether the line at offset `j` of the range is selected: by a byte other than 0 where there are bytes, else each is
unfoldable pub selected : List ℕ → ℕ → Bool
selected buf j = not (kind_of (flags_of buf) == data_bool) or not (byte_at buf j == 0)

-- what becomes of the line at offset `j` of the range
unfoldable pub changed_line : List ℕ → ℕ → Line → Line
changed_line buf j l =
    pick (disables (flags_of buf) (count_of buf)) off
    (pick (kind_of (flags_of buf) == data_event) (stored (event_at buf j))
    (pick (selected buf j) (acted (action_of (flags_of buf)) (automasked (index_of buf)) l) l))

-- the `n` lines from place `at` on as `f` leaves them, which gets the offset of each, `j` for the first; all other lines stay
unfoldable pub changed_run : (ℕ → Line → Line) → ℕ → ℕ → ℕ → List Line → List Line
changed_run f j at n [] = []
changed_run f j (suc at) n (l ∷ ls) = l ∷ changed_run f j at n ls
changed_run f j zero zero (l ∷ ls) = l ∷ ls
changed_run f j zero (suc n) (l ∷ ls) = f j l ∷ changed_run f (suc j) zero n ls

-- rules 3.27 and 3.29: the range is that of start and count, and the whole index where it is disabled
unfoldable pub range_start : List ℕ → ℕ
range_start buf = first_line (index_of buf) + pick (disables (flags_of buf) (count_of buf)) 0 (start_of buf)

unfoldable pub range_count : List ℕ → ℕ
range_count buf = pick (disables (flags_of buf) (count_of buf)) (index_at (index_of buf)).count (count_of buf)

unfoldable pub changed_lines : List ℕ → List Line → List Line
changed_lines buf ls = changed_run (changed_line buf) 0 (range_start buf) (range_count buf) ls

-- ---- input

-- rule 3.27: which bytes of data are taken in; with no data, none
unfoldable pub reads_data : List ℕ → ℕ → Bool
reads_data buf i = nat_le data_start i and nat_lt i (data_start + count_of buf * width (kind_of (flags_of buf)))

-- ---- showing a line (rule 4.14)

unfoldable pub show_checks : ℕ → ℕ → Verdict
show_checks index line = Index unless nat_lt index (length indices) and nat_lt line (index_at index).count

-- the line that is shown; there is one wherever the check passes
unfoldable pub line_at : List Line → ℕ → ℕ → Line
line_at lines index line = slice_index_or lines (first_line index + line) (stored 0)
