-- The interrupt lines: the indices that they belong to, what one keeps, and what is done to one. The definitions speak of the line that the
-- code keeps, so that lines are compared whole.
use Rattle.std.specs.Prelude.{ℕ, zero, suc, ◌+◌, ◌-◌, ◌/◌, ◌%◌, ◌^◌, Bool, true, not, List, [], ◌∷◌, replicate, ℤ, pos, negsuc, ◌==◌, int_le, int_lt, slice_index_or}
use Rattle.std.specs.Int.{w32}
use Rattle.std.proofs.Common.{to_z}
use Rattle.answer.specs.Tests.{◌and◌, pick, flagged}
use Rattle.interrupts.specs.declared.Interrupt.{Interrupt}
use Rattle.interrupts.specs.declared.Line.{Line}

-- ---- the indices

abbrev pub interrupt : ℕ → ℕ → Interrupt
interrupt count flags = record { count = count; flags = flags }

-- rule 3.15: interrupts 0 to 3
abbrev pub indices : List Interrupt
indices = interrupt 1 7 ∷ interrupt 8 9 ∷ interrupt 16 9 ∷ interrupt 0 0 ∷ []

unfoldable pub index_at : ℕ → Interrupt
index_at i = slice_index_or indices i (interrupt 0 0)

-- rule 3.15: flag bits 1 and 2 of an index
unfoldable pub maskable : ℕ → Bool
maskable i = (index_at i).flags / 2 % 2 == 1

unfoldable pub automasked : ℕ → Bool
automasked i = (index_at i).flags / 4 % 2 == 1

-- rule 1.20: the lines of all indices stand one after the other, in the order of the indices
abbrev pub line_count : ℕ
line_count = 25

unfoldable pub count_before : List Interrupt → ℕ → ℕ
count_before xs zero = 0
count_before [] (suc i) = 0
count_before (x ∷ xs) (suc i) = x.count + count_before xs i

-- where the lines of an index begin
unfoldable pub first_line : ℕ → ℕ
first_line i = count_before indices i

-- ---- what a line keeps

-- rule 1.20: a line keeps its event number as 32 bits, which are read as signed
unfoldable pub event_number : ℕ → ℤ
event_number bits = to_z w32 bits

-- the bits of −1: no event number is assigned
abbrev pub no_event : ℕ
no_event = 2 ^ 32 - 1

unfoldable pub assigned : Line → Bool
assigned l = int_le (pos 0) (event_number l.number)

-- whether a number is below −1 (`negsuc 0`), which no line may have
unfoldable pub lower : ℕ → Bool
lower bits = int_lt (event_number bits) (negsuc 0)

-- rule 1.20: nothing else about lines makes a state unsound
unfoldable pub sound_lines : List Line → Bool
sound_lines [] = true
sound_lines (l ∷ ls) = not (lower l.number) and sound_lines ls

-- ---- what is done to a line (rule 3.28)

-- a number is stored: the line is not masked, not pending, and its tally is 0
unfoldable pub stored : ℕ → Line
stored bits = record { number = bits; tally = 0; masked = 0; pending = 0 }

-- rule 3.29: a line that is disabled
unfoldable pub off : Line
off = stored no_event

-- the line with its two flags, all else kept
unfoldable pub with_flags : ℕ → ℕ → Line → Line
with_flags masked pending l = record { number = l.number; tally = l.tally; masked = masked; pending = pending }

-- an event on a line with a number: a masked line only notes it, another counts it, and is masked then where its index is automasked
unfoldable pub raised : Bool → Line → Line
raised auto l =
    pick (flagged l.masked) (with_flags l.masked 1 l)
    (record { number = l.number; tally = (l.tally + 1) % 2 ^ 32; masked = pick auto 1 l.masked; pending = l.pending })

-- on a line without a number the three actions do nothing
unfoldable pub triggered : Bool → Line → Line
triggered auto l = pick (assigned l) (raised auto l) l

unfoldable pub with_mask : Line → Line
with_mask l = pick (assigned l) (with_flags 1 l.pending l) l

-- the mask is cleared; what was pending is so no longer, and comes as one event
unfoldable pub unmasked : Bool → Line → Line
unmasked auto l = pick (assigned l) (pick (flagged l.pending) (raised auto (with_flags 0 0 l)) (with_flags 0 l.pending l)) l

-- rules 1.10, 3.16 and 3.29: what power on and a reset leave
unfoldable pub disabled_lines : List Line
disabled_lines = replicate line_count off
