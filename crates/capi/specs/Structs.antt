-- Answers as C has them (rule 8.11). Each definition gives a struct whole: what an answer has no use for is 0.
use Rattle.std.specs.Prelude.{ℕ, ◌+◌, ◌-◌, Bool, true, false, not}
use Rattle.answer.specs.Tests.{flagged}
use Rattle.answer.specs.Answer.{Answer, done, refused}
use Rattle.address.specs.Address.{memory_address}
use Rattle.emulator.specs.Effect.{Result, value, location, line, walked}
use Rattle.parts.specs.Step.{Step, Part, End, Refused, header_size}
use Rattle.reader.specs.Read.{next_place}
use Rattle.capi.specs.declared.Outcome.{Outcome}
use Rattle.capi.specs.declared.Found.{Found}
use Rattle.capi.specs.declared.PartStep.{PartStep}
use Rattle.capi.specs.declared.ShownLine.{ShownLine}
use Rattle.capi.specs.declared.Walked.{Walked}

abbrev pub success : ℕ → Outcome
success n = record { refused = false; code = 0; place = 0; result = n }

abbrev pub refusal : ℕ → ℕ → Outcome
refusal code place = record { refused = true; code = code; place = place; result = 0 }

-- the answer of a call; those of look-up, of a line that is shown and of a walk have their values beside it
abbrev pub answer_struct : Answer Result → Outcome
answer_struct (done (value n)) = success n
answer_struct (done (location a rights left)) = success 0
answer_struct (done (line l)) = success 0
answer_struct (done (walked n index)) = success n
answer_struct (refused code place) = refusal code place

-- look-up's answer, with how many records it looked at
abbrev pub found_struct : Answer Result → ℕ → Found
found_struct (done (value n)) probes = record { outcome = success n; address = memory_address 0; rights = 0; left = 0; probes = probes }
found_struct (done (location a rights left)) probes = record { outcome = success 0; address = a; rights = rights; left = left; probes = probes }
found_struct (done (line l)) probes = record { outcome = success 0; address = memory_address 0; rights = 0; left = 0; probes = probes }
found_struct (done (walked n index)) probes = record { outcome = success n; address = memory_address 0; rights = 0; left = 0; probes = probes }
found_struct (refused code place) probes = record { outcome = refusal code place; address = memory_address 0; rights = 0; left = 0; probes = probes }

-- what is shown of a line
abbrev pub no_line : Outcome → ShownLine
no_line o = record { outcome = o; number = 0; tally = 0; masked = false; pending = false }

abbrev pub line_struct : Answer Result → ShownLine
line_struct (done (value n)) = no_line (success n)
line_struct (done (location a rights left)) = no_line (success 0)
line_struct (done (line l)) = record { outcome = success 0; number = l.number; tally = l.tally; masked = flagged l.masked; pending = flagged l.pending }
line_struct (done (walked n index)) = no_line (success n)
line_struct (refused code place) = no_line (refusal code place)

-- a walk's answer: how many buffers it found, and the ring's index beside it
abbrev pub index_of : Answer Result → ℕ
index_of (done (value n)) = 0
index_of (done (location a rights left)) = 0
index_of (done (line l)) = 0
index_of (done (walked n index)) = index
index_of (refused code place) = 0

abbrev pub walked_struct : Answer Result → Walked
walked_struct a = record { outcome = answer_struct a; index = index_of a }

-- a step that found no part: refused, or at the end; the walk goes on at `next`
abbrev pub no_part : Bool → ℕ → ℕ → ℕ → PartStep
no_part stopped code place next =
    record {
      refused = stopped;
      end = not stopped;
      code = code;
      place = place;
      kind = 0;
      flags = 0;
      selector = 0;
      value_start = 0;
      value_length = 0;
      next = next;
    }

-- the step at place `p`: a part, with the bounds of its value in the stream; the end; or a refusal
abbrev pub step_struct : ℕ → Step → PartStep
step_struct p (Part kind flags selector next) =
    record {
      refused = false;
      end = false;
      code = 0;
      place = 0;
      kind = kind;
      flags = flags;
      selector = selector;
      value_start = p + header_size;
      value_length = next - (p + header_size);
      next = next_place (Part kind flags selector next) p;
    }
step_struct p End = no_part false 0 0 (next_place End p)
step_struct p (Refused code place) = no_part true code place (next_place (Refused code place) p)
