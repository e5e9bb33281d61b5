-- Two runs worked out: what demand 3 speaks of does happen. The same calls on two emulators whose memories hold different garbage, with
-- others writing other garbage before each call.
use Rattle.std.specs.Prelude.{ℕ, ◌+◌, ◌*◌, ◌≡◌, Bool, true, List, [], ◌∷◌, ◌++◌, replicate}
use Rattle.answer.specs.Codes.{BadBench, Unwritten}
use Rattle.answer.specs.Answer.{Answer, done, refused}
use Rattle.address.specs.Address.{memory_address}
use Rattle.iommu.specs.Table.{type1v2}
use Rattle.interrupts.specs.Lines.{disabled_lines}
use Rattle.memory.specs.Shadow.{packed}
use Rattle.wire.specs.Field.{bytes_of}
use Rattle.registers.specs.File.{blank}
use Rattle.registers.specs.declared.Card.TheVariants.{Features64}
use Rattle.emulator.specs.Machine.{Machine, Emulator}
use Rattle.emulator.specs.Effect.{Result, value}
use Rattle.emulator.specs.Requests.{device}
use Rattle.emulator.specs.Calls.{power_on, request, host_write, host_read, invalidate}
use Rattle.assurance.specs.Runs.{Ask, Others, Event, run}
use Rattle.assurance.specs.Starred.{◌lent◌, gives}

-- a memory of eight bytes `x`, each marked written, under a state that is not sound: status is not set
unfoldable pub filled_with : ℕ → Emulator
filled_with x =
    record {
      memory = record { bytes = replicate 8 x; shadow = packed 8 (255 ∷ []) };
      room = 0;
      machine = record { memory_length = 8; count = 0; mappings = []; registers = blank; running = true; words = 1; iommu_type = type1v2; lines = disabled_lines };
    }

-- what others write, before each call, at unwritten address a and at stale offset i
unfoldable pub noise : ℕ → ℕ → Others
noise seed n = record { memory = λ a. seed + n; buffer = λ i. seed + i }

-- a host read that is refused for the state; power on; a host write; a read of what was written; one that goes a byte further; request 109,
-- index 0; the first byte invalidated, and a read that now meets it
unfoldable pub calls : List Ask
calls =
    (host_read (memory_address 0) lent 0 ∷ [])
    ∷ (power_on Features64 lent [])
    ∷ (host_write (memory_address 2) lent 11 ∷ 12 ∷ [])
    ∷ (host_read (memory_address 2) lent 0 ∷ 0 ∷ [])
    ∷ (host_read (memory_address 2) lent 0 ∷ 0 ∷ 0 ∷ [])
    ∷ (request device 109 lent bytes_of 4 16 ++ replicate 4 0 ++ bytes_of 4 0 ++ replicate 4 0 ++ 0 ∷ [])
    ∷ (invalidate (memory_address 2) 1 lent [])
    ∷ (host_read (memory_address 2) lent 0 ∷ 0 ∷ [])
    ∷ []

unfoldable pub answers_of : List Event → List (Answer Result)
answers_of [] = []
answers_of (e ∷ es) = e.outcome.answer ∷ answers_of es

unfoldable pub buffers_of : List Event → List (List ℕ)
buffers_of [] = []
buffers_of (e ∷ es) = e.buffer ∷ buffers_of es

-- the answers, on both sides
unfoldable pub expected_answers : List (Answer Result)
expected_answers = refused BadBench 0 ∷ gives 0 ∷ gives 0 ∷ gives 0 ∷ refused Unwritten 2 ∷ gives 0 ∷ gives 0 ∷ refused Unwritten 0 ∷ []

-- the buffers, where others write `x`, `x + 1`, .. at stale offsets: bytes that a call writes are its own, and the others stay
unfoldable pub expected_buffers : ℕ → List (List ℕ)
expected_buffers x =
    (x ∷ [])
    ∷ []
    ∷ (11 ∷ 12 ∷ [])
    ∷ (11 ∷ 12 ∷ [])
    ∷ (x ∷ (x + 1) ∷ (x + 2) ∷ [])
    ∷ (16 ∷ 0 ∷ 0 ∷ 0 ∷ 7 ∷ 0 ∷ 0 ∷ 0 ∷ 0 ∷ 0 ∷ 0 ∷ 0 ∷ 1 ∷ 0 ∷ 0 ∷ 0 ∷ (x + 16) ∷ [])
    ∷ []
    ∷ (x ∷ (x + 1) ∷ [])
    ∷ []

pub record WorkedRuns : Type 0 where
  pub first : answers_of (run (filled_with 5) calls (noise 100)) ≡ expected_answers
  pub first-buffers : buffers_of (run (filled_with 5) calls (noise 100)) ≡ expected_buffers 100
  pub second : answers_of (run (filled_with 77) calls (noise 200)) ≡ expected_answers
  pub second-buffers : buffers_of (run (filled_with 77) calls (noise 200)) ≡ expected_buffers 200
