-- Demand 1 (rule 8.1), as one type: whatever a call is given, it answers; a refusal has one of the listed numbers and changes nothing.
-- proofs/Demand1.antt has its term.
use Rattle.std.specs.Prelude.{ℕ, ◌≤◌, ◌≡◌, List, []}
use Rattle.answer.specs.Codes.{BadBench, Indirect}
use Rattle.answer.specs.Answer.{refused, verdict}
use Rattle.answer.specs.Checks.{Verdict, Pass, Fail}
use Rattle.iommu.specs.declared.Mapping.{Mapping}
use Rattle.memory.specs.Memory.{Memory}
use Rattle.parts.specs.Step.{Step, Part, End, Refused, step_at}
use Rattle.emulator.specs.Machine.{Emulator}
use Rattle.emulator.specs.Effect.{Effect, after, filled}
use Rattle.emulator.specs.Calls.{Call, outcome}
use Rattle.emulator.specs.Contract.{Meets}
use Rattle.emulator.specs.declared.State.{State}

-- no refusal, or one whose number is in the table of rule 2.4: 1 to 32
unfoldable pub Listed : Verdict → Type 0
Listed Pass = Unit
Listed (Fail code place) = (BadBench ≤ code) × (code ≤ Indirect)

-- what a walker step refuses, if anything
unfoldable pub step_verdict : Step → Verdict
step_verdict (Part kind flags selector next) = Pass
step_verdict End = Pass
step_verdict (Refused code place) = Fail code place

-- rule 2.3, an effect that changes nothing: it writes no byte to the buffer and none to memory, and leaves the state that was given
pub record Unchanged (buf : List ℕ) (e : Emulator) (d : Effect) : Type 0 where
  pub pieces : d.pieces ≡ []
  pub edits : d.edits ≡ []
  pub machine : d.machine ≡ e.machine
  -- so that buffer and emulator are what they were
  pub buffer : filled d.pieces buf ≡ buf
  pub emulator : after d e ≡ e

-- For every call `c`, every buffer lent to it and every emulator, sound or not:
pub record Demand1 : Type 0 where
  -- the answer is success, or a refusal by a listed number;
  pub listed : (c : Call) (buf : List ℕ) (e : Emulator) → Listed (verdict (outcome c buf e).answer)
  -- a refusal changes nothing;
  pub unchanged : (c : Call) (buf : List ℕ) (e : Emulator) (code place : ℕ) → (outcome c buf e).answer ≡ refused code place
      → Unchanged buf e (outcome c buf e).effect
  -- where the code refuses, it leaves the buffer, memory with its marks, the whole struct and every record as it got them.
  pub kept : (c : Call) (buf buf' : List ℕ) (s s' : State) (rs rs' : List Mapping) (m m' : Memory) (code place : ℕ) → Meets c buf s rs m (refused code place) buf' m' s' rs'
      → (buf' ≡ buf) × (m' ≡ m) × (s' ≡ s) × (rs' ≡ rs)
  -- A walker step, at any place of any stream, gives a part, the end, or a refusal by a listed number.
  pub steps : (s : List ℕ) (p : ℕ) → Listed (step_verdict (step_at s p))
