-- What the handlers of requests promise, behind refusals 1 to 4: the answer, the buffer, the state and the records are those of what is listed
-- for the request. No request edits memory.
use Rattle.std.specs.Prelude.{ℕ, ◌≡◌, List, length, Result as Returned, IfOk}
use Rattle.std.proofs.Math.Option.{some}
use Rattle.answer.specs.Answer.{Answer, verdict_of}
use Rattle.answer.specs.declared.Refusal.{Refusal}
use Rattle.iommu.specs.declared.Mapping.{Mapping}
use Rattle.memory.specs.Memory.{Memory}
use Rattle.emulator.specs.Machine.{emulator_of}
use Rattle.emulator.specs.Effect.{Result, Outcome, outcome_of, filled}
use Rattle.emulator.specs.Requests.{Request, identify, size_checks, listed_checks, listed_effect}
use Rattle.emulator.specs.Contract.{request_writes, returned, left_records}
use Rattle.emulator.specs.declared.State.{State}
use Rattle.vfio.specs.Entries.{entry_of}
use Rattle.vfio.specs.declared.requests.Request.{Request as Named}

-- the outcome of a request whose checks 1 to 4 have passed
unfoldable pub handled : Request → List ℕ → State → List Mapping → Memory → Outcome
handled q buf s rs m = outcome_of (listed_checks q buf (emulator_of s rs m)) (listed_effect q buf (emulator_of s rs m)) (emulator_of s rs m).machine 0

pub record Handles (q : Request) (buf : List ℕ) (s : State) (rs : List Mapping) (m : Memory) (r : Answer Result) (buf' : List ℕ) (s' : State) (rs' : List Mapping) : Type 0 where
  pub answer : r ≡ (handled q buf s rs m).answer
  pub buffer : buf' ≡ filled (handled q buf s rs m).effect.pieces buf
  pub state : s' ≡ returned (listed_checks q buf (emulator_of s rs m)) (request_writes q) (handled q buf s rs m).effect.machine s
  pub records : rs' ≡ left_records (listed_checks q buf (emulator_of s rs m)) (request_writes q) (handled q buf s rs m).effect.machine rs

-- a request on a state, with any memory of the length that the state has noted
abbrev pub Replies : Request → List ℕ → State → List Mapping → Answer Result → List ℕ → State → List Mapping → Type 0
Replies q buf s rs r buf' s' rs' = (m : Memory) → length m.bytes ≡ s.memory_length → Handles q buf s rs m r buf' s' rs'

-- one that leaves all records as they are, whichever are lent
abbrev pub Keeps : Request → List ℕ → State → Answer Result → List ℕ → State → Type 0
Keeps q buf s r buf' s' = (rs : List Mapping) (m : Memory) → Handles q buf s rs m r buf' s' rs

-- one that looks at its buffer alone, and leaves every state as it is
abbrev pub Answers : Request → List ℕ → Answer Result → List ℕ → Type 0
Answers q buf r buf' = (s : State) → Keeps q buf s r buf' s

-- checks 2 to 4, and the request that is listed where they pass
pub record Admits (target number : ℕ) (buf : List ℕ) (r : Returned Named Refusal) : Type 0 where
  pub checks : verdict_of r ≡ size_checks (identify target number) buf
  pub listed : IfOk r (λ q. identify target number ≡ some (entry_of q))
