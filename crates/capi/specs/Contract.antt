-- What every exported call promises (rule 8.2).
use Rattle.std.specs.Prelude.{ℕ, ◌+◌, ◌≤◌, ◌≡◌, List, [], length}
use Rattle.answer.specs.Answer.{Answer}
use Rattle.address.specs.declared.DeviceAddress.{DeviceAddress}
use Rattle.iommu.specs.declared.Mapping.{Mapping}
use Rattle.memory.specs.Memory.{Memory}
use Rattle.wire.specs.Field.{slice}
use Rattle.emulator.specs.Machine.{emulator_of}
use Rattle.emulator.specs.Effect.{Result}
use Rattle.emulator.specs.Calls.{Call, look_up, show_line, walk_queue, outcome}
use Rattle.emulator.specs.Contract.{Meets}
use Rattle.emulator.specs.declared.State.{State}
use Rattle.parts.specs.Step.{step_at, value_at}
use Rattle.capi.specs.Structs.{answer_struct, found_struct, line_struct, walked_struct, step_struct}
use Rattle.capi.specs.declared.Found.{Found}
use Rattle.capi.specs.declared.Outcome.{Outcome}
use Rattle.capi.specs.declared.PartStep.{PartStep}
use Rattle.capi.specs.declared.ShownLine.{ShownLine}
use Rattle.capi.specs.declared.Walked.{Walked}

-- The struct `r` is the one that `shape` makes of the outcome's answer, and all else is left as the outcome says.
pub record Returns {A : Type 0} (shape : Answer Result → A) (c : Call) (buf : List ℕ) (s : State) (rs : List Mapping) (m : Memory) (r : A) (buf' : List ℕ) (m' : Memory) (s' : State)
    (rs' : List Mapping) : Type 0 where
  pub answer : r ≡ shape (outcome c buf (emulator_of s rs m)).answer
  pub rest : Meets c buf s rs m (outcome c buf (emulator_of s rs m)).answer buf' m' s' rs'

-- a call that answers by numbers alone
abbrev pub Tells : Call → List ℕ → State → List Mapping → Memory → Outcome → List ℕ → Memory → State → List Mapping → Type 0
Tells = Returns answer_struct

-- one that is lent neither memory nor marks
abbrev pub TellsAlone : Call → List ℕ → State → List Mapping → Outcome → List ℕ → State → List Mapping → Type 0
TellsAlone c buf s rs r buf' s' rs' = (m : Memory) → Tells c buf s rs m r buf' m s' rs'

-- look-up, which answers by a struct of its own
abbrev pub FindsAt : DeviceAddress → State → List Mapping → Found → Type 0
FindsAt d s rs r = (m : Memory) → Returns (λ a. found_struct a (outcome (look_up d) [] (emulator_of s rs m)).probes) (look_up d) [] s rs m r [] m s rs

-- showing a line, likewise
abbrev pub ShowsLine : ℕ → ℕ → State → List Mapping → ShownLine → Type 0
ShowsLine index i s rs r = (m : Memory) → Returns line_struct (show_line index i) [] s rs m r [] m s rs

-- the walk of a queue, likewise; its buffer is the array of numbers
abbrev pub WalksQueue : ℕ → ℕ → List ℕ → State → List Mapping → Memory → Walked → List ℕ → Type 0
WalksQueue queue last ns s rs m r ns' = Returns walked_struct (walk_queue queue last) ns s rs m r ns' m s rs

-- A step of the walker at place `p` of the stream `s`: the struct of the step; the bounds that it gives lie in the stream, and between them
-- stands the value.
pub record Steps (s : List ℕ) (p : ℕ) (r : PartStep) : Type 0 where
  pub step : r ≡ step_struct p (step_at s p)
  pub inside : r.value_start + r.value_length ≤ length s
  pub value : slice s r.value_start r.value_length ≡ value_at s p
