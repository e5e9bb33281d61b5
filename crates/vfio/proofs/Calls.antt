-- The request call from its parts: checks 1 to 4, and the handler of the request.
use Rattle.std.proofs.Common.{◌≡◌, refl, sym, ℕ, ◌≤◌, true, List, [], length, IsErr, IsErrAnd, Ok, Err}
use Rattle.std.specs.Prelude.{Result as Returned}
use Rattle.std.proofs.Math.Option.{Option, none, some}
use Rattle.answer.specs.Codes.{BadBench}
use Rattle.answer.specs.Answer.{Answer, number_of}
use Rattle.answer.specs.Checks.{Verdict, Pass, Fail, ◌then◌, ◌unless◌}
use Rattle.answer.specs.declared.Refusal.{Refusal}
use Rattle.answer.proofs.Checks.{unless_pass}
use Rattle.iommu.specs.declared.Mapping.{Mapping}
use Rattle.memory.specs.Memory.{Memory, edited}
use Rattle.emulator.specs.Machine.{Emulator, both, usable, sound, machine_of, emulator_of}
use Rattle.emulator.specs.Effect.{Result, effect_of, outcome_of}
use Rattle.emulator.specs.Requests.{Request, get_api_version, check_extension, set_iommu, get_iommu_info, map_dma, unmap_dma, get_info, get_region_info, get_irq_info, set_irqs, reset_device, Entry, identify, listed_checks, request_checks, listed_effect, request_effect, size_checks}
use Rattle.emulator.specs.Calls.{request, given, own_checks, checks, effect, probes_of, outcome}
use Rattle.emulator.specs.Contract.{told, entry_writes, request_writes, writes, Meets}
use Rattle.emulator.specs.declared.State.{State}
use Rattle.emulator.proofs.Meets.{bad_bench, refused-by}
use Rattle.emulator.proofs.Soundness.{usable-sound, usable-noted}
use Rattle.wire.specs.Field.{field}
use Rattle.vfio.specs.Entries.{entry_of}
use Rattle.vfio.proofs.Entries.{size_room, argsz_fits}
use Rattle.vfio.specs.Handlers.{handled, Handles, Admits}
use Rattle.vfio.specs.declared.requests.Request.{Request as Named}

-- ---- checks 2, 3 and 4 come before what is listed

size-refuses : (o : Option Entry) (buf : List ℕ) (e : Emulator) (code place : ℕ) → Fail code place ≡ size_checks o buf → Fail code place ≡ request_checks o buf e
unfolding request_checks ◌then◌
size-refuses none buf e code place h = h
size-refuses (some r) buf e code place h = rw (← h)

-- ---- no request edits memory

no_edits : (q : Request) (buf : List ℕ) (e : Emulator) → (listed_effect q buf e).edits ≡ []
unfolding listed_effect
no_edits = elim [
  | get_api_version ↦ λ buf e. refl
  | check_extension ↦ λ buf e. refl
  | set_iommu ↦ λ buf e. refl
  | get_iommu_info ↦ λ buf e. refl
  | map_dma ↦ λ buf e. refl
  | unmap_dma ↦ λ buf e. refl
  | get_info ↦ λ buf e. refl
  | get_region_info ↦ λ buf e. refl
  | get_irq_info ↦ λ buf e. refl
  | set_irqs ↦ λ buf e. refl
  | reset_device ↦ λ buf e. refl
]

keeps-memory : (v : Verdict) (q : Request) (buf : List ℕ) (e : Emulator) (m : Memory) → m ≡ edited (effect_of v (listed_effect q buf e) e.machine).edits m
unfolding effect_of edited
keeps-memory Pass q buf e m = rw (no_edits q buf e)
keeps-memory (Fail code place) q buf e m = refl

-- ---- the call

module _ (target number : ℕ) (buf : List ℕ) (s : State) (rs : List Mapping) (m : Memory) where
  -- a refusal by check 1, and by checks 2 to 4, that is passed on
  pub not_usable : (r : Returned ℕ Refusal) (e : Refusal) → IsErr r × IsErrAnd r (λ f. f ≡ e) → Fail (number_of e.reason) e.place ≡ (BadBench unless usable both (emulator_of s rs m))
      → Meets (request target number) buf s rs m (told r) buf m s rs
  unfolding given
  not_usable (Ok n) e h f = absurd h.1
  not_usable (Err x) e h f = rw h.1 (bad_bench (request target number) buf s rs m _ _ f)

  module _ (good : Pass ≡ (BadBench unless usable both (emulator_of s rs m))) where
    pub not_admitted : (r : Returned ℕ Refusal) (e : Refusal) → IsErr r × IsErrAnd r (λ f. f ≡ e) → Fail (number_of e.reason) e.place ≡ size_checks (identify target number) buf
        → Meets (request target number) buf s rs m (told r) buf m s rs
    unfolding given own_checks
    not_admitted (Ok n) e h f = absurd h.1
    not_admitted (Err x) e h f = rw h.1 (refused-by (request target number) buf s rs m _ _ good (size-refuses _ buf _ _ _ f))

-- an admitted request, which is `k`
module _ (target number : ℕ) (buf : List ℕ) (q : Named) (admits : Admits target number buf (Ok q)) (k : Named) (at : q ≡ k) where
  is : identify target number ≡ some (entry_of k)
  is = rw at at admits.listed

  -- what its handler asks of the buffer
  pub room : (entry_of k).size ≤ length buf
  room = size_room (entry_of k) buf (rw is at admits.checks)

  pub data_room : (entry_of k).argsz ≡ true → field buf 0 4 ≤ length buf
  data_room h = argsz_fits (entry_of k) buf h (rw is at admits.checks)

  module _ (s : State) (rs : List Mapping) (m : Memory) (good : Pass ≡ (BadBench unless usable both (emulator_of s rs m))) where
    its-checks : checks (request target number) buf (emulator_of s rs m) ≡ listed_checks (entry_of k).request buf (emulator_of s rs m)
    unfolding checks given own_checks request_checks ◌then◌
    its-checks = let p = rw is at admits.checks in rw (← good, is, ← p)

    its-outcome : outcome (request target number) buf (emulator_of s rs m) ≡ handled (entry_of k).request buf s rs m
    unfolding outcome handled effect probes_of request_effect
    its-outcome = rw (its-checks, is)

    its-writes : writes (request target number) buf ≡ request_writes (entry_of k).request
    unfolding writes entry_writes
    its-writes = rw is

    -- what its handler promises is what the call promises
    pub meets : {r : Answer Result} {buf' : List ℕ} {s' : State} {rs' : List Mapping} → Handles (entry_of k).request buf s rs m r buf' s' rs'
        → Meets (request target number) buf s rs m r buf' m s' rs'
    unfolding handled outcome_of
    meets h =
        record {
          answer = rw its-outcome h.answer;
          buffer = rw its-outcome h.buffer;
          memory = rw its-outcome (keeps-memory _ (entry_of k).request buf (emulator_of s rs m) m);
          state = rw (its-checks, its-outcome, its-writes) h.state;
          records = rw (its-checks, its-outcome, its-writes) h.records;
        }

-- refusal 1 has passed
module _ (s : State) (rs : List Mapping) (m : Memory) (good : Pass ≡ (BadBench unless usable both (emulator_of s rs m))) where
  pub good_state : sound (length rs) (machine_of s rs) ≡ true
  good_state = usable-sound s rs m (unless_pass _ _ (sym good))

  pub good_length : length m.bytes ≡ s.memory_length
  good_length = usable-noted s rs m (unless_pass _ _ (sym good))
