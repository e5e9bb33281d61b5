-- The round trip (rule 8.4) at the level of calls, as one type. proofs/SaveLoad.antt has its term.
use Rattle.std.specs.Prelude.{ℕ, ◌≡◌, true, false, List, length, take}
use Rattle.answer.specs.Answer.{Answer, done}
use Rattle.iommu.specs.declared.Mapping.{Mapping}
use Rattle.memory.specs.Memory.{Memory}
use Rattle.registers.specs.File.{kept_count, file_of, slots_of}
use Rattle.emulator.specs.Machine.{Emulator, machine_of, sound, with_registers}
use Rattle.emulator.specs.Effect.{Result, value, leaving, filled}
use Rattle.emulator.specs.Calls.{load_parts, save_parts, outcome}
use Rattle.emulator.specs.Contract.{with_registers_in, Meets}
use Rattle.emulator.specs.declared.State.{State}

-- Of what an accepted save leaves in its buffer, take as many bytes as it reports, and load them into any sound, stopped device that is the
-- same card, whatever that held: loading is accepted, and leaves that device with exactly the registers that were saved, set or not, and all else as it was.
-- `kept_count` is how many registers the code's struct has.
pub record SaveLoad : Type 0 where
  -- as the two calls are defined, from the emulator `e` into the emulator `f`
  pub outcomes : (e f : Emulator) (buf : List ℕ) (n : ℕ) → length e.machine.registers ≡ kept_count
      → (outcome save_parts buf e).answer ≡ done (value n) → sound f.room f.machine ≡ true → f.machine.running ≡ false → e.machine.words ≡ f.machine.words
      → outcome load_parts (take n (filled (outcome save_parts buf e).effect.pieces buf)) f
      ≡ record { answer = done (value 0); probes = 0; effect = leaving (with_registers e.machine.registers f.machine) }
  -- as the code does it, from the state `s` into the state `t`: it answers 0, and returns `t` with the saved registers, as code writes them
  pub code : (s s' t t' : State) (rs rs' us us' : List Mapping) (m m' k k' : Memory) (buf saved stream : List ℕ) (n : ℕ) (r : Answer Result) → length s.registers.slots ≡ kept_count
      → Meets save_parts buf s rs m (done (value n)) saved m' s' rs' → sound (length us) (machine_of t us) ≡ true → (machine_of t us).running ≡ false → s.words ≡ t.words
      → Meets load_parts (take n saved) t us k r stream k' t' us'
      → (r ≡ done (value 0)) × (t' ≡ with_registers_in (record { slots = slots_of (file_of s.words s.registers) }) t)
