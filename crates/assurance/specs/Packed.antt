-- Marks packed eight to a byte: every call does on them what it does on wide marks, one to a byte (rule 8.14), and keeps the bits past the end
-- (rule 1.16). proofs/Packed.antt and proofs/PastEnd.antt have the terms.
use Rattle.std.specs.Prelude.{ℕ, ◌+◌, ◌/◌, ◌≤◌, ◌<◌, ◌≡◌, List, [], ◌∷◌, length, get_or, replicate}
use Rattle.answer.specs.Answer.{Answer}
use Rattle.bitmap.specs.Bits.{bit_of}
use Rattle.registers.specs.declared.Card.{Card}
use Rattle.iommu.specs.declared.Mapping.{Mapping}
use Rattle.memory.specs.Shadow.{wide}
use Rattle.memory.specs.Memory.{memory_of}
use Rattle.emulator.specs.Machine.{Machine, Emulator, powered_on}
use Rattle.emulator.specs.Effect.{Result, after}
use Rattle.emulator.specs.Calls.{Call, power_on, outcome}
use Rattle.emulator.specs.Contract.{Meets}
use Rattle.emulator.specs.declared.State.{State}

-- an emulator with packed marks, and one with wide marks
unfoldable pub with_packed : List ℕ → List ℕ → ℕ → Machine → Emulator
with_packed bytes marks room k = record { memory = memory_of bytes marks; room = room; machine = k }

unfoldable pub with_wide : List ℕ → List ℕ → ℕ → Machine → Emulator
with_wide bytes marks room k = record { memory = record { bytes = bytes; shadow = wide marks }; room = room; machine = k }

-- `marks` are the wide marks `w` of `n` bytes, packed: bit a of the one is mark a of the other, which so is 0 or 1
pub record Packs (n : ℕ) (marks w : List ℕ) : Type 0 where
  pub packed_length : length marks ≡ (n + 7) / 8
  pub wide_length : length w ≡ n
  pub each : (a : ℕ) → a < n → bit_of marks a ≡ get_or w a 0

-- two emulators that differ in nothing but how they keep their marks: packed in `e`, wide in `f`
pub record Twins (e f : Emulator) : Type 0 where
  pub bytes : List ℕ
  pub room : ℕ
  pub machine : Machine
  pub marks : List ℕ
  pub wide_marks : List ℕ
  pub first : e ≡ with_packed bytes marks room machine
  pub second : f ≡ with_wide bytes wide_marks room machine
  pub packs : Packs (length bytes) marks wide_marks

pub record Equivalence : Type 0 where
  -- Each call has the same outcome on both: answer, bytes for the buffer, edits of memory, state left. And what it leaves differs again in
  -- nothing but how marks are kept.
  pub calls : (c : Call) (buf : List ℕ) (e f : Emulator) → Twins e f
      → (outcome c buf e ≡ outcome c buf f) × Twins (after (outcome c buf e).effect e) (after (outcome c buf f).effect f)
  -- That is about all wide marks of 0 and 1, as many as there are bytes;
  pub packing : (bytes w : List ℕ) (room : ℕ) (k : Machine) → length w ≡ length bytes → ((a : ℕ) → a < length w → get_or w a 0 ≤ 1)
      → (marks : List ℕ) × Twins (with_packed bytes marks room k) (with_wide bytes w room k)
  -- and about all packed marks of the length that is due, whatever their bits past the end are.
  pub widening : (bytes marks : List ℕ) (room : ℕ) (k : Machine) → length marks ≡ (length bytes + 7) / 8
      → (w : List ℕ) × Twins (with_packed bytes marks room k) (with_wide bytes w room k)

-- Every call keeps every bit past the end of memory, power on too, whatever it is given. The marks stay as long as they were.
pub record PastEnd : Type 0 where
  -- as calls are defined
  pub outcomes : (c : Call) (buf bytes bytes' marks marks' : List ℕ) (room room' : ℕ) (k k' : Machine)
      → after (outcome c buf (with_packed bytes marks room k)).effect (with_packed bytes marks room k) ≡ with_packed bytes' marks' room' k'
      → (length marks' ≡ length marks) × ((i : ℕ) → length bytes ≤ i → bit_of marks' i ≡ bit_of marks i)
  -- as the code does them
  pub code : (c : Call) (buf buf' bytes bytes' marks marks' : List ℕ) (s s' : State) (rs rs' : List Mapping) (r : Answer Result)
      → Meets c buf s rs (memory_of bytes marks) r buf' (memory_of bytes' marks') s' rs'
      → (length marks' ≡ length marks) × ((i : ℕ) → length bytes ≤ i → bit_of marks' i ≡ bit_of marks i)
  -- rule 7.23, worked out: 11 bytes of memory and marks FF FF; power on leaves 00 F8
  pub eleven : (card : Card) (k : Machine)
      → let e = with_packed (replicate 11 0xA5) (0xFF ∷ 0xFF ∷ []) 64 k in
      after (outcome (power_on card) [] e).effect e ≡ with_packed (replicate 11 0xA5) (0x00 ∷ 0xF8 ∷ []) 64 (powered_on card 11)
