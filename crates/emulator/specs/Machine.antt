-- The emulator between calls: memory with its marks, the kept state (rule 1.11), and refusal 1 (rule 2.6).
use Rattle.std.specs.Prelude.{ℕ, Bool, false, List, [], length, leb, eqb}
use Rattle.answer.specs.Tests.{◌and◌, flagged}
use Rattle.address.specs.Address.{memory_limit}
use Rattle.iommu.specs.Table.{capacity, type1v2, is_iommu_type, sound_table, table_of, in_use}
use Rattle.iommu.specs.declared.Mapping.{Mapping}
use Rattle.memory.specs.Shadow.{marks, mark_bytes, shadow_length}
use Rattle.memory.specs.Memory.{Memory}
use Rattle.registers.specs.Cards.{words_of, is_card}
use Rattle.registers.specs.File.{File, reset, sound_file, file_of}
use Rattle.registers.specs.declared.Card.{Card}
use Rattle.interrupts.specs.Lines.{sound_lines, disabled_lines}
use Rattle.interrupts.specs.declared.Line.{Line}
use Rattle.emulator.specs.declared.State.{State}

-- What the kept state means with the records that are lent: no record past the count and no value of an unset register (rule 1.13).
-- `mappings` are the records in use, which are `count` where the state is sound; `memory_length` is the noted length, `words` is how many
-- words of features the card has (rule 1.15), `iommu_type` is the number of the container's IOMMU type (rule 1.19), and `lines` are the
-- interrupt lines (rule 1.20).
pub record Machine : Type 0 where
  pub memory_length : ℕ
  pub count : ℕ
  pub mappings : List Mapping
  pub registers : File
  pub running : Bool
  pub words : ℕ
  pub iommu_type : ℕ
  pub lines : List Line

-- memory with its marks, how many records are lent (rule 1.8), and the kept state
pub record Emulator : Type 0 where
  pub memory : Memory
  pub room : ℕ
  pub machine : Machine

-- what the code's state means with lent records (rule 1.14 for the flag)
unfoldable pub machine_of : State → List Mapping → Machine
machine_of s rs =
    record {
      memory_length = s.memory_length;
      count = s.count;
      mappings = in_use (table_of rs s.count);
      registers = file_of s.words s.registers;
      running = flagged s.running;
      words = s.words;
      iommu_type = s.iommu_type;
      lines = s.lines.lines;
    }

-- the emulator that lent records and memory make with the code's state
unfoldable pub emulator_of : State → List Mapping → Memory → Emulator
emulator_of s rs m = record { memory = m; room = length rs; machine = machine_of s rs }

-- ---- soundness, in named pieces

-- rule 1.15: there is a card with that many words of features
unfoldable pub sound_card : Machine → Bool
sound_card k = is_card k.words

-- rule 1.19: the container is of an IOMMU type that there is
unfoldable pub sound_iommu_type : Machine → Bool
sound_iommu_type k = is_iommu_type k.iommu_type

-- rule 1.20: no interrupt line has an event number below −1
unfoldable pub sound_interrupts : Machine → Bool
sound_interrupts k = sound_lines k.lines

-- rules 1.8 and 2.6: at most 4,096 records are lent
unfoldable pub lendable_records : ℕ → Bool
lendable_records room = leb room capacity

-- rules 1.12, 7.25: with so many records lent, no more mappings than those, in order and apart, each of them sound with the noted length
unfoldable pub sound_mappings : ℕ → Machine → Bool
sound_mappings room k = lendable_records room and leb k.count room and sound_table k.memory_length k.mappings

-- rule 1.12: the noted length is at most 2^30, whatever the table holds
unfoldable pub sound_length : Machine → Bool
sound_length k = leb k.memory_length memory_limit

-- rule 1.12: the registers, by the card's sizes and features
unfoldable pub sound_registers : Machine → Bool
sound_registers k = sound_file k.words k.registers

-- rule 1.12, whole
unfoldable pub sound : ℕ → Machine → Bool
sound room k = sound_card k and sound_iommu_type k and sound_interrupts k and sound_length k and sound_mappings room k and sound_registers k

-- ---- refusal 1, on what a call is given

-- rules 1.3 and 2.6: each byte has a mark, there are as many mark bytes as that takes, and at most 2^30 bytes
unfoldable pub lendable : Memory → Bool
lendable m =
    eqb (marks m.shadow) (length m.bytes) and eqb (mark_bytes m.shadow) (shadow_length m.shadow (length m.bytes))
    and leb (length m.bytes) memory_limit

-- rule 2.6: memory has the noted length
unfoldable pub as_noted : Emulator → Bool
as_noted e = eqb (length e.memory.bytes) e.machine.memory_length

-- rule 2.7: what a call is given beside the records: memory with its marks, the kept state, or both
pub data Given : Type 0 where
  memory_alone state_alone both : Given

-- rule 2.6: whether 1 passes, on what a call is given
unfoldable pub usable : Given → Emulator → Bool
usable memory_alone e = lendable e.memory and lendable_records e.room
usable state_alone e = sound e.room e.machine
usable both e = lendable e.memory and as_noted e and sound e.room e.machine

-- ---- states that calls leave

-- rules 1.10 and 1.19: the state that power on of a card leaves with memory of length `n`, of which nothing comes from the old one
unfoldable pub powered_on : Card → ℕ → Machine
powered_on card n = record { memory_length = n; count = 0; mappings = []; registers = reset; running = false; words = words_of card; iommu_type = type1v2; lines = disabled_lines }

unfoldable pub with_mappings : List Mapping → Machine → Machine
with_mappings ms k =
    record { memory_length = k.memory_length; count = length ms; mappings = ms; registers = k.registers; running = k.running; words = k.words; iommu_type = k.iommu_type; lines = k.lines }

unfoldable pub with_registers : File → Machine → Machine
with_registers file k =
    record { memory_length = k.memory_length; count = k.count; mappings = k.mappings; registers = file; running = k.running; words = k.words; iommu_type = k.iommu_type; lines = k.lines }

unfoldable pub with_running : Bool → Machine → Machine
with_running running k =
    record { memory_length = k.memory_length; count = k.count; mappings = k.mappings; registers = k.registers; running = running; words = k.words; iommu_type = k.iommu_type; lines = k.lines }

unfoldable pub with_iommu_type : ℕ → Machine → Machine
with_iommu_type kind k =
    record { memory_length = k.memory_length; count = k.count; mappings = k.mappings; registers = k.registers; running = k.running; words = k.words; iommu_type = kind; lines = k.lines }

unfoldable pub with_lines : List Line → Machine → Machine
with_lines ls k =
    record {
      memory_length = k.memory_length;
      count = k.count;
      mappings = k.mappings;
      registers = k.registers;
      running = k.running;
      words = k.words;
      iommu_type = k.iommu_type;
      lines = ls;
    }
