-- Refusal 1, test by test.
use Prim.Native.Nat.{◌≤◌, ◌*◌}
use mathlib.Core.Path.{◌≡◌, refl, ◌∙◌}
use mathlib.Core.Bool.{Bool, true}
use mathlib.Core.List.{List}
use lib.ListN.{length}
use lib.Dec.{leb, eqb}
use borrow.Author.Tests.{leb-true, eqb-true}
use Rattle.answer.specs.Tests.{◌and◌}
use Rattle.answer.proofs.Tests.{and_true, and_swap}
use Rattle.address.specs.Address.{memory_limit}
use Rattle.iommu.specs.Table.{capacity, is_iommu_type, sound_table, table_of, in_use, Sound}
use Rattle.iommu.specs.declared.Mapping.{Mapping}
use Rattle.iommu.proofs.Soundness.{sound-table}
use Rattle.memory.specs.Shadow.{mark_bytes}
use Rattle.memory.proofs.Marks.{due-room}
use Rattle.memory.specs.Memory.{Memory}
use Rattle.dma.specs.Walk.{Ready}
use Rattle.registers.specs.Cards.{is_card, word_room}
use Rattle.registers.specs.File.{sound_file, file_of}
use Rattle.registers.proofs.Cards.{card-small}
use Rattle.interrupts.specs.Lines.{sound_lines}
use Rattle.emulator.specs.Machine.{machine_of, emulator_of, lendable_records, sound_mappings, sound_length, sound_card, sound_iommu_type, sound_interrupts, sound_registers, sound, lendable, as_noted, both, usable}
use Rattle.emulator.specs.declared.State.{State}

-- ---- memory and marks

-- what can be lent has a mark for each byte, and is not too long
module _ (m : Memory) (lent : lendable m ≡ true) where
  pub mark_room : length m.bytes ≤ 8 * mark_bytes m.shadow
  unfolding lendable
  mark_room = due-room m.shadow (length m.bytes) (eqb-true _ _ (and_true _ _ (and_true _ _ lent).0).1)

  pub lent-small : length m.bytes ≤ memory_limit
  unfolding lendable
  lent-small = leb-true _ _ (and_true _ _ lent).1

-- ---- the kept state, with the records that are lent

module _ (s : State) (rs : List Mapping) where
  -- the code asks the device first, and then the mappings
  pub sound-is : (is_card s.words and is_iommu_type s.iommu_type and sound_lines s.lines.lines and leb s.memory_length memory_limit and sound_file s.words (file_of s.words s.registers)
      and (leb (length rs) capacity and leb s.count (length rs) and sound_table s.memory_length (in_use (table_of rs s.count))))
      ≡ sound (length rs) (machine_of s rs)
  unfolding sound sound_card sound_iommu_type sound_interrupts sound_length sound_mappings lendable_records sound_registers machine_of
  sound-is = and_swap _ _ _

  -- of the device, of the mappings, and of both
  pub sound-found : {device mappings r : Bool} → device ≡ (is_card s.words and is_iommu_type s.iommu_type and sound_lines s.lines.lines and leb s.memory_length memory_limit and sound_file s.words (file_of s.words s.registers))
      → mappings ≡ (leb (length rs) capacity and leb s.count (length rs) and sound_table s.memory_length (in_use (table_of rs s.count))) → r ≡ (device and mappings)
      → r ≡ sound (length rs) (machine_of s rs)
  sound-found d m e = e ∙ rw (d, m) sound-is

  module _ (good : sound (length rs) (machine_of s rs) ≡ true) where
    card_and_length : (is_card s.words and is_iommu_type s.iommu_type and sound_lines s.lines.lines and leb s.memory_length memory_limit) ≡ true
    unfolding sound sound_card sound_iommu_type sound_interrupts sound_length machine_of
    card_and_length = (and_true _ _ (and_true _ _ good).0).0

    -- what functions below may ask of the card
    pub sound-card : is_card s.words ≡ true
    sound-card = (and_true _ _ (and_true _ _ (and_true _ _ card_and_length).0).0).0

    pub sound-small : s.words ≤ word_room
    sound-small = card-small s.words sound-card

    pub sound-noted : s.memory_length ≤ memory_limit
    sound-noted = leb-true _ _ (and_true _ _ card_and_length).1

    -- what they may ask of the table
    pub sound-mappings : sound_mappings (length rs) (machine_of s rs) ≡ true
    unfolding sound
    sound-mappings = (and_true _ _ (and_true _ _ good).0).1

    pub sound_fits : s.count ≤ length rs
    unfolding sound_mappings lendable_records machine_of
    sound_fits = leb-true _ _ (and_true _ _ (and_true _ _ sound-mappings).0).1

    pub sound-records : Sound (in_use (table_of rs s.count))
    unfolding sound_mappings lendable_records machine_of
    sound-records = (sound-table (table_of rs s.count) s.memory_length sound-mappings sound-noted).1

    pub sound_list : sound_table s.memory_length (in_use (table_of rs s.count)) ≡ true
    unfolding sound_mappings machine_of
    sound_list = (and_true _ _ sound-mappings).1

-- ---- memory, marks and state

module _ (s : State) (rs : List Mapping) (m : Memory) where
  -- the code asks for memory and marks first
  pub usable-is : (lendable m and eqb (length m.bytes) s.memory_length and sound (length rs) (machine_of s rs)) ≡ usable both (emulator_of s rs m)
  unfolding usable emulator_of as_noted machine_of
  usable-is = refl

  pub usable-found : {lent kept r : Bool} → lent ≡ (lendable m and eqb (length m.bytes) s.memory_length) → kept ≡ sound (length rs) (machine_of s rs) → r ≡ (lent and kept)
      → r ≡ usable both (emulator_of s rs m)
  usable-found l k e = e ∙ rw (l, k) usable-is

  module _ (good : usable both (emulator_of s rs m) ≡ true) where
    pub usable-lent : lendable m ≡ true
    unfolding usable emulator_of
    usable-lent = (and_true _ _ (and_true _ _ good).0).0

    pub usable-noted : length m.bytes ≡ s.memory_length
    unfolding usable emulator_of as_noted machine_of
    usable-noted = eqb-true _ _ (and_true _ _ (and_true _ _ good).0).1

    pub usable-sound : sound (length rs) (machine_of s rs) ≡ true
    unfolding usable emulator_of
    usable-sound = (and_true _ _ good).1

    -- what transfers ask of the table, over memory
    pub transfers_ready : Ready (in_use (table_of rs s.count)) (length m.bytes)
    transfers_ready =
        let t = sound-records s rs usable-sound in
        record { few = t.few; sound = rw usable-noted (sound_list s rs usable-sound); limit = lent-small m usable-lent }
