-- `registers::sound` meets its contract: what it asks of status and of nine registers is what the definition asks of all.
use Rattle.std.proofs.Common.{ℕ, ◌≡◌, ◌+◌, ◌<◌, Bool, true, false, List, length, get_or, refl, arith}
use mathlib.Core.Bool.{◌&&◌}
use mir.Val.{Val}
use denote.Laws.{Is}
use denote.Struct.Declared.{row}
use Rattle.answer.specs.Tests.{flagged}
use Rattle.registers.specs.Cards.{is_card}
use Rattle.registers.specs.Rows.{row_count}
use Rattle.registers.specs.File.{sound_file, file_of}
use Rattle.registers.specs.declared.Registers.{Registers}
use Rattle.registers.specs.contracts.Registers.{the_type}
use Rattle.registers.proofs.Cards.{card-small}
use Rattle.registers.proofs.File.{absent, sound-free, sound_slot, sound-tested, slots_whole, slot_whole}
use Rattle.registers.proofs.sound.Goals as goal

both : {a b x y z : Bool} → a ≡ x → b ≡ y → (a && b) ≡ z → (x && y) ≡ z
both p q h = rw (← p, ← q) h

module _ (w : ℕ) (registers : Registers) (vs : List Val) (owned : Is (row the_type) registers vs) (card : is_card w ≡ true) where
  -- what is asked of a call for a slot
  asked : (k : ℕ) → k < 14 → (is_card w ≡ true) × (0 < k + 1) × (k + 1 < row_count) × (length (get_or registers.slots k absent).bytes ≡ 32)
  asked k lt = (card, omega arith, omega arith, slot_whole registers _ owned k lt)

  -- whether the register of a slot is sound, and whether status is set
  abbrev slot : ℕ → Bool
  slot k = sound_slot w registers.slots k

  abbrev status : Bool
  status = flagged (get_or registers.slots 5 absent).set

  -- the groups that are judged one after the other
  tested : (status && slot 0 && (slot 6 && slot 7) && (slot 8 && slot 9) && (slot 10 && slot 11 && slot 12 && slot 13)) ≡ sound_file w (file_of w registers)
  tested =
      sound-tested w registers (slots_whole registers _ owned)
      (λ i low high. sound-free w (i + 1) (get_or registers.slots i absent) (card-small _ card) (asked i (omega arith)).3 (omega arith) (omega arith))

  not-first : (status && slot 0) ≡ false → false ≡ sound_file w (file_of w registers)
  not-first a = rw a at tested

  not-second : (status && slot 0) ≡ true → (slot 6 && slot 7) ≡ false → false ≡ sound_file w (file_of w registers)
  not-second a b = rw (a, b) at tested

  not-third : (status && slot 0) ≡ true → (slot 6 && slot 7) ≡ true → (slot 8 && slot 9) ≡ false → false ≡ sound_file w (file_of w registers)
  not-third a b d = rw (a, b, d) at tested

  last : (status && slot 0) ≡ true → (slot 6 && slot 7) ≡ true → (slot 8 && slot 9) ≡ true
      → (slot 10 && slot 11 && slot 12 && slot 13) ≡ sound_file w (file_of w registers)
  last a b d = rw (a, b, d) at tested

pub is_sound-requires-5 : goal.is_sound-requires-5
is_sound-requires-5 c = asked c.args.words c.args.registers _ c.well_formed.1.0 c.requires 9 (omega arith)

pub is_sound-requires-6 : goal.is_sound-requires-6
is_sound-requires-6 c = asked c.args.words c.args.registers _ c.well_formed.1.0 c.requires 10 (omega arith)

pub is_sound-requires-7 : goal.is_sound-requires-7
is_sound-requires-7 c = asked c.args.words c.args.registers _ c.well_formed.1.0 c.requires 11 (omega arith)

pub is_sound-requires-8 : goal.is_sound-requires-8
is_sound-requires-8 c = asked c.args.words c.args.registers _ c.well_formed.1.0 c.requires 12 (omega arith)

pub is_sound-requires-9 : goal.is_sound-requires-9
is_sound-requires-9 c = asked c.args.words c.args.registers _ c.well_formed.1.0 c.requires 13 (omega arith)

pub returns-then-not-status-is_sound : goal.returns-then-not-status-is_sound
returns-then-not-status-is_sound c =
    not-first c.args.words c.args.registers _ c.well_formed.1.0 c.requires (both refl c.is_sound.ensures c.if-not-status-is_sound.true)

pub returns-then-not-is_sound : goal.returns-then-not-is_sound
returns-then-not-is_sound c =
    not-second c.args.words c.args.registers _ c.well_formed.1.0 c.requires
    (both refl c.is_sound.ensures c.if-not-status-is_sound.false) (both c.is_sound-2.ensures c.is_sound-3.ensures c.if-not-is_sound.true)

pub returns-then-not-is_sound-2 : goal.returns-then-not-is_sound-2
returns-then-not-is_sound-2 c =
    not-third c.args.words c.args.registers _ c.well_formed.1.0 c.requires
    (both refl c.is_sound.ensures c.if-not-status-is_sound.false) (both c.is_sound-2.ensures c.is_sound-3.ensures c.if-not-is_sound.false)
    (both c.is_sound-4.ensures c.is_sound-5.ensures c.if-not-is_sound-2.true)

pub returns : goal.returns
returns c =
    rw (c.is_sound-6.ensures, c.is_sound-7.ensures, c.is_sound-8.ensures, c.is_sound-9.ensures)
    (last c.args.words c.args.registers _ c.well_formed.1.0 c.requires
    (both refl c.is_sound.ensures c.if-not-status-is_sound.false) (both c.is_sound-2.ensures c.is_sound-3.ensures c.if-not-is_sound.false)
    (both c.is_sound-4.ensures c.is_sound-5.ensures c.if-not-is_sound-2.false))
