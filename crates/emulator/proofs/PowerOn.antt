-- A fresh start: its two tests of refusal 1, what it has to answer and leave, and the state that the code makes of a card that is reset.
use Prim.Native.Nat.{ℕ}
use mathlib.Core.Path.{◌≡◌, refl, sym, ap₂}
use mathlib.Core.Bool.{Bool, true, false}
use mathlib.Core.List.{List, []}
use lib.ListN.{length}
use Rattle.answer.specs.Answer.{done, refused}
use Rattle.answer.specs.Tests.{◌and◌}
use Rattle.answer.specs.Codes.{BadBench}
use Rattle.answer.specs.Checks.{Verdict, Pass, Fail, ◌unless◌}
use Rattle.answer.proofs.Checks.{never, unless_pass}
use Rattle.address.specs.Address.{memory_address}
use Rattle.iommu.specs.Table.{type1v2}
use Rattle.iommu.specs.declared.Mapping.{Mapping}
use Rattle.memory.specs.Memory.{Memory, edited, clears}
use Rattle.registers.specs.Cards.{words_of}
use Rattle.registers.specs.File.{reset, slots_of}
use Rattle.registers.specs.declared.Card.{Card}
use Rattle.registers.specs.declared.Register.{Register}
use Rattle.registers.specs.declared.Registers.{Registers}
use Rattle.interrupts.specs.Lines.{disabled_lines}
use Rattle.interrupts.specs.declared.Line.{Line}
use Rattle.interrupts.specs.declared.Lines.{Lines}
use Rattle.emulator.specs.Machine.{lendable, lendable_records, usable, emulator_of, powered_on}
use Rattle.emulator.specs.Effect.{value, filled}
use Rattle.emulator.specs.Calls.{power_on, given, own_checks, effect}
use Rattle.emulator.specs.Contract.{writes, everything, state_with, records_with, Meets}
use Rattle.emulator.specs.declared.State.{State}
use Rattle.emulator.proofs.Meets.{bad_bench, accepted, bench_passed, bench_failed}

pub bench_first : (s t : Bool) (code place : ℕ) → Fail code place ≡ (BadBench unless s) → Fail code place ≡ (BadBench unless s and t)
unfolding ◌unless◌ ◌and◌
bench_first true t code place h = never code place h
bench_first false t code place h = h

pub bench_next : (s t : Bool) (v : Verdict) → Pass ≡ (BadBench unless s) → v ≡ (BadBench unless t) → v ≡ (BadBench unless s and t)
unfolding ◌and◌
bench_next s t v h k = rw (unless_pass _ _ (sym h)) k

module _ (card : Card) (s : State) (rs : List Mapping) (m m' : Memory) where
  -- it is refused, and leaves all as it was
  pub power-refused : (lendable m and lendable_records (length rs)) ≡ false → Meets (power_on card) [] s rs m (refused BadBench 0) [] m s rs
  unfolding given usable emulator_of
  power-refused h = bad_bench (power_on card) [] s rs m BadBench 0 (bench_failed h)

  pub power-done : (s' : State) → (lendable m and lendable_records (length rs)) ≡ true → m' ≡ edited (clears (memory_address 0) (length m.bytes)) m
      → s' ≡ state_with everything (powered_on card (length m.bytes)) s → Meets (power_on card) [] s rs m (done (value 0)) [] m' s' rs
  unfolding given own_checks effect usable emulator_of writes records_with filled
  power-done s' good f g = accepted (power_on card) [] s rs m [] m' s' rs (bench_passed good) refl refl f g refl

-- the state that the code makes of a reset card
pub fresh-state : (card : Card) (n w : ℕ) (r : Registers) (ls : Lines) (s : State) → w ≡ words_of card → r.slots ≡ slots_of reset → ls.lines ≡ disabled_lines
    → record { memory_length = n; count = 0; registers = r; running = 0; words = w; iommu_type = type1v2; lines = ls } ≡ state_with everything (powered_on card n) s
unfolding state_with powered_on
fresh-state card n w r ls s d e f =
    rw d (ap₂ (λ (l : List Register) (k : List Line). record { memory_length = n; count = 0; registers = record { slots = l }; running = 0; words = words_of card; iommu_type = type1v2; lines = record { lines = k } }) e f)
