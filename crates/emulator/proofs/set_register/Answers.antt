use Rattle.std.proofs.Common.{◌≡◌, ℕ, List, ◌-◌, length, refl, sym, ap}
use Rattle.std.specs.Prelude.{Result as Returned, Ok, Err, MatchResult, set as with_element}
use Rattle.std.proofs.Math.Option.{some}
use Rattle.answer.specs.Answer.{verdict_of}
use Rattle.answer.specs.Codes.{BadBench}
use Rattle.answer.specs.Checks.{Pass, ◌unless◌}
use Rattle.answer.specs.declared.Refusal.{Refusal}
use Rattle.answer.proofs.Checks.{unless_pass}
use Rattle.iommu.specs.declared.Mapping.{Mapping}
use Rattle.memory.specs.Memory.{Memory, edited}
use Rattle.registers.specs.Access.{set_checks}
use Rattle.registers.specs.Rows.{row_of}
use Rattle.registers.specs.File.{register_of}
use Rattle.registers.specs.declared.Registers.{Registers}
use Rattle.emulator.specs.Machine.{usable, emulator_of, machine_of, sound}
use Rattle.emulator.specs.Effect.{filled}
use Rattle.emulator.specs.Calls.{set_register, given, own_checks, effect}
use Rattle.emulator.specs.Contract.{told_done, writes, state_with, records_with, with_registers_in, Meets}
use Rattle.emulator.specs.declared.State.{State}
use Rattle.emulator.proofs.Meets.{bench_up, refused-by, accepted}
use Rattle.emulator.proofs.Soundness.{sound-card}
use Rattle.emulator.proofs.set_register.Goals as goal

pub returns-in_err-check_sound : goal.returns-in_err-check_sound
unfolding given usable emulator_of
returns-in_err-check_sound c m = bench_up _ c.from_residual.result _ c.from_residual.ensures c.in_err-check_sound.ensures

pub try_set-requires : goal.try_set-requires
try_set-requires c = sound-card _ _ (unless_pass _ _ (sym c.in_ok-check_sound.ensures))

-- by what setting came to
sets : (kind selector : ℕ) (v : List ℕ) (s : State) (rs : List Mapping) (m : Memory) (now : Registers) (r : Returned Unit Refusal) → Pass ≡ (BadBench unless sound (length rs) (machine_of s rs))
    → verdict_of r ≡ set_checks s.words kind selector v
    → MatchResult r (λ _. now.slots ≡ with_element s.registers.slots (row_of kind selector - 1) (register_of (some v))) (λ _. now ≡ s.registers)
    → Meets (set_register kind selector) v s rs m (told_done r) v m (with_registers_in now s) rs
unfolding given usable own_checks effect emulator_of machine_of writes state_with records_with filled edited
sets kind selector v s rs m now (Ok u) up e is = accepted (set_register kind selector) v s rs m v m _ rs up e refl refl (ap (λ (l : _). with_registers_in (record { slots = l }) s) is) refl
sets kind selector v s rs m now (Err f) up e is = rw is (refused-by (set_register kind selector) v s rs m _ _ up e)

pub returns : goal.returns
returns c m = sets c.args.kind c.args.selector c.args.value.now c.args.state.now c.args.records.now m _ _ c.in_ok-check_sound.ensures c.try_set.ensures.checks c.try_set.ensures.registers
