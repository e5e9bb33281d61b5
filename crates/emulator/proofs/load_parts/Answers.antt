use Rattle.std.proofs.Common.{◌≡◌, refl, sym, ◌∙◌, ap}
use Rattle.answer.specs.Answer.{Answer, done, refused, verdict, result_or}
use Rattle.answer.proofs.Checks.{unless_pass, never}
use Rattle.memory.specs.Memory.{edited}
use Rattle.registers.specs.File.{File, slots_of}
use Rattle.registers.specs.declared.Registers.{Registers}
use Rattle.parts.specs.Load.{loaded_of}
use Rattle.parts.proofs.Soundness.{loaded-verdict}
use Rattle.emulator.specs.Machine.{usable, emulator_of, machine_of, with_registers}
use Rattle.emulator.specs.Effect.{filled}
use Rattle.emulator.specs.Calls.{load_parts, given, own_checks, effect}
use Rattle.emulator.specs.Contract.{writes, state_with, records_with, with_registers_in}
use Rattle.emulator.proofs.Meets.{bench_up, refusal_up, accepted}
use Rattle.emulator.proofs.Soundness.{sound-card}
use Rattle.emulator.proofs.load_parts.Goals as goal

-- an accepted stream's registers are those of its file
kept : (a : Answer File) (file : File) (r : Registers) → done r ≡ loaded_of a → r ≡ record { slots = slots_of (result_or file a) }
unfolding loaded_of result_or verdict
kept (done f) file r h = ap (result_or r) h
kept (refused code place) file r h = never code place (sym (ap verdict h))

pub returns-in_err-check_sound : goal.returns-in_err-check_sound
unfolding given usable emulator_of
returns-in_err-check_sound c m = bench_up _ c.from_residual.result _ c.from_residual.ensures c.in_err-check_sound.ensures

pub load-requires : goal.load-requires
load-requires c = sound-card _ _ (unless_pass _ _ (sym c.in_ok-check_sound.ensures))

pub returns-in_err-state : goal.returns-in_err-state
unfolding given usable own_checks emulator_of machine_of verdict
returns-in_err-state c m =
    refusal_up _ c.from_residual-in_err-state.result _ c.from_residual-in_err-state.ensures c.in_ok-check_sound.ensures
    (ap verdict c.in_err-state.ensures ∙ loaded-verdict _)

pub returns : goal.returns
unfolding given usable own_checks effect emulator_of machine_of writes state_with records_with filled edited with_registers verdict
returns c m =
    accepted load_parts _ _ _ m _ _ _ _ c.in_ok-check_sound.ensures (ap verdict c.in_ok-state.ensures ∙ loaded-verdict _) refl refl
    (ap (λ (r : Registers). with_registers_in r c.args.state.now) (kept _ _ _ c.in_ok-state.ensures)) refl
