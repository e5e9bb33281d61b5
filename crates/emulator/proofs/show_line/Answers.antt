use Rattle.std.proofs.Common.{◌≡◌, true, ℕ, List, [], length, refl, sym}
use Rattle.std.specs.Prelude.{Result as Returned, Ok, Err, IfOk}
use Rattle.answer.specs.Answer.{verdict_of}
use Rattle.answer.specs.declared.Refusal.{Refusal}
use Rattle.answer.proofs.Checks.{unless_pass}
use Rattle.iommu.specs.declared.Mapping.{Mapping}
use Rattle.interrupts.specs.Requests.{show_checks, line_at}
use Rattle.interrupts.specs.declared.Line.{Line}
use Rattle.memory.specs.Memory.{Memory}
use Rattle.emulator.specs.Machine.{sound, usable, emulator_of, machine_of}
use Rattle.emulator.specs.Calls.{show_line, given}
use Rattle.emulator.specs.Contract.{told_line, Meets}
use Rattle.emulator.specs.declared.State.{State}
use Rattle.emulator.proofs.Meets.{bench_up}
use Rattle.emulator.proofs.StateCalls.{show_refused, show_done}
use Rattle.emulator.proofs.show_line.Goals as goal

pub returns-in_err-check_sound : goal.returns-in_err-check_sound
unfolding given usable emulator_of
returns-in_err-check_sound c m = bench_up _ c.from_residual.result _ c.from_residual.ensures c.in_err-check_sound.ensures

-- by what the interrupts came to
shows : (index i : ℕ) (s : State) (rs : List Mapping) (m : Memory) (r : Returned Line Refusal) → sound (length rs) (machine_of s rs) ≡ true → verdict_of r ≡ show_checks index i → IfOk r (λ x. x ≡ line_at s.lines.lines index i)
    → Meets (show_line index i) [] s rs m (told_line r) [] m s rs
shows index i s rs m (Ok x) good e is = show_done s rs good m index i (sym e) s.lines refl x is
shows index i s rs m (Err f) good e is = show_refused s rs good m index i _ _ (sym e)

pub returns : goal.returns
returns c m = shows c.args.index c.args.line c.args.state.now c.args.records.now m _ (unless_pass _ _ (sym c.in_ok-check_sound.ensures)) c.try_shown.ensures.checks c.try_shown.ensures.gives
