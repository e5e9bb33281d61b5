-- What card read and card write have to answer and leave, by what is known where they return.
use Prim.Native.Nat.{ℕ}
use mathlib.Core.Path.{◌≡◌, refl, sym, ◌∙◌}
use mathlib.Core.Bool.{true}
use mathlib.Core.List.{List}
use lib.ListN.{length}
use Rattle.answer.specs.Answer.{done, refused}
use Rattle.answer.specs.Checks.{Pass, Fail}
use Rattle.address.specs.declared.DeviceAddress.{DeviceAddress}
use Rattle.wire.proofs.Laws.{sets-all}
use Rattle.iommu.specs.Table.{table_of, in_use}
use Rattle.iommu.specs.declared.Mapping.{Mapping}
use Rattle.memory.specs.Memory.{Memory, edited}
use Rattle.dma.specs.Transfers.{device_read_checks, device_write_checks, gather, scatter}
use Rattle.dma.proofs.Gather.{gather-length}
use Rattle.emulator.specs.Machine.{both, usable, emulator_of, machine_of}
use Rattle.emulator.specs.Effect.{value, filled}
use Rattle.emulator.specs.Calls.{device_read, device_write, given, own_checks, effect}
use Rattle.emulator.specs.Contract.{writes, state_with, records_with, Meets}
use Rattle.emulator.specs.declared.State.{State}
use Rattle.emulator.proofs.Meets.{refused-by, accepted, bench_passed}

module _ (d : DeviceAddress) (buf : List ℕ) (s : State) (rs : List Mapping) (m : Memory) (good : usable both (emulator_of s rs m) ≡ true) where
  pub read-refused : (code place : ℕ) → device_read_checks (in_use (table_of rs s.count)) m.shadow d (length buf) ≡ Fail code place
      → Meets (device_read d) buf s rs m (refused code place) buf m s rs
  unfolding given own_checks emulator_of machine_of
  read-refused code place e = refused-by (device_read d) buf s rs m code place (bench_passed good) (sym e)

  pub read_done : (out : List ℕ) → device_read_checks (in_use (table_of rs s.count)) m.shadow d (length buf) ≡ Pass → out ≡ gather (in_use (table_of rs s.count)) m d (length buf)
      → Meets (device_read d) buf s rs m (done (value 0)) out m s rs
  unfolding given own_checks effect emulator_of machine_of writes state_with records_with filled edited
  read_done out e f =
      accepted (device_read d) buf s rs m out m s rs (bench_passed good) (sym e) (f ∙ sym (sets-all buf _ (gather-length (in_use (table_of rs s.count)) m d (length buf)))) refl refl refl

  pub write-refused : (code place : ℕ) → device_write_checks (in_use (table_of rs s.count)) d (length buf) ≡ Fail code place
      → Meets (device_write d) buf s rs m (refused code place) buf m s rs
  unfolding given own_checks emulator_of machine_of
  write-refused code place e = refused-by (device_write d) buf s rs m code place (bench_passed good) (sym e)

  pub write_done : (m' : Memory) → device_write_checks (in_use (table_of rs s.count)) d (length buf) ≡ Pass → m' ≡ edited (scatter (in_use (table_of rs s.count)) d buf) m
      → Meets (device_write d) buf s rs m (done (value 0)) buf m' s rs
  unfolding given own_checks effect emulator_of machine_of writes state_with records_with filled
  write_done m' e f = accepted (device_write d) buf s rs m buf m' s rs (bench_passed good) (sym e) refl f refl refl
