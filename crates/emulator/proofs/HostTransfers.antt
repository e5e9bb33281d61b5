-- What host store and host load have to answer and leave, by what is known where they return.
use Prim.Native.Nat.{ℕ, ◌+◌, ◌≤◌}
use mathlib.Core.Path.{◌≡◌, refl, sym, ◌∙◌, ap}
use mathlib.Core.Bool.{true}
use mathlib.Core.List.{List}
use lib.ListN.{length}
use lib.Seq.{sets, take-length}
use Rattle.answer.specs.Answer.{done, refused}
use Rattle.answer.specs.Checks.{Pass, Fail}
use Rattle.address.specs.declared.MemoryAddress.{MemoryAddress}
use Rattle.wire.specs.Field.{slice}
use Rattle.iommu.specs.declared.Mapping.{Mapping}
use Rattle.memory.specs.Memory.{Memory, edited, stores, bytes_from}
use Rattle.memory.specs.Transfers.{host_write_checks, host_read_checks}
use Rattle.memory.proofs.Transfers.{host_read-room}
use Rattle.emulator.specs.Machine.{both, lendable, usable, emulator_of}
use Rattle.emulator.specs.Effect.{value, filled}
use Rattle.emulator.specs.Calls.{host_write, host_read, given, own_checks, effect}
use Rattle.emulator.specs.Contract.{writes, state_with, records_with, Meets}
use Rattle.emulator.specs.declared.State.{State}
use Rattle.emulator.proofs.Meets.{refused-by, accepted, bench_passed}

-- a range that passed its checks lies in memory
module _ (a : MemoryAddress) (n : ℕ) (m : Memory) (lent : lendable m ≡ true) where
  pub read-room : host_read_checks (length m.bytes) m.shadow a n ≡ Pass → a.0 + n ≤ length m.bytes
  read-room e = host_read-room (length m.bytes) a n m.shadow e

module _ (a : MemoryAddress) (buf : List ℕ) (s : State) (rs : List Mapping) (m : Memory) (good : usable both (emulator_of s rs m) ≡ true) where
  -- ---- host store

  pub write-refused : (code place : ℕ) → host_write_checks (length m.bytes) a (length buf) ≡ Fail code place
      → Meets (host_write a) buf s rs m (refused code place) buf m s rs
  unfolding given own_checks emulator_of
  write-refused code place e = refused-by (host_write a) buf s rs m code place (bench_passed good) (sym e)

  pub write_done : (m' : Memory) → host_write_checks (length m.bytes) a (length buf) ≡ Pass → m' ≡ edited (stores a (slice buf 0 (length buf))) m
      → Meets (host_write a) buf s rs m (done (value 0)) buf m' s rs
  unfolding given own_checks effect emulator_of writes state_with records_with filled
  write_done m' e f = accepted (host_write a) buf s rs m buf m' s rs (bench_passed good) (sym e) refl (f ∙ ap (λ (l : List ℕ). edited (stores a l) m) (take-length buf)) refl refl

  -- ---- host load

  pub read-refused : (code place : ℕ) → host_read_checks (length m.bytes) m.shadow a (length buf) ≡ Fail code place
      → Meets (host_read a) buf s rs m (refused code place) buf m s rs
  unfolding given own_checks emulator_of
  read-refused code place e = refused-by (host_read a) buf s rs m code place (bench_passed good) (sym e)

  pub read_done : (out : List ℕ) → host_read_checks (length m.bytes) m.shadow a (length buf) ≡ Pass → out ≡ sets buf 0 (slice m.bytes a.0 (length buf))
      → Meets (host_read a) buf s rs m (done (value 0)) out m s rs
  unfolding given own_checks effect emulator_of writes state_with records_with filled edited bytes_from
  read_done out e f = accepted (host_read a) buf s rs m out m s rs (bench_passed good) (sym e) f refl refl refl
