-- Runs: a list of calls on an emulator, with others writing before each call (rule 8.7).
-- What one call leaves the next one gets, with the records in use, in a slice that may be another one each time; in between others write what
-- they like, but only where memory is unwritten, a buffer stale or a record not in use. Such a record has no part in a run: it has none in
-- what the kept state means. Sessions of the code (Session.antt) say what may stand there.
use Rattle.std.specs.Prelude.{ℕ, suc, ◌≡◌, Bool, true, List, [], ◌∷◌, length}
use Rattle.address.specs.Address.{memory_address}
use Rattle.address.specs.declared.MemoryAddress.{MemoryAddress}
use Rattle.memory.specs.Shadow.{initialized, SameMarks}
use Rattle.memory.specs.Memory.{Memory, byte_at}
use Rattle.emulator.specs.Machine.{Emulator}
use Rattle.emulator.specs.Effect.{Outcome, after, filled}
use Rattle.emulator.specs.Calls.{Call, input, outcome}
use Rattle.assurance.specs.Overwrite.{overwrite}

-- a call, the buffer lent to it, and how many records it is lent
pub record Ask : Type 0 where
  pub call : Call
  pub buffer : List ℕ
  pub room : ℕ

-- what others leave at each memory address that is not written, and at each stale offset of the buffer
pub record Others : Type 0 where
  pub memory : ℕ → ℕ
  pub buffer : ℕ → ℕ

-- the memory addresses that somebody has written
unfoldable pub written : Memory → ℕ → Bool
written m a = initialized m.shadow (memory_address a)

-- the emulator as it is lent to a call with `room` records, once others have written: marks and state are not theirs to change (rule 1.5)
unfoldable pub disturbed : Others → ℕ → Emulator → Emulator
disturbed w room e =
    record {
      memory = record { bytes = overwrite (written e.memory) w.memory e.memory.bytes; shadow = e.memory.shadow };
      room = room;
      machine = e.machine;
    }

-- the buffer as the call gets it
unfoldable pub lent_to : Others → Ask → List ℕ
lent_to w q = overwrite (input q.call q.buffer) w.buffer q.buffer

-- what came of one call: all that it answered and wrote, its whole buffer, and the emulator that it left
pub record Event : Type 0 where
  pub outcome : Outcome
  pub buffer : List ℕ
  pub left : Emulator

unfoldable pub event : Outcome → List ℕ → Emulator → Event
event o buf e = record { outcome = o; buffer = filled o.effect.pieces buf; left = after o.effect e }

-- one call, once others have written
unfoldable pub turn : Others → Ask → Emulator → Event
turn w q e = event (outcome q.call (lent_to w q) (disturbed w q.room e)) (lent_to w q) (disturbed w q.room e)

-- the calls of a list in order, each on the emulator as the last left it; `w n` is what others write before call n
unfoldable pub run : Emulator → List Ask → (ℕ → Others) → List Event
run e [] w = []
run e (q ∷ qs) w = let v = turn (w 0) q e in v ∷ run v.left qs (λ n. w (suc n))

-- Two emulators that agree on all but unwritten memory: the kept states mean the same, so that both are the same card and hold the same
-- mappings, marks are as many and the same for each byte, and memories have one length and agree wherever a byte is marked written. Neither
-- need be sound. How many records are lent is for each call to say, and the same for both.
pub record Same (e f : Emulator) : Type 0 where
  pub machine : e.machine ≡ f.machine
  pub shadow : SameMarks e.memory.shadow f.memory.shadow
  pub size : length e.memory.bytes ≡ length f.memory.bytes
  pub bytes : (a : MemoryAddress) → initialized e.memory.shadow a ≡ true → byte_at e.memory a ≡ byte_at f.memory a

-- Two runs, call by call: the same answer, the same bytes written to buffer and memory, the same state left, and emulators that are the
-- same again. Stale bytes that a call does not write may differ, before it and after it.
unfoldable pub Alike : List Event → List Event → Type 0
Alike [] [] = Unit
Alike [] (f ∷ fs) = ⊥
Alike (e ∷ es) [] = ⊥
Alike (e ∷ es) (f ∷ fs) = (e.outcome ≡ f.outcome) × Same e.left f.left × Alike es fs
