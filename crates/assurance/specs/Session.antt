-- Sessions: lists of calls of the code, each of which meets its contract. They are runs, so what demand 3 says of runs
-- (rules 8.7 and 8.8) holds of the code.
use Rattle.std.specs.Prelude.{ℕ, suc, ◌≤◌, ◌≡◌, List, [], ◌∷◌, map, length}
use Rattle.answer.specs.Answer.{Answer, done}
use Rattle.iommu.specs.Table.{table_of, in_use}
use Rattle.iommu.specs.declared.Mapping.{Mapping}
use Rattle.memory.specs.Memory.{Memory}
use Rattle.registers.specs.declared.Card.{Card}
use Rattle.emulator.specs.Machine.{Emulator, emulator_of}
use Rattle.emulator.specs.Effect.{Result, value, Piece, filled}
use Rattle.emulator.specs.Calls.{power_on}
use Rattle.emulator.specs.Contract.{Meets}
use Rattle.emulator.specs.declared.State.{State}
use Rattle.assurance.specs.Runs.{Ask, Others, disturbed, lent_to, Event, turn, run, Same}
use Rattle.assurance.specs.Ledger.{Ledger, empty, fed, OwedIf}

-- what a caller sees of one call: the answer, the whole buffer, and the emulator that the state and the memory left make
pub record Shown : Type 0 where
  pub answer : Answer Result
  pub buffer : List ℕ
  pub left : Emulator

unfoldable pub shown : Event → Shown
shown e = record { answer = e.outcome.answer; buffer = e.buffer; left = e.left }

-- The records `rs` are lent to a call `q` behind those that the last call left, `left`: as many as the call says, and those in use are as they
-- were left. All others may be any: the slice may be another one, and others may have written there (rule 1.18).
pub record Lent (s : State) (left rs : List Mapping) (q : Ask) : Type 0 where
  pub long : length rs ≡ q.room
  pub used : in_use (table_of rs s.count) ≡ in_use (table_of left s.count)

-- From the state `s`, the records `left` and the memory `m`, the code's calls of a list show `xs`: each call meets its contract, once others
-- have written (`w`), and gets the state, the records in use and the memory that the last one left.
pub data Session : State → List Mapping → Memory → List Ask → (ℕ → Others) → List Shown → Type 0 where
  none : {s : State} {left : List Mapping} {m : Memory} {w : ℕ → Others} → Session s left m [] w []
  more : {s s' : State} {left rs rs' : List Mapping} {m m' : Memory} {q : Ask} {qs : List Ask} {w : ℕ → Others} {r : Answer Result} {buf' : List ℕ} {xs : List Shown}
      → Lent s left rs q
      → Meets q.call (lent_to (w 0) q) s rs (disturbed (w 0) q.room (emulator_of s left m)).memory r buf' m' s' rs'
      → Session s' rs' m' qs (λ n. w (suc n)) xs
      → Session s left m (q ∷ qs) w (record { answer = r; buffer = buf'; left = emulator_of s' rs' m' } ∷ xs)

-- Each call of a list is lent as many records as are in use by then, or more.
unfoldable pub Roomy : Emulator → List Ask → (ℕ → Others) → Type 0
Roomy e [] w = Unit
Roomy e (q ∷ qs) w =
    (e.machine.count ≡ length e.machine.mappings) × (length e.machine.mappings ≤ q.room) × Roomy (turn (w 0) q e).left qs (λ n. w (suc n))

-- What the code's calls of a list show is what the run of those calls shows; and where each call is lent enough records there is a session
-- that shows it.
pub record SessionsAreRuns : Type 0 where
  pub are : (s : State) (left : List Mapping) (m : Memory) (qs : List Ask) (w : ℕ → Others) (xs : List Shown)
      → Session s left m qs w xs → xs ≡ map shown (run (emulator_of s left m) qs w)
  pub some : (s : State) (left : List Mapping) (m : Memory) (qs : List Ask) (w : ℕ → Others) → Roomy (emulator_of s left m) qs w
      → Session s left m qs w (map shown (run (emulator_of s left m) qs w))

-- One call on two sides, with others writing `w` on the one and `v` on the other: the same answer; the same bytes written to the buffers,
-- at the same offsets, over what others left there; and emulators that are the same again, in every byte of memory that is written.
pub record Agree (q : Ask) (w v : Others) (x y : Shown) : Type 0 where
  pub answer : x.answer ≡ y.answer
  pub pieces : List Piece
  pub first : x.buffer ≡ filled pieces (lent_to w q)
  pub second : y.buffer ≡ filled pieces (lent_to v q)
  pub left : Same x.left y.left

-- two sessions of one list, call by call
unfoldable pub AllAgree : List Ask → (ℕ → Others) → (ℕ → Others) → List Shown → List Shown → Type 0
AllAgree [] w v xs ys = Unit
AllAgree (q ∷ qs) w v [] ys = ⊥
AllAgree (q ∷ qs) w v (x ∷ xs) [] = ⊥
AllAgree (q ∷ qs) w v (x ∷ xs) (y ∷ ys) = Agree q (w 0) (v 0) x y × AllAgree qs (λ n. w (suc n)) (λ n. v (suc n)) xs ys

-- a session against the ledger, call by call: an accepted read shows the bytes that the ledger holds, an accepted walk what its rule finds by
-- them, and each accepted call is entered
unfoldable pub AllOwed : Ledger → List Ask → List Shown → Type 0
AllOwed l [] xs = Unit
AllOwed l (q ∷ qs) [] = ⊥
AllOwed l (q ∷ qs) (x ∷ xs) = OwedIf x.answer l q.call (length q.buffer) x.buffer x.left.machine × AllOwed (fed x.answer q l) qs xs

-- Demand 3 of the code. For every list of calls, each with any arguments and any buffer, and whatever others write before each call:
pub record Sessions : Type 0 where
  -- its sessions are its runs;
  pub runs : SessionsAreRuns
  -- two sessions, on states, records and memories that make the same emulator but for unwritten bytes, agree call by call, whatever stands in
  -- the records that are not in use;
  pub agreement : (s t : State) (rs us : List Mapping) (m n : Memory) → Same (emulator_of s rs m) (emulator_of t us n) → (qs : List Ask) (w v : ℕ → Others) (xs ys : List Shown)
      → Session s rs m qs w xs → Session t us n qs v ys → AllAgree qs w v xs ys
  -- in a session that begins with an accepted fresh start, and with a ledger empty then, every accepted read and walk shows what the ledger holds.
  pub ledger : (card : Card) (s : State) (rs : List Mapping) (m : Memory) (buf : List ℕ) (room : ℕ) (qs : List Ask) (w : ℕ → Others) (x : Shown) (xs : List Shown)
      → Session s rs m (record { call = power_on card; buffer = buf; room = room } ∷ qs) w (x ∷ xs) → x.answer ≡ done (value 0) → AllOwed empty qs xs
