-- The account of mapped bytes (rule 8.16): from what calls are given and answer alone, how many bytes are mapped.
use Rattle.std.specs.Prelude.{ℕ, ◌+◌, ◌≡◌, true, List, [], ◌∷◌, map}
use Rattle.std.proofs.Math.Option.{Option, none, some}
use Rattle.answer.specs.Answer.{Answer, done, refused}
use Rattle.iommu.specs.Table.{total_size}
use Rattle.iommu.specs.declared.Mapping.{Mapping}
use Rattle.memory.specs.Memory.{Memory}
use Rattle.registers.specs.declared.Card.{Card}
use Rattle.emulator.specs.Machine.{Emulator}
use Rattle.emulator.specs.Effect.{Result, value, after}
use Rattle.emulator.specs.Requests.{Request, get_api_version, check_extension, set_iommu, get_iommu_info, map_dma, unmap_dma, get_info, get_region_info, get_irq_info, set_irqs, reset_device, Entry, identify, requested_mapping, requested_size}
use Rattle.emulator.specs.Calls.{Call, power_on, request, look_up, device_read, device_write, host_write, host_read, invalidate, set_register, read_register, show_line, walk_queue, load_parts, save_parts, stop, start, outcome}
use Rattle.emulator.specs.declared.State.{State}
use Rattle.assurance.specs.Runs.{Ask, Others, run}
use Rattle.assurance.specs.Ledger.{input_bytes}
use Rattle.assurance.specs.Session.{Shown, shown, Session}

-- since the last accepted fresh start: the sizes of accepted maps, and the sizes that accepted unmaps reported
pub record Account : Type 0 where
  pub mapped : ℕ
  pub unmapped : ℕ

abbrev pub account : ℕ → ℕ → Account
account mapped unmapped = record { mapped = mapped; unmapped = unmapped }

-- what an accepted request enters, by its input bytes `buf` and the buffer `out` that it left: a map the size that it asks for, an unmap the size
-- field that it leaves
unfoldable pub entered_request : Request → List ℕ → List ℕ → Account → Account
entered_request get_api_version buf out a = a
entered_request check_extension buf out a = a
entered_request set_iommu buf out a = a
entered_request get_iommu_info buf out a = a
entered_request map_dma buf out a = account (a.mapped + (requested_mapping buf).size) a.unmapped
entered_request unmap_dma buf out a = account a.mapped (a.unmapped + requested_size out)
entered_request get_info buf out a = a
entered_request get_region_info buf out a = a
entered_request get_irq_info buf out a = a
entered_request set_irqs buf out a = a
entered_request reset_device buf out a = a

unfoldable pub entered_listed : Option Entry → List ℕ → List ℕ → Account → Account
entered_listed none buf out a = a
entered_listed (some r) buf out a = entered_request r.request buf out a

-- what an accepted call enters: a fresh start begins the account anew
unfoldable pub entered_call : Call → List ℕ → List ℕ → Account → Account
entered_call (power_on card) buf out a = account 0 0
entered_call (request target number) buf out a = entered_listed (identify target number) buf out a
entered_call (look_up d) buf out a = a
entered_call (device_read d) buf out a = a
entered_call (device_write d) buf out a = a
entered_call (host_write b) buf out a = a
entered_call (host_read b) buf out a = a
entered_call (invalidate b n) buf out a = a
entered_call (set_register kind selector) buf out a = a
entered_call (read_register kind selector) buf out a = a
entered_call (show_line index i) buf out a = a
entered_call (walk_queue queue last) buf out a = a
entered_call load_parts buf out a = a
entered_call save_parts buf out a = a
entered_call stop buf out a = a
entered_call start buf out a = a

-- a refused call enters nothing
unfoldable pub entered : Answer Result → Ask → List ℕ → Account → Account
entered (done result) q out a = entered_call q.call (input_bytes q) out a
entered (refused code place) q out a = a

-- the sizes that are held are those mapped less those unmapped
unfoldable pub Balanced : Account → List Mapping → Type 0
Balanced a ms = a.mapped ≡ a.unmapped + total_size (λ m. true) ms

-- after each call of a list, by what it shows
unfoldable pub Balances : Account → List Ask → List Shown → Type 0
Balances a [] xs = Unit
Balances a (q ∷ qs) [] = ⊥
Balances a (q ∷ qs) (x ∷ xs) =
    let b = entered x.answer q x.buffer a in
    Balanced b x.left.machine.mappings × Balances b qs xs

-- For every list of calls behind an accepted fresh start, under either IOMMU type and with any records lent, whatever others write:
pub record MappedBytes : Type 0 where
  -- the account balances after each call of a run;
  pub runs : (card : Card) (e : Emulator) → (outcome (power_on card) [] e).answer ≡ done (value 0) → (qs : List Ask) (w : ℕ → Others)
      → Balances (account 0 0) qs (map shown (run (after (outcome (power_on card) [] e).effect e) qs w))
  -- and so of a session of the code.
  pub sessions : (card : Card) (s : State) (rs : List Mapping) (m : Memory) (buf : List ℕ) (room : ℕ) (qs : List Ask) (w : ℕ → Others) (x : Shown) (xs : List Shown)
      → Session s rs m (record { call = power_on card; buffer = buf; room = room } ∷ qs) w (x ∷ xs) → x.answer ≡ done (value 0) → Balances (account 0 0) qs xs
