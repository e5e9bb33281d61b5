-- The account of mapped bytes balances.
use Prim.Native.Nat.{ℕ, suc, ◌+◌, ◌≤◌, ◌<◌, ◌^◌}
use native.Mathlib.Omega.{arith}
use mathlib.Core.Path.{◌≡◌, refl, sym, ◌∙◌, ap}
use mathlib.Core.Bool.{Bool, true, false}
use mathlib.Core.List.{List, [], ◌∷◌, map}
use mathlib.Core.Option.{Option, none, some}
use lib.Dec.{leb, ltb}
use lib.ListN.{length}
use borrow.Author.Tests.{leb-true, ltb-false}
use Rattle.answer.specs.Tests.{◌and◌}
use Rattle.answer.specs.Answer.{Answer, done, settle}
use Rattle.answer.specs.Checks.{Verdict, Pass, Fail}
use Rattle.answer.proofs.Tests.{and_true}
use Rattle.answer.proofs.Checks.{never, then_pass, when_pass, unless_pass}
use Rattle.wire.proofs.Laws.{field-sets}
use Rattle.iommu.specs.Table.{total_size, removed, without}
use Rattle.iommu.specs.declared.Mapping.{Mapping}
use Rattle.iommu.proofs.Changes.{insert_total, without_total}
use Rattle.iommu.proofs.Soundness.{size-limit}
use Rattle.memory.specs.Memory.{Memory}
use Rattle.registers.specs.declared.Card.{Card}
use Rattle.emulator.specs.Machine.{Emulator, emulator_of, both, usable, sound, sound_mappings, powered_on, with_mappings, with_registers, with_running, with_iommu_type, with_lines}
use Rattle.emulator.specs.Effect.{value, Outcome, effect_of, outcome_of, after, filled}
use Rattle.emulator.specs.Requests.{Request, get_api_version, check_extension, set_iommu, get_iommu_info, map_dma, unmap_dma, get_info, get_region_info, get_irq_info, set_irqs, reset_device, Entry, requests, identify, requested_start, requested_size, listed_checks, size_checks, request_checks, listed_effect, request_effect}
use Rattle.emulator.specs.Calls.{Call, power_on, request, look_up, device_read, device_write, host_write, host_read, invalidate, set_register, read_register, show_line, walk_queue, load_parts, save_parts, stop, start, given, input, own_checks, checks, effect, probes_of, outcome}
use Rattle.emulator.specs.declared.State.{State}
use Rattle.emulator.proofs.Returned.{meets-after}
use Rattle.assurance.specs.Overwrite.{mask}
use Rattle.assurance.specs.Runs.{Ask, Others, disturbed, lent_to, event, turn, run}
use Rattle.assurance.specs.Ledger.{input_bytes}
use Rattle.assurance.specs.Session.{Shown, shown, Session, more}
use Rattle.assurance.specs.Account.{Account, account, entered_request, entered_listed, entered_call, entered, Balanced, Balances, MappedBytes}
use Rattle.assurance.proofs.Entries.{every, entry-by}
use Rattle.assurance.proofs.Overwrite.{length-overwrite, length-mask}
use Rattle.assurance.proofs.Following.{lent-outcome}
use Rattle.assurance.proofs.Session.{is-run}

-- what a usable emulator maps is below 2^64, so that the size field holds it
usable_total : (test : Mapping → Bool) (e : Emulator) → usable both e ≡ true → total_size test e.machine.mappings < 256 ^ 8
unfolding usable sound sound_mappings
usable_total test e h = omega (arith, size-limit test _ _ (and_true _ _ (and_true _ _ (and_true _ _ (and_true _ _ h).1).0).1).1)

-- the size that a request's size field needs
abbrev size_field : Request → ℕ
size_field get_api_version = 0
size_field check_extension = 0
size_field set_iommu = 0
size_field get_iommu_info = 0
size_field map_dma = 0
size_field unmap_dma = 24
size_field get_info = 0
size_field get_region_info = 0
size_field get_irq_info = 0
size_field set_irqs = 0
size_field reset_device = 0

-- ---- each accepted call

module _ (a : Account) (e : Emulator) (buf lent : List ℕ) (same : length lent ≡ length buf) (h : Balanced a e.machine.mappings) where
  listed_balanced : (q : Request) → usable both e ≡ true → size_field q ≤ length lent
      → Balanced (entered_request q buf (filled (listed_effect q buf e).pieces lent) a) (listed_effect q buf e).machine.mappings
  unfolding Balanced entered_request listed_effect filled with_mappings with_registers with_iommu_type with_lines requested_size
  listed_balanced get_api_version good long = h
  listed_balanced check_extension good long = h
  listed_balanced set_iommu good long = h
  listed_balanced get_iommu_info good long = h
  listed_balanced map_dma good long = rw (insert_total _ e.machine.mappings) (omega (arith, h))
  listed_balanced unmap_dma good long =
      let test : Mapping → Bool = removed e.machine.iommu_type e.machine.mappings (requested_start buf) (requested_size buf) in
      rw (field-sets lent 16 8 (total_size test e.machine.mappings) long (usable_total test e good))
      (omega (arith, h, without_total test e.machine.mappings))
  listed_balanced get_info good long = h
  listed_balanced get_region_info good long = h
  listed_balanced get_irq_info good long = h
  listed_balanced set_irqs good long = h
  listed_balanced reset_device good long = h

  -- an accepted request; its size has room for its size field
  RequestBalanced : Option Entry → Type 0
  RequestBalanced o = request_checks o buf e ≡ Pass → Balanced (entered_listed o buf (filled (request_effect o buf e).pieces lent) a) (request_effect o buf e).machine.mappings

  request_balanced : usable both e ≡ true → (target number : ℕ) → RequestBalanced (identify target number)
  unfolding identify every ◌and◌ RequestBalanced request_checks size_checks entered_listed request_effect
  request_balanced good =
      entry-by (λ r. leb (size_field r.request) r.size) RequestBalanced (λ ok. never _ _ ok)
      (λ r fits ok.
      let long : ltb (length buf) r.size ≡ false = when_pass _ _ (then_pass _ _ (then_pass _ _ ok).0).0 in
      listed_balanced r.request good (omega (arith, leb-true (size_field r.request) r.size fits, ltb-false (length buf) r.size long, same)))
      requests refl

  call_balanced : (c : Call) → usable (given c) e ≡ true → own_checks c buf e ≡ Pass
      → Balanced (entered_call c buf (filled (effect c buf e).pieces lent) a) (effect c buf e).machine.mappings
  unfolding RequestBalanced given entered_call effect own_checks powered_on with_registers with_running Balanced total_size
  call_balanced (power_on card) good ok = refl
  call_balanced (request target number) good ok = request_balanced good target number ok
  call_balanced (look_up d) good ok = h
  call_balanced (device_read d) good ok = h
  call_balanced (device_write d) good ok = h
  call_balanced (host_write b) good ok = h
  call_balanced (host_read b) good ok = h
  call_balanced (invalidate b n) good ok = h
  call_balanced (set_register kind selector) good ok = h
  call_balanced (read_register kind selector) good ok = h
  call_balanced (show_line index i) good ok = h
  call_balanced (walk_queue queue last) good ok = h
  call_balanced load_parts good ok = h
  call_balanced save_parts good ok = h
  call_balanced stop good ok = h
  call_balanced start good ok = h

-- ---- runs

-- one call, by its verdict
verdict_balanced : (q : Ask) (a : Account) (e : Emulator) (lent : List ℕ) → length lent ≡ length (input_bytes q) → Balanced a e.machine.mappings
    → (v : Verdict) → checks q.call (input_bytes q) e ≡ v → (o : Outcome) → o ≡ outcome_of v (effect q.call (input_bytes q) e) e.machine (probes_of q.call e.machine.mappings)
    → Balanced (entered o.answer q (filled o.effect.pieces lent) a) o.effect.machine.mappings
unfolding checks outcome_of effect_of settle entered
verdict_balanced q a e lent p h Pass ok o is =
    let t = then_pass _ _ ok in
    rw is (call_balanced a e (input_bytes q) lent p h q.call (unless_pass _ _ t.0) t.1)
verdict_balanced q a e lent p h (Fail code place) ok o is = rw is h

turn_balanced : (q : Ask) (a : Account) (w : Others) (e : Emulator) → Balanced a e.machine.mappings
    → Balanced (entered (turn w q e).outcome.answer q (turn w q e).buffer a) (turn w q e).left.machine.mappings
unfolding turn event outcome lent_to after disturbed input_bytes mask
turn_balanced q a w e h =
    verdict_balanced q a (disturbed w q.room e) (lent_to w q) (length-overwrite _ _ q.buffer ∙ sym (length-mask _ q.buffer)) h _ refl _ (lent-outcome w q (disturbed w q.room e))

balances : (a : Account) (e : Emulator) → Balanced a e.machine.mappings → (qs : List Ask) (w : ℕ → Others) → Balances a qs (map shown (run e qs w))
unfolding run shown Balances
balances a e h [] w = tt
balances a e h (q ∷ qs) w =
    let r = turn_balanced q a (w 0) e h in
    (r, balances (entered (turn (w 0) q e).outcome.answer q (turn (w 0) q e).buffer a) (turn (w 0) q e).left r qs (λ n. w (suc n)))

-- a fresh start that is accepted holds nothing; a refused one does not answer with a result
fresh_balanced : (card : Card) (e : Emulator) (v : Verdict) → settle v (value 0) ≡ done (value 0)
    → Balanced (account 0 0) (effect_of v (effect (power_on card) [] e) e.machine).machine.mappings
unfolding settle effect_of effect powered_on Balanced total_size
fresh_balanced card e Pass h = refl
fresh_balanced card e (Fail code place) h = absurd (let z : ◌≡◌ {A = ℕ} 0 1 = cc in omega arith)

run-balances : (card : Card) (e : Emulator) → (outcome (power_on card) [] e).answer ≡ done (value 0) → (qs : List Ask) (w : ℕ → Others)
    → Balances (account 0 0) qs (map shown (run (after (outcome (power_on card) [] e).effect e) qs w))
unfolding outcome outcome_of after effect
run-balances card e ok qs w = balances (account 0 0) _ (fresh_balanced card e (checks (power_on card) [] e) ok) qs w

-- a fresh start looks at no buffer
session_balances : (card : Card) (s : State) (rs : List Mapping) (m : Memory) (buf : List ℕ) (room : ℕ) (qs : List Ask) (w : ℕ → Others) (x : Shown) (xs : List Shown)
    → Session s rs m (record { call = power_on card; buffer = buf; room = room } ∷ qs) w (x ∷ xs) → x.answer ≡ done (value 0) → Balances (account 0 0) qs xs
unfolding outcome checks own_checks effect given
session_balances card s rs m buf room qs w x xs (more {rs = us} l h rest) ok =
    let e : Emulator = emulator_of s us (disturbed (w 0) room (emulator_of s rs m)).memory in
    rw (is-run _ _ _ qs (λ n. w (suc n)) xs rest, meets-after h) (run-balances card e (sym h.answer ∙ ok) qs (λ n. w (suc n)))

pub mapped-bytes : MappedBytes
mapped-bytes = record { runs = run-balances; sessions = session_balances }
