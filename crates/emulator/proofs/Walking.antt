-- The walk of a queue: what its register tells before anything is read, and what the walk of one that is open asks, and has to answer and leave.
use Prim.Native.Nat.{ℕ, zero, suc, ◌+◌, ◌-◌, ◌≤◌, ◌<◌}
use native.Mathlib.Omega.{arith}
use mathlib.Core.Path.{◌≡◌, refl, sym, ◌∙◌, ap}
use mathlib.Core.Bool.{Bool, true, false, false≢true}
use mathlib.Core.List.{List}
use mathlib.Core.Option.{none, some}
use lib.ListN.{length, get_or, take}
use lib.Seq.{get_or-take}
use lib.Dec.{ltb, eqb}
use borrow.Author.Tests.{ltb-true, ltb-false, eqb-true}
use Rattle.std.specs.Prelude.{nat_eq, Result as Returned}
use Rattle.answer.specs.Tests.{◌and◌, ◌or◌, pick, flagged}
use Rattle.answer.specs.Codes.{BadBench, Index, QueueNotReady}
use Rattle.answer.specs.Checks.{Pass, Fail, ◌when◌, ◌unless◌}
use Rattle.answer.specs.Answer.{Answer, done, refused, settle, ◌onward◌, verdict, result_or}
use Rattle.answer.specs.declared.Refusal.{Refusal}
use Rattle.answer.proofs.Answers.{refuses, follows, fails, settles}
use Rattle.answer.proofs.Tests.{and_true, below, below_at}
use Rattle.answer.proofs.Checks.{never, unless_pass, when_pass}
use Rattle.wire.specs.Field.{field}
use Rattle.wire.proofs.Laws.{field_cong}
use Rattle.iommu.specs.Table.{table_of, in_use}
use Rattle.iommu.specs.declared.Mapping.{Mapping}
use Rattle.memory.specs.Memory.{Memory, edited}
use Rattle.memory.specs.Shadow.{mark_bytes}
use Rattle.virtqueue.specs.Ring.{last_queue, queue_of, readied, open_queue, card_read, Walked, walked, fitting, walk}
use Rattle.virtqueue.specs.Progress.{Sane, Walkable, counted, Walks}
use Rattle.virtqueue.specs.declared.Queue.{Queue}
use Rattle.virtqueue.specs.declared.Found.{Found}
use Rattle.virtqueue.proofs.Laws.{opens}
use Rattle.registers.specs.Rows.{QueueConfig, row_of, row_from, kind_of, selector_of, width_of, size_in, size_of}
use Rattle.registers.specs.Values.{power_of_two, value_checks}
use Rattle.registers.specs.File.{File, register_value, file_of, sound_file}
use Rattle.registers.specs.declared.Register.{Register}
use Rattle.registers.specs.declared.Registers.{Registers}
use Rattle.registers.proofs.Rows.{in_range_lem}
use Rattle.registers.proofs.PowersOfTwo.{power-most}
use Rattle.registers.proofs.Values.{queue_says, content-queue, value-content, value-size}
use Rattle.registers.proofs.File.{absent, current-kept, current-sound}
use Rattle.emulator.specs.Machine.{both, usable, sound, sound_registers, machine_of, emulator_of}
use Rattle.emulator.specs.Effect.{walked as walked_result, filled}
use Rattle.emulator.specs.Calls.{walk_queue, given, queue_value, walk_of, own_checks, effect}
use Rattle.emulator.specs.Contract.{told_walk, writes, state_with, records_with, Meets}
use Rattle.emulator.specs.declared.State.{State}
use Rattle.emulator.proofs.Meets.{refused-by, accepted, told-as}
use Rattle.emulator.proofs.Soundness.{mark_room, usable-lent, usable-sound, transfers_ready}

-- ---- the register of a queue

queue-row : (queue : ℕ) → queue ≤ last_queue → row_of QueueConfig queue ≡ 7 + queue
unfolding row_of row_from kind_of selector_of below pick ◌and◌
queue-row queue h = eqb-true _ _ (below_at (λ k. eqb (row_of QueueConfig k) (7 + k)) 4 refl queue (omega arith))

queue-size : (w queue : ℕ) → queue ≤ last_queue → size_of w (row_of QueueConfig queue) ≡ 32
unfolding size_of size_in width_of below ◌and◌ ◌or◌
queue-size w queue h = rw (queue-row queue h) (sym (in_range_lem (size_of w) 32 7 11 refl (7 + queue) (omega arith) (omega arith)))

field-taken : (l : List ℕ) (n o w : ℕ) → o + w ≤ n → field (take n l) o w ≡ field l o w
field-taken l n o w h = field_cong (take n l) l o w (λ i lt. get_or-take n l (o + i) 0 (omega arith))

queue-taken : (l : List ℕ) → queue_of (take 32 l) ≡ queue_of l
unfolding queue_of
queue-taken l = rw (field-taken l 32 0 2 (omega arith), field-taken l 32 8 8 (omega arith), field-taken l 32 16 8 (omega arith))

-- ---- the checks of a queue, by what stands in the register's slot

module _ (held : Registers) (queue w : ℕ) where
  abbrev slot : Register
  slot = get_or held.slots (6 + queue) absent

  abbrev opened : Answer Queue
  opened = open_queue queue (queue_value w (file_of w held) queue)

  -- the value is the whole of what the struct has
  queue-held : queue ≤ last_queue → queue_value w (file_of w held) queue ≡ pick (flagged slot.set) (some (take 32 slot.bytes)) none
  unfolding register_value
  queue-held h =
      let row : row_of QueueConfig queue ≡ 7 + queue = queue-row queue h in
      let at : 7 + queue - 1 ≡ 6 + queue = omega arith in
      current-kept w held (row_of QueueConfig queue) (omega arith) ∙ rw (queue-size w queue h, row, at) refl

  pub no_queue : (code place : ℕ) → Fail code place ≡ (Index when ltb last_queue queue) → refused code place ≡ opened
  unfolding open_queue
  no_queue code place h = refuses _ readied code place (fails _ _ code place h)

  module _ (listed : Pass ≡ (Index when ltb last_queue queue)) where
    opens-by : (a : Answer Queue) → a ≡ readied (pick (flagged slot.set) (some (take 32 slot.bytes)) none) → a ≡ opened
    unfolding open_queue
    opens-by a e =
        let few : queue ≤ last_queue = ltb-false _ _ (when_pass _ _ (sym listed)) in
        follows _ readied _ a (settles _ _ _ listed refl) (e ∙ ap readied (sym (queue-held few)))

    pub not-set : (code place : ℕ) → Fail code place ≡ (QueueNotReady unless flagged slot.set) → refused code place ≡ opened
    unfolding ◌unless◌ readied pick
    not-set code place h = opens-by _ (go (flagged slot.set) h)
      where
        go : (t : Bool) → Fail code place ≡ (QueueNotReady unless t) → refused code place ≡ readied (pick t (some (take 32 slot.bytes)) none)
        go true h = never code place h
        go false h = fails _ _ code place h

    module _ (set : Pass ≡ (QueueNotReady unless flagged slot.set)) where
      ready-by : (a : Answer Queue) → a ≡ settle (QueueNotReady when nat_eq (field slot.bytes 4 2) 0) (queue_of slot.bytes) → a ≡ opened
      unfolding readied pick
      ready-by a e =
          opens-by a (e ∙ rw (unless_pass _ _ (sym set), field-taken slot.bytes 32 4 2 (omega arith), queue-taken slot.bytes) refl)

      pub not-enabled : (code place : ℕ) → Fail code place ≡ (QueueNotReady when nat_eq (field slot.bytes 4 2) 0) → refused code place ≡ opened
      not-enabled code place h = ready-by _ (fails _ _ code place h)

      pub is-open : Pass ≡ (QueueNotReady when nat_eq (field slot.bytes 4 2) 0) → (q : Queue) → q ≡ queue_of slot.bytes → done q ≡ opened
      is-open h q e = ready-by _ (settles _ _ q h e)

-- sound registers tell of a queue that a walk can go by: size 0 is never enabled (rule 5.20)
pub open_sane : (w : ℕ) (file : File) (queue : ℕ) (q : Queue) → sound_file w file ≡ true → open_queue queue (queue_value w file queue) ≡ done q → Sane q
unfolding sound_file queue_of
open_sane w file queue q good h =
    let o = opens queue _ q h in
    let row : row_of QueueConfig queue ≡ 7 + queue = queue-row queue o.listed in
    let passed : value_checks w (row_of QueueConfig queue) false o.held ≡ Pass = current-sound w file _ o.held (and_true _ _ good).1 o.is in
    let content = sym (value-content w _ o.held (value-size w _ false o.held passed)) ∙ passed in
    let valid = queue_says o.held (unless_pass _ _ (sym (content-queue w _ o.held (omega (arith, o.listed)) (omega (arith, o.listed))) ∙ content)) in
    let power : power_of_two 8 (field o.held 0 2) ≡ true = sized (field o.held 0 2) (field o.held 4 2) o.enabled (power_of_two 8 _) refl valid.size in
    rw o.tells record { some = some_of _ power; few = few-of _ power; table = valid.descriptors; driver = valid.driver }
  where
    sized : (size enabled : ℕ) → (enabled ≡ 0 → ⊥) → (t : Bool) → power_of_two 8 size ≡ t → (t or (eqb size 0 and eqb enabled 0)) ≡ true → power_of_two 8 size ≡ true
    sized size enabled on true e k = e
    sized size enabled on false e k =
        let none : (eqb size 0 and eqb enabled 0) ≡ true = unfold ◌or◌ in k in
        absurd (on (eqb-true _ _ (and_true _ _ none).1))

    -- not 0, of which antt computes that it is no power, and not above the greatest
    some_of : (n : ℕ) → power_of_two 8 n ≡ true → 0 < n
    some_of zero e = absurd (false≢true (unfold power_of_two ◌or◌ in e))
    some_of (suc n) e = omega arith

    few-of : (n : ℕ) → power_of_two 8 n ≡ true → n ≤ 256
    few-of n e = go (ltb 256 n) refl
      where
        go : (t : Bool) → ltb 256 n ≡ t → n ≤ 256
        go true h = absurd (false≢true (sym (power-most 8 n (ltb-true 256 n h)) ∙ e))
        go false h = ltb-false 256 n h

-- ---- the walk of a queue that is open

-- a queue that is not open refuses the walk of it
pub walk-shut : (s : State) (rs : List Mapping) (m : Memory) (queue last code place room : ℕ) → refused code place ≡ open_queue queue (queue_value s.words (file_of s.words s.registers) queue)
    → Fail code place ≡ verdict (walk_of (emulator_of s rs m) queue last room)
unfolding walk_of walk emulator_of machine_of verdict
walk-shut s rs m queue last code place room h =
    ap verdict (refuses _ (λ q. walked (card_read (in_use (table_of rs s.count)) m) q last onward fitting room) code place h)

module _ (s : State) (rs : List Mapping) (m : Memory) (queue last : ℕ) (may-use : Pass ≡ (BadBench unless usable both (emulator_of s rs m))) where
  module _ (q : Queue) (opens : done q ≡ open_queue queue (queue_value s.words (file_of s.words s.registers) queue)) where
    good : usable both (emulator_of s rs m) ≡ true
    good = unless_pass _ _ (sym may-use)

    pub walk-asks : Walkable (in_use (table_of rs s.count)) (length m.bytes) (mark_bytes m.shadow) q
    unfolding sound sound_registers machine_of
    walk-asks =
        record {
          ready = transfers_ready s rs m good;
          marked = mark_room m (usable-lent s rs m good);
          sane = open_sane s.words (file_of s.words s.registers) queue q (and_true _ _ (usable-sound s rs m good)).1 (sym opens);
        }

    module _ {ns ns' : List ℕ} {r : Returned Found Refusal} (walks : Walks (card_read (in_use (table_of rs s.count)) m) q last r ns ns') where
      it : Answer Walked
      it = walked (card_read (in_use (table_of rs s.count)) m) q last onward fitting (length ns)

      is : walk_of (emulator_of s rs m) queue last (length ns) ≡ it
      unfolding walk_of walk it emulator_of machine_of
      is = sym (follows _ (λ q. walked (card_read (in_use (table_of rs s.count)) m) q last onward fitting (length ns)) q it opens refl)

      pub walk-meets : Meets (walk_queue queue last) ns s rs m (told_walk r) ns' m s rs
      unfolding it given own_checks verdict effect result_or ◌onward◌ filled edited writes state_with records_with
      walk-meets = by it refl
        where
          tells : (a : Answer Walked) → it ≡ a → told_walk r ≡ ((a onward λ w. done (counted w)) onward λ x. done (walked_result x.buffers x.index))
          tells a e = rw e at (told-as (λ x. walked_result x.buffers x.index) r _ walks.tells)

          by : (a : Answer Walked) → it ≡ a → Meets (walk_queue queue last) ns s rs m (told_walk r) ns' m s rs
          by (refused code place) e =
              rw (tells _ e, walks.kept code place (walks.tells ∙ ap (λ (a : Answer Walked). a onward λ w. done (counted w)) e))
              (refused-by (walk_queue queue last) ns s rs m code place may-use (sym (ap verdict (is ∙ e))))
          by (done x) e =
              rw (tells _ e) (rw (is ∙ e) at (accepted (walk_queue queue last) ns s rs m ns' m s rs may-use (sym (ap verdict (is ∙ e))) (rw (is ∙ e) (walks.stored x e)) refl refl refl))
