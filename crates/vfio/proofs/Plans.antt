-- What a map and an unmap ask of the table, and have to answer and leave, by their plans.
use Rattle.std.proofs.Common.{◌≡◌, refl, sym, ◌∙◌, ap, ℕ, ◌+◌, ◌-◌, ◌^◌, ◌≤◌, ◌<◌, true, List, [], ◌∷◌, length, Ok, arith, length-append, length-drop}
use lib.Seq.{length-take-le}
use Rattle.answer.specs.Answer.{done}
use Rattle.wire.specs.Field.{field}
use Rattle.iommu.specs.Table.{removed, insert, inserted_at, without, without_run, sizes_between, table_of, in_use, holding, Sound}
use Rattle.iommu.specs.Requests.{map_checks, unmap_checks, Maps, Unmaps}
use Rattle.iommu.specs.declared.Mapping.{Mapping}
use Rattle.iommu.specs.declared.Run.{Run}
use Rattle.iommu.proofs.Passes.{in_use-length}
use Rattle.iommu.proofs.Changes.{length-insert, map-passed}
use Rattle.memory.specs.Memory.{Memory}
use Rattle.emulator.specs.Machine.{machine_of, emulator_of, sound, with_mappings}
use Rattle.emulator.specs.Effect.{value, output, filled}
use Rattle.emulator.specs.Requests.{map_dma, unmap_dma, requested_mapping, requested_start, requested_size, listed_checks, listed_effect}
use Rattle.emulator.specs.Contract.{with_count_in, request_writes, state_with, records_with}
use Rattle.emulator.specs.declared.State.{State}
use Rattle.emulator.proofs.Soundness.{sound-records, sound_fits}
use Rattle.vfio.specs.Handlers.{Handles, Replies}
use Rattle.vfio.proofs.Handlers.{handled-done}

module _ (s : State) (rs : List Mapping) (good : sound (length rs) (machine_of s rs) ≡ true) (ms : List Mapping) (held : ms ≡ in_use (table_of rs s.count)) where
  pub held_sound : Sound ms
  held_sound = rw held (sound-records s rs good)

  long : length ms ≡ s.count
  long = ap length held ∙ in_use-length (table_of rs s.count) (sound_fits s rs good)

  -- ---- a map

  module _ (buf : List ℕ) (mapping : Mapping) (asked : mapping ≡ requested_mapping buf) where
    pub map_is : (m : Memory) → length m.bytes ≡ s.memory_length → map_checks s.memory_length (length rs) ms mapping ≡ listed_checks map_dma buf (emulator_of s rs m)
    unfolding listed_checks emulator_of machine_of
    map_is m noted = rw (noted, held, asked)

    module _ (at : ℕ) (maps : Maps s.memory_length (length rs) ms mapping (Ok at)) where
      pub insert_asks : (at ≤ s.count) × (s.count < length rs)
      insert_asks = (omega (arith, maps.place.0, long), omega (arith, long, (map-passed _ _ _ _ (sym maps.checks)).fits))

      pub count_fits : s.count + 1 < 2 ^ 64
      count_fits = omega (arith, long, held_sound.few)

      pub map_done : (rs' : List Mapping) → rs' ≡ holding (inserted_at at mapping (in_use (table_of rs s.count))) rs → Replies map_dma buf s rs (done (value 0)) buf (with_count_in (s.count + 1) s) rs'
      unfolding listed_effect emulator_of machine_of with_mappings request_writes state_with records_with filled
      map_done rs' left m noted =
          let placed : insert mapping (in_use (table_of rs s.count)) ≡ inserted_at at mapping (in_use (table_of rs s.count)) = rw held at maps.place.1 in
          let count : s.count + 1 ≡ length (insert mapping (in_use (table_of rs s.count))) = omega (arith, ap length held, long, length-insert mapping (in_use (table_of rs s.count))) in
          handled-done map_dma buf s rs m buf _ rs' (maps.checks ∙ map_is m noted) refl
          (rw (← asked) (ap (λ (n : ℕ). with_count_in n s) count)) (rw (← asked) (left ∙ ap (λ (l : List Mapping). holding l rs) (sym placed)))

  -- ---- an unmap

  module _ (buf : List ℕ) (flags start size : ℕ) (flags_is : flags ≡ field buf 4 4) (start_is : start ≡ field buf 8 8) (size_is : size ≡ field buf 16 8) where
    pub unmap_is : (m : Memory) → unmap_checks s.iommu_type ms flags (record { 0 = start }) size ≡ listed_checks unmap_dma buf (emulator_of s rs m)
    unfolding listed_checks emulator_of machine_of requested_start requested_size
    unmap_is m = rw (held, flags_is, start_is, size_is)

    module _ (run : Run) (unmaps : Unmaps s.iommu_type ms flags (record { 0 = start }) size (Ok run)) where
      pub run_asks : (run.from ≤ run.to) × (run.to ≤ s.count)
      run_asks = (unmaps.range.order, omega (arith, unmaps.range.end, long))

      pub unmap_done : (rs' : List Mapping) → rs' ≡ holding (without_run run.from run.to (in_use (table_of rs s.count))) rs
          → (sum : ℕ) → sum ≡ sizes_between run.from run.to ms → (buf' : List ℕ) → buf' ≡ filled (output 16 8 sum ∷ []) buf
          → (m : Memory) → Handles unmap_dma buf s rs m (done (value 0)) buf' (with_count_in (s.count - (run.to - run.from)) s) rs'
      unfolding listed_effect emulator_of machine_of with_mappings request_writes state_with records_with requested_start requested_size without_run
      unmap_done rs' left sum summed buf' put m =
          let r = unmaps.range in
          let goes = removed s.iommu_type ms (record { 0 = start }) size in
          let rest : without goes ms ≡ without_run run.from run.to ms = r.rest in
          let count : s.count - (run.to - run.from) ≡ length (without goes ms) =
          sym (ap length rest ∙ rw (length-append, length-drop, length-take-le run.from ms (omega (arith, r.order, r.end))) (omega (arith, r.order, r.end, long))) in
          let kept : rs' ≡ holding (without goes ms) rs = left ∙ ap (λ (l : List Mapping). holding l rs) (ap (λ (l : List Mapping). without_run run.from run.to l) (sym held) ∙ sym rest) in
          handled-done unmap_dma buf s rs m buf' _ rs' (unmaps.checks ∙ unmap_is m)
          (put ∙ ap (λ (x : ℕ). filled (output 16 8 x ∷ []) buf) (rw (← held, ← start_is, ← size_is) (summed ∙ sym r.size)))
          (rw (← held, ← start_is, ← size_is) (ap (λ (n : ℕ). with_count_in n s) count)) (rw (← held, ← start_is, ← size_is) kept)
