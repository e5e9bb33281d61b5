-- Records that move up or down: what `copy_within` leaves is the table changed.
use Prim.Native.Nat.{ℕ, ◌+◌, ◌-◌, ◌≤◌, ◌<◌}
use native.Mathlib.Omega.{arith}
use native.Mathlib.Numerals.{add-one}
use mathlib.Core.Path.{◌≡◌, sym, ◌∙◌, ap}
use mathlib.Core.List.{List, ◌∷◌, ◌++◌, append_assoc}
use lib.ListN.{length, get_or, take, drop, set, length-append, length-drop, take-append-drop}
use lib.Seq.{take-suc, take-take, length-take-le, append_snoc, set_at}
use Rattle.std.proofs.lemmas.List.{drop-take}
use Rattle.std.specs.List.{copy_within}
use Rattle.iommu.specs.declared.Mapping.{Mapping}
use Rattle.iommu.specs.Table.{blank, table_of, in_use, holding, inserted_at, without_run}
use Rattle.iommu.proofs.Passes.{holding_made}

-- what stands from a place on, up to the count
in_use-drop : (records : List Mapping) (i count : ℕ) → i ≤ count → drop i (take count records) ≡ take (count - i) (drop i records)
in_use-drop records i count h = let e : i + (count - i) ≡ count = omega arith in rw e at (drop-take i (count - i) records)

module _ (records : List Mapping) (count from to : ℕ) (order : from ≤ to) (bound : to ≤ count) (fits : count ≤ length records) where
  -- those behind a run moved down
  pub close-end : copy_within records to count from ≡ holding (without_run from to (in_use (table_of records count))) records
  unfolding without_run in_use
  close-end =
      let u : length (take count records) ≡ count = length-take-le count records fits in
      let n : length (take from (take count records) ++ drop to (take count records)) ≡ from + (count - to) =
      rw (length-append, length-take-le from (take count records) (omega arith), length-drop) (omega arith) in
      holding_made _ records _ _ n (rw (take-take from count records (omega arith), in_use-drop records to count bound, append_assoc))

-- an empty run moves nothing
pub close-none : (records : List Mapping) (count from to : ℕ) → from ≤ to → to ≤ from → to ≤ count → count ≤ length records
    → records ≡ holding (without_run from to (in_use (table_of records count))) records
unfolding holding without_run in_use
close-none records count from to order none bound fits =
    let e : from ≡ to = omega arith in
    let u : length (take count records) ≡ count = length-take-le count records fits in
    rw (e, take-append-drop to (take count records), u) (sym (take-append-drop count records))

module _ (records : List Mapping) (count at : ℕ) (m : Mapping) (low : at ≤ count) (fits : count < length records) where
  -- what stands behind the place, moved up
  abbrev behind : List Mapping
  behind = take (count - at) (drop at records) ++ drop (at + 1 + (count - at)) records

  moved : copy_within records at count (at + 1) ≡ take at records ++ get_or records at blank ∷ behind
  moved = rw append_assoc (ap (λ (l : List Mapping). l ++ behind) (rw add-one (take-suc records at blank (omega arith))) ∙ append_snoc (take at records) _ behind)

  filled : take at records ++ m ∷ behind ≡ holding (inserted_at at m (in_use (table_of records count))) records
  unfolding inserted_at in_use
  filled =
      let u : length (take count records) ≡ count = length-take-le count records (omega arith) in
      let n : length (take at (take count records) ++ m ∷ drop at (take count records)) ≡ at + 1 + (count - at) =
      rw (length-append, length-take-le at (take count records) (omega arith), length-drop) (omega arith) in
      holding_made _ records _ _ n (rw (take-take at count records low, in_use-drop records at count low, append_assoc))

  -- with room made by those from the place on, the new one takes it
  pub shift-done : set (copy_within records at count (at + 1)) at m ≡ holding (inserted_at at m (in_use (table_of records count))) records
  shift-done =
      ap (λ (l : List Mapping). set l at m) moved ∙ set_at (take at records) (get_or records at blank) behind m at (length-take-le at records (omega arith)) ∙ filled
